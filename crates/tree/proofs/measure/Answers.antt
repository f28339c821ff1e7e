use Rattle.std.proofs.Common.{sym, subst}
use Rattle.tree.specs.declared.Sizes.{Sizes}
use Rattle.tree.specs.Built.{Measured}
use Rattle.tree.proofs.Measures.{sizes_are, measured}
use Rattle.tree.proofs.measure.Goals as goal

pub returns : goal.returns
returns c =
    let s = c.args.sheet in
    let e = sizes_are s c.requires _ _ _ _ _ c.count.ensures c.sight_count-sights.ensures c.word_count.ensures c.word_count-2.ensures c.purse.ensures.value in
    let P : Sizes → Type 0 = Measured s in
    record { value = e; tree = subst P (sym e) (measured s c.requires) }
