use Rattle.std.proofs.Common.{vec_items, ap, ◌∙◌}
use Rattle.std.proofs.lemmas.Slice.Zip.{either_empty_from_Zip}
use Rattle.plans.specs.Bytes.{plan_as}
use Rattle.search.proofs.Round.{round}
use Rattle.search.proofs.Steps.{written_all}
use Rattle.search.proofs.encode.Goals as goal

pub returns : goal.returns
returns c =
    let h = either_empty_from_Zip c.loop-sight.sight-iterator c.next.new.self c.next.result c.in-None.is c.next.ensures.steps in
    let e = written_all c.args.raises _ _ (vec_items c.loop-sight.bytes) _ h c.loop-sight.invariant in
    record { bytes = e; taken = λ m t. ap (plan_as c.args.raises c.args.sights.now m) e ∙ round c.args.raises m c.args.sights.now c.args.rows.now t }
