use Rattle.std.proofs.Common.{replicate, ◌∙◌}
use Rattle.tree.proofs.Indexes.{noted_begins, tabled_numbered}
use Rattle.tree.proofs.index.Goals as goal

pub returns : goal.returns
returns g c =
    let blank = replicate g.row.N 0 in
    record {
      nodes = c.number.ensures ∙ tabled_numbered c.args.nodes.now _ _ blank _ blank _ c.requires.ours c.requires.theirs c.collect.ensures.table c.collect-2.ensures.table;
      house = noted_begins _ _ _ _ c.collect.ensures.sights;
      guest = noted_begins _ _ _ _ c.collect-2.ensures.sights;
    }
