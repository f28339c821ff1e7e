use Rattle.std.proofs.Common.{◌∙◌}
use Rattle.tree.proofs.Writers.{over_closed}
use Rattle.tree.proofs.writer.Writer.over.Goals as goal

pub returns : goal.returns
returns c =
    let skip = c.skip-at.ensures in
    record {
      same = c.close.ensures.same ∙ skip.same;
      wrote = over_closed _ _ _ _ _ _ _ _ _ c.requires skip.value skip.nodes skip.at c.close.ensures.nodes c.close.ensures.at;
    }
