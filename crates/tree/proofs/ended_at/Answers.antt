use Rattle.std.proofs.Common.{sym, ◌∙◌, arith}
use Rattle.tree.proofs.Choices.{called_after}
use Rattle.tree.proofs.ended_at.Goals as goal

pub returns-else-back-eq0 : goal.returns-else-back-eq0
returns-else-back-eq0 c = c.listed_at-else-back-eq0.ensures ∙ sym (called_after c.args.line.checks c.args.line.bets c.args.back (omega arith) (omega arith))
