use Rattle.std.proofs.Common.{sym, ◌∙◌, arith}
use Rattle.tree.proofs.Choices.{the_bet, a_raise, past_bets, checked_in, checked_out}
use Rattle.tree.proofs.listed_at.Goals as goal

pub returns-then-back-bets-2 : goal.returns-then-back-bets-2
returns-then-back-bets-2 c = sym (the_bet c.args.line.checks c.args.line.bets c.args.back (omega arith))

pub returns-else-back-bets-2 : goal.returns-else-back-bets-2
returns-else-back-bets-2 c = sym (a_raise c.args.line.checks c.args.line.bets c.args.back (omega arith))

pub returns-then-back-bets-3 : goal.returns-then-back-bets-3
returns-then-back-bets-3 c =
    sym (past_bets c.args.line.checks c.args.line.bets c.args.back (omega arith) ∙ checked_in c.args.line.checks _ (omega arith))

pub returns-else-back-bets-3 : goal.returns-else-back-bets-3
returns-else-back-bets-3 c =
    sym (past_bets c.args.line.checks c.args.line.bets c.args.back (omega arith) ∙ checked_out c.args.line.checks _ (omega arith))
