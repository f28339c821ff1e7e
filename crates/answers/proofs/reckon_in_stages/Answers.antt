use Rattle.std.proofs.Common.{arith}
use Rattle.answers.proofs.Promises.{reckons}
use Rattle.answers.proofs.reckon_in_stages.Goals as goal

pub returns-in_err-answer-clause-promised : goal.returns-in_err-answer-clause-promised
returns-in_err-answer-clause-promised g c = reckons _ _ (omega (arith, c.ranges.room))

pub returns-clause-promised : goal.returns-clause-promised
returns-clause-promised g c = reckons _ _ (omega (arith, c.ranges.room))
