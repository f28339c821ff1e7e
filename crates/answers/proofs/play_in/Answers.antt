use Rattle.std.proofs.Common.{arith}
use Rattle.answers.proofs.Tables.{plays}
use Rattle.answers.proofs.play_in.Goals as goal

pub returns-in-Ok-clause-promised : goal.returns-in-Ok-clause-promised
returns-in-Ok-clause-promised c = plays c.args.room c.args.input.now (omega (arith, c.ranges.room))

pub returns-in_err-e-in-Err-clause-promised : goal.returns-in_err-e-in-Err-clause-promised
returns-in_err-e-in-Err-clause-promised c = plays c.args.room c.args.input.now (omega (arith, c.ranges.room))

pub returns-in_ok-e-in-Err-clause-promised : goal.returns-in_ok-e-in-Err-clause-promised
returns-in_ok-e-in-Err-clause-promised c = plays c.args.room c.args.input.now (omega (arith, c.ranges.room))
