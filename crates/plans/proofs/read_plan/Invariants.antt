use Rattle.std.proofs.Common.{vec_items}
use Rattle.plans.proofs.Reading.{Left}
use Rattle.plans.proofs.read_plan.Given as goal

abbrev pub invariant-loop-i : goal.invariant-loop-i
invariant-loop-i l = Left l.raises l.sights l.m l.bytes l.i l.rest (vec_items l.rows)
