use Rattle.std.proofs.Common.{length, string_bytes}
use Rattle.answers.specs.Steps.{Lines}
use Rattle.answers.proofs.write_hands.Given as goal

abbrev pub invariant-loop-hand : goal.invariant-loop-hand
invariant-loop-hand l = Lines l.game.nodes.now l.game.rows.now l.game.m (string_bytes l.initial.out) l.input (string_bytes l.out) l.rest

abbrev pub decreases-loop-hand : goal.decreases-loop-hand
decreases-loop-hand l = length l.rest
