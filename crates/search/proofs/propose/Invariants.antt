use Rattle.std.proofs.Common.{take, vec_items}
use Rattle.search.specs.Taken.{Taken}
use Rattle.search.proofs.propose.Given as goal

abbrev pub invariant-loop-i : goal.invariant-loop-i
invariant-loop-i g l = Taken l.game.raises l.m (take l.i l.game.own.now) (vec_items l.rows)
