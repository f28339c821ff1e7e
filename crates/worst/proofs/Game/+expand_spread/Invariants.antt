use Rattle.std.proofs.Common.{◌+◌, ◌*◌}
use Rattle.worst.proofs.Mid.{Along}
use Rattle.worst.proofs.Game.+expand_spread.Given as goal

abbrev pub decreases-spread : goal.decreases-spread
decreases-spread l = 2 * l.e.left

abbrev pub decreases-expand : goal.decreases-expand
decreases-expand l = 2 * l.e.left + 1

abbrev pub invariant-spread-loop-k : goal.invariant-spread-loop-k
invariant-spread-loop-k l = Along l.self.nodes.now l.self.rows.now l.self.m l.self.powers l.len l.e l.initial.work l.work l.k-iterator.iter l.k-iterator.count l.grown
