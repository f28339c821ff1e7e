use Rattle.std.proofs.Common.{◌+◌, ◌*◌, length}
use Rattle.worst.proofs.Branches.{KidsInv}
use Rattle.worst.proofs.Rounds.{RoundInv}
use Rattle.worst.proofs.Game.+least_of_reckon.Given as goal

abbrev pub decreases-least_of : goal.decreases-least_of
decreases-least_of l = 2 * length l.work.now

abbrev pub decreases-reckon : goal.decreases-reckon
decreases-reckon l = 2 * length l.work.now + 1

abbrev pub invariant-least_of-loop-k : goal.invariant-least_of-loop-k
invariant-least_of-loop-k l = KidsInv l.self.nodes.now l.self.rows.now l.self.m l.self.powers l.len l.initial.work l.work l.k l.best

abbrev pub invariant-reckon-loop-left : goal.invariant-reckon-loop-left
invariant-reckon-loop-left l = RoundInv l.self.nodes.now l.self.rows.now l.self.m l.self.powers l.len l.initial.work l.work l.left l.total

abbrev pub decreases-reckon-loop-left : goal.decreases-reckon-loop-left
decreases-reckon-loop-left l = l.left
