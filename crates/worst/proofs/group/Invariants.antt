use Rattle.worst.proofs.Sifts.{Sift}
use Rattle.worst.proofs.group.Given as goal

abbrev pub invariant-loop-i : goal.invariant-loop-i
invariant-loop-i l = Sift l.nodes l.sight l.len l.initial.work l.work l.i l.front
