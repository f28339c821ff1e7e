use Rattle.worst.proofs.Raised.{Raised}
use Rattle.worst.proofs.powers_of.Given as goal

abbrev pub invariant-loop-i : goal.invariant-loop-i
invariant-loop-i l = Raised l.m l.powers l.i
