use Rattle.worst.proofs.Steps.{Inv}
use Rattle.worst.proofs.Game.gather.Given as goal

abbrev pub invariant-loop-j : goal.invariant-loop-j
invariant-loop-j l = Inv l.self.nodes.now l.self.rows.now l.self.m l.self.powers l.len l.k l.initial.work l.work l.j l.grown
