use Rattle.tree.specs.Rep.{node_at}
use Rattle.hands.proofs.Turns.{Turn}
use Rattle.hands.proofs.Game.play.Given as goal

abbrev pub invariant-loop-ends : goal.invariant-loop-ends
invariant-loop-ends g l = Turn l.self.m l.self.rows.now l.self.nodes.now l.choices (g.W.Words.rest l.initial.words) l.at l.made l.used (g.W.Words.rest l.words)

abbrev pub decreases-loop-ends : goal.decreases-loop-ends
decreases-loop-ends g l = (node_at l.self.nodes.now l.at).size
