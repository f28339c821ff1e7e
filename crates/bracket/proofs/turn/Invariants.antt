use Rattle.std.proofs.Common.{◌≡◌, ◌++◌, map, take, drop}
use Rattle.bracket.specs.Turned.{turned_node}
use Rattle.bracket.proofs.turn.Given as goal

abbrev pub invariant-loop-node : goal.invariant-loop-node
invariant-loop-node l = l.nodes ≡ map turned_node (take l.node-index l.initial.nodes) ++ drop l.node-index l.initial.nodes
