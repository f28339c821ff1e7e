use Rattle.std.proofs.Common.{◌≡◌, ◌++◌, map, take, drop}
use Rattle.tree.specs.Slots.{tabled_node}
use Rattle.tree.proofs.number.Given as goal

abbrev pub invariant-loop-node : goal.invariant-loop-node
invariant-loop-node l = l.nodes ≡ map (tabled_node l.house l.guest) (take l.node-index l.initial.nodes) ++ drop l.node-index l.initial.nodes
