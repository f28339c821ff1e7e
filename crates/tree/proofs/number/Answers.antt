use Rattle.std.proofs.Common.{ap}
use Rattle.tree.specs.Rep.{node, node_at}
use Rattle.tree.specs.Slots.{tabled_node}
use Rattle.tree.proofs.Sees.{map_next}
use Rattle.tree.proofs.number.Goals as goal

pub loop-node-preserved : goal.loop-node-preserved
loop-node-preserved c =
    let old = node_at c.loop-node.nodes c.loop-node.node-index in
    map_next (tabled_node c.args.house.now c.args.guest.now) c.args.nodes.now c.loop-node.nodes c.loop-node.node-index _ (node c.numbered-node.result old.share old.size)
    c.loop-node-test.true c.loop-node.invariant (ap (λ p. node p old.share old.size) c.numbered-node.ensures)
