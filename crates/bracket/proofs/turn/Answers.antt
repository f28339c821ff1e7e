use Rattle.std.proofs.Common.{◌<◌, ◌++◌, map, length, take, set, ap, ◌∙◌, append-nil, arith}
use Rattle.std.proofs.lemmas.List.{get_or_default, take_all, drop_all}
use Rattle.std.proofs.lemmas.List.Edits.{map_over_more}
use Rattle.tree.specs.Rep.{node, node_at}
use Rattle.bracket.specs.Turned.{turned_node}
use Rattle.bracket.proofs.turn.Goals as goal

pub loop-node-preserved : goal.loop-node-preserved
loop-node-preserved c =
    let ns = c.loop-node.nodes in
    let i = c.loop-node.node-index in
    let x = node_at ns i in
    let h : i < length ns = omega arith in
    ap (λ p. set ns i (node p x.share x.size)) c.turned_place-node.ensures
    ∙ map_over_more turned_node c.args.nodes.now ns i x c.loop-node-test.true c.loop-node.invariant (get_or_default ns i _ x h)

pub returns : goal.returns
returns c =
    let s = c.args.nodes.now in
    let i = c.loop-node.node-index in
    c.loop-node.invariant ∙ ap (λ l. map turned_node (take i s) ++ l) (drop_all i s c.loop-node-test.false) ∙ append-nil (map turned_node (take i s))
    ∙ ap (map turned_node) (take_all i s c.loop-node-test.false)
