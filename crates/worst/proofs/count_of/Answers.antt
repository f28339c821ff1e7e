use Rattle.std.proofs.Common.{◌∙◌, arith}
use Rattle.worst.proofs.Hops.{Over, over_lies, count_is_many, many_few}
use Rattle.worst.proofs.count_of.Goals as goal

pub count-requires-clause-can : goal.count-requires-clause-can
count-requires-clause-can c =
    over_lies c.of.result _ _ _ _ _ (record { nodes_are = c.of.ensures.nodes; first = c.of.ensures.first; end = c.of.ensures.end }) c.requires.rep

pub overflow_cast-result : goal.overflow_cast-result
overflow_cast-result c =
    let o : Over c.of.result c.args.nodes.now c.args.at = record { nodes_are = c.of.ensures.nodes; first = c.of.ensures.first; end = c.of.ensures.end } in
    let r = c.count.ensures.ran in
    let n = count_is_many c.of.result _ _ r.0 o r.1 c.requires.table c.requires.base c.requires.tree c.requires.rep in
    let l = many_few _ _ _ _ _ c.requires.rep in
    omega (arith, r.2, n, l, c.requires.few)

pub returns : goal.returns
returns c = λ table base t h.
    let o : Over c.of.result c.args.nodes.now c.args.at = record { nodes_are = c.of.ensures.nodes; first = c.of.ensures.first; end = c.of.ensures.end } in
    let r = c.count.ensures.ran in
    r.2 ∙ count_is_many c.of.result _ _ r.0 o r.1 table base t h
