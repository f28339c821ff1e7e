use Rattle.std.proofs.Common.{arith}
use Rattle.worst.proofs.Hops.{over_lies, nth_some, nth_is, nth_fits}
use Rattle.worst.proofs.child.Goals as goal

pub nth-requires : goal.nth-requires
nth-requires c =
    over_lies c.of.result _ _ _ _ _ (record { nodes_are = c.of.ensures.nodes; first = c.of.ensures.first; end = c.of.ensures.end }) c.requires.rep

pub unwrap-requires : goal.unwrap-requires
unwrap-requires c = nth_some c.of.result _ _ _ _ c.nth.new.self (record { nodes_are = c.of.ensures.nodes; first = c.of.ensures.first; end = c.of.ensures.end }) c.nth.ensures.ran c.requires

pub overflow_cast-result : goal.overflow_cast-result
overflow_cast-result c =
    let h = nth_fits c.of.result _ _ _ _ _ c.nth.new.self (record { nodes_are = c.of.ensures.nodes; first = c.of.ensures.first; end = c.of.ensures.end }) c.nth.ensures.ran c.unwrap.ensures c.requires in
    omega (arith, h)

pub returns : goal.returns
returns c =
    λ table base t h l. nth_is c.of.result _ _ _ _ _ c.nth.new.self (record { nodes_are = c.of.ensures.nodes; first = c.of.ensures.first; end = c.of.ensures.end }) c.nth.ensures.ran c.unwrap.ensures table base t h
