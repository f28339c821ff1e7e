use Rattle.std.proofs.Common.{arith, rules}
use Rattle.tree.proofs.Reps.{rep_inside}
use Rattle.worst.proofs.Hops.{over_lies}
use Rattle.worst.proofs.Mid.{mid_weighable, next_mid, next_sum, mid_all, along_none, along_given, along_plain, along_more, settles_of, settle_spreads}
use Rattle.worst.proofs.Game.+expand_spread.Goals as goal

pub expand-bounds : goal.expand-bounds
expand-bounds t c = rep_inside _ _ _ _ _ c.requires.ready.rep

pub expand-settle-requires : goal.expand-settle-requires
expand-settle-requires t c = settles_of _ c.args.self.now.rows.now c.args.self.now.m _ _ _ _ c.requires c.in-Over.is

pub expand-returns-in-Over : goal.expand-returns-in-Over
expand-returns-in-Over t c = settle_spreads _ _ _ _ _ _ _ _ _ c.in-Over.is c.settle.ensures.answer c.settle.ensures.after

pub spread-weight-w-requires : goal.spread-weight-w-requires
spread-weight-w-requires t c =
    let p = along_given _ _ _ _ _ _ _ _ _ c.next.new.self.iter _ _ _ _ c.loop-k.invariant c.in-Some.ensures.steps.0 c.in-Some.ensures.steps.1 in
    mid_weighable _ _ _ _ _ _ _ _ _ _ _ c.requires.ready c.requires.chance p.0 p.1

pub spread-overflow_mul-kid : goal.spread-overflow_mul-kid
spread-overflow_mul-kid t c =
    let d = c.in-Some.ensures.steps in
    let h = along_plain _ _ _ _ _ _ _ _ _ c.next.new.self.iter _ _ _ _ _ c.requires.ready c.requires.chance c.loop-k.invariant c.loop-k.auto.work d.0 d.1 c.weight-w.ensures in
    omega (arith, h.facts.times)

pub spread-overflow_sub-kid : goal.spread-overflow_sub-kid
spread-overflow_sub-kid t c =
    let d = c.in-Some.ensures.steps in
    let h = along_plain _ _ _ _ _ _ _ _ _ c.next.new.self.iter _ _ _ _ _ c.requires.ready c.requires.chance c.loop-k.invariant c.loop-k.auto.work d.0 d.1 c.weight-w.ensures in
    omega (arith, h.facts.left)

pub spread-expand-next-requires : goal.spread-expand-next-requires
spread-expand-next-requires t c =
    let d = c.in-Some.ensures.steps in
    let h = along_plain _ _ _ _ _ _ _ _ _ c.next.new.self.iter _ _ _ _ _ c.requires.ready c.requires.chance c.loop-k.invariant c.loop-k.auto.work d.0 d.1 c.weight-w.ensures in
    (let l = h.facts.left in omega (arith, c.decreases), record { told = h.told; tree = h.tree; ready = h.facts.ready })

pub spread-then-grown-requires : goal.spread-then-grown-requires
spread-then-grown-requires t c =
    let p = along_given _ _ _ _ _ _ _ _ _ c.next.new.self.iter _ _ _ _ c.loop-k.invariant c.in-Some.ensures.steps.0 c.in-Some.ensures.steps.1 in
    let h = next_sum _ _ _ _ _ _ _ _ _ _ _ c.requires.ready c.requires.chance (next_mid _ _ _ _ _ _ _ _ _ _ _ _ _ _ p.0 c.loop-k.auto.work p.1 c.weight-w.ensures c.expand-next.ensures) in
    omega arith

pub spread-loop-k-preserved : goal.spread-loop-k-preserved
spread-loop-k-preserved t c =
    let p = along_given _ _ _ _ _ _ _ _ _ c.next.new.self.iter _ _ _ _ c.loop-k.invariant c.in-Some.ensures.steps.0 c.in-Some.ensures.steps.1 in
    let d = c.in-Some.ensures.steps in
    along_more _ _ _ _ _ _ _ _ _ _ c.next.new.self.iter _ _ _ _ _ _ c.loop-k.invariant d.0 d.1 d.2
    (rw c.then-grown.ensures (next_mid _ _ _ _ _ _ _ _ _ _ _ _ _ _ p.0 c.loop-k.auto.work p.1 c.weight-w.ensures c.expand-next.ensures))

pub spread-returns : goal.spread-returns
spread-returns t c =
    let i = c.loop-k.invariant in
    let d = c.in-None.ensures.steps.0.0 in
    mid_all _ _ _ _ _ _ _ _ _ _ _ c.requires.chance i.inv (omega (arith, i.end))

pub spread-loop-k-init-derived : goal.spread-loop-k-init-derived
spread-loop-k-init-derived t c =
    let g = c.into_iter-k-iterator.ensures.into_iter_gives in
    let o = c.of.ensures in
    let n = c.enumerate-k-items.ensures.source in
    let z = c.enumerate-k-items.ensures.count in
    ((over_lies c.into_iter-k-iterator.result.iter _ _ _ _ _ (record { nodes_are = cc; first = cc; end = cc }) c.requires.ready.ready.rep, tt, search rules), search rules)

pub spread-loop-k-init : goal.spread-loop-k-init
spread-loop-k-init t c =
    let g = c.into_iter-k-iterator.ensures.into_iter_gives in
    let o = c.of.ensures in
    let n = c.enumerate-k-items.ensures.source in
    let z = c.enumerate-k-items.ensures.count in
    along_none _ _ _ _ _ _ _ _ _ (cc) (cc) (cc) (cc)
