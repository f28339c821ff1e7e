use Rattle.std.proofs.Common.{inl, ◌∙◌, arith, rules}
use Rattle.tree.proofs.Siblings.{root_inside}
use Rattle.hands.proofs.Kids.{kids_lie}
use Rattle.hands.proofs.Falls.{going_sure, going_at, going_here, going_on}
use Rattle.hands.proofs.Game.fall.Goals as goal

pub offset_bounds-self-at : goal.offset_bounds-self-at
offset_bounds-self-at c = let h = root_inside _ _ c.requires.root in search rules

pub bounds-self-at : goal.bounds-self-at
bounds-self-at c = (root_inside _ _ c.requires.root).0

pub loop-before-init-derived : goal.loop-before-init-derived
loop-before-init-derived c =
    let k = kids_lie _ _ c.of.result c.requires.root c.of.ensures.nodes c.of.ensures.first c.of.ensures.end in
    let h = root_inside _ _ c.requires.root in
    rw (c.into_iter-before-iterator.ensures.into_iter_gives, c.enumerate-before-items.ensures.source, c.enumerate-before-items.ensures.count)
    ((k, tt, inl (omega (arith, h.1, c.of.ensures.end))), tt)

pub weight-weight-requires : goal.weight-weight-requires
weight-weight-requires c =
    let h = c.in-Some.ensures.steps in
    rw (h.1, h.0.is) (going_sure _ _ _ _ _ _ _ _ _ _ c.requires.falls c.loop-before.invariant.going).0

pub returns-then-left-weight : goal.returns-then-left-weight
returns-then-left-weight c =
    let h = c.in-Some.ensures.steps in
    going_here _ _ _ _ _ _ _ _ _ (going_at _ _ _ _ _ _ _ _ _ _ _ c.loop-before.invariant.going h.1 h.0.is) (omega (arith, c.weight-weight.ensures, c.if-left-weight.true))

pub loop-before-preserved : goal.loop-before-preserved
loop-before-preserved c =
    let h = c.in-Some.ensures.steps in
    let i = c.loop-before.invariant in
    record {
      same = h.0.same ∙ i.same;
      end = h.0.end ∙ i.end;
      going = going_on _ _ _ _ _ _ _ _ _ _ _ _ _ i.going (rw (← h.1, ← h.0.is) c.weight-weight.ensures) c.if-left-weight.false i.same h.2 h.0.goes;
    }

pub unreachable-requires : goal.unreachable-requires
unreachable-requires c =
    let h = c.in-None.ensures.steps in
    let i = c.loop-before.invariant in
    let s = (going_sure _ _ _ _ _ _ _ _ _ _ c.requires.falls i.going).1 in
    omega (arith, h.0.0, i.end)
