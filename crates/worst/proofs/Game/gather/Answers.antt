use Rattle.std.proofs.Common.{arith}
use Rattle.worst.proofs.Steps.{step_none, step_kid, some_ready_kth, step_more, sum_small, step_all}
use Rattle.worst.proofs.Game.gather.Goals as goal

pub loop-j-init : goal.loop-j-init
loop-j-init c = step_none _ _ _ _ _ _ _

pub child-at-requires : goal.child-at-requires
child-at-requires c = step_kid _ _ _ _ _ _ _ _ _ _ c.requires c.loop-j.invariant c.loop-j-test.true

pub expand-next-requires : goal.expand-next-requires
expand-next-requires c = some_ready_kth _ _ _ _ _ _ _ _ _ _ _ c.requires c.loop-j.invariant c.loop-j-test.true c.loop-j.auto.work c.child-at.ensures

pub then-grown-requires : goal.then-grown-requires
then-grown-requires c =
    let h = sum_small _ _ _ _ _ _ _ _ _ _ c.requires
    (step_more _ _ _ _ _ _ _ _ _ _ _ _ _ c.loop-j.invariant c.loop-j-test.true c.loop-j.auto.work c.child-at.ensures c.expand-next.ensures) in
    omega arith

pub loop-j-preserved : goal.loop-j-preserved
loop-j-preserved c = rw c.then-grown.ensures (step_more _ _ _ _ _ _ _ _ _ _ _ _ _ c.loop-j.invariant c.loop-j-test.true c.loop-j.auto.work c.child-at.ensures c.expand-next.ensures)

pub returns : goal.returns
returns c = step_all _ _ _ _ _ _ _ _ _ _ c.loop-j.invariant (omega (arith, c.loop-j.auto.j-end, c.loop-j-test.false))
