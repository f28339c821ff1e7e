use Rattle.std.proofs.Common.{◌*◌, ◌^◌, ◌<◌, ◌≤◌, arith}
use Rattle.plans.proofs.Products.{product_fits, product_past, picked_below, picked_past}
use Rattle.plans.proofs.times.Goals as goal

pub overflow_mul-result : goal.overflow_mul-result
overflow_mul-result c = let h = product_fits _ _ _ c.if-p-m.true in omega (arith, h)

pub returns-then-p-m : goal.returns-then-p-m
returns-then-p-m c =
    let h = product_fits _ _ _ c.if-p-m.true in
    let l : c.args.p * c.args.m < 2 ^ 62 = omega (arith, h) in picked_below _ _ _ _ l

pub returns-else-p-m : goal.returns-else-p-m
returns-else-p-m c =
    let h = product_past _ _ _ c.requires c.if-p-m.false in
    let l : 2 ^ 62 ≤ c.args.p * c.args.m = omega (arith, h) in picked_past _ _ _ _ l
