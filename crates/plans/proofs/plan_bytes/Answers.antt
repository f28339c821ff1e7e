use Rattle.std.proofs.Common.{◌≡◌, ◌*◌, ◌≤◌, map, sum, length, rules, arith}
use Rattle.tree.specs.Told.{offers_of}
use Rattle.plans.proofs.Reading.{counts_sum, counts_most}
use Rattle.plans.proofs.plan_bytes.Goals as goal

pub overflow_mul-result : goal.overflow_mul-result
overflow_mul-result c =
    let s : c.sum.result ≡ sum (map (offers_of c.args.raises) c.args.sights.now) = search rules in
    let m = counts_most c.args.raises c.args.sights.now in
    let l : c.sum.result ≤ 3 * length c.args.sights.now = omega (arith, s, m) in
    let r = c.requires in search rules

pub returns : goal.returns
returns c =
    let s : c.sum.result ≡ sum (map (offers_of c.args.raises) c.args.sights.now) = search rules in
    omega (arith, s, counts_sum c.args.raises c.args.sights.now)
