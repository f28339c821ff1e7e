use Rattle.std.proofs.Common.{◌*◌, ◌^◌, ◌≤◌, sym, ap, ◌∙◌, mul-one, arith}
use native.Mathlib.Nat.{pow-zero}
use Rattle.std.proofs.lemmas.Bool.{ltb-true, ltb-false}
use Rattle.rules.proofs.Passed.{some_picked}
use Rattle.plans.proofs.Products.{power_more, power_past, none_picked, held_past}
use Rattle.plans.proofs.check_size.Goals as goal

pub loop-i-init : goal.loop-i-init
loop-i-init c = (sym (ap (λ x. c.args.table * x) (pow-zero c.args.m) ∙ mul-one c.args.table), omega arith)

pub returns-in_default : goal.returns-in_default
returns-in_default c =
    let t = c.args.table in
    let m = c.args.m in
    let i = c.loop-i.i in
    let h = ltb-false _ _ (none_picked _ _ c.in_default.ensures) in
    let e = ap (λ p. p * m) c.loop-i.invariant.0 in
    let l : 2 ^ 62 ≤ t * m ^ i * m = omega (arith, h, e) in
    held_past _ _ _ _ (power_past (2 ^ 62) t m i c.args.words c.requires c.loop-i-test.true l)

pub loop-i-preserved : goal.loop-i-preserved
loop-i-preserved c =
    let m = c.args.m in
    let q = some_picked _ _ _ c.in-Some.ensures in
    let h = ltb-true _ _ q.0 in
    (q.1 ∙ ap (λ p. p * m) c.loop-i.invariant.0 ∙ power_more c.args.table m c.loop-i.i, omega (arith, h, q.1))
