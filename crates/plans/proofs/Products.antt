-- Products below a bound. Assumes nothing.
use Rattle.std.proofs.Common.{◌≡◌, ℕ, suc, ◌+◌, ◌*◌, ◌/◌, ◌^◌, ◌<◌, ◌≤◌, Bool, true, false, ltb, Some, None, Err, Result, sym, refl, ap, ◌∙◌, inl, inr, mul-le-mul_right, mul_assoc, mul-le-mul_left, pow-suc, div-mul-le_self, arith}
use native.Mathlib.Nat.{pow-le-pow_right}
use Rattle.cards.specs.Game.{pick}
use Rattle.std.proofs.lemmas.Nat.{le-div}
use Rattle.std.proofs.lemmas.Bool.{cases_lt, lt-ltb, le-ltb}
use Rattle.plans.specs.declared.Refusal.{Refusal}
use Rattle.plans.specs.Refusals.{holds}

pub product_fits : (n p m : ℕ) → p ≤ n / m → p * m ≤ n
product_fits n p m h = let a = mul-le-mul_right m h in let b = div-mul-le_self n m in omega (arith, a, b)

pub product_past : (n p m : ℕ) → 0 < m → n / m < p → n < p * m
product_past n p m h l = elim (cases_lt n (p * m)) [ inl q ↦ q | inr q ↦ (let r = le-div p n m h q in absurd (omega (arith, r))) ]

-- a power grows with its exponent
pub power_more : (t m i : ℕ) → t * m ^ i * m ≡ t * m ^ (i + 1)
power_more t m i = let e : i + 1 ≡ suc i = omega arith in mul_assoc t (m ^ i) m ∙ ap (λ x. t * x) (sym (pow-suc m i)) ∙ ap (λ k. t * m ^ k) (sym e)

pub power_past : (n t m i j : ℕ) → 0 < m → i < j → n ≤ t * m ^ i * m → n ≤ t * m ^ j
power_past n t m i j h l q =
    let k : i + 1 ≤ j = omega arith in
    let a = mul-le-mul_left t (pow-le-pow_right h k) in
    let b = power_more t m i in omega (arith, a, b)

-- what a test for less picks
pub picked_below : {X : Type 0} (x y : X) (a b : ℕ) → a < b → x ≡ pick (ltb a b) x y
picked_below x y a b h = ap (λ t. pick t x y) (sym (lt-ltb a b h))

pub picked_past : {X : Type 0} (x y : X) (a b : ℕ) → b ≤ a → y ≡ pick (ltb a b) x y
picked_past x y a b h = ap (λ t. pick t x y) (sym (le-ltb a b h))

pub none_picked : {X : Type 0} (t : Bool) (x : X) → None ≡ pick t (Some x) None → t ≡ false
none_picked true x e = let z : ◌≡◌ {A = ℕ} 0 1 = cc in absurd (omega arith)
none_picked false x e = refl

pub held_below : {X : Type 0} (e : Refusal) (r : Result X Refusal) (a b : ℕ) → a < b → r ≡ holds (ltb a b) e r
held_below e r a b h = ap (λ t. holds t e r) (sym (lt-ltb a b h))

pub held_past : {X : Type 0} (e : Refusal) (r : Result X Refusal) (a b : ℕ) → b ≤ a → Err e ≡ holds (ltb a b) e r
held_past e r a b h = ap (λ t. holds t e r) (sym (le-ltb a b h))
