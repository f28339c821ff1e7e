-- The powers of m.
use Rattle.std.proofs.Common.{◌≡◌, ℕ, suc, ◌+◌, ◌*◌, ◌^◌, ◌<◌, ◌≤◌, ◌⊎◌, List, length, get_or, set, sym, ap, ◌∙◌, inl, inr, pow-suc, add-one, arith, length-set, pow_mono}
use native.Mathlib.Nat.{pow-le-pow_left, pow-le-pow_right}
use Rattle.std.proofs.lemmas.List.{get_or-set_same, get_or-set_other}
use Rattle.std.proofs.lemmas.Bool.{cases_lt, cases_eq}
use Rattle.worst.specs.Items.{Powers}

pub words_few : (m n : ℕ) → 2 ≤ m → m ^ n < 2 ^ 62 → n < 62
words_few m n b h = go (cases_lt n 62)
  where
    go : (n < 62) ⊎ (62 ≤ n) → n < 62
    go (inl l) = l
    go (inr l) =
        let a : 2 ^ n ≤ m ^ n = pow-le-pow_left b n in
        let c : 2 ^ 62 ≤ 2 ^ n = pow_mono l in
        absurd (omega arith)

abbrev pub Raised : ℕ → List ℕ → ℕ → Type 0
Raised m powers i = (length powers ≡ 62) × ((j : ℕ) → j ≤ i → get_or powers j 0 ≡ m ^ j)

pub raised_small : (m n : ℕ) (powers : List ℕ) (i : ℕ) → 2 ≤ m → m ^ n < 2 ^ 62 → Raised m powers i → i < n → (i < 61) × (get_or powers i 0 * m < 2 ^ 62)
raised_small m n powers i b h r l =
    let w = words_few m n b h in
    let p : m ^ suc i ≤ m ^ n = pow-le-pow_right (omega arith) (omega arith) in
    let e : get_or powers i 0 * m ≡ m ^ suc i = ap (λ z. z * m) (r.1 i (omega arith)) ∙ sym (pow-suc m i) in
    (omega arith, omega arith)

pub raised_more : (m n : ℕ) (powers : List ℕ) (i : ℕ) → 2 ≤ m → m ^ n < 2 ^ 62 → Raised m powers i → i < n → Raised m (set powers (i + 1) (get_or powers i 0 * m)) (i + 1)
raised_more m n powers i b h r l = (length-set powers (i + 1) _ ∙ r.0, λ j k. go j k (cases_eq j (i + 1)))
  where
    go : (j : ℕ) → j ≤ i + 1 → (j ≡ i + 1) ⊎ (j ≡ i + 1 → ⊥) → get_or (set powers (i + 1) (get_or powers i 0 * m)) j 0 ≡ m ^ j
    go j k (inl e) =
        let s = raised_small m n powers i b h r l in
        let q = r.0 in
        let u : get_or (set powers (i + 1) (get_or powers i 0 * m)) (i + 1) 0 ≡ get_or powers i 0 * m = get_or-set_same powers (i + 1) _ 0 (omega (arith, s.0)) in
        rw e (u ∙ ap (λ z. z * m) (r.1 i (omega arith)) ∙ sym (pow-suc m i) ∙ ap (λ z. m ^ z) (sym (add-one i)))
    go j k (inr e) = get_or-set_other powers (i + 1) j _ 0 e ∙ r.1 j (omega arith)

pub raised_all : (m n : ℕ) (powers : List ℕ) (i : ℕ) → 2 ≤ m → m ^ n < 2 ^ 62 → Raised m powers i → n ≤ i → Powers m n powers
raised_all m n powers i b h r l j k = let w = words_few m n b h in let q = r.0 in (omega arith, r.1 j (omega arith))
