-- Numbers in bytes, and the weights of a row. Assumes nothing.
use Rattle.std.proofs.Common.{◌≡◌, ℕ, zero, suc, ◌+◌, ◌*◌, ◌<◌, ◌≤◌, Bool, true, false, Some, None, List, [], ◌∷◌, length, get_or, drop, sym, refl, ap, ◌∙◌, arith}
use Rattle.cards.specs.Game.{pick, total}
use Rattle.std.proofs.lemmas.List.{drop-drop, get_or-drop}
use Rattle.std.proofs.lemmas.Bool.{lt-ltb, le-ltb}
use Rattle.std.specs.Bool.{then_some}
use Rattle.plans.specs.declared.Row.{Row}
use Rattle.plans.specs.Numbers.{number_of_bytes, numbers}
use Rattle.plans.specs.Bytes.{row_of}

-- the first number
pub number_first : (xs : List ℕ) → 4 ≤ length xs → get_or (numbers xs) 0 0 ≡ number_of_bytes (get_or xs 0 0) (get_or xs 1 0) (get_or xs 2 0) (get_or xs 3 0)
number_first [] h = absurd (omega arith)
number_first (a ∷ []) h = absurd (omega arith)
number_first (a ∷ b ∷ []) h = absurd (omega arith)
number_first (a ∷ b ∷ c ∷ []) h = absurd (omega arith)
number_first (a ∷ b ∷ c ∷ d ∷ xs) h = refl

-- four bytes on is one number on
one_on : (xs : List ℕ) → numbers (drop 4 xs) ≡ drop 1 (numbers xs)
one_on [] = refl
one_on (a ∷ []) = refl
one_on (a ∷ b ∷ []) = refl
one_on (a ∷ b ∷ c ∷ []) = refl
one_on (a ∷ b ∷ c ∷ d ∷ xs) = refl

pub numbers_on : (k : ℕ) (xs : List ℕ) → numbers (drop (4 * k) xs) ≡ drop k (numbers xs)
numbers_on zero xs = refl
numbers_on (suc k) xs =
    let e : 4 * suc k ≡ 4 + 4 * k = omega arith in
    let f : 1 + k ≡ suc k = omega arith in
    ap (λ n. numbers (drop n xs)) e ∙ ap numbers (sym (drop-drop (4 * k) 4 xs)) ∙ numbers_on k (drop 4 xs)
    ∙ ap (drop k) (one_on xs) ∙ drop-drop k 1 (numbers xs) ∙ ap (λ n. drop n (numbers xs)) f

-- the weights of a row
pub total_three : (ws : List ℕ) → length ws ≡ 3 → total ws ≡ get_or ws 0 0 + get_or ws 1 0 + get_or ws 2 0
unfolding total
total_three [] h = absurd (omega arith)
total_three (a ∷ []) h = absurd (omega arith)
total_three (a ∷ b ∷ []) h = absurd (omega arith)
total_three (a ∷ b ∷ c ∷ []) h = omega arith
total_three (a ∷ b ∷ c ∷ d ∷ ws) h = absurd (omega arith)

pub then_picked : {X : Type 0} (b : Bool) (x : X) → then_some b x ≡ pick b (Some x) None
then_picked true x = refl
then_picked false x = refl

-- a row from numbers that begin four bytes apart
number_next : (xs : List ℕ) (k : ℕ) → get_or (numbers (drop (4 * k) xs)) 0 0 ≡ get_or (numbers xs) k 0
number_next xs k = ap (λ l. get_or l 0 0) (numbers_on k xs) ∙ get_or-drop k (numbers xs) 0 0 ∙ (let z : k + 0 ≡ k = omega arith in ap (λ n. get_or (numbers xs) n 0) z)

module _ (xs : List ℕ) (c : ℕ) where
  pub row_three : 2 < c → (a b d : ℕ) → a ≡ get_or (numbers (drop 0 xs)) 0 0 → b ≡ get_or (numbers (drop 4 xs)) 0 0 → d ≡ get_or (numbers (drop 8 xs)) 0 0 →
      ◌≡◌ {A = Row} (record { weights = a ∷ b ∷ d ∷ [] }) (row_of c (numbers xs))
  row_three h a b d p q r =
      let t = lt-ltb 2 c h in
      let s = number_next xs 1 in
      let u = number_next xs 2 in
      rw (t, p, q, r, s, u) refl

  pub row_two : c ≤ 2 → (a b : ℕ) → a ≡ get_or (numbers (drop 0 xs)) 0 0 → b ≡ get_or (numbers (drop 4 xs)) 0 0 →
      ◌≡◌ {A = Row} (record { weights = a ∷ b ∷ 0 ∷ [] }) (row_of c (numbers xs))
  row_two h a b p q =
      let t = le-ltb 2 c h in
      let s = number_next xs 1 in
      rw (t, p, q, s) refl
