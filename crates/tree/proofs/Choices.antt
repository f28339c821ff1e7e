-- Reading a choice back. Assumes nothing.
use Rattle.std.proofs.Common.{◌≡◌, ℕ, zero, suc, ◌+◌, ◌-◌, ◌<◌, ◌≤◌, List, [], ◌∷◌, ◌++◌, length, Some, None, sym, refl, ap, ◌∙◌, add-zero, arith}
use Rattle.tree.specs.Told.{checks_listed, listed, ended, nth}

pub checked_in : (c i : ℕ) → i < c → nth (checks_listed c) i ≡ Some 0
checked_in zero i h = absurd (omega arith)
checked_in (suc c) zero h = refl
checked_in (suc c) (suc i) h = checked_in c i (omega arith)

pub checked_out : (c i : ℕ) → c ≤ i → nth (checks_listed c) i ≡ None
checked_out zero i h = refl
checked_out (suc c) zero h = absurd (omega arith)
checked_out (suc c) (suc i) h = checked_out c i (omega arith)

-- past the bets come the checks
pub past_bets : (c k i : ℕ) → k ≤ i → nth (listed c k) i ≡ nth (checks_listed c) (i - k)
past_bets c zero i h = let e : i ≡ i - 0 = omega arith in ap (nth (checks_listed c)) e
past_bets c (suc k) zero h = absurd (omega arith)
past_bets c (suc k) (suc i) h = let e : i - k ≡ suc i - suc k = omega arith in past_bets c k i (omega arith) ∙ ap (nth (checks_listed c)) e

pub the_bet : (c k i : ℕ) → i + 1 ≡ k → nth (listed c k) i ≡ Some 1
the_bet c zero i h = absurd (omega arith)
the_bet c (suc zero) zero h = refl
the_bet c (suc (suc k)) zero h = absurd (omega arith)
the_bet c (suc k) (suc i) h = the_bet c k i (omega arith)

pub a_raise : (c k i : ℕ) → i + 1 < k → nth (listed c k) i ≡ Some 2
a_raise c zero i h = absurd (omega arith)
a_raise c (suc zero) i h = absurd (omega arith)
a_raise c (suc (suc k)) zero h = refl
a_raise c (suc (suc k)) (suc i) h = a_raise c (suc k) i (omega arith)

pub called_first : (c k : ℕ) → 0 < k → nth (ended c k) 0 ≡ Some 1
called_first c zero h = absurd (omega arith)
called_first c (suc k) h = refl

pub called_after : (c k i : ℕ) → 0 < k → 0 < i → nth (ended c k) i ≡ nth (listed c k) (i - 1)
called_after c zero i h j = absurd (omega arith)
called_after c (suc k) zero h j = absurd (omega arith)
called_after c (suc k) (suc i) h j = let e : i ≡ suc i - 1 = omega arith in ap (nth (listed c (suc k))) e

pub checked_end : (c k i : ℕ) → k ≡ 0 → nth (ended c k) i ≡ nth (listed c k) i
checked_end c zero i h = refl
checked_end c (suc k) i h = absurd (omega arith)

checks_length : (c : ℕ) → length (checks_listed c) ≡ c
checks_length zero = refl
checks_length (suc c) = ap suc (checks_length c)

listed_length : (c k : ℕ) → length (listed c k) ≡ c + k
listed_length c zero = checks_length c ∙ sym (add-zero c)
listed_length c (suc k) = let h = listed_length c k in omega arith

nth_front : (xs ys : List ℕ) (i : ℕ) → i < length xs → nth (xs ++ ys) i ≡ nth xs i
nth_front [] ys i h = absurd (omega arith)
nth_front (x ∷ xs) ys zero h = refl
nth_front (x ∷ xs) ys (suc i) h = nth_front xs ys i (omega arith)

nth_past : (xs ys : List ℕ) (i : ℕ) → length xs ≤ i → nth (xs ++ ys) i ≡ nth ys (i - length xs)
nth_past [] ys i h = let e : i ≡ i - 0 = omega arith in ap (nth ys) e
nth_past (x ∷ xs) ys zero h = absurd (omega arith)
nth_past (x ∷ xs) ys (suc i) h = let e : i - length xs ≡ suc i - suc (length xs) = omega arith in nth_past xs ys i (omega arith) ∙ ap (nth ys) e

pub in_second : (c k i : ℕ) (ys : List ℕ) → i < c + k → nth (listed c k ++ ys) i ≡ nth (listed c k) i
in_second c k i ys h = let l = listed_length c k in nth_front (listed c k) ys i (omega arith)

pub in_first : (c k i : ℕ) (ys : List ℕ) → c + k ≤ i → nth (listed c k ++ ys) i ≡ nth ys (i - (c + k))
in_first c k i ys h = let l = listed_length c k in nth_past (listed c k) ys i (omega arith) ∙ ap (λ n. nth ys (i - n)) l
