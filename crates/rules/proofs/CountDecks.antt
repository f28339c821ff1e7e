-- Which ranks are left in a deck, and the lists spread over them. Assumes nothing.
use Rattle.std.proofs.Common.{◌≡◌, ℕ, zero, suc, ◌-◌, ◌*◌, ◌<◌, ◌≤◌, eqb, List, [], ◌∷◌, ◌++◌, length, get_or, replicate, refl, ap, ◌∙◌, subst, inl, inr, arith, length-append}
use mathlib.Core.List.Memᴰ
use Rattle.std.proofs.lemmas.Bool.{ne_eqb}
use Rattle.cards.specs.Game.{pick, total}
use Rattle.rules.specs.Play.{left, without}
use Rattle.rules.proofs.CountLists.{In, Apart, apart_append}

abbrev pub Left : ℕ → List ℕ → Type 0
Left r deck = 0 < get_or deck r 0

pub some_left : (deck : List ℕ) → 0 < total deck → (r : ℕ) × Left r deck
unfolding total
some_left [] l = absurd (omega arith)
some_left (zero ∷ deck) l = let (r, q) = some_left deck (omega arith) in (suc r, q)
some_left (suc c ∷ deck) l = (0, omega arith)

pub left_before : (a r : ℕ) (deck : List ℕ) → Left r (without a deck) → Left r deck
left_before a r [] l = l
left_before zero zero (c ∷ deck) l = omega arith
left_before zero (suc r) (c ∷ deck) l = l
left_before (suc a) zero (c ∷ deck) l = l
left_before (suc a) (suc r) (c ∷ deck) l = left_before a r deck l

-- two cards that can be taken in one order can be taken in the other
pub left_swap : (a r : ℕ) (deck : List ℕ) → Left a deck → Left r (without a deck) → Left a (without r deck)
left_swap a r [] k l = k
left_swap zero zero (c ∷ deck) k l = l
left_swap zero (suc r) (c ∷ deck) k l = k
left_swap (suc a) zero (c ∷ deck) k l = k
left_swap (suc a) (suc r) (c ∷ deck) k l = left_swap a r deck k l

pub without_swap : (a b : ℕ) (deck : List ℕ) → without b (without a deck) ≡ without a (without b deck)
without_swap a b [] = refl
without_swap zero zero (c ∷ deck) = refl
without_swap zero (suc b) (c ∷ deck) = refl
without_swap (suc a) zero (c ∷ deck) = refl
without_swap (suc a) (suc b) (c ∷ deck) = ap (λ l. c ∷ l) (without_swap a b deck)

-- how many ranks are left in a full deck, and after one card
pub left_full : (n c : ℕ) → 1 ≤ c → length (left (replicate n c)) ≡ n
left_full n zero l = absurd (omega arith)
left_full zero (suc c) l = refl
left_full (suc n) (suc c) l = ap suc (left_full n (suc c) l)

left_one : (n a : ℕ) → Left a (replicate n 1) → suc (length (left (without a (replicate n 1)))) ≡ n
left_one zero a l = absurd (omega arith)
left_one (suc n) zero l = ap suc (left_full n 1 (omega arith))
left_one (suc n) (suc a) l = ap suc (left_one n a l)

left_two : (n a c : ℕ) → length (left (without a (replicate n (suc (suc c))))) ≡ n
left_two zero a c = refl
left_two (suc n) zero c = let e : suc (suc c) - 1 ≡ suc c = omega arith in rw e (ap suc (left_full n (suc (suc c)) (omega arith)))
left_two (suc n) (suc a) c = ap suc (left_two n a c)

pub left_less : (n a c : ℕ) → 1 ≤ c → Left a (replicate n c) → length (left (without a (replicate n c))) ≡ n - pick (eqb c 1) 1 0
left_less n a zero k l = absurd (omega arith)
left_less n a (suc zero) k l = omega (arith, left_one n a l)
left_less n a (suc (suc c)) k l = rw (ne_eqb (suc (suc c)) 1 (λ e. omega arith)) (left_two n a c ∙ omega arith)

-- a list for each rank that is left
abbrev pub spread : {A : Type 0} → List ℕ → (ℕ → List A) → List A
spread [] f = []
spread (zero ∷ deck) f = spread deck (λ r. f (suc r))
spread (suc c ∷ deck) f = f 0 ++ spread deck (λ r. f (suc r))

module _ {A : Type 0} where
  pub spread_in : (deck : List ℕ) (f : ℕ → List A) (r : ℕ) (z : A) → Left r deck → In z (f r) → In z (spread deck f)
  spread_in [] f r z l q = absurd (omega arith)
  spread_in (zero ∷ deck) f zero z l q = absurd (omega arith)
  spread_in (zero ∷ deck) f (suc r) z l q = spread_in deck (λ r. f (suc r)) r z l q
  spread_in (suc c ∷ deck) f zero z l q = Memᴰ.append_left _ q
  spread_in (suc c ∷ deck) f (suc r) z l q = Memᴰ.append_right (f 0) (spread_in deck (λ r. f (suc r)) r z l q)

  pub spread_from : (deck : List ℕ) (f : ℕ → List A) (z : A) → In z (spread deck f) → (r : ℕ) × Left r deck × In z (f r)
  spread_from [] f z q = elim q [ ]
  spread_from (zero ∷ deck) f z q = let (r, l, p) = spread_from deck (λ r. f (suc r)) z q in (suc r, l, p)
  spread_from (suc c ∷ deck) f z q = elim (Memᴰ.append_cases (f 0) q) [
    | inl p ↦ (0, omega arith, p)
    | inr p ↦ let (r, l, o) = spread_from deck (λ r. f (suc r)) z p in (suc r, l, o)
  ]

  pub spread_apart : (deck : List ℕ) (f : ℕ → List A) → ((r : ℕ) → Apart (f r)) → ((r q : ℕ) (z : A) → In z (f r) → In z (f q) → r ≡ q) → Apart (spread deck f)
  spread_apart [] f a d = tt
  spread_apart (zero ∷ deck) f a d = spread_apart deck (λ r. f (suc r)) (λ r. a (suc r)) (λ r q z i j. omega (arith, d (suc r) (suc q) z i j))
  spread_apart (suc c ∷ deck) f a d =
      apart_append (f 0) _ (a 0) (spread_apart deck (λ r. f (suc r)) (λ r. a (suc r)) (λ r q z i j. omega (arith, d (suc r) (suc q) z i j)))
      (λ z i j. let (r, l, k) = spread_from deck (λ r. f (suc r)) z j in omega (arith, d 0 (suc r) z i k))

  pub spread_length : (deck : List ℕ) (f : ℕ → List A) (n : ℕ) → ((r : ℕ) → Left r deck → length (f r) ≡ n) → length (spread deck f) ≡ length (left deck) * n
  spread_length [] f n same = omega arith
  spread_length (zero ∷ deck) f n same = spread_length deck (λ r. f (suc r)) n (λ r l. same (suc r) l)
  spread_length (suc c ∷ deck) f n same =
      length-append (f 0) _ ∙ omega (arith, same 0 (omega arith), spread_length deck (λ r. f (suc r)) n (λ r l. same (suc r) l))

  -- a list for each two cards and the deck without them
  abbrev pub pairs : List ℕ → (ℕ → ℕ → List ℕ → List A) → List A
  pairs deck f = spread deck (λ a. spread (without a deck) (λ b. f a b (without b (without a deck))))

  pub pairs_in : (deck : List ℕ) (f : ℕ → ℕ → List ℕ → List A) (a b : ℕ) (z : A) → Left a deck → Left b (without a deck) → In z (f a b (without b (without a deck))) → In z (pairs deck f)
  pairs_in deck f a b z l k q = spread_in deck _ a z l (spread_in (without a deck) _ b z k q)

  pub pairs_from : (deck : List ℕ) (f : ℕ → ℕ → List ℕ → List A) (z : A) → In z (pairs deck f) → (a : ℕ) × (b : ℕ) × Left a deck × Left b (without a deck) × In z (f a b (without b (without a deck)))
  pairs_from deck f z q =
      let (a, l, i) = spread_from deck (λ a. spread (without a deck) (λ b. f a b (without b (without a deck)))) z q in
      let (b, k, j) = spread_from (without a deck) (λ b. f a b (without b (without a deck))) z i in (a, b, l, k, j)

  -- the order of the two does not matter
  pub pairs_swap : (deck : List ℕ) (f : ℕ → ℕ → List ℕ → List A) (z : A) → In z (pairs deck f) → In z (pairs deck (λ a b. f b a))
  pairs_swap deck f z q =
      let (a, b, l, k, i) = pairs_from deck f z q in
      let P : List ℕ → Type 0 = λ d. In z (f a b d) in
      pairs_in deck (λ a b. f b a) b a z (left_before a b deck k) (left_swap a b deck l k) (subst P (without_swap a b deck) i)
