-- Lists with no element twice: two with the same elements are as long; each sight is gathered once. Assumes nothing.
use Rattle.std.proofs.Common.{◌≡◌, suc, ◌≤◌, Bool, true, false, ◌⊎◌, List, [], ◌∷◌, ◌++◌, length, sym, refl, ap, ◌∙◌, inl, inr, arith}
use mathlib.Core.List.Memᴰ
use mathlib.Core.List.{Memᴰ}
use Rattle.std.proofs.lemmas.Bool.{or_cases, or_left, or_right, both_ways}
use Rattle.cards.specs.Game.{pick}
use Rattle.rules.proofs.Same.{sight_eq, sight_refl}
use Rattle.rules.specs.declared.Player.{Player}
use Rattle.rules.specs.Play.{Sight, Place}
use Rattle.rules.specs.Sights.{same_sight, met, known, note, gather, sights}

abbrev pub In : {A : Type 0} → A → List A → Type 0
In z xs = Memᴰ z xs

-- no element comes twice
abbrev pub Apart : {A : Type 0} → List A → Type 0
Apart [] = Unit {0}
Apart (x ∷ xs) = (In x xs → ⊥) × Apart xs

module _ {A : Type 0} where
  pub apart_append : (xs ys : List A) → Apart xs → Apart ys → ((z : A) → In z xs → In z ys → ⊥) → Apart (xs ++ ys)
  apart_append [] ys a b d = b
  apart_append (x ∷ xs) ys a b d = (
    λ q. elim (Memᴰ.append_cases xs q) [ inl l ↦ a.0 l | inr r ↦ d x (Memᴰ.head refl) r ],
    apart_append xs ys a.1 b (λ z l r. d z (Memᴰ.tail l) r),
  )

  -- a list without one of its elements
  cut : {z : A} {ys : List A} → In z ys → List A
  cut (Memᴰ.head {xs = xs} e) = xs
  cut (Memᴰ.tail {x = x} q) = x ∷ cut q

  cut_length : {z : A} {ys : List A} (q : In z ys) → length ys ≡ suc (length (cut q))
  unfolding cut
  cut_length (Memᴰ.head e) = refl
  cut_length (Memᴰ.tail q) = ap suc (cut_length q)

  cut_keeps : {z : A} {ys : List A} (q : In z ys) (y : A) → (y ≡ z → ⊥) → In y ys → In y (cut q)
  unfolding cut
  cut_keeps (Memᴰ.head e) y n p = elim (Memᴰ.cases_cons p) [ inl f ↦ absurd (n (f ∙ sym e)) | inr r ↦ r ]
  cut_keeps (Memᴰ.tail q) y n p = elim (Memᴰ.cases_cons p) [ inl f ↦ Memᴰ.head f | inr r ↦ Memᴰ.tail (cut_keeps q y n r) ]

  no_longer : (xs ys : List A) → Apart xs → ((z : A) → In z xs → In z ys) → length xs ≤ length ys
  no_longer [] ys a f = omega arith
  no_longer (x ∷ xs) ys a f =
      let q = f x (Memᴰ.head refl) in
      let h = no_longer xs (cut q) a.1 (λ z p. cut_keeps q z (λ e. a.0 (Memᴰ.cast (sym e) p)) (f z (Memᴰ.tail p))) in
      omega (arith, cut_length q)

  pub as_long : (xs ys : List A) → Apart xs → Apart ys → ((z : A) → In z xs → In z ys) → ((z : A) → In z ys → In z xs) → length xs ≡ length ys
  as_long xs ys a b f g = omega (arith, no_longer xs ys a f, no_longer ys xs b g)

known_in : (s : Sight) (l : List Sight) → known s l ≡ true → In s l
known_in s [] e = absurd (both_ways false refl e)
known_in s (z ∷ zs) e = elim (or_cases (same_sight s z) (known s zs) e) [ inl p ↦ Memᴰ.head (sight_eq s z p) | inr q ↦ Memᴰ.tail (known_in s zs q) ]

in_known : {s : Sight} {l : List Sight} → In s l → known s l ≡ true
in_known {s = s} (Memᴰ.head e) = or_left _ _ (ap (same_sight s) (sym e) ∙ sight_refl s)
in_known (Memᴰ.tail q) = or_right _ _ (in_known q)

-- a sight is noted once
note_by : (b : Bool) (s : Sight) (l : List Sight) → known s l ≡ b →
    (Apart l → Apart (pick b l (l ++ (s ∷ [])))) × ((z : Sight) → In z (pick b l (l ++ (s ∷ []))) → In z l ⊎ (z ≡ s)) × ((z : Sight) → In z l ⊎ (z ≡ s) → In z (pick b l (l ++ (s ∷ []))))
note_by true s l e = (λ a. a, λ z q. inl q, λ z. elim [ inl q ↦ q | inr f ↦ Memᴰ.cast f (known_in s l e) ])
note_by false s l e = (
  λ a. apart_append l (s ∷ []) a (λ q. elim q [ ], tt) (λ z p q. elim (Memᴰ.cases_cons q) [ inl f ↦ both_ways (known s l) e (in_known (Memᴰ.cast (sym f) p)) | inr r ↦ elim r [ ] ]),
  λ z q. elim (Memᴰ.append_cases l q) [ inl p ↦ inl p | inr p ↦ elim (Memᴰ.cases_cons p) [ inl f ↦ inr f | inr r ↦ elim r [ ] ] ],
  λ z. elim [ inl q ↦ Memᴰ.append_left (s ∷ []) q | inr f ↦ Memᴰ.append_right l (Memᴰ.head f) ],
)

gather_apart : (l ss : List Sight) → Apart l → Apart (gather l ss)
gather_apart l [] a = a
gather_apart l (s ∷ ss) a = gather_apart (note s l) ss ((note_by (known s l) s l refl).0 a)

gather_from : (l ss : List Sight) (z : Sight) → In z (gather l ss) → In z l ⊎ In z ss
gather_from l [] z q = inl q
gather_from l (s ∷ ss) z q = elim (gather_from (note s l) ss z q) [
  | inl p ↦ elim ((note_by (known s l) s l refl).1 z p) [ inl o ↦ inl o | inr e ↦ inr (Memᴰ.head e) ]
  | inr p ↦ inr (Memᴰ.tail p)
]

gather_in : (l ss : List Sight) (z : Sight) → In z l ⊎ In z ss → In z (gather l ss)
gather_in l [] z q = elim q [ inl p ↦ p | inr p ↦ elim p [ ] ]
gather_in l (s ∷ ss) z q = gather_in (note s l) ss z (elim q [
  | inl p ↦ inl ((note_by (known s l) s l refl).2 z (inl p))
  | inr p ↦ elim (Memᴰ.cases_cons p) [ inl e ↦ inl ((note_by (known s l) s l refl).2 z (inr e)) | inr r ↦ inr r ]
])

-- the sights are as many as any list has that holds each of them once
pub sights_length : (w : Player) (p : Place) (all : List Sight) → Apart all → ((z : Sight) → In z (met w p) → In z all) → ((z : Sight) → In z all → In z (met w p)) →
    length (sights w p) ≡ length all
sights_length w p all a f g =
    as_long (sights w p) all (gather_apart [] (met w p) tt) a
    (λ z q. elim (gather_from [] (met w p) z q) [ inl n ↦ elim n [ ] | inr r ↦ f z r ])
    (λ z q. gather_in [] (met w p) z (inr (g z q)))
