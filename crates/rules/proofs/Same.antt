-- Sights are the same if the test says so, and a number is a sight's.
use Rattle.std.proofs.Common.{◌≡◌, ℕ, suc, ◌<◌, Bool, true, false, ◌&&◌, eqb, ◌⊎◌, List, [], ◌∷◌, ◌++◌, length, get_or, Some, None, Option, sym, refl, ap, ◌∙◌, subst, inl, inr, arith}
use Rattle.std.proofs.lemmas.Bool.{eqb-true, eq-eqb, and_parts, and_from, or_cases, or_left, or_right, both_ways}
use Rattle.cards.specs.Game.{pick}
use Rattle.rules.specs.Play.{Sight}
use Rattle.rules.specs.Sights.{same_public, same_choices, same_sight, known, note, gather, place}

public_eq : (c d : Option ℕ) → same_public c d ≡ true → c ≡ d
public_eq None None e = refl
public_eq None (Some q) e = absurd (both_ways false refl e)
public_eq (Some r) None e = absurd (both_ways false refl e)
public_eq (Some r) (Some q) e = ap Some (eqb-true r q e)

public_refl : (c : Option ℕ) → same_public c c ≡ true
public_refl None = refl
public_refl (Some r) = eq-eqb r r refl

choices_eq : (ks ls : List ℕ) → same_choices ks ls ≡ true → ks ≡ ls
choices_eq [] [] e = refl
choices_eq [] (l ∷ ls) e = absurd (both_ways false refl e)
choices_eq (k ∷ ks) [] e = absurd (both_ways false refl e)
choices_eq (k ∷ ks) (l ∷ ls) e =
    let (p, q) = and_parts (eqb k l) (same_choices ks ls) e in
    let p' = eqb-true k l p in let q' = choices_eq ks ls q in cc

choices_refl : (ks : List ℕ) → same_choices ks ks ≡ true
choices_refl [] = refl
choices_refl (k ∷ ks) = and_from _ _ (eq-eqb k k refl) (choices_refl ks)

pub sight_eq : (s z : Sight) → same_sight s z ≡ true → s ≡ z
sight_eq s z e =
    let (p, r) = and_parts (eqb s.own z.own) (same_public s.public z.public && same_choices s.choices z.choices) e in
    let (c, q) = and_parts (same_public s.public z.public) (same_choices s.choices z.choices) r in
    let p' = eqb-true s.own z.own p in
    let c' = public_eq s.public z.public c in
    let q' = choices_eq s.choices z.choices q in λ i. record { own = p' i; public = c' i; choices = q' i }

pub sight_refl : (s : Sight) → same_sight s s ≡ true
sight_refl s = and_from _ _ (eq-eqb s.own s.own refl) (and_from _ _ (public_refl s.public) (choices_refl s.choices))

-- a list's sights
pub known_left : (s : Sight) (a b : List Sight) → known s a ≡ true → known s (a ++ b) ≡ true
known_left s [] b e = absurd (both_ways false refl e)
known_left s (z ∷ a) b e = elim (or_cases (same_sight s z) (known s a) e) [ inl p ↦ or_left _ _ p | inr q ↦ or_right _ _ (known_left s a b q) ]

pub known_right : (s : Sight) (a b : List Sight) → known s b ≡ true → known s (a ++ b) ≡ true
known_right s [] b e = e
known_right s (z ∷ a) b e = or_right _ _ (known_right s a b e)

known_same : (s z : Sight) (l : List Sight) → same_sight s z ≡ true → known z l ≡ true → known s l ≡ true
known_same s z l e k = subst (λ (y : Sight). known y l ≡ true) (sym (sight_eq s z e)) k

-- what was met is noted, and stays
pub known_note : (s z : Sight) (l : List Sight) → known s l ≡ true → known s (note z l) ≡ true
known_note s z l e = go (known z l)
  where
    go : (b : Bool) → known s (pick b l (l ++ (z ∷ []))) ≡ true
    go true = e
    go false = known_left s l (z ∷ []) e

pub known_noted : (s : Sight) (l : List Sight) → known s (note s l) ≡ true
known_noted s l = go (known s l) refl
  where
    go : (b : Bool) → known s l ≡ b → known s (pick b l (l ++ (s ∷ []))) ≡ true
    go true e = e
    go false e = known_right s l (s ∷ []) (or_left _ _ (sight_refl s))

pub known_kept : (s : Sight) (l ss : List Sight) → known s l ≡ true → known s (gather l ss) ≡ true
known_kept s l [] e = e
known_kept s l (z ∷ ss) e = known_kept s (note z l) ss (known_note s z l e)

known_new : (s : Sight) (l ss : List Sight) → known s ss ≡ true → known s (gather l ss) ≡ true
known_new s l [] e = absurd (both_ways false refl e)
known_new s l (z ∷ ss) e = elim (or_cases (same_sight s z) (known s ss) e) [ inl p ↦ known_kept s (note z l) ss (known_same s z (note z l) p (known_noted z l)) | inr q ↦ known_new s (note z l) ss q ]

pub known_all : (s : Sight) (ss : List Sight) → known s ss ≡ true → known s (gather [] ss) ≡ true
known_all s ss e = known_new s [] ss e

pub gather_append : (l a b : List Sight) → gather l (a ++ b) ≡ gather (gather l a) b
gather_append l [] b = refl
gather_append l (z ∷ a) b = gather_append (note z l) a b

-- a number once given stays
place_append : (s : Sight) (l r : List Sight) → known s l ≡ true → place s (l ++ r) ≡ place s l
place_append s [] r e = absurd (both_ways false refl e)
place_append s (z ∷ l) r e = go (same_sight s z) refl (or_cases (same_sight s z) (known s l) e) (place_append s l r)
  where
    go : (b : Bool) → same_sight s z ≡ b → (same_sight s z ≡ true) ⊎ (known s l ≡ true) → (known s l ≡ true → place s (l ++ r) ≡ place s l) → pick b 0 (suc (place s (l ++ r))) ≡ pick b 0 (suc (place s l))
    go true b c f = refl
    go false b (inl p) f = absurd (both_ways (same_sight s z) b p)
    go false b (inr q) f = ap suc (f q)

pub place_kept : (s : Sight) (l ss : List Sight) → known s l ≡ true → place s (gather l ss) ≡ place s l
place_kept s l [] e = refl
place_kept s l (z ∷ ss) e = place_kept s (note z l) ss (known_note s z l e) ∙ go (known z l)
  where
    go : (b : Bool) → place s (pick b l (l ++ (z ∷ []))) ≡ place s l
    go true = refl
    go false = place_append s l (z ∷ []) e

-- a number gives its sight back
pub place_gives : (s : Sight) (l : List Sight) (d : Sight) → known s l ≡ true → get_or l (place s l) d ≡ s
place_gives s [] d e = absurd (both_ways false refl e)
place_gives s (z ∷ l) d e = go (same_sight s z) refl (or_cases (same_sight s z) (known s l) e) (place_gives s l d)
  where
    go : (b : Bool) → same_sight s z ≡ b → (same_sight s z ≡ true) ⊎ (known s l ≡ true) → (known s l ≡ true → get_or l (place s l) d ≡ s) → get_or (z ∷ l) (pick b 0 (suc (place s l))) d ≡ s
    go true b c f = sym (sight_eq s z b)
    go false b (inl p) f = absurd (both_ways (same_sight s z) b p)
    go false b (inr q) f = f q

pub place_low : (s : Sight) (l : List Sight) → known s l ≡ true → place s l < length l
place_low s [] e = absurd (both_ways false refl e)
place_low s (z ∷ l) e = go (same_sight s z) refl (or_cases (same_sight s z) (known s l) e) (place_low s l)
  where
    go : (b : Bool) → same_sight s z ≡ b → (same_sight s z ≡ true) ⊎ (known s l ≡ true) → (known s l ≡ true → place s l < length l) → pick b 0 (suc (place s l)) < suc (length l)
    go true b c f = omega arith
    go false b (inl p) f = absurd (both_ways (same_sight s z) b p)
    go false b (inr q) f = let h = f q in omega arith

-- two sights with one number are the same
pub place_one : (s z : Sight) (l : List Sight) → known s l ≡ true → place s l ≡ place z l → s ≡ z
place_one s z [] e p = absurd (both_ways false refl e)
place_one s z (y ∷ l) e p = go (same_sight s y) (same_sight z y) refl refl (or_cases (same_sight s y) (known s l) e) p (place_one s z l)
  where
    go : (b c : Bool) → same_sight s y ≡ b → same_sight z y ≡ c → (same_sight s y ≡ true) ⊎ (known s l ≡ true) → pick b 0 (suc (place s l)) ≡ pick c 0 (suc (place z l)) → (known s l ≡ true → place s l ≡ place z l → s ≡ z) → s ≡ z
    go true true b c k q f = sight_eq s y b ∙ sym (sight_eq z y c)
    go true false b c k q f = absurd (omega arith)
    go false true b c k q f = absurd (omega arith)
    go false false b c (inl r) q f = absurd (both_ways (same_sight s y) b r)
    go false false b c (inr r) q f = f r (omega arith)
