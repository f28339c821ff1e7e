-- A table of the sights met so far. Assumes nothing.
use Rattle.std.proofs.Common.{◌≡◌, ℕ, zero, suc, ◌+◌, ◌*◌, ◌/◌, ◌%◌, ◌<◌, Bool, true, false, ◌||◌, ◌≢◌, ◌⊎◌, List, [], ◌∷◌, ◌++◌, length, get_or, set, Some, None, Option, sym, refl, ap, ◌∙◌, inl, inr, arith}
use lib.Arith.{digits_div, digits_mod}
use Rattle.cards.specs.Game.{pick}
use Rattle.std.proofs.lemmas.List.{get_or-set_same, get_or-set_other}
use Rattle.std.proofs.lemmas.Bool.{cases_Bool, both_ways}
use Rattle.tree.specs.declared.Sight.{Sight}
use Rattle.tree.specs.Seen.{same_stored_sight, place_of, known}
use Rattle.tree.specs.Slots.{slot_of, public_slot, line_slot, InRange, entry_of, Tabled}
use Rattle.tree.proofs.Equal.{sight_same, sight_itself}

same_digits : (c q r p s : ℕ) → r < c → s < c → q * c + r ≡ p * c + s → (q ≡ p) × (r ≡ s)
same_digits c q r p s hr hs e =
    (sym (digits_div q hr) ∙ ap (λ n. n / c) e ∙ digits_div p hs, sym (digits_mod q hr) ∙ ap (λ n. n % c) e ∙ digits_mod p hs)

public_same : (a b : Option ℕ) → public_slot a ≡ public_slot b → a ≡ b
public_same None None e = refl
public_same None (Some q) e = absurd (omega (arith, e))
public_same (Some r) None e = absurd (omega (arith, e))
public_same (Some r) (Some q) e = let h : r ≡ q = omega (arith, e) in ap Some h

abbrev mk : ℕ → ℕ → ℕ → Option ℕ → ℕ → ℕ → Sight
mk o c1 b1 p c2 b2 = record { own = o; history = record { first = record { checks = c1; bets = b1 }; public = p; second = record { checks = c2; bets = b2 } } }

pub slot_same : (n : ℕ) (a b : Sight) → InRange n a → InRange n b → slot_of a ≡ slot_of b → a ≡ b
slot_same n a b x y e =
    let la : line_slot a.history.second < 15 = (let p = x.checks2 in let q = x.bets2 in omega arith) in
    let lb : line_slot b.history.second < 15 = (let p = y.checks2 in let q = y.bets2 in omega arith) in
    let ka : line_slot a.history.first < 15 = (let p = x.checks1 in let q = x.bets1 in omega arith) in
    let kb : line_slot b.history.first < 15 = (let p = y.checks1 in let q = y.bets1 in omega arith) in
    let top : Sight → ℕ = λ z. public_slot z.history.public * 15 + line_slot z.history.second in
    let d1 = same_digits 15 (top a * 13 + a.own) (line_slot a.history.first) (top b * 13 + b.own) (line_slot b.history.first) ka kb e in
    let d0 = same_digits 13 (top a) a.own (top b) b.own x.own y.own d1.0 in
    let d2 = same_digits 15 (public_slot a.history.public) (line_slot a.history.second) (public_slot b.history.public) (line_slot b.history.second) la lb d0.0 in
    let s2 = same_digits 5 a.history.second.checks a.history.second.bets b.history.second.checks b.history.second.bets x.bets2 y.bets2 d2.1 in
    let s1 = same_digits 5 a.history.first.checks a.history.first.bets b.history.first.checks b.history.first.bets x.bets1 y.bets1 d1.1 in
    let p = public_same a.history.public b.history.public d2.0 in
    ap (λ n. mk n a.history.first.checks a.history.first.bets a.history.public a.history.second.checks a.history.second.bets) d0.1
    ∙ ap (λ n. mk b.own n a.history.first.bets a.history.public a.history.second.checks a.history.second.bets) s1.0
    ∙ ap (λ n. mk b.own b.history.first.checks n a.history.public a.history.second.checks a.history.second.bets) s1.1
    ∙ ap (λ n. mk b.own b.history.first.checks b.history.first.bets n a.history.second.checks a.history.second.bets) p
    ∙ ap (λ n. mk b.own b.history.first.checks b.history.first.bets b.history.public n a.history.second.bets) s2.0
    ∙ ap (λ n. mk b.own b.history.first.checks b.history.first.bets b.history.public b.history.second.checks n) s2.1

-- the entry of a sight when one is added at the end
entry_step : (b k : Bool) (p : ℕ) → pick (b || k) (suc (pick b 0 (suc p))) 0 ≡ pick b 1 (pick k (suc (suc p)) 0)
entry_step true k p = refl
entry_step false true p = refl
entry_step false false p = refl

grown : (b : Bool) (e f : ℕ) → e ≡ f → pick b 1 e ≡ pick b 1 f
grown b e f h = ap (pick b 1) h

-- as the list grows by one at its front, an entry of its rest grows by one
abbrev later : ℕ → ℕ
later zero = 0
later (suc n) = suc (suc n)

later_entry : (k : Bool) (p : ℕ) → later (pick k (suc p) 0) ≡ pick k (suc (suc p)) 0
later_entry true p = refl
later_entry false p = refl

entry_cons : (z y : Sight) (l : List Sight) → entry_of z (y ∷ l) ≡ pick (same_stored_sight z y) 1 (later (entry_of z l))
entry_cons z y l = entry_step (same_stored_sight z y) (known z l) (place_of z l) ∙ ap (pick (same_stored_sight z y) 1) (sym (later_entry (known z l) (place_of z l)))

pub entry_other : (z y : Sight) (l : List Sight) → same_stored_sight z y ≡ false → entry_of z (l ++ (y ∷ [])) ≡ entry_of z l
entry_other z y [] e = entry_cons z y [] ∙ ap (λ b. pick b 1 0) e
entry_other z y (x ∷ l) e = entry_cons z x (l ++ (y ∷ [])) ∙ ap (λ n. pick (same_stored_sight z x) 1 (later n)) (entry_other z y l e) ∙ sym (entry_cons z x l)

-- a sight that is not in the list gets the next number
one_zero : (b : Bool) (n : ℕ) → pick b 1 (later n) ≡ 0 → (b ≡ false) × (n ≡ 0)
one_zero true n e = absurd (omega (arith, e))
one_zero false zero e = (refl, refl)
one_zero false (suc n) e = absurd (omega (arith, e))

pub entry_new : (z : Sight) (l : List Sight) → entry_of z l ≡ 0 → entry_of z (l ++ (z ∷ [])) ≡ suc (length l)
entry_new z [] e = entry_cons z z [] ∙ ap (λ b. pick b 1 0) (sight_itself z)
entry_new z (x ∷ l) e =
    let p = one_zero (same_stored_sight z x) (entry_of z l) (sym (entry_cons z x l) ∙ e) in
    entry_cons z x (l ++ (z ∷ [])) ∙ ap (λ b. pick b 1 (later (entry_of z (l ++ (z ∷ []))))) p.0 ∙ ap later (entry_new z l p.1)

tabled_more : (n : ℕ) (t : List ℕ) (l : List Sight) (y : Sight) → InRange n y → slot_of y < length t → get_or t (slot_of y) 0 ≡ 0 →
    Tabled n t l → (z : Sight) → InRange n z → get_or (set t (slot_of y) (length l + 1)) (slot_of z) 0 ≡ entry_of z (l ++ (y ∷ []))
tabled_more n t l y ry h e inv z rz = go (cases_Bool (same_stored_sight z y))
  where
    go : (same_stored_sight z y ≡ true) ⊎ (same_stored_sight z y ≡ false) → get_or (set t (slot_of y) (length l + 1)) (slot_of z) 0 ≡ entry_of z (l ++ (y ∷ []))
    go (inl s) =
        let q : z ≡ y = sight_same z y s in
        let one : length l + 1 ≡ suc (length l) = omega arith in
        ap (λ k. get_or (set t (slot_of y) (length l + 1)) (slot_of k) 0) q ∙ get_or-set_same t (slot_of y) (length l + 1) 0 h ∙ one
        ∙ sym (entry_new y l (sym (inv y ry) ∙ e)) ∙ ap (λ k. entry_of k (l ++ (y ∷ []))) (sym q)
    go (inr s) =
        let ne : slot_of z ≢ slot_of y = λ k. both_ways (same_stored_sight z y) s (ap (same_stored_sight z) (sym (slot_same n z y rz ry k)) ∙ sight_itself z) in
        get_or-set_other t (slot_of y) (slot_of z) (length l + 1) 0 ne ∙ inv z rz ∙ sym (entry_other z y l s)

none_place : (b k : Bool) (p n : ℕ) → (k ≡ false → p ≡ n) → (b || k) ≡ false → pick b 0 (suc p) ≡ suc n
none_place true k p n f e = absurd (both_ways true e refl)
none_place false k p n f e = ap suc (f e)

pub unknown_place : (z : Sight) (l : List Sight) → known z l ≡ false → place_of z l ≡ length l
unknown_place z [] e = refl
unknown_place z (x ∷ l) e = none_place (same_stored_sight z x) (known z l) (place_of z l) (length l) (unknown_place z l) e

some_place : (b k : Bool) (p n : ℕ) → (k ≡ true → p < n) → (b || k) ≡ true → pick b 0 (suc p) < suc n
some_place true k p n f e = omega arith
some_place false k p n f e = let h = f e in omega arith

pub known_place : (z : Sight) (l : List Sight) → known z l ≡ true → place_of z l < length l
known_place z [] e = absurd (both_ways false refl e)
known_place z (x ∷ l) e = some_place (same_stored_sight z x) (known z l) (place_of z l) (length l) (known_place z l) e

zero_unknown : (b : Bool) (p : ℕ) → pick b (suc p) 0 ≡ 0 → b ≡ false
zero_unknown true p e = absurd (omega (arith, e))
zero_unknown false p e = refl

some_known : (b : Bool) (p : ℕ) → (pick b (suc p) 0 ≡ 0 → ⊥) → b ≡ true
some_known true p f = refl
some_known false p f = absurd (f refl)

pub entry_none : (z : Sight) (l : List Sight) (t : ℕ) → t ≡ entry_of z l → t ≡ 0 → place_of z l ≡ length l
entry_none z l t e h = unknown_place z l (zero_unknown (known z l) (place_of z l) (sym e ∙ h))

pub entry_some : (z : Sight) (l : List Sight) (t : ℕ) → t ≡ entry_of z l → (t ≡ 0 → ⊥) → place_of z l < length l
entry_some z l t e h = known_place z l (some_known (known z l) (place_of z l) (λ q. h (e ∙ q)))

pub tabled_new : (j : ℕ) (t u : List ℕ) (l m : List Sight) (y : Sight) (k n : ℕ) → InRange j y → k ≡ slot_of y → k < length t → get_or t k 0 ≡ 0 → n ≡ length l → u ≡ set t k (n + 1) → m ≡ l ++ (y ∷ []) →
    Tabled j t l → Tabled j u m
tabled_new j t u l m y k n ry ek h e en eu em inv z rz =
    ap (λ v. get_or v (slot_of z) 0) (eu ∙ ap (λ i. set t i (n + 1)) ek ∙ ap (λ i. set t (slot_of y) (i + 1)) en)
    ∙ tabled_more j t l y ry (omega (arith, ek)) (ap (λ i. get_or t i 0) (sym ek) ∙ e) inv z rz ∙ ap (entry_of z) (sym em)

pub tabled_same : (j : ℕ) (t u : List ℕ) (l m : List Sight) → u ≡ t → m ≡ l →
    Tabled j t l → Tabled j u m
tabled_same j t u l m eu em inv z rz = ap (λ v. get_or v (slot_of z) 0) eu ∙ inv z rz ∙ ap (entry_of z) (sym em)
