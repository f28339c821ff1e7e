-- A match in bytes, hand by hand.
use Rattle.std.proofs.Common.{◌≡◌, ℕ, zero, suc, ◌-◌, ◌*◌, ◌<◌, ◌≤◌, List, [], ◌∷◌, length, Some, None, Result, sym, refl, ap, ◌∙◌, arith}
use Rattle.std.proofs.lemmas.List.{length-drop}
use Rattle.cards.specs.Game.{Tree, Plan}
use Rattle.cards.specs.Played.{played_all, played}
use Rattle.rules.specs.declared.Ends.{Ends}
use Rattle.hands.specs.declared.Refusal.{Refusal}
use Rattle.hands.specs.Source.{words_of}
use Rattle.hands.specs.Laid.{Ended}
use Rattle.hands.specs.Match.{uncounted, rest_of, Lists, lists, first_of, cut_of, hand_of, hands_in, hands_of, outcomes_of, First}

pub rest_shorter : (u : ℕ) (bs : List ℕ) → length (rest_of u bs) ≤ length bs - 1
rest_shorter u [] = omega (arith, length-drop (0 * u) (uncounted []))
rest_shorter u (b ∷ bs) = omega (arith, length-drop (b * u) bs)

pub first_shorter : (bs : List ℕ) → 1 ≤ length bs → length (first_of bs).rest < length bs
first_shorter bs h = omega (arith, rest_shorter 1 bs, rest_shorter 4 (rest_of 1 bs))

-- as many as there are bytes are enough
hands_enough : (f g : ℕ) (bs : List ℕ) → length bs ≤ f → length bs ≤ g → hands_in f bs ≡ hands_in g bs
hands_enough zero zero bs h l = refl
hands_enough zero (suc g) [] h l = refl
hands_enough zero (suc g) (b ∷ bs) h l = absurd (omega arith)
hands_enough (suc f) zero [] h l = refl
hands_enough (suc f) zero (b ∷ bs) h l = absurd (omega arith)
hands_enough (suc f) (suc g) [] h l = refl
hands_enough (suc f) (suc g) (b ∷ bs) h l =
    let s = first_shorter (b ∷ bs) (omega arith) in
    ap (λ v. hand_of (first_of (b ∷ bs)) ∷ v) (hands_enough f g (first_of (b ∷ bs)).rest (omega arith) (omega arith))

pub hands_none : hands_of [] ≡ []
unfolding hands_of
hands_none = refl

pub hands_more : (bs : List ℕ) → 1 ≤ length bs → hands_of bs ≡ hand_of (first_of bs) ∷ hands_of (first_of bs).rest
unfolding hands_of
hands_more [] h = absurd (omega arith)
hands_more (b ∷ bs) h =
    let s = first_shorter (b ∷ bs) (omega arith) in
    ap (λ v. hand_of (first_of (b ∷ bs)) ∷ v) (hands_enough (length bs) (length (first_of (b ∷ bs)).rest) (first_of (b ∷ bs)).rest (omega arith) (omega arith))

-- hands are those of the first cut, and then those of the rest
pub cut_more : (bs : List ℕ) (l : Lists) → cut_of bs ≡ Some l → hands_of bs ≡ hand_of l ∷ hands_of l.rest
cut_more [] l e = let z : ◌≡◌ {A = ℕ} 0 1 = cc in absurd (omega arith)
cut_more (b ∷ bs) l e =
    let u : first_of (b ∷ bs) ≡ l = cc in
    hands_more (b ∷ bs) (omega arith) ∙ ap (λ v. hand_of v ∷ hands_of v.rest) u

pub cut_none : (bs : List ℕ) → cut_of bs ≡ None → bs ≡ []
cut_none [] e = refl
cut_none (b ∷ bs) e = let z : ◌≡◌ {A = ℕ} 0 1 = cc in absurd (omega arith)

pub first_ends :
    (k m : ℕ) (plan : Plan) (t : Tree) (bs cs ws rest : List ℕ) (r : Result Ends Refusal) → cut_of bs ≡ Some (lists cs ws rest) → Ended k (played m plan t cs (words_of ws)) r → First k m plan t bs r rest
first_ends k m plan t bs cs ws rest r e h =
    record { outcome = ap (λ v. played_all m plan t v) (cut_more bs (lists cs ws rest) e) ∙ ap (λ v. v ∷ outcomes_of m plan t rest) (sym h.outcome); shared = h.shared }

-- no bytes, no hands
pub outcomes_none : (m : ℕ) (plan : Plan) (t : Tree) → outcomes_of m plan t [] ≡ []
outcomes_none m plan t = ap (λ v. played_all m plan t v) hands_none
