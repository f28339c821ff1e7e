-- The trees of two sights of the guest have no later sight in common.
use Rattle.std.proofs.Common.{◌≡◌, ℕ, Bool, false, eqb, List, [], ◌∷◌, ◌++◌, length, sym, refl, ap, ◌∙◌, append_assoc, arith, length-append}
use Rattle.cards.specs.Game.{Tree, theirs, Trees, pick}
use Rattle.cards.specs.Played.{Move, Recalls, recalls_over, recalls_deal, recalls_ours, recalls_theirs, RecallsAll, recalls_none, recalls_more, RecallsAfter, after_none, after_more}
use Rattle.cards.specs.Apart.{Met, met_here, met_deal, met_ours, met_theirs, Mets, mets_first, mets_later, SightsLieApart}
use Rattle.std.proofs.lemmas.Bool.{eq-eqb, ne_eqb, eqb-true}

-- does a list of moves, the last first, go on from p by a move at sight i
abbrev through : ℕ → List Move → List Move → Bool
through i p [] = false
through i p (z ∷ l) = pick (eqb (length l) (length p)) (eqb z.sight i) (through i p l)

through_at : (i : ℕ) (p pre : List Move) (z : Move) → through i p (pre ++ (z ∷ p)) ≡ eqb z.sight i
through_at i p [] z = rw (eq-eqb (length p) (length p) refl)
through_at i p (y ∷ pre) z =
    let h = length-append pre (z ∷ p) in
    let ne : length (pre ++ (z ∷ p)) ≡ length p → ⊥ = λ e. omega arith in
    rw (ne_eqb (length (pre ++ (z ∷ p))) (length p) ne) (through_at i p pre z)

module _ (tells : ℕ → List Move) (s : ℕ) where
  mutual
    below : {q : List Move} {t : Tree} → Recalls tells q t → Met s t → (pre : List Move) × (tells s ≡ pre ++ q)
    below recalls_over x = elim x [ ]
    below (recalls_deal r) (met_deal x) = below_all r x
    below (recalls_ours r) (met_ours x) = below_all r x
    below (recalls_theirs e r) met_here = ([], e)
    below (recalls_theirs {past = q} {i = i} e r) (met_theirs x) = let b = below_after r x in (b.1 ++ (record { sight = i; choice = b.0 } ∷ []), b.2 ∙ sym (append_assoc b.1 (record { sight = i; choice = b.0 } ∷ []) q))

    below_all : {q : List Move} {ts : Trees} → RecallsAll tells q ts → Mets s ts → (pre : List Move) × (tells s ≡ pre ++ q)
    below_all recalls_none x = elim x [ ]
    below_all (recalls_more r rs) (mets_first x) = below r x
    below_all (recalls_more r rs) (mets_later x) = below_all rs x

    below_after : {i j : ℕ} {q : List Move} {ts : Trees} → RecallsAfter tells i j q ts → Mets s ts → (k : ℕ) × (pre : List Move) × (tells s ≡ pre ++ (record { sight = i; choice = k } ∷ q))
    below_after after_none x = elim x [ ]
    below_after (after_more {k = k} r rs) (mets_first x) = (k, (below r x).0, (below r x).1)
    below_after (after_more r rs) (mets_later x) = below_after rs x

  -- two places with the same past, at sights i and j: a sight that comes later at both has i for j
  no_common : {i j : ℕ} {q : List Move} {ts us : Trees} → Recalls tells q (theirs i ts) → Recalls tells q (theirs j us) → Mets s ts → Mets s us → i ≡ j
  no_common {i} {j} {q} (recalls_theirs e r) (recalls_theirs f w) x y =
      let a = below_after r x in
      let b = below_after w y in
      eqb-true i j (sym (through_at j q a.1 (record { sight = i; choice = a.0 })) ∙ ap (through j q) (sym a.2 ∙ b.2) ∙ through_at j q b.1 (record { sight = j; choice = b.0 }) ∙ eq-eqb j j refl)

pub sights_lie_apart : SightsLieApart
unfolding SightsLieApart
sights_lie_apart tells s i j past ts us r w x y = no_common tells s r w x y
