-- In a game that recalls, the reckoning gives a plan's worst: a floor, and a way that reaches it. Assumes nothing.
use Rattle.std.proofs.Common.{◌≡◌, ℕ, zero, suc, ◌+◌, ◌<◌, List, [], ◌∷◌, refl, ap, ◌∙◌, subst, arith}
use Rattle.cards.specs.Game.{Tree, Trees, Plan, Way, sum, along, at}
use Rattle.cards.specs.Played.{Move, Mind, Recalls, recalls_over, recalls_deal, recalls_ours, recalls_theirs, RecallsAll, recalls_none, recalls_more, RecallsAfter, after_none, after_more}
use Rattle.cards.specs.Promise.{Well, Worst}
use Rattle.cards.specs.Reckon.{worst}
use Rattle.cards.proofs.Moves.{move}
use Rattle.cards.proofs.Floors.{worst_floor}
use Rattle.cards.proofs.Resolve.{resolve, resolve_all, resolve_at}
use Rattle.cards.proofs.Reach.{worst_reach}

-- where each sight tells of all moves before it, a guest that chooses by its moves goes by a way
module _ (m : ℕ) (plan : Plan) (tells : ℕ → List Move) (mind : Mind) (any : Way) where
  abbrev told_way : Way
  told_way i = mind (tells i) i

  mutual
    told_sum : {q : List Move} {t : Tree} → Recalls tells q t → (n : ℕ) → sum m plan told_way t n ≡ sum m plan any (resolve mind q t) n
    told_sum recalls_over n = refl
    told_sum (recalls_deal r) zero = refl
    told_sum (recalls_deal {ws = ws} r) (suc n) = told_all r ws n
    told_sum (recalls_ours r) zero = refl
    told_sum (recalls_ours {i = i} r) (suc n) = told_all r (plan i) n
    told_sum (recalls_theirs {past = q} {i = i} {ts = ts} e r) n = ap (λ (p : List Move). at m plan told_way ts (mind p i) n) e ∙ told_after r (mind q i) (mind q i) (omega arith) n

    told_all : {q : List Move} {ts : Trees} → RecallsAll tells q ts → (ws : List ℕ) (n : ℕ) → along m plan told_way ts ws n ≡ along m plan any (resolve_all mind q ts) ws n
    told_all recalls_none ws n = refl
    told_all (recalls_more r rs) [] n = refl
    told_all (recalls_more r rs) (w ∷ ws) n = rw (told_sum r n, told_all rs ws n) refl

    told_after : {i j : ℕ} {q : List Move} {ts : Trees} → RecallsAfter tells i j q ts → (k c : ℕ) → j + k ≡ c → (n : ℕ) →
        at m plan told_way ts k n ≡ sum m plan any (resolve_at mind (move i c ∷ q) ts k) n
    told_after after_none k c e n = omega arith
    told_after (after_more {i = i} {k = j} {past = q} {t = t} r rs) zero c e n =
        let h : j ≡ c = omega arith in subst (λ (z : ℕ). sum m plan told_way t n ≡ sum m plan any (resolve mind (move i z ∷ q) t) n) h (told_sum r n)
    told_after (after_more r rs) (suc k) c e n = told_after rs k c (omega arith) n

-- the reckoning gives the worst of every plan
pub worst_is : (m : ℕ) (plan : Plan) (choices : ℕ → ℕ) (tells : ℕ → List Move) → ((i : ℕ) → 0 < choices i) → (n : ℕ) (t : Tree) → Well m plan choices n t → Recalls tells [] t → Worst m n plan choices t (worst m plan choices n t)
worst_is m plan choices tells some n t well recalls =
    let (mind, legal, e) = worst_reach m plan choices some (λ i. 0) n t well in
    record {
      floor = worst_floor m plan choices some n t well;
      way = λ i. mind (tells i) i;
      legal = λ i. legal (tells i) i;
      reached = told_sum m plan tells mind (λ i. 0) recalls n ∙ e;
    }
