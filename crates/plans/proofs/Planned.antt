-- A plan that was read is a plan; a sight that has weights has a row. Assumes nothing.
use Rattle.std.proofs.Common.{◌≡◌, ℕ, zero, suc, ◌<◌, ◌≤◌, Bool, true, false, eqb, List, [], ◌∷◌, length, get_or, take, drop, Some, None, Ok, Option, Result, sym, refl, ap, ◌∙◌, inl, inr, arith}
use Rattle.cards.specs.Game.{pick, total}
use Rattle.std.proofs.lemmas.List.{get_or-map, get_or_past, length-map}
use Rattle.std.proofs.lemmas.Bool.{eqb-true, cases_lt}
use Rattle.tree.specs.declared.Sight.{Sight}
use Rattle.tree.specs.Compact.{game_as}
use Rattle.tree.specs.Seen.{sights_of}
use Rattle.tree.specs.Told.{offers_of}
use Rattle.tree.proofs.Offers.{choices_are, sights_many}
use Rattle.plans.specs.declared.Row.{Row}
use Rattle.plans.specs.declared.Refusal.{Refusal}
use Rattle.plans.specs.declared.Refusal.TheVariants.{Length}
use Rattle.plans.specs.Plan.{plan_of, no_row}
use Rattle.plans.specs.Refusals.{holds}
use Rattle.plans.specs.Numbers.{numbers}
use Rattle.plans.specs.Bytes.{counts, bytes_of, row_of, rows_of, uneven, evened, plan_as}
use Rattle.plans.specs.Stands.{PlansStand}
use Rattle.plans.proofs.Reading.{no_sight, offers_most, offers_least}

-- what was taken
held : {X : Type 0} (t : Bool) (e : Refusal) (r : Result X Refusal) (v : X) → holds t e r ≡ Ok v → r ≡ Ok v
held true e r v h = h
held false e r v h = let z : ◌≡◌ {A = ℕ} 0 1 = cc in absurd (omega arith)

all_even : (rows : List Row) (o : Option ℕ) (v : List Row) → evened rows o ≡ Ok v → (o ≡ None) × (rows ≡ v)
all_even rows None v h = (refl, cc)
all_even rows (Some i) v h = let z : ◌≡◌ {A = ℕ} 0 1 = cc in absurd (omega arith)

-- the rows that were read
pub plan_rows : (x : ℕ) (zs : List Sight) (m : ℕ) (bytes : List ℕ) (rows : List Row) → plan_as x zs m bytes ≡ Ok rows →
    (uneven m 0 rows ≡ None) × (rows_of (counts x zs) (numbers bytes) ≡ rows)
plan_rows x zs m bytes rows h =
    let q = all_even (rows_of (counts x zs) (numbers bytes)) _ rows (held (eqb (length bytes) (bytes_of x zs)) (Length (length bytes)) _ rows h) in
    (ap (uneven m 0) (sym q.1) ∙ q.0, q.1)

length_rows : (cs ns : List ℕ) → length (rows_of cs ns) ≡ length cs
length_rows [] ns = refl
length_rows (c ∷ cs) ns = ap suc (length_rows cs (drop c ns))

row_in : (cs ns : List ℕ) (k : ℕ) → k < length cs → (n : List ℕ) × (get_or (rows_of cs ns) k no_row ≡ row_of (get_or cs k 0) n)
row_in [] ns k h = absurd (omega arith)
row_in (c ∷ cs) ns zero h = (ns, refl)
row_in (c ∷ cs) ns (suc k) h = row_in cs (drop c ns) k (omega arith)

even_pick : (t : Bool) (o : Option ℕ) (i : ℕ) → pick t o (Some i) ≡ None → (t ≡ true) × (o ≡ None)
even_pick true o i h = (refl, h)
even_pick false o i h = let z : ◌≡◌ {A = ℕ} 0 1 = cc in absurd (omega arith)

even_in : (m i : ℕ) (rows : List Row) (k : ℕ) → uneven m i rows ≡ None → k < length rows → total (get_or rows k no_row).weights ≡ m
even_in m i [] k e h = absurd (omega arith)
even_in m i (r ∷ rows) zero e h = eqb-true _ m (even_pick _ _ i e).0
even_in m i (r ∷ rows) (suc k) e h = even_in m (suc i) rows k (even_pick (eqb (total r.weights) m) _ i e).1 (omega arith)

-- a row of two or three weights, cut off where they end
cut_total : (c : ℕ) (n : List ℕ) → 2 ≤ c → c ≤ 3 → total (take c (row_of c n).weights) ≡ total (row_of c n).weights
unfolding total
cut_total zero n l h = absurd (omega arith)
cut_total (suc zero) n l h = absurd (omega arith)
cut_total (suc (suc zero)) n l h = omega arith
cut_total (suc (suc (suc zero))) n l h = refl
cut_total (suc (suc (suc (suc c)))) n l h = absurd (omega arith)

cut_length : (c : ℕ) (n : List ℕ) → 2 ≤ c → c ≤ 3 → length (take c (row_of c n).weights) ≡ c
cut_length zero n l h = absurd (omega arith)
cut_length (suc zero) n l h = absurd (omega arith)
cut_length (suc (suc zero)) n l h = refl
cut_length (suc (suc (suc zero))) n l h = refl
cut_length (suc (suc (suc (suc c)))) n l h = absurd (omega arith)

-- there is a row for each sight
pub plan_length : (x : ℕ) (zs : List Sight) (m : ℕ) (bytes : List ℕ) (rows : List Row) → plan_as x zs m bytes ≡ Ok rows → length rows ≡ length zs
plan_length x zs m bytes rows h =
    ap (λ (r : List Row). length r) (sym (plan_rows x zs m bytes rows h).1) ∙ length_rows (counts x zs) (numbers bytes) ∙ length-map zs (offers_of x)

-- at each sight the row holds a weight for each choice, and they sum to m
module _ (x : ℕ) (zs : List Sight) (m : ℕ) (bytes : List ℕ) (rows : List Row) (e : plan_as x zs m bytes ≡ Ok rows) (i : ℕ) (d : Sight) (l : i < length zs) where
  row_is : (n : List ℕ) × (get_or rows i no_row ≡ row_of (offers_of x (get_or zs i d)) n)
  row_is =
      let h : i < length (counts x zs) = (let q = length-map zs (offers_of x) in omega (arith, q)) in
      let r = row_in (counts x zs) (numbers bytes) i h in
      (r.0, ap (λ (w : List Row). get_or w i no_row) (sym (plan_rows x zs m bytes rows e).1) ∙ r.1 ∙ ap (λ c. row_of c r.0) (get_or-map (offers_of x) zs i d 0 l))

  pub plan_sizes : length (take (offers_of x (get_or zs i d)) (get_or rows i no_row).weights) ≡ offers_of x (get_or zs i d)
  plan_sizes =
      let z = get_or zs i d in
      ap (λ (r : Row). length (take (offers_of x z) r.weights)) row_is.1 ∙ cut_length (offers_of x z) row_is.0 (offers_least x z) (offers_most x z)

  pub plan_sums : total (take (offers_of x (get_or zs i d)) (get_or rows i no_row).weights) ≡ m
  plan_sums =
      let z = get_or zs i d in
      let h : i < length rows = (let q = plan_length x zs m bytes rows e in omega (arith, q)) in
      ap (λ (r : Row). total (take (offers_of x z) r.weights)) row_is.1 ∙ cut_total (offers_of x z) row_is.0 (offers_least x z) (offers_most x z)
      ∙ ap (λ (r : Row). total r.weights) (sym row_is.1) ∙ even_in m 0 rows i (plan_rows x zs m bytes rows e).0 h

pub plans_stand_lem : PlansStand
plans_stand_lem s m w bytes rows o e =
    let zs = sights_of w (game_as s) in
    let many = sights_many s o w in
    record {
      sums = λ i l. let k : i < length zs = omega (arith, many, l) in
          ap (λ c. total (take c (get_or rows i no_row).weights)) (choices_are s o w i no_sight k) ∙ plan_sums s.raises zs m bytes rows e i no_sight k;
      sizes = λ i l. let k : i < length zs = omega (arith, many, l) in
          ap (λ c. length (take c (get_or rows i no_row).weights)) (choices_are s o w i no_sight k) ∙ plan_sizes s.raises zs m bytes rows e i no_sight k ∙ sym (choices_are s o w i no_sight k);
    }

-- a sight whose weights sum to some is in the rows
zeros : (q : ℕ) → total (take q no_row.weights) ≡ 0
unfolding total
zeros zero = refl
zeros (suc zero) = refl
zeros (suc (suc zero)) = refl
zeros (suc (suc (suc zero))) = refl
zeros (suc (suc (suc (suc q)))) = refl

pub row_inside : (rows : List Row) (c : ℕ → ℕ) (j x : ℕ) → x < total (plan_of rows c j) → j < length rows
row_inside rows c j x h =
    elim (cases_lt j (length rows)) [
      | inl l ↦ l
      | inr l ↦
          (let e : total (plan_of rows c j) ≡ 0 = ap (λ v. total (take (c j) v.weights)) (get_or_past rows j no_row l) ∙ zeros (c j) in
          absurd (omega arith))
    ]
