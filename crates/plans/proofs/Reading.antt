-- How a plan is read sight by sight. Assumes nothing.
use Rattle.std.proofs.Common.{◌≡◌, ℕ, suc, ◌+◌, ◌-◌, ◌*◌, ◌<◌, ◌≤◌, Bool, true, false, eqb, List, [], ◌∷◌, ◌++◌, map, sum, sum_by, length, get_or, take, drop, Some, None, Ok, Err, sym, refl, ap, subst, ◌∙◌, append_assoc, append-nil, arith}
use Rattle.cards.specs.Game.{pick, total}
use Rattle.std.proofs.lemmas.List.Sums.{sum-map, sum_by-cons}
use Rattle.std.proofs.lemmas.List.{at_drop_more, at_drop_all, length-drop, take_rest}
use Rattle.std.proofs.lemmas.Bool.{eq-eqb, ne_eqb, eqb-true, eqb-false}
use Rattle.tree.specs.declared.Sight.{Sight}
use Rattle.tree.specs.Told.{offers_of}
use Rattle.plans.specs.declared.Row.{Row}
use Rattle.plans.specs.declared.Refusal.TheVariants.{Length, Sum}
use Rattle.plans.specs.Refusals.{holds}
use Rattle.plans.specs.Numbers.{numbers}
use Rattle.plans.specs.Bytes.{counts, bytes_of, row_of, rows_of, uneven, evened, plan_as}
use Rattle.plans.proofs.Weights.{numbers_on}
use Rattle.rules.proofs.Passed.{some_picked}
use Rattle.plans.proofs.Products.{none_picked}

three_most : (b : Bool) → pick b 3 2 ≤ 3
three_most true = omega arith
three_most false = omega arith

two_least : (b : Bool) → 2 ≤ pick b 3 2
two_least true = omega arith
two_least false = omega arith

pub offers_most : (x : ℕ) (z : Sight) → offers_of x z ≤ 3
offers_most x z = three_most _

pub offers_least : (x : ℕ) (z : Sight) → 2 ≤ offers_of x z
offers_least x z = two_least _

-- how many choices there are at all sights together
added_total : (x : ℕ) (zs : List Sight) → sum_by (offers_of x) zs ≡ total (counts x zs)
unfolding total
added_total x [] = refl
added_total x (z ∷ zs) = sum_by-cons (offers_of x) z zs ∙ ap (λ n. offers_of x z + n) (added_total x zs)

added_most : (x : ℕ) (zs : List Sight) → sum_by (offers_of x) zs ≤ 3 * length zs
added_most x [] = omega arith
added_most x (z ∷ zs) = omega (arith, sum_by-cons (offers_of x) z zs, offers_most x z, added_most x zs)

pub counts_sum : (x : ℕ) (zs : List Sight) → sum (map (offers_of x) zs) ≡ total (counts x zs)
counts_sum x zs = sum-map (offers_of x) zs ∙ added_total x zs

pub counts_most : (x : ℕ) (zs : List Sight) → sum (map (offers_of x) zs) ≤ 3 * length zs
counts_most x zs = omega (arith, sum-map (offers_of x) zs, added_most x zs)

-- the bytes of the sights that are left
pub bytes_more : (x i : ℕ) (zs : List Sight) (d : Sight) → i < length zs → bytes_of x (drop i zs) ≡ 4 * offers_of x (get_or zs i d) + bytes_of x (drop (i + 1) zs)
unfolding total
bytes_more x i zs d h =
    let e : 4 * total (counts x (drop i zs)) ≡ 4 * (offers_of x (get_or zs i d) + total (counts x (drop (i + 1) zs))) = at_drop_more (bytes_of x) zs i d h in omega (arith, e)

-- i sights are read, their rows have the weights that they should, and these bytes are left
pub record Left (x : ℕ) (zs : List Sight) (m : ℕ) (bytes : List ℕ) (i : ℕ) (left : List ℕ) (rows : List Row) : Type 0 where
  pub whole : length bytes ≡ bytes_of x zs
  pub room : bytes_of x (drop i zs) ≡ length left
  pub rows_are : rows_of (counts x zs) (numbers bytes) ≡ rows ++ rows_of (counts x (drop i zs)) (numbers left)
  pub even_are : uneven m 0 (rows_of (counts x zs) (numbers bytes)) ≡ uneven m i (rows_of (counts x (drop i zs)) (numbers left))

module _ (x : ℕ) (zs : List Sight) (m : ℕ) (bytes : List ℕ) where
  pub left_start : length bytes ≡ bytes_of x zs → Left x zs m bytes 0 bytes []
  left_start h = record { whole = h; room = omega (arith, h); rows_are = refl; even_are = refl }

  pub plan_short : (length bytes ≡ bytes_of x zs → ⊥) → plan_as x zs m bytes ≡ Err (Length (length bytes))
  plan_short h = ap (λ t. holds t (Length (length bytes)) (evened (rows_of (counts x zs) (numbers bytes)) (uneven m 0 (rows_of (counts x zs) (numbers bytes))))) (ne_eqb _ _ h)

  whole_plan : length bytes ≡ bytes_of x zs → plan_as x zs m bytes ≡ evened (rows_of (counts x zs) (numbers bytes)) (uneven m 0 (rows_of (counts x zs) (numbers bytes)))
  whole_plan h = ap (λ t. holds t (Length (length bytes)) (evened (rows_of (counts x zs) (numbers bytes)) (uneven m 0 (rows_of (counts x zs) (numbers bytes))))) (eq-eqb _ _ h)

  module _ (i : ℕ) (left : List ℕ) (rows : List Row) (l : Left x zs m bytes i left rows) where
    pub left_all : length zs ≤ i → plan_as x zs m bytes ≡ Ok rows
    left_all h =
        let none : counts x (drop i zs) ≡ [] = at_drop_all (counts x) zs i h in
        let e : rows_of (counts x zs) (numbers bytes) ≡ rows = l.rows_are ∙ ap (λ c. rows ++ rows_of c (numbers left)) none ∙ append-nil rows in
        let u : uneven m 0 (rows_of (counts x zs) (numbers bytes)) ≡ None = l.even_are ∙ ap (λ c. uneven m i (rows_of c (numbers left))) none in
        whole_plan l.whole ∙ ap (evened (rows_of (counts x zs) (numbers bytes))) u ∙ ap (λ (r : List Row). Ok r) e

    module _ (d : Sight) (h : i < length zs) (c : ℕ) (ce : c ≡ offers_of x (get_or zs i d)) where
      pub left_room : 4 * c ≤ length left
      left_room = let b = bytes_more x i zs d h in omega (arith, b, l.room)

      -- the row that is next
      next_rows : rows_of (counts x (drop i zs)) (numbers left) ≡ row_of c (numbers left) ∷ rows_of (counts x (drop (i + 1) zs)) (numbers (drop (4 * c) left))
      next_rows =
          let N = numbers left in
          let e : rows_of (counts x (drop i zs)) N ≡ row_of (offers_of x (get_or zs i d)) N ∷ rows_of (counts x (drop (i + 1) zs)) (drop (offers_of x (get_or zs i d)) N) =
          at_drop_more (λ q. rows_of (counts x q) N) zs i d h in
          e ∙ ap (λ k. row_of k N ∷ rows_of (counts x (drop (i + 1) zs)) (drop k N)) (sym ce)
          ∙ ap (λ n. row_of c N ∷ rows_of (counts x (drop (i + 1) zs)) n) (sym (numbers_on c left))

      module _ (row : Row) (re : row ≡ row_of c (numbers left)) where
        next_even : uneven m 0 (rows_of (counts x zs) (numbers bytes))
            ≡ pick (eqb (total row.weights) m) (uneven m (suc i) (rows_of (counts x (drop (i + 1) zs)) (numbers (drop (4 * c) left)))) (Some i)
        next_even = l.even_are ∙ ap (uneven m i) (next_rows ∙ ap (λ r. r ∷ rows_of (counts x (drop (i + 1) zs)) (numbers (drop (4 * c) left))) (sym re))

        next_left : total row.weights ≡ m → (more : List Row) → more ≡ rows ++ (row ∷ []) → Left x zs m bytes (i + 1) (drop (4 * c) left) more
        next_left q more p =
            let rest = rows_of (counts x (drop (i + 1) zs)) (numbers (drop (4 * c) left)) in
            let b = bytes_more x i zs d h in
            let s : suc i ≡ i + 1 = omega arith in
            record {
              whole = l.whole;
              room = simp length-drop (omega (arith, b, l.room));
              rows_are = l.rows_are ∙ ap (λ r. rows ++ r) (next_rows ∙ ap (λ r. r ∷ rest) (sym re)) ∙ sym (append_assoc rows (row ∷ []) rest) ∙ ap (λ r. r ++ rest) (sym p);
              even_are = next_even ∙ ap (λ t. pick t (uneven m (suc i) rest) (Some i)) (eq-eqb _ _ q) ∙ ap (λ k. uneven m k rest) s;
            }

        pub left_more : total row.weights ≡ m → (more : List Row) → more ≡ rows ++ (row ∷ []) → Left x zs m bytes (i + 1) (take (length left - 4 * c) (drop (4 * c) left)) more
        left_more q more p = subst (λ b. Left x zs m bytes (i + 1) b more) (sym (take_rest left (4 * c))) (next_left q more p)

        pub left_odd : (total row.weights ≡ m → ⊥) → plan_as x zs m bytes ≡ Err (Sum i)
        left_odd q =
            let rest = rows_of (counts x (drop (i + 1) zs)) (numbers (drop (4 * c) left)) in
            whole_plan l.whole ∙ ap (evened (rows_of (counts x zs) (numbers bytes))) (next_even ∙ ap (λ t. pick t (uneven m (suc i) rest) (Some i)) (ne_eqb _ _ q))

-- what is read past the end
abbrev pub no_sight : Sight
no_sight = record { own = 0; history = record { first = record { checks = 0; bets = 0 }; public = None; second = record { checks = 0; bets = 0 } } }

-- what the check of a row's sum says
pub sum_right : (r row s : Row) (m : ℕ) → Some r ≡ pick (eqb (total row.weights) m) (Some row) None → row ≡ s → (r ≡ s) × (total r.weights ≡ m)
sum_right r row s m e p =
    let q = some_picked (eqb (total row.weights) m) row r e in (q.1 ∙ p, ap (λ (w : Row). total w.weights) q.1 ∙ eqb-true _ m q.0)

pub sum_wrong : (row : Row) (m : ℕ) → None ≡ pick (eqb (total row.weights) m) (Some row) None → total row.weights ≡ m → ⊥
sum_wrong row m e = eqb-false _ m (none_picked _ row e)
