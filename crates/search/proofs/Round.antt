-- What is encoded is read again. Assumes nothing.
use Rattle.std.proofs.Common.{◌≡◌, ℕ, suc, ◌+◌, ◌*◌, ◌/◌, ◌%◌, Bool, true, false, ◌&&◌, ltb, leb, List, [], ◌∷◌, ◌++◌, length, drop, Some, None, Ok, refl, ap, ◌∙◌, arith}
use Rattle.cards.specs.Game.{pick, total}
use Rattle.std.proofs.lemmas.Bool.{eq-eqb}
use Rattle.tree.specs.declared.Sight.{Sight}
use Rattle.tree.specs.Told.{line_now, offers_of}
use Rattle.plans.specs.declared.Row.{Row}
use Rattle.plans.specs.declared.Refusal.TheVariants.{Length}
use Rattle.plans.specs.Refusals.{holds}
use Rattle.plans.specs.Numbers.{number_of_bytes, numbers}
use Rattle.plans.specs.Bytes.{counts, bytes_of, row_of, rows_of, uneven, evened, plan_as}
use Rattle.search.specs.Taken.{Fair, Taken}
use Rattle.search.specs.Encoded.{row_bytes, encoded}

-- whether there are three choices
abbrev three_offered : ℕ → Sight → Bool
three_offered x z = ltb 0 (line_now z.history.public z.history.first z.history.second).bets && leb (line_now z.history.public z.history.first z.history.second).bets x

digits : (n : ℕ) → number_of_bytes (n % 256) (n / 256 % 256) (n / 65536 % 256) (n / 16777216) ≡ n
digits n = omega arith

-- a row that is read from its bytes
row_back : (b : Bool) (m : ℕ) (ws rest : List ℕ) → Fair (pick b 3 2) m ws → row_of (pick b 3 2) (numbers (row_bytes (pick b 3 2) ws ++ rest)) ≡ record { weights = ws }
row_back b m [] rest h = let t = h.three in absurd (omega arith)
row_back b m (u ∷ []) rest h = let t = h.three in absurd (omega arith)
row_back b m (u ∷ v ∷ []) rest h = let t = h.three in absurd (omega arith)
row_back true m (u ∷ v ∷ w ∷ []) rest h =
    let d = digits u in let e = digits v in let f = digits w in
    rw (d, e, f) refl
row_back false m (u ∷ v ∷ w ∷ []) rest h =
    let d = digits u in let e = digits v in
    let z : w ≡ 0 = h.two (omega arith) in
    rw (d, e, z) refl
row_back b m (u ∷ v ∷ w ∷ y ∷ ws) rest h = let t = h.three in absurd (omega arith)

-- and what follows it
rest_back : (b : Bool) (ws rest : List ℕ) → drop (pick b 3 2) (numbers (row_bytes (pick b 3 2) ws ++ rest)) ≡ numbers rest
rest_back true ws rest = refl
rest_back false ws rest = refl

row_long : (b : Bool) (ws rest : List ℕ) → length (row_bytes (pick b 3 2) ws ++ rest) ≡ 4 * pick b 3 2 + length rest
row_long true ws rest = omega arith
row_long false ws rest = omega arith

rows_back : (x m : ℕ) (zs : List Sight) (rows : List Row) → Taken x m zs rows → rows_of (counts x zs) (numbers (encoded x zs rows)) ≡ rows
rows_back x m [] [] h = refl
rows_back x m [] (r ∷ rows) h = absurd h
rows_back x m (z ∷ zs) [] h = absurd h
rows_back x m (z ∷ zs) (r ∷ rows) h =
    let N = numbers (row_bytes (offers_of x z) r.weights ++ encoded x zs rows) in
    let e : row_of (offers_of x z) N ≡ r = row_back (three_offered x z) m r.weights (encoded x zs rows) h.0 in
    let f : drop (offers_of x z) N ≡ numbers (encoded x zs rows) = rest_back (three_offered x z) r.weights (encoded x zs rows) in
    ap (λ q. row_of (offers_of x z) N ∷ rows_of (counts x zs) q) f ∙ ap (λ q. q ∷ rows_of (counts x zs) (numbers (encoded x zs rows))) e
    ∙ ap (λ q. r ∷ q) (rows_back x m zs rows h.1)

long : (x m : ℕ) (zs : List Sight) (rows : List Row) → Taken x m zs rows → length (encoded x zs rows) ≡ bytes_of x zs
unfolding total
long x m [] [] h = refl
long x m [] (r ∷ rows) h = absurd h
long x m (z ∷ zs) [] h = absurd h
long x m (z ∷ zs) (r ∷ rows) h =
    let e : length (row_bytes (offers_of x z) r.weights ++ encoded x zs rows) ≡ 4 * offers_of x z + length (encoded x zs rows) = row_long (three_offered x z) r.weights (encoded x zs rows) in
    let i : length (encoded x zs rows) ≡ 4 * total (counts x zs) = long x m zs rows h.1 in
    omega (arith, e, i)

all_even : (x m i : ℕ) (zs : List Sight) (rows : List Row) → Taken x m zs rows → uneven m i rows ≡ None
all_even x m i [] [] h = refl
all_even x m i [] (r ∷ rows) h = absurd h
all_even x m i (z ∷ zs) [] h = absurd h
all_even x m i (z ∷ zs) (r ∷ rows) h = ap (λ t. pick t (uneven m (suc i) rows) (Some i)) (eq-eqb _ _ h.0.sums) ∙ all_even x m (suc i) zs rows h.1

pub round : (x m : ℕ) (zs : List Sight) (rows : List Row) → Taken x m zs rows → plan_as x zs m (encoded x zs rows) ≡ Ok rows
round x m zs rows h =
    let bytes = encoded x zs rows in
    let e = rows_back x m zs rows h in
    ap (λ t. holds t (Length (length bytes)) (evened (rows_of (counts x zs) (numbers bytes)) (uneven m 0 (rows_of (counts x zs) (numbers bytes))))) (eq-eqb _ _ (long x m zs rows h))
    ∙ ap (λ q. evened q (uneven m 0 q)) e ∙ ap (evened rows) (all_even x m 0 zs rows h)
