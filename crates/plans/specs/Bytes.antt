-- A plan as bytes: for each sight a number for each choice. Assumes nothing: these are definitions.
use Rattle.std.specs.Prelude.{ℕ, suc, ◌*◌, List, [], ◌∷◌, map, length, drop, Some, None, Ok, Err, Option, Result, ◌==◌, nat_lt, slice_index}
use Rattle.cards.specs.Game.{pick, total}
use Rattle.tree.specs.declared.Sight.{Sight}
use Rattle.tree.specs.Told.{offers_of}
use Rattle.plans.specs.declared.Row.{Row}
use Rattle.plans.specs.declared.Refusal.{Refusal}
use Rattle.plans.specs.declared.Refusal.TheVariants.{Length, Sum}
use Rattle.plans.specs.Refusals.{holds}
use Rattle.plans.specs.Numbers.{numbers}

-- how many choices there are at each sight, where x raises may be made in a round
abbrev pub counts : ℕ → List Sight → List ℕ
counts x zs = map (offers_of x) zs

-- how many bytes a plan has
abbrev pub bytes_of : ℕ → List Sight → ℕ
bytes_of x zs = 4 * total (counts x zs)

-- the weights of c choices, two or three
abbrev pub row_of : ℕ → List ℕ → Row
row_of c ns = record { weights = slice_index ns 0 ∷ slice_index ns 1 ∷ pick (nat_lt 2 c) (slice_index ns 2) 0 ∷ [] }

-- one row after the other, with as many numbers as there are choices
abbrev pub rows_of : List ℕ → List ℕ → List Row
rows_of [] ns = []
rows_of (c ∷ cs) ns = row_of c ns ∷ rows_of cs (drop c ns)

-- the first row whose weights do not sum to m; rows are counted from i
abbrev pub uneven : ℕ → ℕ → List Row → Option ℕ
uneven m i [] = None
uneven m i (r ∷ rows) = pick (total r.weights == m) (uneven m (suc i) rows) (Some i)

abbrev pub evened : List Row → Option ℕ → Result (List Row) Refusal
evened rows None = Ok rows
evened rows (Some i) = Err (Sum i)

-- as many bytes as the choices at all sights ask for; the weights at each sight sum to m
abbrev pub plan_as : ℕ → List Sight → ℕ → List ℕ → Result (List Row) Refusal
plan_as x zs m bytes =
    holds (length bytes == bytes_of x zs) (Length (length bytes))
    (evened (rows_of (counts x zs) (numbers bytes)) (uneven m 0 (rows_of (counts x zs) (numbers bytes))))
