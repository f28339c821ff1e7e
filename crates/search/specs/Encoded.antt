-- Rows of weights as bytes. Assumes nothing: these are definitions.
use Rattle.std.specs.Prelude.{ℕ, ◌/◌, ◌%◌, List, [], ◌∷◌, ◌++◌, nat_lt, slice_index}
use Rattle.cards.specs.Game.{pick}
use Rattle.tree.specs.declared.Sight.{Sight}
use Rattle.tree.specs.Told.{offers_of}
use Rattle.plans.specs.declared.Row.{Row}

-- a number below 2^32 as four bytes, the low byte first
abbrev pub four : ℕ → List ℕ
four n = n % 256 ∷ n / 256 % 256 ∷ n / 65536 % 256 ∷ n / 16777216 ∷ []

-- a weight for each of c choices
abbrev pub row_bytes : ℕ → List ℕ → List ℕ
row_bytes c ws = four (slice_index ws 0) ++ (four (slice_index ws 1) ++ pick (nat_lt 2 c) (four (slice_index ws 2)) [])

-- one row after the other
abbrev pub encoded : ℕ → List Sight → List Row → List ℕ
encoded x [] rows = []
encoded x (z ∷ zs) [] = []
encoded x (z ∷ zs) (r ∷ rows) = row_bytes (offers_of x z) r.weights ++ encoded x zs rows
