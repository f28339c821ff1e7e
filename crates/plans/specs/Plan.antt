-- A plan as it lies in a row of weights. Assumes nothing: these are definitions.
use Rattle.std.specs.Prelude.{ℕ, List, [], ◌∷◌, take, slice_index_or}
use Rattle.cards.specs.Game.{Plan}
use Rattle.plans.specs.declared.Row.{Row}

-- what stands past the end
abbrev pub no_row : Row
no_row = record { weights = 0 ∷ 0 ∷ 0 ∷ [] }

-- where house sight i has c i choices
abbrev pub plan_of : List Row → (ℕ → ℕ) → Plan
plan_of rows c i = take (c i) (slice_index_or rows i no_row).weights
