-- Rows of weights that a plan with base m may have. Assumes nothing: these are definitions.
use Rattle.std.specs.Prelude.{◌≡◌, ℕ, ◌-◌, ◌≤◌, min, List, [], ◌∷◌, length, nat_lt, slice_index}
use Rattle.cards.specs.Game.{pick, total}
use Rattle.tree.specs.declared.Sight.{Sight}
use Rattle.tree.specs.Told.{offers_of}
use Rattle.plans.specs.declared.Row.{Row}

-- the weights of a sight with c choices sum to m, and the third is 0 where there are two
pub record Fair (c m : ℕ) (ws : List ℕ) : Type 0 where
  pub three : length ws ≡ 3
  pub sums : total ws ≡ m
  pub two : c ≤ 2 → slice_index ws 2 ≡ 0

-- weights for c choices, of m in all: the first and the second as far as m goes, the last choice has the rest
abbrev pub weights_of : ℕ → ℕ → ℕ → ℕ → List ℕ
weights_of first second c m =
    let a = min first m in
    let b = min second (m - a) in
    pick (nat_lt c 3) (a ∷ (m - a) ∷ 0 ∷ []) (a ∷ b ∷ (m - a - b) ∷ [])

-- one such row for each sight, where x raises may be made in a round
abbrev pub Taken : ℕ → ℕ → List Sight → List Row → Type 0
Taken x m [] [] = Unit {0}
Taken x m [] (r ∷ rows) = ⊥
Taken x m (z ∷ zs) [] = ⊥
Taken x m (z ∷ zs) (r ∷ rows) = Fair (offers_of x z) m r.weights × Taken x m zs rows
