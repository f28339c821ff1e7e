-- A row of entries put together by sight. Assumes nothing: these are definitions.
use Rattle.std.specs.Prelude.{◌≡◌, ℕ, ◌+◌, ◌<◌, ◌≤◌, Bool, List, [], ◌∷◌, ◌++◌, length, take, ◌==◌, slice_index_or}
use Rattle.cards.specs.Game.{pick}
use Rattle.tree.specs.Rep.{node_at}
use Rattle.tree.specs.declared.Node.{Node}
use Rattle.worst.specs.Items.{blank, place_sight}
use Rattle.worst.specs.declared.Entry.{Entry}

abbrev pub entry_at : List Node → ℕ → Entry → Bool
entry_at nodes s e = s == place_sight (node_at nodes e.at).place

-- the entries at sight s, and the others
abbrev pub sames : List Node → ℕ → List Entry → List Entry
sames nodes s [] = []
sames nodes s (e ∷ es) = pick (entry_at nodes s e) (e ∷ sames nodes s es) (sames nodes s es)

abbrev pub rest_of_row : List Node → ℕ → List Entry → List Entry
rest_of_row nodes s [] = []
rest_of_row nodes s (e ∷ es) = pick (entry_at nodes s e) (rest_of_row nodes s es) (e ∷ rest_of_row nodes s es)

pub record Groupable (nodes : List Node) (s len : ℕ) (work : List Entry) : Type 0 where
  pub inside : (j : ℕ) → j < len → (slice_index_or work j blank).at < length nodes
  pub spare : len + length (sames nodes s (take len work)) ≤ length work

-- the others stand first, then those at sight s; each keep their order
pub record Grouped (nodes : List Node) (s len : ℕ) (before later : List Entry) (kept : ℕ) : Type 0 where
  pub count : kept ≡ length (rest_of_row nodes s (take len before))
  pub taken : take len later ≡ rest_of_row nodes s (take len before) ++ sames nodes s (take len before)
