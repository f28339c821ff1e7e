-- By which weight a place leads to each of its trees. Assumes nothing: these are definitions.
use Rattle.std.specs.Prelude.{ℕ, ◌*◌, ◌/◌, ◌<◌, List, length, slice_index, slice_index_or}
use Rattle.tree.specs.Rep.{node_at}
use Rattle.tree.specs.declared.Node.{Node}
use Rattle.tree.specs.declared.Place.{Place}
use Rattle.tree.specs.declared.Place.TheVariants.{Over, Deal, House, Guest}
use Rattle.plans.specs.Plan.{no_row}
use Rattle.plans.specs.declared.Row.{Row}

-- the weight of the tree at `at`, the j-th of its place
abbrev pub weight_at : List Node → List Row → ℕ → Place → ℕ → ℕ → ℕ
weight_at nodes rows m (Over g) at j = 0
weight_at nodes rows m (Deal n) at j = m * (node_at nodes at).share / n
weight_at nodes rows m (House z i) at j = slice_index (slice_index_or rows i no_row).weights j
weight_at nodes rows m (Guest z i) at j = 0

-- the weight is there to read
abbrev pub Weighable : List Node → List Row → Place → ℕ → ℕ → Type 0
Weighable nodes rows (Over g) at j = Unit {0}
Weighable nodes rows (Deal n) at j = (0 < n) × (at < length nodes)
Weighable nodes rows (House z i) at j = (i < length rows) × (j < length (slice_index_or rows i no_row).weights)
Weighable nodes rows (Guest z i) at j = Unit {0}
