-- Going from tree to tree by their sizes. Assumes nothing: these are definitions.
use Rattle.std.specs.Prelude.{◌≡◌, ℕ, zero, suc, ◌+◌, ◌<◌, ◌≤◌, List, Some, None, Option}
use Rattle.cards.specs.Game.{Tree, Trees, none, more}
use Rattle.cards.specs.Reckon.{places, places_all}
use Rattle.tree.specs.Rep.{Rep, Reps, node_at}
use Rattle.tree.specs.declared.Node.{Node}

-- a tree lies at i
pub record SomeRoot (nodes : List Node) (i : ℕ) : Type 0 where
  pub table : ℕ
  pub base : ℕ
  pub tree : Tree
  pub rep : Rep table base nodes i tree

-- some trees lie from i on, up to e
pub record KidsLie (nodes : List Node) (i e : ℕ) : Type 0 where
  pub table : ℕ
  pub base : ℕ
  pub trees : Trees
  pub reps : Reps table base nodes i trees
  pub ends : i + places_all trees ≡ e

-- a step from i gave the tree there and came to where it ends, or nothing was left up to e
pub record Stepped (nodes : List Node) (i e x : ℕ) (later : List Node) (j f : ℕ) : Type 0 where
  pub there : i < e
  pub is : x ≡ i
  pub goes : j ≡ i + (node_at nodes i).size
  pub same : later ≡ nodes
  pub end : f ≡ e

abbrev pub step : List Node → ℕ → ℕ → Option ℕ → List Node → ℕ → ℕ → Type 0
step nodes i e (Some x) later j f = Stepped nodes i e x later j f
step nodes i e None later j f = (e ≤ i) × ((later ≡ nodes) × ((j ≡ i) × (f ≡ e)))

-- where the n-th of the trees that lie from i on begins
abbrev pub start : ℕ → Trees → ℕ → ℕ
start i none n = i
start i (more t ts) zero = i
start i (more t ts) (suc n) = start (i + places t) ts n
