-- A tree as it lies in a row of nodes, each place before its trees. Assumes nothing: these are definitions.
use Rattle.std.specs.Prelude.{◌≡◌, ℕ, suc, ◌+◌, ◌-◌, ◌*◌, ◌/◌, ◌<◌, List, [], ◌∷◌, length, slice_index_or}
use Rattle.cards.specs.Game.{Tree, over, deal, ours, theirs, Trees, none, more}
use Rattle.cards.specs.Reckon.{places, places_all}
use Rattle.rules.specs.declared.Ends.{Ends}
use Rattle.tree.specs.declared.Sight.{Sight}
use Rattle.tree.specs.declared.Place.{Place}
use Rattle.tree.specs.declared.Place.TheVariants.{Over, Deal, House, Guest}
use Rattle.tree.specs.declared.Node.{Node}

abbrev pub node : Place → ℕ → ℕ → Node
node p c n = record { place = p; share = c; size = n }

-- what stands at i; past the end an empty node
abbrev pub node_at : List Node → ℕ → Node
node_at ns i = slice_index_or ns i (node (Over (record { house = 0; guest = 0 })) 0 0)

pub record Stands (ns : List Node) (i : ℕ) (p : Place) (n : ℕ) : Type 0 where
  pub inside : i < length ns
  pub place : (node_at ns i).place ≡ p
  pub size : (node_at ns i).size ≡ n

-- what each player has where k is on the table and the house has g
abbrev pub ends_of : ℕ → ℕ → Ends
ends_of k g = record { house = g; guest = k - g }

abbrev pub first_of : List ℕ → ℕ
first_of [] = 0
first_of (w ∷ ws) = w

abbrev pub rest_of : List ℕ → List ℕ
rest_of [] = []
rest_of (w ∷ ws) = ws

-- with k on the table and words below m, the tree lies in the row from i on.
-- A deal from n parts leads to each of its trees with the weight m × share / n, where the share stands in the tree's first node;
-- so the weights of a deal can be any numbers that sum to m (n = m, the share of each tree its weight)
abbrev mutual
  pub Rep : ℕ → ℕ → List Node → ℕ → Tree → Type 0
  Rep k m ns i (over g) = Stands ns i (Over (ends_of k g)) 1
  Rep k m ns i (deal ws ts) = (n : ℕ) × (Stands ns i (Deal n) (suc (places_all ts)) × Weighed k m n ns (i + 1) ws ts)
  Rep k m ns i (ours j ts) = (z : Sight) × (Stands ns i (House z j) (suc (places_all ts)) × Reps k m ns (i + 1) ts)
  Rep k m ns i (theirs j ts) = (z : Sight) × (Stands ns i (Guest z j) (suc (places_all ts)) × Reps k m ns (i + 1) ts)

  pub Reps : ℕ → ℕ → List Node → ℕ → Trees → Type 0
  Reps k m ns i none = Unit {0}
  Reps k m ns i (more t ts) = Rep k m ns i t × Reps k m ns (i + places t) ts

  pub Weighed : ℕ → ℕ → ℕ → List Node → ℕ → List ℕ → Trees → Type 0
  Weighed k m n ns i ws none = Unit {0}
  Weighed k m n ns i ws (more t ts) = (first_of ws ≡ m * (node_at ns i).share / n) × (Rep k m ns i t × Weighed k m n ns (i + places t) (rest_of ws) ts)
