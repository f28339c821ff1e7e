-- A tree that lies in a row: where it begins, how large it is, where it ends; and the parts that a deal is from. Assumes nothing.
use Rattle.std.proofs.Common.{◌≡◌, ℕ, zero, suc, ◌+◌, ◌*◌, ◌<◌, ◌≤◌, List, [], ◌∷◌, length, refl, arith}
use native.Mathlib.Nat.{div-zero}
use Rattle.cards.specs.Game.{Tree, over, deal, ours, theirs, Trees, none, more, many, total}
use Rattle.cards.specs.Reckon.{places, places_all}
use Rattle.tree.specs.declared.Node.{Node}
use Rattle.tree.specs.Rep.{Rep, Reps, Weighed, rest_of, node_at}

pub rep_inside : (k m : ℕ) (nodes : List Node) (i : ℕ) (t : Tree) → Rep k m nodes i t → i < length nodes
rep_inside k m nodes i (over g) h = h.inside
rep_inside k m nodes i (deal ws ts) h = h.1.0.inside
rep_inside k m nodes i (ours j ts) h = h.1.0.inside
rep_inside k m nodes i (theirs j ts) h = h.1.0.inside

-- the node's size is the tree's
pub rep_size : (k m : ℕ) (nodes : List Node) (i : ℕ) (t : Tree) → Rep k m nodes i t → (node_at nodes i).size ≡ places t
rep_size k m nodes i (over g) h = h.size
rep_size k m nodes i (deal ws ts) h = h.1.0.size
rep_size k m nodes i (ours j ts) h = h.1.0.size
rep_size k m nodes i (theirs j ts) h = h.1.0.size

-- a tree lies within the row
mutual
  pub rep_end : (k m : ℕ) (nodes : List Node) (i : ℕ) (t : Tree) → Rep k m nodes i t → i + places t ≤ length nodes
  rep_end k m nodes i (over g) h = omega (arith, h.inside)
  rep_end k m nodes i (deal ws ts) h = omega (arith, h.1.0.inside, weighed_end k m h.0 nodes (i + 1) ws ts (omega (arith, h.1.0.inside)) h.1.1)
  rep_end k m nodes i (ours j ts) h = omega (arith, h.1.0.inside, reps_end k m nodes (i + 1) ts (omega (arith, h.1.0.inside)) h.1.1)
  rep_end k m nodes i (theirs j ts) h = omega (arith, h.1.0.inside, reps_end k m nodes (i + 1) ts (omega (arith, h.1.0.inside)) h.1.1)

  reps_end : (k m : ℕ) (nodes : List Node) (i : ℕ) (ts : Trees) → i ≤ length nodes → Reps k m nodes i ts → i + places_all ts ≤ length nodes
  reps_end k m nodes i none l h = omega arith
  reps_end k m nodes i (more t ts) l h = omega (arith, reps_end k m nodes (i + places t) ts (rep_end k m nodes i t h.0) h.1)

  weighed_end : (k m n : ℕ) (nodes : List Node) (i : ℕ) (ws : List ℕ) (ts : Trees) → i ≤ length nodes → Weighed k m n nodes i ws ts → i + places_all ts ≤ length nodes
  weighed_end k m n nodes i ws none l h = omega arith
  weighed_end k m n nodes i ws (more t ts) l h = omega (arith, weighed_end k m n nodes (i + places t) (rest_of ws) ts (rep_end k m nodes i t h.1.0) h.1.1)

-- a deal with weights is from some parts
no_parts : (k m : ℕ) (nodes : List Node) (i : ℕ) (ws : List ℕ) (ts : Trees) → Weighed k m 0 nodes i ws ts → length ws ≡ many ts → total ws ≡ 0
unfolding total many
no_parts k m nodes i [] ts h l = refl
no_parts k m nodes i (w ∷ ws) none h l = absurd (omega arith)
no_parts k m nodes i (w ∷ ws) (more t ts) h l = omega (arith, h.0, div-zero (m * (node_at nodes i).share), no_parts k m nodes (i + places t) ws ts h.1.1 (omega arith))

pub some_parts : (k m n : ℕ) (nodes : List Node) (i : ℕ) (ws : List ℕ) (ts : Trees) → Weighed k m n nodes i ws ts → length ws ≡ many ts → 0 < total ws → 0 < n
some_parts k m zero nodes i ws ts h l p = absurd (omega (arith, no_parts k m nodes i ws ts h l))
some_parts k m (suc n) nodes i ws ts h l p = omega arith
