-- A tree lies in a row of nodes in one way: there is one proof of it at most, so what a struct keeps of it as a mere fact gives it back. Assumes nothing.
use Rattle.std.specs.Prelude.{◌≡◌, ℕ, suc, ◌+◌, ◌*◌, List}
use mathlib.Core.Path.{ap, sym, ◌∙◌}
use mathlib.Core.HLevel.{Σ_prop_path}
use Rattle.std.proofs.Math.Logic.{∥∥₁_elim}
use Rattle.std.specs.Coded.{×_prop, Unit-prop}
use Rattle.std.proofs.Props.{props}
use Rattle.cards.specs.Game.{Tree, over, deal, ours, theirs, Trees, none, more}
use Rattle.cards.specs.Reckon.{places, places_all}
use Rattle.tree.specs.declared.Sight.{Sight}
use Rattle.tree.specs.declared.Place.{Place}
use Rattle.tree.specs.declared.Place.TheVariants.{Over, Deal, House, Guest}
use Rattle.tree.specs.declared.Node.{Node}
use Rattle.rules.specs.declared.Player.{Player}
use Rattle.rules.specs.Play.{purse}
use Rattle.rules.specs.Statements.{seat}
use Rattle.answers.specs.declared.Opening.{Opening}
use Rattle.answers.specs.Steps.{Lies}
use Rattle.tree.specs.Rep.{Stands, Rep, Reps, Weighed, rest_of}

-- the parts of a deal, and the sight of a choice
abbrev parts_at : Place → ℕ → ℕ
parts_at (Deal n) m = n
parts_at (Over e) m = m
parts_at (House z j) m = m
parts_at (Guest z j) m = m

abbrev sight_at : Place → Sight → Sight
sight_at (House z j) y = z
sight_at (Guest z j) y = z
sight_at (Over e) y = y
sight_at (Deal n) y = y

place_set : (p q : Place) (a b : p ≡ q) → a ≡ b
place_set = hlevel props

stands_prop : (ns : List Node) (i : ℕ) (p : Place) (n : ℕ) → IsProp (Stands ns i p n)
stands_prop ns i p n = hlevel (props, place_set)

same_parts : (p : Place) (n m : ℕ) → p ≡ Deal n → p ≡ Deal m → n ≡ m
same_parts p n m e f = ap (λ q. parts_at q 0) (sym e ∙ f)

same_house : (p : Place) (y z : Sight) (j : ℕ) → p ≡ House y j → p ≡ House z j → y ≡ z
same_house p y z j e f = ap (λ q. sight_at q y) (sym e ∙ f)

same_guest : (p : Place) (y z : Sight) (j : ℕ) → p ≡ Guest y j → p ≡ Guest z j → y ≡ z
same_guest p y z j e f = ap (λ q. sight_at q y) (sym e ∙ f)

mutual
  rep_prop : (k m : ℕ) (ns : List Node) (i : ℕ) (t : Tree) → IsProp (Rep k m ns i t)
  rep_prop k m ns i (over g) = stands_prop ns i _ 1
  rep_prop k m ns i (deal ws ts) =
      λ a b. Σ_prop_path (λ n. ×_prop (stands_prop ns i (Deal n) (suc (places_all ts))) (weighed_prop k m n ns (i + 1) ws ts)) (same_parts _ a.0 b.0 a.1.0.place b.1.0.place)
  rep_prop k m ns i (ours j ts) =
      λ a b. Σ_prop_path (λ z. ×_prop (stands_prop ns i (House z j) (suc (places_all ts))) (reps_prop k m ns (i + 1) ts)) (same_house _ a.0 b.0 j a.1.0.place b.1.0.place)
  rep_prop k m ns i (theirs j ts) =
      λ a b. Σ_prop_path (λ z. ×_prop (stands_prop ns i (Guest z j) (suc (places_all ts))) (reps_prop k m ns (i + 1) ts)) (same_guest _ a.0 b.0 j a.1.0.place b.1.0.place)

  reps_prop : (k m : ℕ) (ns : List Node) (i : ℕ) (ts : Trees) → IsProp (Reps k m ns i ts)
  reps_prop k m ns i none = Unit-prop
  reps_prop k m ns i (more t ts) = ×_prop (rep_prop k m ns i t) (reps_prop k m ns (i + places t) ts)

  weighed_prop : (k m n : ℕ) (ns : List Node) (i : ℕ) (ws : List ℕ) (ts : Trees) → IsProp (Weighed k m n ns i ws ts)
  weighed_prop k m n ns i ws none = Unit-prop
  weighed_prop k m n ns i ws (more t ts) = ×_prop (hlevel props) (×_prop (rep_prop k m ns i t) (weighed_prop k m n ns (i + places t) (rest_of ws) ts))

lies_prop : (o : Opening) (w : Player) (nodes : List Node) → IsProp (Lies o w nodes)
lies_prop o w nodes = rep_prop (2 * purse o.sheet) o.m nodes 0 (seat o.sheet o.m w)

pub given : (o : Opening) (w : Player) (nodes : List Node) → ∥ Lies o w nodes ∥₁ → Lies o w nodes
given o w nodes h = ∥∥₁_elim h (lies_prop o w nodes) (λ l. l)
