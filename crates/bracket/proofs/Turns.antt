-- A tree that lies in a row of nodes lies turned in the turned row. Assumes nothing.
use Rattle.std.proofs.Common.{◌≡◌, ℕ, zero, suc, ◌+◌, ◌-◌, ◌*◌, ◌/◌, ◌≤◌, List, [], ◌∷◌, map, sym, refl, ap, ◌∙◌, subst, ap₂, arith}
use Rattle.std.proofs.lemmas.List.{length-map}
use Rattle.cards.specs.Game.{Tree, over, deal, ours, theirs, Trees, none, more}
use Rattle.cards.specs.Promise.{turned, turned_all, AtMost, most_over, most_deal, most_ours, most_theirs, AllMost, most_more}
use Rattle.cards.specs.Reckon.{places, places_all}
use Rattle.tree.specs.declared.Place.{Place}
use Rattle.tree.specs.declared.Place.TheVariants.{Over, Deal, House, Guest}
use Rattle.tree.specs.declared.Node.{Node}
use Rattle.tree.specs.Rep.{node, node_at, Stands, ends_of, rest_of, Rep, Reps, Weighed}
use Rattle.bracket.specs.Turned.{turned_ends, turned_place_as, turned_node, TurnedRows}

-- a turned tree has as many places
mutual
  pub places_turned : (k : ℕ) (t : Tree) → places (turned k t) ≡ places t
  places_turned k (over g) = refl
  places_turned k (deal ws ts) = ap suc (places_turned_all k ts)
  places_turned k (ours i ts) = ap suc (places_turned_all k ts)
  places_turned k (theirs i ts) = ap suc (places_turned_all k ts)

  pub places_turned_all : (k : ℕ) (ts : Trees) → places_all (turned_all k ts) ≡ places_all ts
  places_turned_all k none = refl
  places_turned_all k (more t ts) = ap₂ ◌+◌ (places_turned k t) (places_turned_all k ts)

-- turned twice, a row is as it was
place_again : (p : Place) → turned_place_as (turned_place_as p) ≡ p
place_again (Over e) = refl
place_again (Deal n) = refl
place_again (House z i) = refl
place_again (Guest z i) = refl

pub turned_again : (ns : List Node) → map turned_node (map turned_node ns) ≡ ns
turned_again [] = refl
turned_again (n ∷ ns) = ap₂ ◌∷◌ (ap (λ p. node p n.share n.size) (place_again n.place)) (turned_again ns)

-- what stands in the turned row, also past the end
pub node_turned : (ns : List Node) (i : ℕ) → node_at (map turned_node ns) i ≡ turned_node (node_at ns i)
node_turned [] i = refl
node_turned (n ∷ ns) zero = refl
node_turned (n ∷ ns) (suc i) = node_turned ns i

stands_turned : (ns : List Node) (i : ℕ) (p q : Place) (n n' : ℕ) → Stands ns i p n → turned_place_as p ≡ q → n ≡ n' → Stands (map turned_node ns) i q n'
stands_turned ns i p q n n' s e f =
    record {
      inside = rw (length-map ns turned_node) s.inside;
      place = ap (λ (x : Node). x.place) (node_turned ns i) ∙ (ap turned_place_as s.place ∙ e);
      size = ap (λ (x : Node). x.size) (node_turned ns i) ∙ (s.size ∙ f);
    }

ends_turned : (k g : ℕ) → g ≤ k → turned_ends (ends_of k g) ≡ ends_of k (k - g)
ends_turned k g h = let e : g ≡ k - (k - g) = omega arith in ap (λ x. record { house = k - g; guest = x }) e

module _ (k m : ℕ) (ns : List Node) where
  mutual
    pub rep_turned : (i : ℕ) (t : Tree) → Rep k m ns i t → AtMost k t → Rep k m (map turned_node ns) i (turned k t)
    rep_turned i (over g) r (most_over h) = stands_turned ns i _ _ 1 1 r (ap Over (ends_turned k g h)) refl
    rep_turned i (deal ws ts) (n, (s, r)) (most_deal a) = (n, (stands_turned ns i _ _ _ _ s refl (ap suc (sym (places_turned_all k ts))), weighed_turned n (i + 1) ws ts r a))
    rep_turned i (ours j ts) (z, (s, r)) (most_ours a) = (z, (stands_turned ns i _ _ _ _ s refl (ap suc (sym (places_turned_all k ts))), reps_turned (i + 1) ts r a))
    rep_turned i (theirs j ts) (z, (s, r)) (most_theirs a) = (z, (stands_turned ns i _ _ _ _ s refl (ap suc (sym (places_turned_all k ts))), reps_turned (i + 1) ts r a))

    pub reps_turned : (i : ℕ) (ts : Trees) → Reps k m ns i ts → AllMost k ts → Reps k m (map turned_node ns) i (turned_all k ts)
    reps_turned i none r a = tt
    reps_turned i (more t ts) (r, rs) (most_more a b) =
        (rep_turned i t r a, subst (λ n. Reps k m (map turned_node ns) (i + n) (turned_all k ts)) (sym (places_turned k t)) (reps_turned (i + places t) ts rs b))

    pub weighed_turned : (n i : ℕ) (ws : List ℕ) (ts : Trees) → Weighed k m n ns i ws ts → AllMost k ts → Weighed k m n (map turned_node ns) i ws (turned_all k ts)
    weighed_turned n i ws none r a = tt
    weighed_turned n i ws (more t ts) (w, (r, rs)) (most_more a b) = (
      w ∙ ap (λ (x : Node). m * x.share / n) (sym (node_turned ns i)),
      (
        rep_turned i t r a,
        subst (λ p. Weighed k m n (map turned_node ns) (i + p) (rest_of ws) (turned_all k ts)) (sym (places_turned k t)) (weighed_turned n (i + places t) (rest_of ws) ts rs b),
      ),
    )

pub turned_rows : TurnedRows
turned_rows = record { lies = rep_turned; sized = places_turned; again = turned_again }
