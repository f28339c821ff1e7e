-- Going from tree to tree by their sizes.
use Rattle.std.proofs.Common.{◌≡◌, ℕ, zero, suc, ◌+◌, ◌<◌, ◌≤◌, List, [], ◌∷◌, length, Option, Some, None, MatchOption, refl, sym, ◌∙◌, subst, arith}
use Rattle.std.proofs.Math.Logic.{∥∥₁_elim}
use Rattle.std.specs.Coded.{le_prop}
use Rattle.std.specs.Iterator.{Yields, SkipsThenYields, Drains}
use Rattle.cards.specs.Game.{Tree, Trees, none, more, many}
use Rattle.cards.specs.Reckon.{places, places_all}
use Rattle.cards.proofs.AtHand.{places_pos}
use Rattle.tree.proofs.Reps.{rep_inside, rep_size, rep_end}
use Rattle.tree.specs.Rep.{Reps, node_at}
use Rattle.tree.specs.Siblings.{SomeRoot, KidsLie, step, start}
use Rattle.tree.specs.declared.kids.Kids.{Kids}
use Rattle.tree.specs.declared.Node.{Node}

pub root_inside : (nodes : List Node) (i : ℕ) → ∥ SomeRoot nodes i ∥₁ → (i < length nodes) × (i + (node_at nodes i).size ≤ length nodes)
root_inside nodes i some = ∥∥₁_elim some (hlevel le_prop) (λ h.
    let s = rep_size h.table h.base nodes i h.tree h.rep in
    let e = rep_end h.table h.base nodes i h.tree h.rep in
    (rep_inside h.table h.base nodes i h.tree h.rep, omega arith))

-- where a tree is left, and what is left after it
pub record Next (nodes : List Node) (i e : ℕ) : Type 0 where
  pub inside : i < length nodes
  pub some : 0 < (node_at nodes i).size
  pub within : i + (node_at nodes i).size ≤ length nodes
  pub few : i + (node_at nodes i).size ≤ e
  pub lie : ∥ KidsLie nodes (i + (node_at nodes i).size) e ∥₁

next_of : (nodes : List Node) (i e table base : ℕ) (ts : Trees) → Reps table base nodes i ts → i + places_all ts ≡ e → i < e → Next nodes i e
next_of nodes i e table base none reps ends lt = absurd (omega arith)
next_of nodes i e table base (more t ts) reps ends lt =
    let s = rep_size table base nodes i t reps.0 in
    let f = rep_end table base nodes i t reps.0 in
    let p = places_pos t in
    record {
      inside = rep_inside table base nodes i t reps.0;
      some = omega arith;
      within = omega arith;
      few = omega arith;
      lie = ∣ record { table = table; base = base; trees = ts; reps = subst (λ z. Reps table base nodes (i + z) ts) (sym s) reps.1; ends = omega arith } ∣₁;
    }

pub kids_next : (nodes : List Node) (i e : ℕ) → ∥ KidsLie nodes i e ∥₁ → i < e → Next nodes i e
kids_next nodes i e some lt = ∥∥₁_elim some (hlevel le_prop) (λ h. next_of nodes i e h.table h.base h.trees h.reps h.ends lt)

-- what calls of `next` give, from the trees that are left on
abbrev pub kid_steps : Kids → Option ℕ → Kids → Type 0
kid_steps s r t = step s.nodes.now s.at s.end r t.nodes.now t.at t.end

abbrev pub Lie : ℕ → ℕ → Kids → Trees → Type 0
Lie table base s ts = Reps table base s.nodes.now s.at ts × (s.at + places_all ts ≡ s.end)

lie_more : (table base : ℕ) (s t : Kids) (x : ℕ) (u : Tree) (us : Trees) → Lie table base s (more u us) → kid_steps s (Some x) t → Lie table base t us × (x ≡ s.at)
lie_more table base s t x u us h g =
    let a = rep_size table base s.nodes.now s.at u h.0.0 in
    let b : t.at ≡ s.at + places u = omega (arith, g.goes) in
    let e = h.1 in (
      (subst (λ ns. Reps table base ns t.at us) (sym g.same) (subst (λ z. Reps table base s.nodes.now z us) (sym b) h.0.1), omega (arith, g.end)),
      g.is,
    )

no_more : (table base : ℕ) (s t : Kids) (x : ℕ) {A : Type 0} → Lie table base s none → kid_steps s (Some x) t → A
no_more table base s t x h g = let e = h.1 in absurd (omega (arith, g.there))

-- the trees that are left after some calls
abbrev pub left_after : ℕ → Trees → Trees
left_after zero ts = ts
left_after (suc n) none = none
left_after (suc n) (more t ts) = left_after n ts

pub record Gone (table base : ℕ) (s : Kids) (ts : Trees) (n : ℕ) (t : Kids) : Type 0 where
  pub lie : Lie table base t (left_after n ts)
  pub few : many ts ≡ n + many (left_after n ts)
  pub at : t.at ≡ start s.at ts n

start_zero : (i : ℕ) (ts : Trees) → start i ts 0 ≡ i
start_zero i none = refl
start_zero i (more t ts) = refl

gone_none : (table base : ℕ) (s : Kids) (ts : Trees) → Lie table base s ts → Gone table base s ts 0 s
gone_none table base s ts h = record { lie = h; few = omega arith; at = sym (start_zero s.at ts) }

gone_more : (table base : ℕ) (s j t : Kids) (x : ℕ) (u : Tree) (us : Trees) (n : ℕ) → Lie table base s (more u us) → kid_steps s (Some x) j → Gone table base j us n t → Gone table base s (more u us) (suc n) t
unfolding many
gone_more table base s j t x u us n h g r =
    let a = rep_size table base s.nodes.now s.at u h.0.0 in
    let b : j.at ≡ s.at + places u = omega (arith, g.goes) in
    let f = r.few in
    record { lie = r.lie; few = omega arith; at = subst (λ z. t.at ≡ start z us n) b r.at }

gone_all : (table base : ℕ) (ts : Trees) (s : Kids) (xs : List ℕ) (t : Kids) → Lie table base s ts → Yields kid_steps s xs t → Gone table base s ts (length xs) t
gone_all table base ts s [] t h y = subst (λ z. Gone table base s ts 0 z) y (gone_none table base s ts h)
gone_all table base none s (x ∷ xs) t h y = no_more table base s y.0 x h y.1
gone_all table base (more u us) s (x ∷ xs) t h y =
    gone_more table base s y.0 t x u us (length xs) h y.1 (gone_all table base us y.0 xs t (lie_more table base s y.0 x u us h y.1).0 y.2)

some_left : (table base : ℕ) (s : Kids) (ts : Trees) → Lie table base s ts → s.at < s.end → 0 < many ts
unfolding many
some_left table base s none h lt = let e = h.1 in absurd (omega arith)
some_left table base s (more t ts) h lt = omega arith

none_left : (table base : ℕ) (s : Kids) (ts : Trees) → Lie table base s ts → s.end ≤ s.at → many ts ≡ 0
unfolding many
none_left table base s none h le = refl
none_left table base s (more t ts) h le = let e = h.1 in let p = places_pos t in absurd (omega arith)

-- `nth` gives where the n-th tree begins, where there is one
pub kids_nth :
    (table base : ℕ) (ts : Trees) (s : Kids) (n : ℕ) (r : Option ℕ) (u : Kids) → Reps table base s.nodes.now s.at ts → s.at + places_all ts ≡ s.end → SkipsThenYields kid_steps s n r u →
    MatchOption r (many ts ≤ n) (λ x. (n < many ts) × (x ≡ start s.at ts n))
kids_nth table base ts s n (Some x) u h e y =
    let g = gone_all table base ts s y.0 y.1.0 (h, e) y.1.1 in
    let l = some_left table base y.1.0 _ g.lie y.1.2.there in
    let f = g.few in
    (omega (arith, y.2), y.1.2.is ∙ subst (λ z. y.1.0.at ≡ start s.at ts z) y.2 g.at)
kids_nth table base ts s n None u h e y =
    let g = gone_all table base ts s y.0 y.1.0 (h, e) y.1.1 in
    let z = none_left table base y.1.0 _ g.lie y.1.2.0 in
    let f = g.few in omega (arith, y.2)

-- `count` gives how many trees there are
pub kids_count : (table base : ℕ) (ts : Trees) (s : Kids) (xs : List ℕ) → Reps table base s.nodes.now s.at ts → s.at + places_all ts ≡ s.end → Drains kid_steps s xs → length xs ≡ many ts
kids_count table base ts s xs h e y =
    let g = gone_all table base ts s xs y.1.0 (h, e) y.1.1 in
    let z = none_left table base y.1.0 _ g.lie y.1.2.0 in
    let f = g.few in omega arith
