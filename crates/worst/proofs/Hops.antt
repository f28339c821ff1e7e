-- Going from tree to tree of a place.
use Rattle.std.proofs.Common.{◌≡◌, ℕ, zero, suc, ◌+◌, ◌^◌, ◌<◌, ◌≤◌, List, length, Option, Some, None, MatchOption, ap, ◌∙◌, subst, arith, rules}
use Rattle.std.specs.Iterator.{SkipsThenYields, Drains}
use Rattle.std.specs.Option.{IsSome}
use Rattle.cards.specs.Game.{Tree, Trees, none, more, many}
use Rattle.cards.specs.Reckon.{places, places_all}
use Rattle.tree.specs.Rep.{Rep, Reps, node_at}
use Rattle.tree.specs.Siblings.{KidsLie, start}
use Rattle.tree.specs.declared.Node.{Node}
use Rattle.tree.specs.declared.kids.Kids.{Kids}
use Rattle.tree.proofs.Reps.{rep_size, rep_end}
use Rattle.tree.proofs.Siblings.{kid_steps, kids_nth, kids_count}
use Rattle.worst.specs.Items.{firsts, parts, SomeNth}
use Rattle.worst.proofs.Lay.{places_firsts_le, parts_places, rep_parts, many_places}

-- where the trees of a place begin, told by the places before
pub start_places : (i : ℕ) (ts : Trees) (n : ℕ) → start i ts n ≡ i + places_all (firsts n ts)
unfolding firsts
start_places i none zero = omega arith
start_places i none (suc n) = omega arith
start_places i (more t ts) zero = omega arith
start_places i (more t ts) (suc n) = let e = start_places (i + places t) ts n in omega arith

-- an iterator over the trees of the place at `at`, before its first call
pub record Over (s : Kids) (nodes : List Node) (at : ℕ) : Type 0 where
  pub nodes_are : s.nodes.now ≡ nodes
  pub first : s.at ≡ at + 1
  pub end : s.end ≡ at + (node_at nodes at).size

pub over_reps : (s : Kids) (nodes : List Node) (at table base : ℕ) (t : Tree) → Over s nodes at → Rep table base nodes at t →
    Reps table base s.nodes.now s.at (parts t) × (s.at + places_all (parts t) ≡ s.end)
over_reps s nodes at table base t o h =
    let z = rep_size table base nodes at t h in
    let p = parts_places t in
    let f = o.first in
    let e = o.end in
    (rw (o.nodes_are, f) (rep_parts table base nodes at t h), omega arith)

pub over_lies : (s : Kids) (nodes : List Node) (at table base : ℕ) (t : Tree) → Over s nodes at → Rep table base nodes at t → ∥ KidsLie s.nodes.now s.at s.end ∥₁
over_lies s nodes at table base t o h =
    let r = over_reps s nodes at table base t o h in
    ∣ record { table = table; base = base; trees = parts t; reps = r.0; ends = r.1 } ∣₁

pub over_nth : (s : Kids) (nodes : List Node) (at k : ℕ) (r : Option ℕ) (u : Kids) → Over s nodes at → SkipsThenYields kid_steps s k r u → (table base : ℕ) (t : Tree) → Rep table base nodes at t →
    MatchOption r (many (parts t) ≤ k) (λ x. (k < many (parts t)) × (x ≡ start s.at (parts t) k))
over_nth s nodes at k r u o y table base t h =
    let p = over_reps s nodes at table base t o h in
    kids_nth table base (parts t) s k r u p.0 p.1 y

some_of : (r : Option ℕ) (m k : ℕ) (P : ℕ → Type 0) → MatchOption r (m ≤ k) P → k < m → IsSome r
some_of None m k P h l = absurd (omega arith)
some_of (Some x) m k P h l = search rules

pub nth_some : (s : Kids) (nodes : List Node) (at k : ℕ) (r : Option ℕ) (u : Kids) → Over s nodes at → SkipsThenYields kid_steps s k r u → SomeNth nodes at k → IsSome r
nth_some s nodes at k r u o y p =
    let l : k < many (parts p.tree) = subst (λ ts. k < many ts) p.parts_are p.kid.there in
    some_of r (many (parts p.tree)) k _ (over_nth s nodes at k r u o y p.kid.table p.kid.base p.tree p.rep) l

pub nth_is : (s : Kids) (nodes : List Node) (at k x : ℕ) (r : Option ℕ) (u : Kids) → Over s nodes at → SkipsThenYields kid_steps s k r u → r ≡ Some x → (table base : ℕ) (t : Tree) → Rep table base nodes at t →
    x ≡ (at + 1) + places_all (firsts k (parts t))
nth_is s nodes at k x r u o y e table base t h =
    let m = subst (λ z. MatchOption z (many (parts t) ≤ k) (λ x. (k < many (parts t)) × (x ≡ start s.at (parts t) k))) e (over_nth s nodes at k r u o y table base t h) in
    m.1 ∙ start_places s.at (parts t) k ∙ ap (λ z. z + places_all (firsts k (parts t))) o.first

-- and that fits
pub nth_fits : (s : Kids) (nodes : List Node) (at k x : ℕ) (r : Option ℕ) (u : Kids) → Over s nodes at → SkipsThenYields kid_steps s k r u → r ≡ Some x → SomeNth nodes at k → x < 2 ^ 32
nth_fits s nodes at k x r u o y e p =
    let a = nth_is s nodes at k x r u o y e p.kid.table p.kid.base p.tree p.rep in
    let b = places_firsts_le (parts p.tree) k in
    let c = parts_places p.tree in
    let d = rep_end p.kid.table p.kid.base nodes at p.tree p.rep in
    let f = p.kid.few in
    omega arith

pub count_is_many : (s : Kids) (nodes : List Node) (at : ℕ) (xs : List ℕ) → Over s nodes at → Drains kid_steps s xs → (table base : ℕ) (t : Tree) → Rep table base nodes at t → length xs ≡ many (parts t)
count_is_many s nodes at xs o y table base t h =
    let p = over_reps s nodes at table base t o h in
    kids_count table base (parts t) s xs p.0 p.1 y

pub many_few : (table base : ℕ) (nodes : List Node) (at : ℕ) (t : Tree) → Rep table base nodes at t → many (parts t) < length nodes
many_few table base nodes at t h =
    let a = many_places (parts t) in
    let b = parts_places t in
    let c = rep_end table base nodes at t h in
    omega arith
