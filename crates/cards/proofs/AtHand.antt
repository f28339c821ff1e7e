-- Trees at hand, as the reckoning takes them: how many places they have, which stand at one sight, and the least over the choices. Assumes nothing.
use Rattle.std.proofs.Common.{◌≡◌, ℕ, zero, suc, ◌+◌, ◌*◌, ◌<◌, ◌≤◌, min, Bool, true, false, eqb, ◌⊎◌, List, [], ◌∷◌, ◌++◌, length, sym, refl, subst, inl, inr, zero-add, arith}
use Rattle.std.proofs.lemmas.Bool.{eqb-true, eq-eqb, cases_eq, cases_lt}
use Rattle.cards.specs.Game.{Tree, over, deal, ours, theirs, Trees, none, more, Plan, many, pick}
use Rattle.cards.specs.Floor.{Item, nth, AtSight, nil, and}
use Rattle.cards.specs.Reckon.{places, places_all, item, open', open_all, open_of, is_at, same, least, last}

pub least_low : (f : ℕ → ℕ) (n k : ℕ) → k ≤ n → least n f ≤ f k
least_low f zero k h = let e : k ≡ 0 = omega arith in subst (λ (z : ℕ). f 0 ≤ f z) (sym e) (omega arith)
least_low f (suc n) k h = go (cases_eq k (suc n)) (least_low f n k)
  where
    go : (k ≡ suc n) ⊎ (k ≡ suc n → ⊥) → (k ≤ n → least n f ≤ f k) → min (least n f) (f (suc n)) ≤ f k
    go (inl e) g = subst (λ (z : ℕ). min (least n f) (f (suc n)) ≤ f z) (sym e) (omega arith)
    go (inr e) g = let h' : k ≤ n = omega arith in let l = g h' in omega arith

pub least_at : (f : ℕ → ℕ) (n : ℕ) → (k : ℕ) × (k ≤ n) × (least n f ≡ f k)
least_at f zero = (0, omega arith, refl)
least_at f (suc n) = go (least_at f n) (cases_lt (least n f) (f (suc n)))
  where
    go : (k : ℕ) × (k ≤ n) × (least n f ≡ f k) → (least n f < f (suc n)) ⊎ (f (suc n) ≤ least n f) → (k : ℕ) × (k ≤ suc n) × (min (least n f) (f (suc n)) ≡ f k)
    go r (inl l) = let h = r.1 in let e = r.2 in (r.0, omega arith, omega arith)
    go r (inr l) = (suc n, omega arith, omega arith)

pub last_low : (c k : ℕ) → 0 < c → k ≤ last c → k < c
last_low zero k p l = absurd (omega arith)
last_low (suc c) k p l = omega arith

pub low_last : (c k : ℕ) → k < c → k ≤ last c
low_last zero k l = absurd (omega arith)
low_last (suc c) k l = omega arith

-- how many places there are in all
abbrev pub size_of : List Item → ℕ
size_of [] = 0
size_of (x ∷ xs) = places x.tree + size_of xs

pub places_pos : (t : Tree) → 0 < places t
places_pos (over g) = omega arith
places_pos (deal ws ts) = omega arith
places_pos (ours i ts) = omega arith
places_pos (theirs i ts) = omega arith

pub size_append : (xs ys : List Item) → size_of (xs ++ ys) ≡ size_of xs + size_of ys
size_append [] ys = sym (zero-add _)
size_append (x ∷ xs) ys = let e = size_append xs ys in omega arith

pub nth_places : (ts : Trees) (k : ℕ) → k < many ts → places (nth ts k) ≤ places_all ts
unfolding nth many
nth_places none k h = absurd (omega arith)
nth_places (more t ts) zero h = omega arith
nth_places (more t ts) (suc k) h = let e = nth_places ts k (omega arith) in omega arith

-- what is open has no more places
module _ (m : ℕ) (plan : Plan) where
  mutual
    pub tree_size : (t : Tree) (w n : ℕ) → size_of (open' m plan t w n) ≤ places t
    tree_size (over g) w n = omega arith
    tree_size (deal ws ts) w zero = omega arith
    tree_size (deal ws ts) w (suc n) = let e = trees_size ts ws w n in omega arith
    tree_size (ours i ts) w zero = omega arith
    tree_size (ours i ts) w (suc n) = let e = trees_size ts (plan i) w n in omega arith
    tree_size (theirs i ts) w n = omega arith

    pub trees_size : (ts : Trees) (ws : List ℕ) (w n : ℕ) → size_of (open_all m plan ts ws w n) ≤ places_all ts
    trees_size none ws w n = omega arith
    trees_size (more t ts) [] w n = omega arith
    trees_size (more t ts) (v ∷ ws) w n = let e = tree_size t (w * v) n in let h = trees_size ts ws w n in let a = size_append (open' m plan t (w * v) n) (open_all m plan ts ws w n) in omega arith

  pub open_size : (xs : List Item) → size_of (open_of m plan xs) ≤ size_of xs
  open_size [] = omega arith
  open_size (x ∷ xs) = let e = tree_size x.tree x.times x.left in let h = open_size xs in let a = size_append (open' m plan x.tree x.times x.left) (open_of m plan xs) in omega arith

-- those at one sight
pub at_same : (i : ℕ) (ys : List Item) → AtSight i (same i ys)
at_same i [] = nil
at_same i (x ∷ ys) = go x.tree (at_same i ys)
  where
    at : (j : ℕ) (ts : Trees) (c : Bool) → eqb i j ≡ c → AtSight i (same i ys) → AtSight i (pick c (item x.times x.left (theirs j ts) ∷ same i ys) (same i ys))
    at j ts true e a = subst (λ (k : ℕ). AtSight i (item x.times x.left (theirs k ts) ∷ same i ys)) (eqb-true i j e) (and a)
    at j ts false e a = a

    go : (t : Tree) → AtSight i (same i ys) → AtSight i (pick (is_at i t) (item x.times x.left t ∷ same i ys) (same i ys))
    go (over g) a = a
    go (deal ws ts) a = a
    go (ours j ts) a = a
    go (theirs j ts) a = at j ts (eqb i j) refl a

pub one_more : (i w n : ℕ) (ts : Trees) (ys : List Item) → 1 ≤ length (same i (item w n (theirs i ts) ∷ ys))
one_more i w n ts ys = rw (eq-eqb i i refl) (omega arith)
