-- A floor is one: by the way the floor was made, no way of the guest goes below it.
use Rattle.std.proofs.Common.{◌≡◌, ℕ, zero, suc, ◌+◌, ◌*◌, ◌≤◌, List, [], ◌∷◌, ◌++◌, refl, le_trans, arith}
use Rattle.cards.specs.Game.{Trees, none, more, Plan, Way, sum, along, at}
use Rattle.cards.specs.Floor.{Item, sum_of, spread, nth, AtSight, nil, and, next, after, Floor, nothing, ended, dealt, planned, later, apart, chosen, lower}
use Rattle.cards.specs.Promise.{Legal, FloorHolds}

module _ (m : ℕ) (plan : Plan) (way : Way) where
  sum_of-++ : (xs ys : List Item) → sum_of m plan way (xs ++ ys) ≡ sum_of m plan way xs + sum_of m plan way ys
  unfolding sum_of
  sum_of-++ [] ys = omega arith
  sum_of-++ (x ∷ xs) ys = omega (arith, sum_of-++ xs ys)

  sum_of_spread : (w n : ℕ) (ts : Trees) (ws : List ℕ) (xs : List Item)
      → sum_of m plan way (spread w n ts ws xs) ≡ w * along m plan way ts ws n + sum_of m plan way xs
  unfolding sum_of spread
  sum_of_spread w n none ws xs = omega arith
  sum_of_spread w n (more t ts) [] xs = omega arith
  sum_of_spread w n (more t ts) (v ∷ ws) xs = omega (arith, sum_of_spread w n ts ws xs)

  sum_nth : (ts : Trees) (k n : ℕ) → sum m plan way (nth ts k) n ≡ at m plan way ts k n
  unfolding nth
  sum_nth none k n = omega arith
  sum_nth (more t ts) zero n = refl
  sum_nth (more t ts) (suc k) n = sum_nth ts k n

  sum_of_after : {i : ℕ} {xs : List Item} → AtSight i xs → sum_of m plan way (after (way i) xs) ≡ sum_of m plan way xs
  unfolding sum_of after next
  sum_of_after nil = refl
  sum_of_after {i} (and {w = w} {n = n} {ts = ts} h) = rw (sum_nth ts (way i) n, sum_of_after h)

  module _ {choices : ℕ → ℕ} (legal : Legal choices way) where
    pub floor_below : {xs : List Item} {v : ℕ} → Floor m plan choices xs v → v ≤ sum_of m plan way xs
    unfolding sum_of
    floor_below nothing = omega arith
    floor_below (ended f) = omega (arith, floor_below f)
    floor_below (dealt {w = w} {n = n} {ws = ws} {ts = ts} {xs = xs} f) = omega (arith, floor_below f, sum_of_spread w n ts ws xs)
    floor_below (planned {w = w} {n = n} {i = i} {ts = ts} {xs = xs} f) = omega (arith, floor_below f, sum_of_spread w n ts (plan i) xs)
    floor_below (later {x = x} xs ys f) = omega (arith, floor_below f, sum_of-++ xs (x ∷ ys), sum_of-++ xs ys)
    floor_below (apart xs ys f g) = omega (arith, floor_below f, floor_below g, sum_of-++ xs ys)
    floor_below (chosen i _ h f) = omega (arith, floor_below (f (way i) (legal i)), sum_of_after h)
    floor_below (lower h f) = le_trans h (floor_below f)

pub floor_holds : FloorHolds
unfolding FloorHolds sum_of
floor_holds m n v plan choices t f way legal = omega (arith, floor_below m plan way legal f)
