-- What trees that are spread out come to: sums, places, and what they count.
use Rattle.std.proofs.Common.{◌≡◌, ℕ, zero, suc, ◌+◌, ◌*◌, ◌^◌, ◌<◌, ◌≤◌, List, [], ◌∷◌, ◌++◌, length, get_or, sym, refl, ap, ◌∙◌, append_assoc, append-nil, mul-le-mul_right, mul_assoc, add-mul, mul-add, mul_left_comm, arith}
use native.Mathlib.Nat.{pow-succ'}
use Rattle.cards.specs.Game.{Tree, over, deal, ours, theirs, Trees, none, more, many, Plan, total}
use Rattle.cards.specs.Floor.{Item, nth}
use Rattle.cards.specs.Reckon.{places, places_all, sure, sure_all, open', open_all}
use Rattle.cards.proofs.AtHand.{size_of, size_append, places_pos, tree_size, trees_size}
use Rattle.tree.specs.declared.Node.{Node}
use Rattle.worst.specs.Items.{firsts, Fit, Fits, Entries}
use Rattle.worst.specs.Worth.{room, mass}
use Rattle.worst.specs.declared.Entry.{Entry}

-- the places of items, as cards counts them
pub room_is : (xs : List Item) → room xs ≡ size_of xs
room_is [] = refl
room_is (x ∷ xs) = ap (λ n. places x.tree + n) (room_is xs)

pub room-++ : (xs ys : List Item) → room (xs ++ ys) ≡ room xs + room ys
room-++ xs ys = omega (arith, room_is (xs ++ ys), room_is xs, room_is ys, size_append xs ys)

pub mass-++ : (m : ℕ) (xs ys : List Item) → mass m (xs ++ ys) ≡ mass m xs + mass m ys
mass-++ m [] ys = omega arith
mass-++ m (x ∷ xs) ys = let e = mass-++ m xs ys in omega arith

pub length_room : (xs : List Item) → length xs ≤ room xs
length_room [] = omega arith
length_room (x ∷ xs) = let e = length_room xs in let p = places_pos x.tree in omega arith

pub fits_nth : (m : ℕ) (plan : Plan) (choices : ℕ → ℕ) (most : ℕ) (ts : Trees) (n k : ℕ) → Fits m plan choices most ts n → k < many ts → Fit m plan choices most (nth ts k) n
unfolding nth many
fits_nth m plan choices most none n k h l = absurd (omega arith)
fits_nth m plan choices most (more t ts) n zero h l = h.0
fits_nth m plan choices most (more t ts) n (suc k) h l = fits_nth m plan choices most ts n k h.1 (omega arith)

pub sure_all_more : (m : ℕ) (plan : Plan) (ts : Trees) (ws : List ℕ) (w n k : ℕ) → k < many ts → k < length ws →
    sure_all m plan (firsts (suc k) ts) ws w n ≡ sure_all m plan (firsts k ts) ws w n + sure m plan (nth ts k) (w * get_or ws k 0) n
unfolding firsts nth many
sure_all_more m plan none ws w n k l h = absurd (omega arith)
sure_all_more m plan (more t ts) [] w n k l h = absurd (omega arith)
sure_all_more m plan (more t ts) (v ∷ vs) w n zero l h = omega arith
sure_all_more m plan (more t ts) (v ∷ vs) w n (suc k) l h = let e = sure_all_more m plan ts vs w n k (omega arith) (omega arith) in omega arith

pub open_all_more : (m : ℕ) (plan : Plan) (ts : Trees) (ws : List ℕ) (w n k : ℕ) → k < many ts → k < length ws →
    open_all m plan (firsts (suc k) ts) ws w n ≡ open_all m plan (firsts k ts) ws w n ++ open' m plan (nth ts k) (w * get_or ws k 0) n
unfolding firsts nth many
open_all_more m plan none ws w n k l h = absurd (omega arith)
open_all_more m plan (more t ts) [] w n k l h = absurd (omega arith)
open_all_more m plan (more t ts) (v ∷ vs) w n zero l h = append-nil _
open_all_more m plan (more t ts) (v ∷ vs) w n (suc k) l h =
    ap (λ zs. open' m plan t (w * v) n ++ zs) (open_all_more m plan ts vs w n k (omega arith) (omega arith)) ∙ sym (append_assoc (open' m plan t (w * v) n) _ _)

pub sure_firsts_le : (m : ℕ) (plan : Plan) (ts : Trees) (ws : List ℕ) (w n k : ℕ) → sure_all m plan (firsts k ts) ws w n ≤ sure_all m plan ts ws w n
unfolding firsts
sure_firsts_le m plan ts ws w n zero = omega arith
sure_firsts_le m plan none ws w n (suc k) = omega arith
sure_firsts_le m plan (more t ts) [] w n (suc k) = omega arith
sure_firsts_le m plan (more t ts) (v ∷ vs) w n (suc k) = let e = sure_firsts_le m plan ts vs w n k in omega arith

pub get_or_le_total : (ws : List ℕ) (k : ℕ) → get_or ws k 0 ≤ total ws
unfolding total
get_or_le_total [] k = omega arith
get_or_le_total (v ∷ vs) zero = omega arith
get_or_le_total (v ∷ vs) (suc k) = let e = get_or_le_total vs k in omega arith

-- what is sure and what is open count no more than the tree

grow : (a w v s p : ℕ) → a * (w * ((v + s) * p)) ≡ a * ((w * v) * p) + a * (w * (s * p))
grow a w v s p = simp (add-mul, mul-add, mul_assoc)

up : (m most w n s x : ℕ) → x ≤ most * (w * (s * m ^ n)) → s ≡ m → x ≤ most * (w * m ^ suc n)
up m most w n s x a l =
    let b : most * (w * (s * m ^ n)) ≡ most * (w * (m * m ^ n)) = ap (λ z. most * (w * (z * m ^ n))) l in
    rw (pow-succ' m n) (omega arith)

mutual
  unfolding total

  pub sure_mass : (m : ℕ) (plan : Plan) (choices : ℕ → ℕ) (most : ℕ) (t : Tree) (w n : ℕ) → Fit m plan choices most t n → sure m plan t w n + most * mass m (open' m plan t w n) ≤ most * (w * m ^ n)
  sure_mass m plan choices most (over g) w n h =
      let a : w * (g * m ^ n) ≤ most * (w * m ^ n) = rw (mul_left_comm w g (m ^ n)) (mul-le-mul_right (w * m ^ n) h) in omega arith
  sure_mass m plan choices most (deal ws ts) w zero h = omega arith
  sure_mass m plan choices most (deal ws ts) w (suc n) h = up m most w n (total ws) _ (sure_all_mass m plan choices most ts ws w n h.2) h.0
  sure_mass m plan choices most (ours i ts) w zero h = omega arith
  sure_mass m plan choices most (ours i ts) w (suc n) h = up m most w n (total (plan i)) _ (sure_all_mass m plan choices most ts (plan i) w n h.2) h.0
  sure_mass m plan choices most (theirs i ts) w n h = let e : w * m ^ n + 0 ≡ w * m ^ n = omega arith in rw e (omega arith)

  pub sure_all_mass : (m : ℕ) (plan : Plan) (choices : ℕ → ℕ) (most : ℕ) (ts : Trees) (ws : List ℕ) (w n : ℕ) → Fits m plan choices most ts n →
      sure_all m plan ts ws w n + most * mass m (open_all m plan ts ws w n) ≤ most * (w * (total ws * m ^ n))
  sure_all_mass m plan choices most none ws w n h = omega arith
  sure_all_mass m plan choices most (more t ts) [] w n h = omega arith
  sure_all_mass m plan choices most (more t ts) (v ∷ vs) w n h =
      let a = sure_mass m plan choices most t (w * v) n h.0 in
      let b = sure_all_mass m plan choices most ts vs w n h.1 in
      let e = grow most w v (total vs) (m ^ n) in
      let f : most * mass m (open' m plan t (w * v) n ++ open_all m plan ts vs w n) ≡ most * mass m (open' m plan t (w * v) n) + most * mass m (open_all m plan ts vs w n) =
      ap (λ z. most * z) (mass-++ m (open' m plan t (w * v) n) (open_all m plan ts vs w n)) ∙ mul-add most _ _ in
      omega arith

pub sure_all_le : (m : ℕ) (plan : Plan) (choices : ℕ → ℕ) (most : ℕ) (ts : Trees) (ws : List ℕ) (w n : ℕ) → total ws ≡ m → Fits m plan choices most ts n → sure_all m plan ts ws w n ≤ most * (w * m ^ suc n)
sure_all_le m plan choices most ts ws w n l h =
    up m most w n (total ws) (sure_all m plan ts ws w n) (let a = sure_all_mass m plan choices most ts ws w n h in omega arith) l

pub open_room : (m : ℕ) (plan : Plan) (t : Tree) (w n : ℕ) → room (open' m plan t w n) ≤ places t
open_room m plan t w n = omega (arith, room_is (open' m plan t w n), tree_size m plan t w n)

pub open_all_room : (m : ℕ) (plan : Plan) (ts : Trees) (ws : List ℕ) (w n : ℕ) → room (open_all m plan ts ws w n) ≤ places_all ts
open_all_room m plan ts ws w n = omega (arith, room_is (open_all m plan ts ws w n), trees_size m plan ts ws w n)

-- entries that stand for items

pub entries_append : (k m : ℕ) (nodes : List Node) (es fs : List Entry) (xs ys : List Item) → Entries k m nodes es xs → Entries k m nodes fs ys → Entries k m nodes (es ++ fs) (xs ++ ys)
entries_append k m nodes [] fs [] ys h g = g
entries_append k m nodes [] fs (x ∷ xs) ys h g = absurd h
entries_append k m nodes (e ∷ es) fs [] ys h g = absurd h
entries_append k m nodes (e ∷ es) fs (x ∷ xs) ys h g = (h.0, entries_append k m nodes es fs xs ys h.1 g)

pub entries_length : (k m : ℕ) (nodes : List Node) (es : List Entry) (xs : List Item) → Entries k m nodes es xs → length es ≡ length xs
entries_length k m nodes [] [] h = refl
entries_length k m nodes [] (x ∷ xs) h = absurd h
entries_length k m nodes (e ∷ es) [] h = absurd h
entries_length k m nodes (e ∷ es) (x ∷ xs) h = ap suc (entries_length k m nodes es xs h.1)
