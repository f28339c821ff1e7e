-- The two chairs of a rule sheet, held against each other. Assumes nothing.
use Rattle.std.proofs.Common.{◌≡◌, ℕ, ◌*◌, ◌^◌, ◌<◌, ◌≤◌, Bool, true, false, eqb, List, map, sym, refl, ap, ◌∙◌, mul-le-mul_right, le_of_mul-le-mul_right, arith, pow-add}
use native.Mathlib.Nat.{one-le-pow}
use Rattle.std.proofs.lemmas.Bool.{eq-eqb, eqb-true}
use Rattle.cards.specs.Game.{Plan, pick, sum}
use Rattle.cards.specs.Promise.{Bracket, FloorHolds}
use Rattle.cards.proofs.FloorHolds.{floor_holds}
use Rattle.cards.proofs.Bracket.{bracket}
use Rattle.rules.specs.declared.Player.TheVariants.{House, Guest}
use Rattle.rules.specs.declared.Sheet.{Sheet}
use Rattle.rules.specs.Play.{purse}
use Rattle.rules.specs.Sights.{tree}
use Rattle.rules.specs.Memory.{Dealable}
use Rattle.rules.specs.Statements.{choices, seat}
use Rattle.rules.proofs.Sheets.{sheets_stand_lem}
use Rattle.tree.specs.declared.Node.{Node}
use Rattle.tree.specs.Rep.{Rep}
use Rattle.bracket.specs.declared.Verdict.TheVariants.{Best, Open}
use Rattle.bracket.specs.Turned.{turned_node}
use Rattle.bracket.specs.Verdicts.{verdict_of}
use Rattle.bracket.specs.Chairs.{words_of, WorstAt, left_side, right_side, verdict_at, BracketsStand}
use Rattle.bracket.proofs.Turns.{rep_turned}

-- best means equal
picks_best : (b : Bool) → pick b Best Open ≡ Best → b ≡ true
picks_best true e = refl
picks_best false e = let z : ◌≡◌ {A = ℕ} 0 1 = cc in absurd (omega arith)

pub best_is : (a b : ℕ) → verdict_of a b ≡ Best → a ≡ b
best_is a b e = eqb-true a b (picks_best (eqb a b) e)

pub is_best : (a b : ℕ) → a ≡ b → verdict_of a b ≡ Best
is_best a b e = ap (λ t. pick t Best Open) (eq-eqb a b e)

module _ (s : Sheet) (m : ℕ) (d : Dealable s m) where
  -- the two worsts share what is on the table
  shared : (plan rival : Plan) (v u : ℕ) → WorstAt s m House plan v → WorstAt s m Guest rival u → left_side s m v u ≤ right_side s m
  unfolding Bracket FloorHolds
  shared plan rival v u a b =
      let z = sheets_stand_lem s m d in
      let n = words_of s m House in
      let n' = words_of s m Guest in
      let (way, legal, h) = bracket m n n' (2 * purse s) u (tree s m) z.table z.fresh plan rival (choices s Guest) (choices s House) (z.some Guest) (z.some House)
      (z.fits House plan a.plans) (z.fits Guest rival b.plans) b.worst.floor in
      let l : v ≤ sum m plan way (tree s m) n = floor_holds m n v plan (choices s Guest) (tree s m) a.worst.floor way legal in
      omega (arith, h, mul-le-mul_right (m ^ n') l)

  right_is : 2 * purse s * m ^ words_of s m House * m ^ words_of s m Guest ≡ right_side s m
  right_is = rw (pow-add m (words_of s m House) (words_of s m Guest)) (omega arith)

  best_equal : (v u : ℕ) → verdict_at s m v u ≡ Best → left_side s m v u ≡ right_side s m
  best_equal v u e = best_is _ _ e ∙ right_is

  equal_best : (v u : ℕ) → left_side s m v u ≡ right_side s m → verdict_at s m v u ≡ Best
  equal_best v u e = is_best _ _ (e ∙ sym right_is)

  module _ (p : 0 < m) (plan rival : Plan) (v u : ℕ) (a : WorstAt s m House plan v) (b : WorstAt s m Guest rival u) (e : verdict_at s m v u ≡ Best) where
    best_house : (plan' : Plan) (v' : ℕ) → WorstAt s m House plan' v' → v' ≤ v
    best_house plan' v' a' =
        let h = shared plan' rival v' u a' b in
        let q = best_equal v u e in
        let l : v' * m ^ words_of s m Guest ≤ v * m ^ words_of s m Guest = omega arith in
        le_of_mul-le-mul_right l (one-le-pow (words_of s m Guest) m p)

    best_guest : (rival' : Plan) (u' : ℕ) → WorstAt s m Guest rival' u' → u' ≤ u
    best_guest rival' u' b' =
        let h = shared plan rival' v u' a b' in
        let q = best_equal v u e in
        let l : u' * m ^ words_of s m House ≤ u * m ^ words_of s m House = omega arith in
        le_of_mul-le-mul_right l (one-le-pow (words_of s m House) m p)

-- the row of a rule sheet's tree, turned, holds the tree as the guest sees it
pub seat_turned : (s : Sheet) (m : ℕ) → Dealable s m → (ns : List Node) (i : ℕ) → Rep (2 * purse s) m ns i (seat s m House) → Rep (2 * purse s) m (map turned_node ns) i (seat s m Guest)
seat_turned s m d ns i r = rep_turned (2 * purse s) m ns i (tree s m) r (sheets_stand_lem s m d).table

pub brackets_stand : BracketsStand
unfolding BracketsStand
brackets_stand s m d p =
    record {
      bars_house = λ rival u b plan v a. shared s m d plan rival v u a b;
      bars_guest = λ plan v a rival u b. shared s m d plan rival v u a b;
      best_equal = best_equal s m d;
      equal_best = equal_best s m d;
      best_house = best_house s m d p;
      best_guest = best_guest s m d p;
    }
