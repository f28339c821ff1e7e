-- What the verdict says of a rule sheet's two chairs. These are statements, types: a contract in src/lib.rt asserts them, and their proofs are in proofs/. Assumes nothing.
use Rattle.std.specs.Prelude.{◌≡◌, ℕ, ◌+◌, ◌*◌, ◌^◌, ◌<◌, ◌≤◌}
use Rattle.cards.specs.Game.{Plan}
use Rattle.cards.specs.Promise.{Worst}
use Rattle.rules.specs.declared.Player.{Player}
use Rattle.rules.specs.declared.Player.TheVariants.{House, Guest}
use Rattle.rules.specs.declared.Sheet.{Sheet}
use Rattle.rules.specs.Play.{other, purse}
use Rattle.rules.specs.Sights.{words}
use Rattle.rules.specs.Memory.{Dealable}
use Rattle.rules.specs.Statements.{choices, Plans, seat}
use Rattle.bracket.specs.declared.Verdict.{Verdict}
use Rattle.bracket.specs.declared.Verdict.TheVariants.{Best}
use Rattle.bracket.specs.Verdicts.{verdict_of}

-- the words of a hand, where a player plays by a plan
abbrev pub words_of : Sheet → ℕ → Player → ℕ
words_of s m w = words (seat s m w)

-- v is the worst of a plan of a player
pub record WorstAt (s : Sheet) (m : ℕ) (w : Player) (plan : Plan) (v : ℕ) : Type 0 where
  pub plans : Plans s m w plan
  pub worst : Worst m (words_of s m w) plan (choices s (other w)) (seat s m w) v

-- the two sides: a worst of the house and one of the guest, each with the words of the other's game; and all that is on the table
abbrev pub left_side : Sheet → ℕ → ℕ → ℕ → ℕ
left_side s m v u = v * m ^ words_of s m Guest + u * m ^ words_of s m House

abbrev pub right_side : Sheet → ℕ → ℕ
right_side s m = 2 * purse s * m ^ (words_of s m House + words_of s m Guest)

-- as the verdict is worked out
abbrev pub verdict_at : Sheet → ℕ → ℕ → ℕ → Verdict
verdict_at s m v u = verdict_of (left_side s m v u) (2 * purse s * m ^ words_of s m House * m ^ words_of s m Guest)

pub record Brackets (s : Sheet) (m : ℕ) : Type 0 where
  -- a rival plan with the worst u bars every plan of the house from more than the rest
  pub bars_house : (rival : Plan) (u : ℕ) → WorstAt s m Guest rival u → (plan : Plan) (v : ℕ) → WorstAt s m House plan v → left_side s m v u ≤ right_side s m
  -- and a plan of the house with the worst v bars every rival
  pub bars_guest : (plan : Plan) (v : ℕ) → WorstAt s m House plan v → (rival : Plan) (u : ℕ) → WorstAt s m Guest rival u → left_side s m v u ≤ right_side s m
  -- the verdict is best exactly when the two sides are equal
  pub best_equal : (v u : ℕ) → verdict_at s m v u ≡ Best → left_side s m v u ≡ right_side s m
  pub equal_best : (v u : ℕ) → left_side s m v u ≡ right_side s m → verdict_at s m v u ≡ Best
  -- then no plan of the house has a worst above v, and no plan of the guest one above u
  pub best_house : (plan rival : Plan) (v u : ℕ) → WorstAt s m House plan v → WorstAt s m Guest rival u → verdict_at s m v u ≡ Best →
      (plan' : Plan) (v' : ℕ) → WorstAt s m House plan' v' → v' ≤ v
  pub best_guest : (plan rival : Plan) (v u : ℕ) → WorstAt s m House plan v → WorstAt s m Guest rival u → verdict_at s m v u ≡ Best →
      (rival' : Plan) (u' : ℕ) → WorstAt s m Guest rival' u' → u' ≤ u

unfoldable pub BracketsStand : Type 0
BracketsStand = (s : Sheet) (m : ℕ) → Dealable s m → 0 < m → Brackets s m
