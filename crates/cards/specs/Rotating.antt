-- The floor with a weaker `later`, by which the first item can only be put last. Kept to show why `later` puts an item into any place. Assumes nothing: these are definitions and statements.
use Rattle.std.specs.Prelude.{◌≡◌, ℕ, suc, ◌+◌, ◌*◌, ◌^◌, ◌<◌, ◌≤◌, List, [], ◌∷◌, ◌++◌}
use Rattle.cards.specs.Game.{Tree, over, deal, ours, theirs, Trees, none, more, Plan, Way, sum}
use Rattle.cards.specs.Floor.{Item, spread, AtSight, after, Floor}
use Rattle.cards.specs.Promise.{Legal, Well, whole, Worst}
use Rattle.cards.specs.Played.{Recalls}

pub data Rotating (m : ℕ) (plan : Plan) (choices : ℕ → ℕ) : List Item → ℕ → Type 0 where
  nothing' : Rotating m plan choices [] 0
  ended' : {w n g v : ℕ} {xs : List Item} → Rotating m plan choices xs v → Rotating m plan choices (record { times = w; left = n; tree = over g } ∷ xs) (w * (g * m ^ n) + v)
  dealt' : {w n v : ℕ} {ws : List ℕ} {ts : Trees} {xs : List Item} → Rotating m plan choices (spread w n ts ws xs) v
      → Rotating m plan choices (record { times = w; left = suc n; tree = deal ws ts } ∷ xs) v
  planned' : {w n i v : ℕ} {ts : Trees} {xs : List Item} → Rotating m plan choices (spread w n ts (plan i) xs) v
      → Rotating m plan choices (record { times = w; left = suc n; tree = ours i ts } ∷ xs) v
  later' : {v : ℕ} {x : Item} (xs : List Item) → Rotating m plan choices (xs ++ (x ∷ [])) v → Rotating m plan choices (x ∷ xs) v
  apart' : {u v : ℕ} (xs ys : List Item) → Rotating m plan choices xs u → Rotating m plan choices ys v → Rotating m plan choices (xs ++ ys) (u + v)
  chosen' : {v : ℕ} (i : ℕ) {xs : List Item} → 0 < choices i → AtSight i xs → ((k : ℕ) → k < choices i → Rotating m plan choices (after k xs) v) → Rotating m plan choices xs v
  lower' : {u v : ℕ} {xs : List Item} → u ≤ v → Rotating m plan choices xs v → Rotating m plan choices xs u

pub record RotatingWorst (m n : ℕ) (plan : Plan) (choices : ℕ → ℕ) (t : Tree) (v : ℕ) : Type 0 where
  pub floor : Rotating m plan choices (whole n t) v
  pub way : Way
  pub legal : Legal choices way
  pub reached : sum m plan way t n ≡ v

-- every floor by these steps is one by those of `Floor`
unfoldable pub RotatingIsAFloor : Type 0
RotatingIsAFloor = (m v : ℕ) (plan : Plan) (choices : ℕ → ℕ) (xs : List Item) → Rotating m plan choices xs v → Floor m plan choices xs v

-- a game of one deal in which the trees of two sights cross; the house has 2 in 4 hands whatever the guest does
abbrev pub plain : Trees
plain = more (over 1) (more (over 0) none)

abbrev pub crossed : Trees
crossed = more (over 0) (more (over 1) none)

abbrev pub ones : List ℕ
ones = 1 ∷ 1 ∷ 1 ∷ 1 ∷ []

abbrev pub four : Trees
four = more (theirs 0 plain) (more (theirs 1 plain) (more (theirs 0 crossed) (more (theirs 1 crossed) none)))

abbrev pub crossing : Tree
crossing = deal ones four

abbrev pub no_plan : Plan
no_plan i = []

abbrev pub both : ℕ → ℕ
both i = 2

-- that game has recall, has no worst by these steps, and has one by those of `Floor`
pub record RotatingFallsShort : Type 0 where
  pub well : Well 4 no_plan both 1 crossing
  pub recalls : Recalls (λ i. []) [] crossing
  pub no_worst : (v : ℕ) → RotatingWorst 4 1 no_plan both crossing v → ⊥
  pub worst : Worst 4 1 no_plan both crossing 2
