-- Entries of the work row, and the items of the reckoning that they stand for. Assumes nothing: these are definitions.
use Rattle.std.specs.Prelude.{◌≡◌, ℕ, zero, suc, ◌+◌, ◌*◌, ◌^◌, ◌<◌, ◌≤◌, List, [], ◌∷◌, length, slice_index}
use Rattle.cards.specs.Game.{Tree, over, deal, ours, theirs, Trees, none, more, Plan, many, total}
use Rattle.cards.specs.Floor.{Item}
use Rattle.plans.specs.Plan.{plan_of}
use Rattle.plans.specs.declared.Row.{Row}
use Rattle.tree.specs.Rep.{Rep, Reps}
use Rattle.tree.specs.declared.Node.{Node}
use Rattle.tree.specs.declared.Place.{Place}
use Rattle.tree.specs.declared.Place.TheVariants.{Over, Deal, House, Guest}
use Rattle.worst.specs.declared.Entry.{Entry}

abbrev pub blank : Entry
blank = record { times = 0; left = 0; at = 0 }

-- the number of the guest's sight at a place; 0 at any other
abbrev pub place_sight : Place → ℕ
place_sight (Over g) = 0
place_sight (Deal n) = 0
place_sight (House z j) = 0
place_sight (Guest z j) = j

-- a deal, or a choice of the house: a word of chance picks there
abbrev pub Chance : Place → Type 0
Chance (Over g) = ⊥
Chance (Deal n) = Unit {0}
Chance (House z j) = Unit {0}
Chance (Guest z j) = ⊥

-- the first k trees
unfoldable pub firsts : ℕ → Trees → Trees
firsts zero ts = none
firsts (suc k) none = none
firsts (suc k) (more t ts) = more t (firsts k ts)

-- a tree's trees
unfoldable pub parts : Tree → Trees
parts (over g) = none
parts (deal ws ts) = ts
parts (ours i ts) = ts
parts (theirs i ts) = ts

-- among the trees that begin at i there is one after k others
pub record SomeKid (nodes : List Node) (i k : ℕ) : Type 0 where
  pub table : ℕ
  pub base : ℕ
  pub trees : Trees
  pub reps : Reps table base nodes i trees
  pub there : k < many trees
  pub few : length nodes < 2 ^ 32

-- the tree that lies at i has one after k others
pub record SomeNth (nodes : List Node) (i k : ℕ) : Type 0 where
  pub kid : SomeKid nodes (i + 1) k
  pub tree : Tree
  pub rep : Rep kid.table kid.base nodes i tree
  pub parts_are : kid.trees ≡ parts tree

-- a tree lies at i
pub record SomeTree (nodes : List Node) (i : ℕ) : Type 0 where
  pub table : ℕ
  pub base : ℕ
  pub tree : Tree
  pub rep : Rep table base nodes i tree
  pub few : length nodes < 2 ^ 32

-- what no memory holds: the tokens on the table, the words of a hand, and how many choices each sight has, of the house and of the guest
pub record Told : Type 0 where
  pub table : ℕ
  pub words : ℕ
  pub counts : ℕ → ℕ
  pub choices : ℕ → ℕ

abbrev pub told_plan : Told → List Row → Plan
told_plan w rows = plan_of rows w.counts

-- the powers of m, up to n
abbrev pub Powers : ℕ → ℕ → List ℕ → Type 0
Powers m n powers = (i : ℕ) → i ≤ n → (i < length powers) × (slice_index powers i ≡ m ^ i)

-- what the numbers keep to, so that each sum, and each product but m × share, is small
pub record Bounds (w : Told) (nodes : List Node) (m : ℕ) (powers : List ℕ) : Type 0 where
  pub some : 0 < w.table
  pub base : 2 ≤ m
  pub below : w.table * m ^ w.words < 2 ^ 62
  pub few : length nodes < 2 ^ 32
  pub chosen : (i : ℕ) → 0 < w.choices i
  pub powers_are : Powers m w.words powers

-- a tree that fits a plan, as `Well` and `AtMost` say it together
abbrev mutual
  pub Fit : ℕ → Plan → (ℕ → ℕ) → ℕ → Tree → ℕ → Type 0
  Fit m plan choices k (over g) n = g ≤ k
  Fit m plan choices k (deal ws ts) zero = ⊥
  Fit m plan choices k (deal ws ts) (suc n) = (total ws ≡ m) × (length ws ≡ many ts) × Fits m plan choices k ts n
  Fit m plan choices k (ours i ts) zero = ⊥
  Fit m plan choices k (ours i ts) (suc n) = (total (plan i) ≡ m) × (length (plan i) ≡ many ts) × Fits m plan choices k ts n
  Fit m plan choices k (theirs i ts) n = (choices i ≡ many ts) × Fits m plan choices k ts n

  pub Fits : ℕ → Plan → (ℕ → ℕ) → ℕ → Trees → ℕ → Type 0
  Fits m plan choices k none n = Unit {0}
  Fits m plan choices k (more t ts) n = Fit m plan choices k t n × Fits m plan choices k ts n

-- an entry stands for an item: a tree that counts so many times, with so many words left
pub record StandFor (k m : ℕ) (nodes : List Node) (e : Entry) (x : Item) : Type 0 where
  pub times : e.times ≡ x.times
  pub left : e.left ≡ x.left
  pub rep : Rep k m nodes e.at x.tree

abbrev pub Entries : ℕ → ℕ → List Node → List Entry → List Item → Type 0
Entries k m nodes [] [] = Unit {0}
Entries k m nodes [] (x ∷ xs) = ⊥
Entries k m nodes (e ∷ es) [] = ⊥
Entries k m nodes (e ∷ es) (x ∷ xs) = StandFor k m nodes e x × Entries k m nodes es xs
