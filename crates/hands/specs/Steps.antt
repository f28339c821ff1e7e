-- The steps of a hand: how a word falls among trees, and which tree a choice leads to. Assumes nothing: these are definitions.
use Rattle.std.specs.Prelude.{◌≡◌, ℕ, suc, ◌+◌, ◌^◌, ◌<◌, ◌≤◌, List, length, take, drop, Some, None, Ok, Err, Option, Result, slice_index, slice_index_or}
use Rattle.cards.specs.Game.{Tree, theirs, Trees, Plan, many, total}
use Rattle.cards.specs.Promise.{Well, Wells}
use Rattle.cards.specs.Played.{refused, plays, lands, picks}
use Rattle.cards.specs.Reckon.{places, places_all}
use Rattle.tree.specs.Rep.{Rep, Reps, Weighed}
use Rattle.tree.specs.declared.Place.{Place}
use Rattle.tree.specs.declared.Place.TheVariants.{Over, Deal, House, Guest}
use Rattle.tree.specs.declared.Node.{Node}
use Rattle.plans.specs.Plan.{no_row}
use Rattle.plans.specs.declared.Row.{Row}
use Rattle.hands.specs.Refused.{number_of, place_of}
use Rattle.hands.specs.declared.Refusal.{Refusal}

-- a word x falls among the weights ws of the trees ts
pub record Falling (m n : ℕ) (plan : Plan) (counts : ℕ → ℕ) (ws : List ℕ) (ts : Trees) (x : ℕ) : Type 0 where
  pub inside : x < total ws
  pub long : length ws ≡ many ts
  pub fits : Wells m plan counts n ts

-- the word has fallen to the tree that lies from r on
pub record Fallen (k m n : ℕ) (plan : Plan) (counts : ℕ → ℕ) (nodes : List Node) (ws : List ℕ) (ts : Trees) (x r : ℕ) : Type 0 where
  pub tree : Tree
  pub lies : Rep k m nodes r tree
  pub fits : Well m plan counts n tree
  pub fewer : places tree ≤ places_all ts
  pub goes : (c d : ℕ) (chosen words : List ℕ) → lands m plan ts ws x c d chosen words ≡ plays m plan tree c d chosen words

-- some word falls at a deal from so many parts, whose trees lie from i on
pub record SomeDeal (m parts : ℕ) (nodes : List Node) (i x : ℕ) : Type 0 where
  pub k : ℕ
  pub n : ℕ
  pub plan : Plan
  pub counts : ℕ → ℕ
  pub ws : List ℕ
  pub ts : Trees
  pub weighed : Weighed k m parts nodes i ws ts
  pub falls : Falling m n plan counts ws ts x
  pub small : length nodes < 2 ^ 32

-- some word falls among the first q weights of a row, whose trees lie from i on
pub record SomeRow (nodes : List Node) (row : Row) (i x : ℕ) : Type 0 where
  pub k : ℕ
  pub m : ℕ
  pub n : ℕ
  pub q : ℕ
  pub plan : Plan
  pub counts : ℕ → ℕ
  pub ts : Trees
  pub lie : Reps k m nodes i ts
  pub falls : Falling m n plan counts (take q row.weights) ts x
  pub small : length nodes < 2 ^ 32

-- some word falls at such a place, whose trees lie from i on, up to e
abbrev pub SomeFall : ℕ → List Row → List Node → Place → ℕ → ℕ → ℕ → Type 0
SomeFall m rows nodes (Over o) i e x = ⊥
SomeFall m rows nodes (Deal parts) i e x = (f : SomeDeal m parts nodes i x) × (i + places_all f.ts ≡ e)
SomeFall m rows nodes (House z s) i e x = (s < length rows) × (f : SomeRow nodes (slice_index_or rows s no_row) i x) × (i + places_all f.ts ≡ e)
SomeFall m rows nodes (Guest z s) i e x = ⊥

-- the word has fallen to the tree that lies from r on: by the shares of a deal, or by the weights of a row, however many of them count
abbrev pub Falls : ℕ → List Row → List Node → Place → ℕ → ℕ → ℕ → Type 0
Falls m rows nodes (Over e) i x r = Unit {0}
Falls m rows nodes (Deal parts) i x r =
    (k n : ℕ) (plan : Plan) (counts : ℕ → ℕ) (ws : List ℕ) (ts : Trees) → Weighed k m parts nodes i ws ts →
    Falling m n plan counts ws ts x → Fallen k m n plan counts nodes ws ts x r
Falls m rows nodes (House z s) i x r =
    let row = slice_index_or rows s no_row in
    (k base n q : ℕ) (plan : Plan) (counts : ℕ → ℕ) (ts : Trees) → Reps k base nodes i ts →
    Falling base n plan counts (take q row.weights) ts x → Fallen k base n plan counts nodes (take q row.weights) ts x r
Falls m rows nodes (Guest z s) i x r = Unit {0}

-- the tree of choice j lies from r on
pub record Picked (k m n : ℕ) (plan : Plan) (counts : ℕ → ℕ) (nodes : List Node) (ts : Trees) (j r : ℕ) : Type 0 where
  pub tree : Tree
  pub lies : Rep k m nodes r tree
  pub fits : Well m plan counts n tree
  pub fewer : places tree ≤ places_all ts
  pub goes : (c d : ℕ) (chosen words : List ℕ) → picks m plan ts j c d chosen words ≡ plays m plan tree (suc c) d chosen words

-- the tree of choice j, if there is one
abbrev pub Chosen : ℕ → ℕ → ℕ → Plan → (ℕ → ℕ) → List Node → Trees → ℕ → Option ℕ → Type 0
Chosen k m n plan counts nodes ts j (Some r) = Picked k m n plan counts nodes ts j r
Chosen k m n plan counts nodes ts j None = (c d : ℕ) (chosen words : List ℕ) → picks m plan ts j c d chosen words ≡ refused 11 c

-- the tree of the choice after so many, or why there is none
abbrev pub Chooses : ℕ → ℕ → ℕ → Plan → (ℕ → ℕ) → List Node → Trees → List ℕ → ℕ → Result ℕ Refusal → Type 0
Chooses k m n plan counts nodes ts choices made (Ok r) = (made < length choices) × Picked k m n plan counts nodes ts (slice_index choices made) r
Chooses k m n plan counts nodes ts choices made (Err e) =
    (j d : ℕ) (words : List ℕ) → plays m plan (theirs j ts) made d (drop made choices) words ≡ refused (number_of e) (place_of e)
