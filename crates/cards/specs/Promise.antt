-- What is promised. Each is a statement, a type: a contract in src/lib.rt asserts it, and its proof is in proofs/. Assumes nothing.
use Rattle.std.specs.Prelude.{◌≡◌, ℕ, suc, ◌+◌, ◌-◌, ◌*◌, ◌^◌, ◌<◌, ◌≤◌, Bool, true, false, not, ◌&&◌, ◌||◌, List, [], ◌∷◌, length, ◌==◌}
use Rattle.cards.specs.Game.{Tree, over, deal, ours, theirs, Trees, none, more, Plan, Way, many, total, sum}
use Rattle.cards.specs.Floor.{Item, Floor}
use Rattle.cards.specs.Match.{hand, sum_rows, Guest, bout}

abbrev pub Legal : (ℕ → ℕ) → Way → Type 0
Legal choices way = (i : ℕ) → way i < choices i

-- a game and a plan that fit: weights sum to m and are as many as the trees, each sight of the guest has its number of choices, and n words are enough
mutual
  pub data Well (m : ℕ) (plan : Plan) (choices : ℕ → ℕ) : ℕ → Tree → Type 0 where
    well_over : {n g : ℕ} → Well m plan choices n (over g)
    well_deal : {n : ℕ} {ws : List ℕ} {ts : Trees} → total ws ≡ m → length ws ≡ many ts → Wells m plan choices n ts → Well m plan choices (suc n) (deal ws ts)
    well_ours : {n i : ℕ} {ts : Trees} → total (plan i) ≡ m → length (plan i) ≡ many ts → Wells m plan choices n ts → Well m plan choices (suc n) (ours i ts)
    well_theirs : {n i : ℕ} {ts : Trees} → choices i ≡ many ts → Wells m plan choices n ts → Well m plan choices n (theirs i ts)

  pub data Wells (m : ℕ) (plan : Plan) (choices : ℕ → ℕ) : ℕ → Trees → Type 0 where
    wells_none : {n : ℕ} → Wells m plan choices n none
    wells_more : {n : ℕ} {t : Tree} {ts : Trees} → Well m plan choices n t → Wells m plan choices n ts → Wells m plan choices n (more t ts)

abbrev pub whole : ℕ → Tree → List Item
whole n t = record { times = 1; left = n; tree = t } ∷ []

-- THE MAIN PROMISE: whoever sits opposite, choosing from all that was dealt and done before, hidden cards of earlier hands included:
-- over all words of k hands, the house has on average at least the floor in each
unfoldable pub HouseHolds : Type 0
HouseHolds =
    (m n v : ℕ) (plan : Plan) (choices : ℕ → ℕ) (t : Tree) → Well m plan choices n t → Floor m plan choices (whole n t) v →
    (guest : Guest) → ((past : List (List ℕ)) → Legal choices (guest past)) → (k : ℕ) (past : List (List ℕ)) →
    k * v * (m ^ n) ^ k ≤ m ^ n * bout m n plan t guest k past

-- a floor is one: no way of the guest brings the house below it
unfoldable pub FloorHolds : Type 0
FloorHolds = (m n v : ℕ) (plan : Plan) (choices : ℕ → ℕ) (t : Tree) → Floor m plan choices (whole n t) v → (way : Way) → Legal choices way → v ≤ sum m plan way t n

-- weights are words: over all rows of words, the hands played come to the sum by weights
unfoldable pub WordsFall : Type 0
WordsFall =
    (m n : ℕ) (plan : Plan) (choices : ℕ → ℕ) (t : Tree) → Well m plan choices n t → (way : Way) → Legal choices way →
    sum_rows m n (λ words. hand plan way t words) ≡ sum m plan way t n

-- the worst: a floor that some way reaches; there is one worst
pub record Worst (m n : ℕ) (plan : Plan) (choices : ℕ → ℕ) (t : Tree) (v : ℕ) : Type 0 where
  pub floor : Floor m plan choices (whole n t) v
  pub way : Way
  pub legal : Legal choices way
  pub reached : sum m plan way t n ≡ v

unfoldable pub OneWorst : Type 0
OneWorst = (m n u v : ℕ) (plan : Plan) (choices : ℕ → ℕ) (t : Tree) → Worst m n plan choices t u → Worst m n plan choices t v → u ≡ v

-- the game seen from the other chair, where k is on the table in all
abbrev mutual
  pub turned : ℕ → Tree → Tree
  turned k (over g) = over (k - g)
  turned k (deal ws ts) = deal ws (turned_all k ts)
  turned k (ours i ts) = theirs i (turned_all k ts)
  turned k (theirs i ts) = ours i (turned_all k ts)

  pub turned_all : ℕ → Trees → Trees
  turned_all k none = none
  turned_all k (more t ts) = more (turned k t) (turned_all k ts)

-- nobody has more at the end than is on the table
mutual
  pub data AtMost (k : ℕ) : Tree → Type 0 where
    most_over : {g : ℕ} → g ≤ k → AtMost k (over g)
    most_deal : {ws : List ℕ} {ts : Trees} → AllMost k ts → AtMost k (deal ws ts)
    most_ours : {i : ℕ} {ts : Trees} → AllMost k ts → AtMost k (ours i ts)
    most_theirs : {i : ℕ} {ts : Trees} → AllMost k ts → AtMost k (theirs i ts)

  pub data AllMost (k : ℕ) : Trees → Type 0 where
    most_none : AllMost k none
    most_more : {t : Tree} {ts : Trees} → AtMost k t → AllMost k ts → AllMost k (more t ts)

-- no sight comes twice on a path through the tree
unfoldable pub among : ℕ → List ℕ → Bool
among i [] = false
among i (j ∷ js) = i == j || among i js

abbrev mutual
  pub once : List ℕ → List ℕ → Tree → Bool
  once us vs (over g) = true
  once us vs (deal ws ts) = once_all us vs ts
  once us vs (ours i ts) = not (among i us) && once_all (i ∷ us) vs ts
  once us vs (theirs i ts) = not (among i vs) && once_all us (i ∷ vs) ts

  pub once_all : List ℕ → List ℕ → Trees → Bool
  once_all us vs none = true
  once_all us vs (more t ts) = once us vs t && once_all us vs ts

-- the bracket: a rival plan with a floor u at the other chair bars every plan of the house from more than the rest.
-- Each player has its own sights and counts of choices; c and d are the words that the two games need
unfoldable pub Bracket : Type 0
Bracket =
    (m c d k u : ℕ) (t : Tree) → AtMost k t → once [] [] t ≡ true → (plan rival : Plan) (choices ours_choices : ℕ → ℕ) → ((i : ℕ) → 0 < choices i) → ((i : ℕ) → 0 < ours_choices i) →
    Well m plan choices c t → Well m rival ours_choices d (turned k t) → Floor m rival ours_choices (whole d (turned k t)) u →
    (way : Way) × Legal choices way × (sum m plan way t c * m ^ d + u * m ^ c ≤ k * m ^ (c + d))

-- turning twice is the game
unfoldable pub TurnBack : Type 0
TurnBack = (k : ℕ) (t : Tree) → AtMost k t → turned k (turned k t) ≡ t

-- words that are not needed change the sum by the factor m, and nothing else
unfoldable pub OneWordMore : Type 0
OneWordMore =
    (m n : ℕ) (plan : Plan) (choices : ℕ → ℕ) (t : Tree) → Well m plan choices n t → (way : Way) → Legal choices way →
    sum m plan way t (suc n) ≡ m * sum m plan way t n

-- where each number of choices is at least 1, also where there is no sight, there is a legal way, so no promise is empty
unfoldable pub LegalWayExists : Type 0
LegalWayExists = (choices : ℕ → ℕ) → ((i : ℕ) → 0 < choices i) → (way : Way) × Legal choices way
