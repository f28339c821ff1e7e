-- What is promised of the hands as they are played. Each is a statement, a type: a contract in src/lib.rt asserts it, and its proof is in proofs/. Assumes nothing.
use Rattle.std.specs.Prelude.{◌≡◌, ℕ, ◌*◌, ◌^◌, ◌<◌, ◌≤◌, true, ◌⊎◌, List, [], ◌++◌, length, slice_index}
use Rattle.cards.specs.Game.{Tree, Plan, Way, sum}
use Rattle.cards.specs.Floor.{Floor}
use Rattle.cards.specs.Match.{hand, sum_rows, Guest}
use Rattle.cards.specs.Played.{done, refused, played, has, Row, Hands, trace, Move, moves, Made, sum_hands, Chooser, Blind, Ends, played_all, has_in_all, handed, Mind, asked, Recalls}
use Rattle.cards.specs.Reckon.{worst}
use Rattle.cards.specs.Promise.{Legal, Well, whole, once, AtMost, Worst}

-- a hand played with the choices that a way makes in it comes to the end of that way; words and choices not needed are not looked at
unfoldable pub WaysArePlayed : Type 0
WaysArePlayed =
    (m n : ℕ) (plan : Plan) (choices : ℕ → ℕ) (t : Tree) → Well m plan choices n t → (way : Way) → Legal choices way →
    (words : List ℕ) → Row m n words → (more_choices more_words : List ℕ) →
    played m plan t (trace plan way t words ++ more_choices) (words ++ more_words) ≡ done (hand plan way t words)

-- each hand that is played to an end is a hand of some way, where no sight comes twice
unfoldable pub PlayedIsAWay : Type 0
PlayedIsAWay =
    (m n : ℕ) (plan : Plan) (choices : ℕ → ℕ) (t : Tree) → Well m plan choices n t → once [] [] t ≡ true → ((i : ℕ) → 0 < choices i) →
    (chosen words : List ℕ) (g : ℕ) → played m plan t chosen words ≡ done g →
    (way : Way) × (rest : List ℕ) × Legal choices way × (hand plan way t words ≡ g) × (chosen ≡ trace plan way t words ++ rest)

-- THE MAIN PROMISE at the table: taken over all words of k hands, the house has on average at least the floor in each,
-- whatever is handed in as the guest's choices, legal or not, as long as they come from the hands before and from what the guest sees;
-- in a hand that is turned away the table pays nothing, so all that is on it stays with the house
unfoldable pub TableHolds : Type 0
TableHolds =
    (m n v all : ℕ) (plan : Plan) (choices : ℕ → ℕ) (t : Tree) → AtMost all t → Well m plan choices n t → ((i : ℕ) → 0 < choices i) → Floor m plan choices (whole n t) v →
    (guest : Chooser) → Blind m n plan t guest → (k : ℕ) →
    k * v * (m ^ n) ^ k ≤ m ^ n * sum_hands m n k (λ hands. has_in_all all (played_all m plan t (handed guest [] hands)))

-- and so in each hand by itself: after j hands, over all words of these and of the next
unfoldable pub EachHandHolds : Type 0
EachHandHolds =
    (m n v all : ℕ) (plan : Plan) (choices : ℕ → ℕ) (t : Tree) → AtMost all t → Well m plan choices n t → ((i : ℕ) → 0 < choices i) → Floor m plan choices (whole n t) v →
    (guest : Chooser) → Blind m n plan t guest → (j : ℕ) →
    v * (m ^ n) ^ j ≤ sum_hands m n j (λ past. sum_rows m n (λ words. has all (played m plan t (guest past words) words)))

-- where each hand comes to an end, nothing counts but what the house has in it
unfoldable pub EndedHandsHold : Type 0
EndedHandsHold =
    (m n v any : ℕ) (plan : Plan) (choices : ℕ → ℕ) (t : Tree) → Well m plan choices n t → ((i : ℕ) → 0 < choices i) → Floor m plan choices (whole n t) v →
    (guest : Chooser) → Blind m n plan t guest → Ends m n plan t guest → (k : ℕ) →
    k * v * (m ^ n) ^ k ≤ m ^ n * sum_hands m n k (λ hands. has_in_all any (played_all m plan t (handed guest [] hands)))

-- a guest that goes by a way in each hand is blind, and its hands come to an end if the way is legal
unfoldable pub WaysAreBlind : Type 0
WaysAreBlind =
    (m n : ℕ) (plan : Plan) (choices : ℕ → ℕ) (t : Tree) → Well m plan choices n t → (guest : Guest) →
    Blind m n plan t (λ past words. trace plan (guest past) t words) ×
    (((past : List (List ℕ)) → Legal choices (guest past)) → Ends m n plan t (λ past words. trace plan (guest past) t words))

-- so is one that chooses move by move, if its sights tell of all its moves
unfoldable pub MindsAreBlind : Type 0
MindsAreBlind =
    (m n : ℕ) (plan : Plan) (choices : ℕ → ℕ) (t : Tree) (tells : ℕ → List Move) → Well m plan choices n t → Recalls tells [] t → (guest : List (List ℕ) → Mind) →
    Blind m n plan t (λ past words. asked plan (guest past) [] t words) ×
    (((past : List (List ℕ)) (so_far : List Move) (i : ℕ) → guest past so_far i < choices i) → Ends m n plan t (λ past words. asked plan (guest past) [] t words))

-- the worst is met: some guest leaves the house no more than it on average in each hand, so that nothing above it can be promised
unfoldable pub WorstIsMet : Type 0
WorstIsMet =
    (m n v all : ℕ) (plan : Plan) (choices : ℕ → ℕ) (t : Tree) → Well m plan choices n t → Worst m n plan choices t v →
    (guest : Chooser) × Blind m n plan t guest × Ends m n plan t guest × ((k : ℕ) → m ^ n * sum_hands m n k (λ hands. has_in_all all (played_all m plan t (handed guest [] hands))) ≡ k * v * (m ^ n) ^ k)

-- a refusal tells its ground: the word that is too high, the number of words, the choice that is not there at a sight that the hand came to, the number of choices
pub data Ground (m : ℕ) (plan : Plan) (choices : ℕ → ℕ) (t : Tree) (chosen words : List ℕ) : ℕ → ℕ → Type 0 where
  word_too_high : {p : ℕ} → p < length words → m ≤ slice_index words p → Ground m plan choices t chosen words 9 p
  no_word : {p : ℕ} → p ≡ length words → Ground m plan choices t chosen words 10 p
  choice_not_there : {p : ℕ} (i : ℕ) → p < length chosen → Made (record { sight = i; choice = slice_index chosen p }) (moves plan t chosen words) → choices i ≤ slice_index chosen p → Ground m plan choices t chosen words 11 p
  no_choice : {p : ℕ} → p ≡ length chosen → Ground m plan choices t chosen words 12 p

unfoldable pub RefusalsHaveGround : Type 0
RefusalsHaveGround =
    (m n : ℕ) (plan : Plan) (choices : ℕ → ℕ) (t : Tree) → Well m plan choices n t →
    (chosen words : List ℕ) (r p : ℕ) → played m plan t chosen words ≡ refused r p → Ground m plan choices t chosen words r p

-- n words below m are enough: only a choice can be at fault then
unfoldable pub WordsSuffice : Type 0
WordsSuffice =
    (m n : ℕ) (plan : Plan) (choices : ℕ → ℕ) (t : Tree) → Well m plan choices n t → (words : List ℕ) → Row m n words →
    (chosen : List ℕ) (r p : ℕ) → played m plan t chosen words ≡ refused r p → (r ≡ 11) ⊎ (r ≡ 12)

-- what is not needed is not looked at
unfoldable pub UnusedIsUnseen : Type 0
UnusedIsUnseen =
    (m : ℕ) (plan : Plan) (t : Tree) (chosen words : List ℕ) (g : ℕ) → played m plan t chosen words ≡ done g → (more_choices more_words : List ℕ) →
    played m plan t (chosen ++ more_choices) (words ++ more_words) ≡ done g

-- what is reckoned is the worst, in every game where the guest's sights tell of all its moves
unfoldable pub ReckonedIsTheWorst : Type 0
ReckonedIsTheWorst =
    (m n : ℕ) (plan : Plan) (choices : ℕ → ℕ) (t : Tree) (tells : ℕ → List Move) → ((i : ℕ) → 0 < choices i) → Well m plan choices n t → Recalls tells [] t →
    Worst m n plan choices t (worst m plan choices n t)

-- THE WHOLE, in every game and against everyone: the guest chooses move by move, from all words of all hands before and from all that it has seen and done in this one.
-- Taken over all words of k hands, all equally often, the house has on average at least what is reckoned in each.
-- Nothing is asked of the guest. A hand with a choice that is not there is turned away; all that is on the table stays with the house then
unfoldable pub MatchHolds : Type 0
MatchHolds =
    (m n all : ℕ) (plan : Plan) (choices : ℕ → ℕ) (t : Tree) → Well m plan choices n t → ((i : ℕ) → 0 < choices i) → AtMost all t →
    (guest : List (List ℕ) → Mind) (k : ℕ) →
    k * worst m plan choices n t * (m ^ n) ^ k
    ≤ m ^ n * sum_hands m n k (λ hands. has_in_all all (played_all m plan t (handed (λ past words. asked plan (guest past) [] t words) [] hands)))

-- and no more can be promised: some guest, whose choices are all there and who does the same in each hand, leaves the house just that
unfoldable pub MatchIsMet : Type 0
MatchIsMet =
    (m n all : ℕ) (plan : Plan) (choices : ℕ → ℕ) (t : Tree) → Well m plan choices n t → ((i : ℕ) → 0 < choices i) →
    (mind : Mind) × ((so_far : List Move) (i : ℕ) → mind so_far i < choices i) × ((k : ℕ) →
    m ^ n * sum_hands m n k (λ hands. has_in_all all (played_all m plan t (handed (λ past words. asked plan mind [] t words) [] hands)))
    ≡ k * worst m plan choices n t * (m ^ n) ^ k)

-- each word that a hand needs is below m: the words begin with a row of words that is enough by itself
unfoldable pub UsedWordsAreWords : Type 0
UsedWordsAreWords =
    (m : ℕ) (plan : Plan) (t : Tree) (chosen words : List ℕ) (g : ℕ) → played m plan t chosen words ≡ done g →
    (d : ℕ) × (used : List ℕ) × (rest : List ℕ) × Row m d used × (words ≡ used ++ rest) × (played m plan t chosen used ≡ done g)

-- the worst is the least sum over all ways
pub record Least (m n : ℕ) (plan : Plan) (choices : ℕ → ℕ) (t : Tree) (v : ℕ) : Type 0 where
  pub low : (way : Way) → Legal choices way → v ≤ sum m plan way t n
  pub way : Way
  pub legal : Legal choices way
  pub reached : sum m plan way t n ≡ v

unfoldable pub WorstIsLeast : Type 0
WorstIsLeast = (m n v : ℕ) (plan : Plan) (choices : ℕ → ℕ) (t : Tree) → Worst m n plan choices t v → Least m n plan choices t v

-- and in a game where the guest's sights tell of all its moves, the least is the worst: the floor's steps are enough
unfoldable pub LeastIsWorst : Type 0
LeastIsWorst =
    (m n v : ℕ) (plan : Plan) (choices : ℕ → ℕ) (t : Tree) (tells : ℕ → List Move) → ((i : ℕ) → 0 < choices i) → Well m plan choices n t → Recalls tells [] t →
    Least m n plan choices t v → Worst m n plan choices t v

-- what a blind guest hands in after given hands goes by one way in all hands that come to an end
unfoldable pub BlindIsAWay : Type 0
BlindIsAWay =
    (m n : ℕ) (plan : Plan) (choices : ℕ → ℕ) (t : Tree) → Well m plan choices n t → ((i : ℕ) → 0 < choices i) →
    (guest : Chooser) → Blind m n plan t guest → (past : List (List ℕ)) → Hands m n past →
    (way : Way) × Legal choices way × ((words : List ℕ) → Row m n words → (g : ℕ) → played m plan t (guest past words) words ≡ done g →
    (rest : List ℕ) × (hand plan way t words ≡ g) × (guest past words ≡ trace plan way t words ++ rest))

-- what is reckoned is a floor in every game, and a floor holds against a guest that chooses move by move, in each hand by itself
unfoldable pub ReckonedIsAFloor : Type 0
ReckonedIsAFloor =
    (m n : ℕ) (plan : Plan) (choices : ℕ → ℕ) (t : Tree) → Well m plan choices n t → ((i : ℕ) → 0 < choices i) → Floor m plan choices (whole n t) (worst m plan choices n t)

unfoldable pub HandHolds : Type 0
HandHolds =
    (m n v all : ℕ) (plan : Plan) (choices : ℕ → ℕ) (t : Tree) → Well m plan choices n t → ((i : ℕ) → 0 < choices i) → AtMost all t → Floor m plan choices (whole n t) v →
    (mind : Mind) → v ≤ sum_rows m n (λ words. has all (played m plan t (asked plan mind [] t words) words))
