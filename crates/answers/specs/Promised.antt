-- What is promised of the answer to a file, said of its own bytes. Each is a statement, a type: a contract in src/lib.rt asserts it, and its proof is in proofs/. Assumes nothing.
use Rattle.std.specs.Prelude.{◌≡◌, ℕ, ◌*◌, ◌^◌, ◌≤◌, List, [], take, drop, Ok}
use Rattle.cards.specs.Game.{Plan, Way}
use Rattle.cards.specs.Match.{sum_rows}
use Rattle.cards.specs.Played.{played, has, trace}
use Rattle.cards.specs.Promise.{Legal, Worst}
use Rattle.rules.specs.declared.Player.{Player}
use Rattle.rules.specs.declared.Player.TheVariants.{House, Guest}
use Rattle.rules.specs.Play.{other, purse}
use Rattle.rules.specs.Counts.{word_count}
use Rattle.rules.specs.Statements.{choices, seat, Plans}
use Rattle.tree.specs.declared.Sizes.{Sizes}
use Rattle.plans.specs.declared.Row.{Row}
use Rattle.plans.specs.Plan.{plan_of}
use Rattle.bracket.specs.declared.Verdict.{Verdict}
use Rattle.bracket.specs.Chairs.{Brackets, verdict_at}
use Rattle.answers.specs.declared.Opening.{Opening}
use Rattle.answers.specs.declared.Kept.{Kept}
use Rattle.answers.specs.declared.Answer.TheVariants.{One, Both}
use Rattle.answers.specs.Files.{room, opened_in, past_m, plan_length, plan_in, reckoned_in}

-- the plan of a player that was read
abbrev pub plan_read : Opening → Player → List Row → Plan
plan_read o w rows = plan_of rows (choices o.sheet w)

-- a way of who sits opposite, played in every hand: what the player has in all, over all rows of words
abbrev pub played_sum : Opening → Player → List Row → Way → ℕ
played_sum o w rows way =
    let t = seat o.sheet o.m w in
    let plan = plan_read o w rows in
    sum_rows o.m (word_count o.sheet w) (λ words. has (2 * purse o.sheet) (played o.m plan t (trace plan way t words) words))

-- what is printed for a plan of player w is its worst
pub record Keeps (o : Opening) (w : Player) (rows : List Row) (k : Kept) : Type 0 where
  -- the rows are a plan, and the number is its worst, by the formal statements
  pub plans : Plans o.sheet o.m w (plan_read o w rows)
  pub worst : Worst o.m (word_count o.sheet w) (plan_read o w rows) (choices o.sheet (other w)) (seat o.sheet o.m w) k.worst
  -- in plain words: whichever legal way is played, the player has at least that in all hands together
  pub low : (way : Way) → Legal (choices o.sheet (other w)) way → k.worst ≤ played_sum o w rows way
  -- and some legal way leaves it just that
  pub way : Way
  pub legal : Legal (choices o.sheet (other w)) way
  pub met : played_sum o w rows way ≡ k.worst
  -- no other number fits
  pub only : (u : ℕ) → Worst o.m (word_count o.sheet w) (plan_read o w rows) (choices o.sheet (other w)) (seat o.sheet o.m w) u → u ≡ k.worst
  -- it is of so many hands: all rows of words
  pub hands : k.hands ≡ o.m ^ word_count o.sheet w

-- a file with a plan: the rule sheet, m and the plan are those of the bytes, and nothing follows
pub record OnePlanIn (space : ℕ) (bytes : List ℕ) (z : Sizes) (k : Kept) : Type 0 where
  pub opening : Opening
  pub rows : List Row
  pub begins : opened_in space bytes ≡ Ok opening
  pub reads : plan_in opening House (take (plan_length opening House) (past_m bytes)) ≡ Ok rows
  pub ends : drop (plan_length opening House) (past_m bytes) ≡ []
  pub sizes : z ≡ opening.sizes
  pub keeps : Keeps opening House rows k

-- a file with a plan for each chair: both worsts, and the verdict with what it says
pub record TwoPlansIn (space : ℕ) (bytes : List ℕ) (z : Sizes) (k r : Kept) (v : Verdict) : Type 0 where
  pub opening : Opening
  pub rows : List Row
  pub rivals : List Row
  pub begins : opened_in space bytes ≡ Ok opening
  pub reads : plan_in opening House (take (plan_length opening House) (past_m bytes)) ≡ Ok rows
  pub reads_rival : plan_in opening Guest (drop (plan_length opening House) (past_m bytes)) ≡ Ok rivals
  pub sizes : z ≡ opening.sizes
  pub keeps : Keeps opening House rows k
  pub rival_keeps : Keeps opening Guest rivals r
  pub verdict : v ≡ verdict_at opening.sheet opening.m k.worst r.worst
  pub brackets : Brackets opening.sheet opening.m

-- what is promised of the answer, with memory for `space` places
pub record ReckonsIn (space : ℕ) (bytes : List ℕ) : Type 0 where
  pub one : (z : Sizes) (k : Kept) → reckoned_in space bytes ≡ One z k → OnePlanIn space bytes z k
  pub two : (z : Sizes) (k r : Kept) (v : Verdict) → reckoned_in space bytes ≡ Both z k r v → TwoPlansIn space bytes z k r v

-- the same for `reckon`
abbrev pub OnePlan : List ℕ → Sizes → Kept → Type 0
OnePlan = OnePlanIn room

abbrev pub TwoPlans : List ℕ → Sizes → Kept → Kept → Verdict → Type 0
TwoPlans = TwoPlansIn room

-- THE PROMISE of the reckoning program
abbrev pub Reckons : List ℕ → Type 0
Reckons = ReckonsIn room
