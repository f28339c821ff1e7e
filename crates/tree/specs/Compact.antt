-- The game of a rule sheet once more, as the code keeps it: what was done in a round is counted in a line, not listed. That it is the same game: `Like` in proofs/, and `Laid` in Built. Assumes nothing: these are definitions.
use Rattle.std.specs.Prelude.{ℕ, zero, suc, ◌+◌, ◌-◌, not, ◌&&◌, List, [], ◌∷◌, replicate, Some, None, Option, ◌==◌, nat_lt}
use Rattle.cards.specs.Game.{pick}
use Rattle.rules.specs.declared.Player.{Player}
use Rattle.rules.specs.declared.Player.TheVariants.{House, Guest}
use Rattle.rules.specs.declared.Sheet.{Sheet}
use Rattle.rules.specs.declared.Ends.{Ends}
use Rattle.rules.specs.Play.{other, purse, split, left, without}
use Rattle.tree.specs.declared.Line.{Line}
use Rattle.tree.specs.declared.History.{History}
use Rattle.tree.specs.declared.Sight.{Sight}
use Rattle.tree.specs.declared.Paid.{Paid}
use Rattle.tree.specs.declared.Hand.{Hand}
use Rattle.tree.specs.declared.Act.{Act}
use Rattle.tree.specs.declared.Act.TheVariants.{Check, Bet, Call, Raise}

-- over, with what each player has; a deal by copies left; a choice of a player who sees so much
mutual
  pub data Play : Type 0 where
    end : Ends → Play
    dealt : List ℕ → Plays → Play
    turn : Player → Sight → Plays → Play

  pub data Plays : Type 0 where
    no_more : Plays
    also : Play → Plays → Plays

abbrev mutual
  pub size : Play → ℕ
  size (end e) = 1
  size (dealt ws ps) = suc (sizes ps)
  size (turn w z ps) = suc (sizes ps)

  pub sizes : Plays → ℕ
  sizes no_more = 0
  sizes (also p ps) = size p + sizes ps

-- an act, in the line of its round
abbrev pub line_as : Act → Line → Line
line_as Check l = record { checks = l.checks + 1; bets = l.bets }
line_as Bet l = record { checks = l.checks; bets = l.bets + 1 }
line_as Call l = l
line_as Raise l = record { checks = l.checks; bets = l.bets + 1 }

-- with no public card it is in the first round, else in the second
abbrev pub hears_in : Option ℕ → Act → History → History
hears_in None a h = record { first = line_as a h.first; public = h.public; second = h.second }
hears_in (Some r) a h = record { first = h.first; public = h.public; second = line_as a h.second }

abbrev pub hears_as : Act → History → History
hears_as a h = hears_in h.public a h

abbrev pub rank_of : Player → Hand → ℕ
rank_of House h = h.house
rank_of Guest h = h.guest

abbrev pub sight_of : Player → Hand → Sight
sight_of w h = record { own = rank_of w h; history = h.history }

abbrev pub paid_by : Player → Paid → ℕ
paid_by House p = p.house
paid_by Guest p = p.guest

-- a player puts in so much more
abbrev pub pays_as : Player → ℕ → Paid → Paid
pays_as House k p = record { house = p.house + k; guest = p.guest }
pays_as Guest k p = record { house = p.house; guest = p.guest + k }

-- a player does something, and puts in so much with it
abbrev pub acted_as : Player → Act → ℕ → Hand → Hand
acted_as w a k h = record { house = h.house; guest = h.guest; paid = pays_as w k h.paid; history = hears_as a h.history }

abbrev pub shows : ℕ → Hand → Hand
shows r h = record { house = h.house; guest = h.guest; paid = h.paid; history = record { first = h.history.first; public = Some r; second = h.history.second } }

abbrev pub due_of : Player → Paid → ℕ
due_of w p = paid_by (other w) p - paid_by w p

-- what each player has at the end, where each sat down with t: one takes all that was put in
abbrev pub won_by_as : ℕ → Player → Hand → Ends
won_by_as t House h = record { house = t + h.paid.guest; guest = t - h.paid.guest }
won_by_as t Guest h = record { house = t - h.paid.house; guest = t + h.paid.house }

-- the higher rank takes all; with equal ranks each takes back what it put in
abbrev pub higher_as : ℕ → Hand → Ends
higher_as t h = pick (nat_lt h.guest h.house) (won_by_as t House h) (pick (nat_lt h.house h.guest) (won_by_as t Guest h) (split t))

-- a player who alone has the public card's rank takes all
abbrev pub paired_as : ℕ → ℕ → Hand → Ends
paired_as t r h = pick (h.house == r && not (h.guest == r)) (won_by_as t House h) (pick (h.guest == r && not (h.house == r)) (won_by_as t Guest h) (higher_as t h))

abbrev pub settled_as : ℕ → Option ℕ → Hand → Ends
settled_as t None h = higher_as t h
settled_as t (Some r) h = paired_as t r h

-- a round of betting at b for players who sat down with t; `then` is what follows it
module _ (t b : ℕ) (then : Hand → Play) where
  -- after a bet the other may fold, call, or, while raises are left, raise
  abbrev pub answers_as : ℕ → Player → Hand → Play
  answers_as zero w h =
      turn w (sight_of w h) (also (end (won_by_as t (other w) h)) (also (then (acted_as w Call (due_of w h.paid) h)) no_more))
  answers_as (suc x) w h =
      turn w (sight_of w h) (also (end (won_by_as t (other w) h)) (also (then (acted_as w Call (due_of w h.paid) h)) (also (answers_as x (other w) (acted_as w Raise (due_of w h.paid + b) h)) no_more)))

  -- where there is nothing to call, a player may check or bet; x raises may be made
  abbrev pub opens_as : ℕ → (Hand → Play) → Player → Hand → Play
  opens_as x checked w h =
      turn w (sight_of w h) (also (checked (acted_as w Check 0 h)) (also (answers_as x (other w) (acted_as w Bet b h)) no_more))

  -- after one check the other player acts; after two the round is over
  abbrev pub round_as : ℕ → Player → Hand → Play
  round_as x w h = opens_as x (λ h'. opens_as x then (other w) h') w h

-- a deal from a deck, given as the copies left of each rank: a tree for each rank that is left, lowest first
abbrev pub each : ℕ → List ℕ → (ℕ → Play) → Plays
each r [] then = no_more
each r (zero ∷ deck) then = each (suc r) deck then
each r (suc c ∷ deck) then = also (then r) (each (suc r) deck then)

abbrev pub deals_as : List ℕ → (ℕ → Play) → Play
deals_as deck then = dealt (left deck) (each 0 deck then)

abbrev pub sits : ℕ → ℕ → ℕ → Hand
sits ante a b = record {
  house = a;
  guest = b;
  paid = record { house = ante; guest = ante };
  history = record { first = record { checks = 0; bets = 0 }; public = None; second = record { checks = 0; bets = 0 } };
}

module _ (s : Sheet) where
  -- a card is shown to both, and a second round is played
  abbrev pub shown_as : ℕ → Hand → Play
  shown_as r h = round_as (purse s) s.bets.second (λ h'. end (paired_as (purse s) r h')) s.raises s.begins (shows r h)

  abbrev pub second_as : List ℕ → Hand → Play
  second_as deck h = deals_as deck (λ r. shown_as r h)

  abbrev pub first_as : List ℕ → Hand → Play
  first_as deck h = round_as (purse s) s.bets.first (pick s.public (second_as deck) (λ h'. end (higher_as (purse s) h'))) s.raises s.begins h

  -- the house gets a card, then the guest; then the betting
  abbrev pub game_as : Play
  game_as =
      let deck = replicate s.ranks s.copies in
      deals_as deck (λ a. deals_as (without a deck) (λ b. first_as (without b (without a deck)) (sits s.bets.ante a b)))
