-- The hand that is played by a rule sheet, with what each player sees. Assumes nothing: these are definitions.
use Rattle.std.specs.Prelude.{ℕ, zero, suc, ◌+◌, ◌-◌, ◌*◌, not, ◌&&◌, List, [], ◌∷◌, replicate, Some, None, Option, ◌==◌, nat_lt, slice_index, slice_set}
use Rattle.cards.specs.Game.{pick}
use Rattle.rules.specs.declared.Player.{Player}
use Rattle.rules.specs.declared.Player.TheVariants.{House, Guest}
use Rattle.rules.specs.declared.Sheet.{Sheet}
use Rattle.rules.specs.declared.Ends.{Ends}

abbrev pub other : Player → Player
other House = Guest
other Guest = House

-- what each player sits down with; twice that is on the table
abbrev pub purse : Sheet → ℕ
purse s = s.bets.ante + s.bets.first * (1 + s.raises) + pick s.public (s.bets.second * (1 + s.raises)) 0

-- the numbers of the choices
abbrev pub check : ℕ
check = 0

abbrev pub bet : ℕ
bet = 1

abbrev pub fold : ℕ
fold = 0

abbrev pub call : ℕ
call = 1

abbrev pub raise : ℕ
raise = 2

-- where the betting of a round stands: nothing to call, at its start or after a check; or a bet to answer, with so many raises left
pub data Stand : Type 0 where
  opening : Stand
  checked : Stand
  facing : ℕ → Stand

-- how many choices the player to act has: check and bet; or fold and call, and raise while raises are left
abbrev pub offers : Stand → ℕ
offers opening = 2
offers checked = 2
offers (facing zero) = 2
offers (facing (suc x)) = 3

-- what the player to act sees: its own rank, the public card's rank if it is shown, and all choices so far in both rounds, the last first
pub record Sight : Type 0 where
  pub own : ℕ
  pub public : Option ℕ
  pub choices : List ℕ

-- over, with what each player has; a deal, with the copies left of each rank that is left; a choice of a player who sees so much
mutual
  pub data Place : Type 0 where
    end : Ends → Place
    dealt : List ℕ → Places → Place
    turn : Player → Sight → Places → Place

  pub data Places : Type 0 where
    no_more : Places
    also : Place → Places → Places

-- how many places there are
abbrev mutual
  pub count : Place → ℕ
  count (end e) = 1
  count (dealt cs ps) = suc (count_all ps)
  count (turn w s ps) = suc (count_all ps)

  pub count_all : Places → ℕ
  count_all no_more = 0
  count_all (also p ps) = count p + count_all ps

-- a hand in play: the ranks of the players, what they put in, the public card and the choices so far
pub record Hand : Type 0 where
  pub rank : Player → ℕ
  pub paid : Player → ℕ
  pub public : Option ℕ
  pub choices : List ℕ

abbrev pub sight : Player → Hand → Sight
sight w h = record { own = h.rank w; public = h.public; choices = h.choices }

-- a player puts in so much more
abbrev pub puts : Player → ℕ → (Player → ℕ) → Player → ℕ
puts House k paid House = paid House + k
puts House k paid Guest = paid Guest
puts Guest k paid House = paid House
puts Guest k paid Guest = paid Guest + k

-- a player makes a choice, and puts in so much with it
abbrev pub acts : Player → ℕ → ℕ → Hand → Hand
acts w c k h = record { rank = h.rank; paid = puts w k h.paid; public = h.public; choices = c ∷ h.choices }

-- a card of this rank is shown to both
abbrev pub shows : ℕ → Hand → Hand
shows r h = record { rank = h.rank; paid = h.paid; public = Some r; choices = h.choices }

-- what a player has to put in to call
abbrev pub due : Player → Hand → ℕ
due w h = h.paid (other w) - h.paid w

-- THE END OF A HAND, as what each player has then, where each sat down with t: one takes all that was put in
abbrev pub won_by : ℕ → Player → Hand → Ends
won_by t House h = record { house = t + h.paid Guest; guest = t - h.paid Guest }
won_by t Guest h = record { house = t - h.paid House; guest = t + h.paid House }

-- or each takes back what it put in
abbrev pub split : ℕ → Ends
split t = record { house = t; guest = t }

-- the higher rank takes all; with equal ranks each takes back what it put in
abbrev pub higher : ℕ → Hand → Ends
higher t h = pick (nat_lt (h.rank Guest) (h.rank House)) (won_by t House h) (pick (nat_lt (h.rank House) (h.rank Guest)) (won_by t Guest h) (split t))

-- the end without a fold: a player who alone has the public card's rank takes all; otherwise the higher rank does
abbrev pub settled : ℕ → Option ℕ → Hand → Ends
settled t None h = higher t h
settled t (Some r) h =
    pick (h.rank House == r && not (h.rank Guest == r)) (won_by t House h)
    (pick (h.rank Guest == r && not (h.rank House == r)) (won_by t Guest h) (higher t h))

-- a tree for each of n choices, from k on
abbrev pub by_choice : ℕ → ℕ → (ℕ → Place) → Places
by_choice zero k f = no_more
by_choice (suc n) k f = also (f k) (by_choice n (suc k) f)

-- a player is to act; f says what follows each choice
abbrev pub acting : Stand → Player → Hand → (ℕ → Place) → Place
acting st w h f = turn w (sight w h) (by_choice (offers st) 0 f)

-- a round of betting at b for players who sat down with t; `then` is what follows it
module _ (t b : ℕ) (then : Hand → Place) where
  -- the choices after a bet: fold, call, raise
  abbrev pub after_bet : (Hand → Place) → Player → Hand → ℕ → Place
  after_bet raised w h zero = end (won_by t (other w) h)
  after_bet raised w h (suc zero) = then (acts w call (due w h) h)
  after_bet raised w h (suc (suc k)) = raised (acts w raise (due w h + b) h)

  -- after a bet, where x raises may still be made; with none left no raise is offered
  abbrev pub answers : ℕ → Player → Hand → Place
  answers zero w h = acting (facing zero) w h (after_bet then w h)
  answers (suc x) w h = acting (facing (suc x)) w h (after_bet (answers x (other w)) w h)

  -- the choices where there is nothing to call: check, bet
  abbrev pub free : ℕ → (Hand → Place) → Player → Hand → ℕ → Place
  free x checks w h zero = checks (acts w check 0 h)
  free x checks w h (suc k) = answers x (other w) (acts w bet b h)

  -- after one check the other player acts; after two the round is over
  abbrev pub round : ℕ → Player → Hand → Place
  round x w h = acting opening w h (free x (λ h'. acting checked (other w) h' (free x then (other w) h')) w h)

-- a deal from a deck, given as the copies left of each rank: a tree for each rank that is left, lowest first
abbrev pub left : List ℕ → List ℕ
left [] = []
left (zero ∷ deck) = left deck
left (suc c ∷ deck) = suc c ∷ left deck

abbrev pub each : ℕ → List ℕ → (ℕ → Place) → Places
each r [] then = no_more
each r (zero ∷ deck) then = each (suc r) deck then
each r (suc c ∷ deck) then = also (then r) (each (suc r) deck then)

abbrev pub deals : List ℕ → (ℕ → Place) → Place
deals deck then = dealt (left deck) (each 0 deck then)

abbrev pub without : ℕ → List ℕ → List ℕ
without r deck = slice_set deck r (slice_index deck r - 1)

-- each player puts in the ante
abbrev pub sits : ℕ → ℕ → ℕ → Hand
sits ante a b = record { rank = elim [ House ↦ a | Guest ↦ b ]; paid = λ w. ante; public = None; choices = [] }

module _ (s : Sheet) where
  abbrev pub final : Hand → Place
  final h = end (settled (purse s) h.public h)

  -- a card is shown to both, and a second round is played; the same player begins
  abbrev pub second : List ℕ → Hand → Place
  second deck h = deals deck (λ r. round (purse s) s.bets.second final s.raises s.begins (shows r h))

  abbrev pub first : List ℕ → Hand → Place
  first deck h = round (purse s) s.bets.first (pick s.public (second deck) final) s.raises s.begins h

  -- THE GAME: the house gets a card, then the guest, each by the ranks left; then the betting
  abbrev pub game : Place
  game =
      let deck = replicate s.ranks s.copies in
      deals deck (λ a. deals (without a deck) (λ b. first (without b (without a deck)) (sits s.bets.ante a b)))
