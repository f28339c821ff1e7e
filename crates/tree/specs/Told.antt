-- What a stored sight tells: its rank, the public rank and all choices so far. Assumes nothing: these are definitions.
use Rattle.std.specs.Prelude.{ℕ, zero, suc, ◌&&◌, List, [], ◌∷◌, ◌++◌, Some, None, Option, nat_le, nat_lt}
use Rattle.cards.specs.Game.{pick}
use Rattle.rules.specs.Play.{check, bet, call, raise}
use Rattle.rules.specs.Play as R
use Rattle.tree.specs.declared.Line.{Line}
use Rattle.tree.specs.declared.History.{History}
use Rattle.tree.specs.declared.Sight.{Sight}

-- so many checks
abbrev pub checks_listed : ℕ → List ℕ
checks_listed zero = []
checks_listed (suc c) = check ∷ checks_listed c

-- the first that puts in tokens is a bet, the others are raises
abbrev pub up : ℕ → ℕ
up zero = bet
up (suc k) = raise

-- the choices of a round that goes on, the last first: c checks, then k bets and raises
abbrev pub listed : ℕ → ℕ → List ℕ
listed c zero = checks_listed c
listed c (suc k) = up k ∷ listed c k

-- the choices of a round that is over without a fold: a bet was called
abbrev pub ended : ℕ → ℕ → List ℕ
ended c zero = checks_listed c
ended c (suc k) = call ∷ listed c (suc k)

-- the first round alone, or, once the public card is shown, the second after the first
abbrev pub choices_in : Option ℕ → Line → Line → List ℕ
choices_in None f s = listed f.checks f.bets
choices_in (Some r) f s = listed s.checks s.bets ++ ended f.checks f.bets

abbrev pub history_choices : History → List ℕ
history_choices h = choices_in h.public h.first h.second

abbrev pub told : Sight → R.Sight
told z = record { own = z.own; public = z.history.public; choices = history_choices z.history }

-- a choice, counted back from the last one
abbrev pub nth : List ℕ → ℕ → Option ℕ
nth [] i = None
nth (k ∷ ks) zero = Some k
nth (k ∷ ks) (suc i) = nth ks i

-- the line of the round that goes on
abbrev pub line_now : Option ℕ → Line → Line → Line
line_now None f s = f
line_now (Some r) f s = s

-- how many choices the player has who sees this, where x raises may be made in a round: three to a bet while fewer than x raises were made, else two
abbrev pub offered_by : ℕ → ℕ → ℕ
offered_by x bets = pick (nat_lt 0 bets && nat_le bets x) 3 2

abbrev pub offers_of : ℕ → Sight → ℕ
offers_of x z = offered_by x (line_now z.history.public z.history.first z.history.second).bets
