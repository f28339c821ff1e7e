-- A rule sheet as nine bytes, and the refusals of one. Assumes nothing: these are definitions.
use Rattle.std.specs.Prelude.{ℕ, ◌+◌, ◌*◌, Bool, true, false, ◌&&◌, List, length, Some, None, Ok, Err, Option, Result, ◌==◌, nat_le, slice_index}
use Rattle.cards.specs.Game.{pick}
use Rattle.rules.specs.declared.Player.{Player}
use Rattle.rules.specs.declared.Player.TheVariants.{House, Guest}
use Rattle.rules.specs.declared.Sheet.{Sheet}
use Rattle.rules.specs.declared.Refusal.{Refusal}
use Rattle.rules.specs.declared.Refusal.TheVariants.{Length, Range, Deck}

-- the number of a refusal in the list, and its place
abbrev pub number_of : Refusal → ℕ
number_of (Length n) = 1
number_of (Range i) = 2
number_of Deck = 2

abbrev pub place_of : Refusal → ℕ
place_of (Length n) = n
place_of (Range i) = i
place_of Deck = 9

abbrev pub inside : ℕ → ℕ → ℕ → Bool
inside low high x = nat_le low x && nat_le x high

-- a value that is handed on where it lies inside
abbrev pub ranged : ℕ → ℕ → ℕ → Option ℕ
ranged low high x = pick (inside low high x) (Some x) None

-- the refusal where a check fails, else what follows
abbrev pub holds : Bool → Refusal → Result Sheet Refusal → Result Sheet Refusal
holds true e r = r
holds false e r = Err e

-- the player that a byte names
abbrev pub player : ℕ → Player
player b = pick (b == 0) House Guest

-- what nine bytes within their ranges say
abbrev pub sheet : List ℕ → Sheet
sheet xs = record {
  ranks = slice_index xs 0;
  copies = slice_index xs 1;
  public = (slice_index xs 2 == 1);
  bets = record { ante = slice_index xs 3; first = slice_index xs 4; second = slice_index xs 5 };
  raises = slice_index xs 6;
  begins = player (slice_index xs 7);
  reserved = slice_index xs 8;
}

-- nine bytes; each in its range; at least two cards, and three with a public card
abbrev pub read : List ℕ → Result Sheet Refusal
read xs =
    holds (length xs == 9) (Length (length xs))
    (holds (inside 2 13 (slice_index xs 0)) (Range 0)
    (holds (inside 1 4 (slice_index xs 1)) (Range 1)
    (holds (inside 0 1 (slice_index xs 2)) (Range 2)
    (holds (inside 1 10 (slice_index xs 3)) (Range 3)
    (holds (inside 1 10 (slice_index xs 4)) (Range 4)
    (holds (inside 1 10 (slice_index xs 5)) (Range 5)
    (holds (inside 0 3 (slice_index xs 6)) (Range 6)
    (holds (inside 0 1 (slice_index xs 7)) (Range 7)
    (holds (inside 0 0 (slice_index xs 8)) (Range 8)
    (holds (inside (2 + slice_index xs 2) 52 (slice_index xs 0 * slice_index xs 1)) Deck
    (Ok (sheet xs))))))))))))
