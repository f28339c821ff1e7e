-- What a sight holds: all earlier sights and choices of its player, and how many choices there are. Assumes nothing: these are definitions.
use Rattle.std.specs.Prelude.{◌≡◌, ℕ, zero, suc, ◌-◌, ◌*◌, ◌%◌, ◌<◌, ◌≤◌, Bool, true, false, List, [], ◌∷◌, length, None, Option, slice_index_or}
use Rattle.cards.specs.Game.{Plan, total, pick}
use Rattle.cards.specs.Played.{Move}
use Rattle.rules.specs.declared.Player.{Player}
use Rattle.rules.specs.declared.Player.TheVariants.{House}
use Rattle.rules.specs.declared.Sheet.{Sheet}
use Rattle.rules.specs.Play.{other, Sight, Stand, opening, checked, facing, offers}
use Rattle.rules.specs.Sights.{is_same_player, place}

pub record Step : Type 0 where
  pub seen : Sight
  pub chose : ℕ

-- the state of the betting: the round, second if true, who is to act and where it stands; or no more choices
pub data Phase : Type 0 where
  at : Bool → Player → Stand → Phase
  shut : Phase

abbrev pub less : ℕ → ℕ
less zero = zero
less (suc n) = n

-- after a choice, where b begins each round and x raises may be made in one
abbrev pub moved : Player → ℕ → Phase → ℕ → Phase
moved b x (at d w opening) zero = at d (other w) checked
moved b x (at d w opening) (suc k) = at d (other w) (facing x)
moved b x (at d w checked) zero = at true b opening
moved b x (at d w checked) (suc k) = at d (other w) (facing x)
moved b x (at d w (facing y)) zero = shut
moved b x (at d w (facing y)) (suc zero) = at true b opening
moved b x (at d w (facing y)) (suc (suc k)) = at d (other w) (facing (less y))
moved b x shut k = shut

-- after all these choices, the last first
abbrev pub phase : Player → ℕ → List ℕ → Phase
phase b x [] = at false b opening
phase b x (k ∷ ks) = moved b x (phase b x ks) k

abbrev pub actor : Phase → Player
actor (at d w st) = w
actor shut = House

abbrev pub late : Phase → Bool
late (at d w st) = d
late shut = true

-- how many choices there are; where there is none, as after a fold, two are counted, so that each number of choices is above 0
abbrev pub open_choices : Phase → ℕ
open_choices (at d w st) = offers st
open_choices shut = 2

-- the earlier sights and choices of player w with this rank, public card and choices so far, the last first
abbrev pub past : Player → ℕ → Player → ℕ → Option ℕ → List ℕ → List Step
past b x w r c [] = []
past b x w r c (k ∷ ks) =
    let p = phase b x ks in
    pick (is_same_player w (actor p)) (record { seen = record { own = r; public = pick (late p) c None; choices = ks }; chose = k } ∷ past b x w r c ks) (past b x w r c ks)

-- how many choices there are after these choices
abbrev pub offered : Player → ℕ → List ℕ → ℕ
offered b x ks = open_choices (phase b x ks)

-- steps by the numbers of their sights
abbrev pub moves : List Sight → List Step → List Move
moves l [] = []
moves l (z ∷ zs) = record { sight = place z.seen l; choice = z.chose } ∷ moves l zs

-- what stands past the last sight
abbrev pub nobody : Sight
nobody = record { own = 0; public = None; choices = [] }

-- the moves that the sight with number i tells of
abbrev pub told : Player → ℕ → Player → List Sight → ℕ → List Move
told b x w l i = let s = slice_index_or l i nobody in moves l (past b x w s.own s.public s.choices)

-- how many choices there are at the sight with this number
abbrev pub choices_of : Player → ℕ → List Sight → ℕ → ℕ
choices_of b x l i = offered b x (slice_index_or l i nobody).choices

-- weights for each choice at each sight, which sum to m
pub record Weighs (b : Player) (m x : ℕ) (l : List Sight) (plan : Plan) : Type 0 where
  pub sums : (i : ℕ) → i < length l → total (plan i) ≡ m
  pub sizes : (i : ℕ) → i < length l → length (plan i) ≡ choices_of b x l i

-- m is divisible by the cards left at each deal
pub record Dealable (s : Sheet) (m : ℕ) : Type 0 where
  pub two : 2 ≤ s.ranks * s.copies
  pub for_house : m % (s.ranks * s.copies) ≡ 0
  pub for_guest : m % (s.ranks * s.copies - 1) ≡ 0
  pub three : s.public ≡ true → 3 ≤ s.ranks * s.copies
  pub for_both : s.public ≡ true → m % (s.ranks * s.copies - 2) ≡ 0
