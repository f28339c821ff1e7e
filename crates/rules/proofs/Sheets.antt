-- What holds of every rule sheet.
use Rattle.std.proofs.Common.{◌≡◌, ℕ, ◌+◌, ◌-◌, ◌*◌, ◌%◌, ◌<◌, true, List, []}
use Rattle.cards.specs.Game.{Plan}
use Rattle.cards.specs.Promise.{Well, Worst}
use Rattle.cards.specs.Played.{Recalls}
use Rattle.cards.specs.Reckon.{worst}
use Rattle.cards.proofs.Worsts.{worst_is}
use Rattle.rules.specs.declared.Player.{Player}
use Rattle.rules.specs.declared.Player.TheVariants.{House, Guest}
use Rattle.rules.specs.declared.Sheet.{Sheet}
use Rattle.rules.specs.declared.Ends.{Ends}
use Rattle.rules.specs.Play.{other, Sight, Place, Places, game}
use Rattle.rules.specs.Sights.{sights, words}
use Rattle.rules.specs.Sound.{Sound}
use Rattle.rules.specs.Memory.{Step, told, Dealable}
use Rattle.rules.specs.Statements.{choices, Plans, seat, SheetsStand, HasEnd, here, past_deal, past_turn, SomeHasEnd, in_this, in_rest, EndsSum}
use Rattle.rules.proofs.Good.{Good, good_end, good_deal, good_turn, Goods, goods_none, goods_also, Chosen, chosen_none, chosen_also, game_good}
use Rattle.rules.proofs.Laws.{tree_most, tree_once, tree_recalls, tree_fits, some_choices}

module _ (s : Sheet) (m : ℕ) (d : Dealable s m) where
  some : (w : Player) (i : ℕ) → 0 < choices s w i
  some w i = some_choices s.begins s.raises (sights w (game s)) i

  recall : (w : Player) → Recalls (told s.begins s.raises (other w) (sights (other w) (game s))) [] (seat s m w)
  recall House = tree_recalls s m d Guest
  recall Guest = tree_recalls s m d House

  fits : (w : Player) (plan : Plan) → Plans s m w plan → Well m plan (choices s (other w)) (words (seat s m w)) (seat s m w)
  fits House = tree_fits s m d Guest
  fits Guest = tree_fits s m d House

  pub reckoned : (w : Player) (plan : Plan) → Plans s m w plan →
      Worst m (words (seat s m w)) plan (choices s (other w)) (seat s m w) (worst m plan (choices s (other w)) (words (seat s m w)) (seat s m w))
  reckoned w plan f = worst_is m plan _ _ (some (other w)) _ _ (fits w plan f) (recall w)

pub sheets_stand_lem : SheetsStand
sheets_stand_lem s m d = record { table = tree_most s m d; fresh = tree_once s m d; some = some s m d; recall = recall s m d; fits = fits s m d; reckoned = reckoned s m d }

-- a sheet within its ranges is dealable where the numbers of cards left divide m
pub dealable_from : (s : Sheet) (m : ℕ) → Sound s → m % (s.ranks * s.copies) ≡ 0 → m % (s.ranks * s.copies - 1) ≡ 0 → (s.public ≡ true → m % (s.ranks * s.copies - 2) ≡ 0) → Dealable s m
dealable_from s m o h g b = record { two = o.deck; for_house = h; for_guest = g; three = o.shown; for_both = b }

-- the sum at the ends
module _ {z : Player} {k : ℕ} {D : List ℕ → Type 0} {x : ℕ} {e : Ends} where
  mutual
    good_sum : {hp gp : List Step} {p : Place} → Good z k D x hp gp p → HasEnd e p → e.house + e.guest ≡ k
    good_sum (good_end q) here = q
    good_sum (good_deal d c g) (past_deal i) = goods_sum g i
    good_sum (good_turn q o g) (past_turn i) = chosen_sum g i

    goods_sum : {hp gp : List Step} {ps : Places} → Goods z k D x hp gp ps → SomeHasEnd e ps → e.house + e.guest ≡ k
    goods_sum goods_none i = elim i [ ]
    goods_sum (goods_also g r) (in_this i) = good_sum g i
    goods_sum (goods_also g r) (in_rest i) = goods_sum r i

    chosen_sum : {v : Player} {s : Sight} {j : ℕ} {hp gp : List Step} {ps : Places} → Chosen z k D x v s j hp gp ps → SomeHasEnd e ps → e.house + e.guest ≡ k
    chosen_sum chosen_none i = elim i [ ]
    chosen_sum (chosen_also g r) (in_this i) = good_sum g i
    chosen_sum (chosen_also g r) (in_rest i) = chosen_sum r i

pub ends_sum : EndsSum
ends_sum s e i = good_sum (game_good s (λ cs. Unit {0}) (record { for_house = λ cs q. tt; for_guest = λ cs q. tt; for_both = λ p cs q. tt })) i
