-- How many choices a stored sight offers. Assumes nothing.
use Rattle.std.proofs.Common.{◌≡◌, ℕ, zero, suc, ◌-◌, ◌<◌, ◌≤◌, Bool, true, false, ◌&&◌, leb, List, [], ◌∷◌, ◌++◌, length, get_or, Some, None, Option, sym, refl, ap, ◌∙◌, append-nil, arith}
use Rattle.cards.specs.Game.{pick}
use Rattle.std.proofs.lemmas.Bool.{le-leb, lt-leb, lt-ltb}
use Rattle.std.proofs.lemmas.List.{get_or-map, length-map}
use Rattle.rules.specs.declared.Player.{Player}
use Rattle.rules.specs.declared.Sheet.{Sheet}
use Rattle.rules.specs.Play as R
use Rattle.rules.specs.Play.{other, Stand, opening, checked, facing, offers}
use Rattle.rules.specs.Sights as S
use Rattle.rules.specs.Sound.{Sound}
use Rattle.rules.specs.Memory.{at, less, moved, phase, open_choices, offered, nobody}
use Rattle.rules.specs.Statements.{choices}
use Rattle.tree.specs.declared.Line.{Line}
use Rattle.tree.specs.declared.Sight.{Sight}
use Rattle.tree.specs.Compact.{game_as}
use Rattle.tree.specs.Seen.{sights_of}
use Rattle.tree.specs.Told.{checks_listed, listed, ended, choices_in, told, line_now, offered_by, offers_of}
use Rattle.tree.proofs.Valid.{Ended, both_checked, called, ValidIn, Valid}
use Rattle.tree.proofs.Like.{game_like}
use Rattle.tree.proofs.Numbers.{All, and, sights_to, sights_valid}

less_is : (n : ℕ) → less n ≡ n - 1
less_is zero = refl
less_is (suc n) = omega arith

-- in a round that began with player w after the choices of base
module _ (b : Player) (x : ℕ) (d : Bool) (w : Player) (base : List ℕ) (starts : phase b x base ≡ at d w opening) where
  bet_phase : (c : ℕ) → c ≤ 1 → (v : Player) × (phase b x (1 ∷ (checks_listed c ++ base)) ≡ at d v (facing x))
  bet_phase zero h = (other w, ap (λ f. moved b x f 1) starts)
  bet_phase (suc zero) h = (other (other w), ap (λ f. moved b x (moved b x f 0) 1) starts)
  bet_phase (suc (suc c)) h = absurd (omega arith)

  up_phase : (c k : ℕ) → c ≤ 1 → (v : Player) × (phase b x (listed c (suc k) ++ base) ≡ at d v (facing (x - k)))
  up_phase c zero h = let r = bet_phase c h in let e : x ≡ x - 0 = omega arith in (r.0, r.1 ∙ ap (λ n. at d r.0 (facing n)) e)
  up_phase c (suc k) h =
      let r = up_phase c k h in
      let l : less (x - k) ≡ x - suc k = (let q = less_is (x - k) in omega (arith, q)) in
      (other r.0, ap (λ f. moved b x f 2) r.1 ∙ ap (λ n. at d (other r.0) (facing n)) l)

  face : (y k : ℕ) → y ≡ x - k → offers (facing y) ≡ pick (leb (suc k) x) 3 2
  face zero k e = sym (ap (λ t. pick t 3 2) (lt-leb (suc k) x (omega arith)))
  face (suc y) k e = sym (ap (λ t. pick t 3 2) (le-leb (suc k) x (omega arith)))

  pub open_in : (c k : ℕ) → c ≤ 1 → open_choices (phase b x (listed c k ++ base)) ≡ offered_by x k
  open_in zero zero h = ap open_choices starts
  open_in (suc zero) zero h = ap (λ f. open_choices (moved b x f 0)) starts
  open_in (suc (suc c)) zero h = absurd (omega arith)
  open_in c (suc k) h = let r = up_phase c k h in ap open_choices r.1 ∙ face (x - k) k refl ∙ ap (λ t. pick (t && leb (suc k) x) 3 2) (sym (lt-ltb 0 (suc k) (omega arith)))

end_phase : (b : Player) (x : ℕ) {l : Line} → Ended x l → phase b x (ended l.checks l.bets) ≡ at true b opening
end_phase b x both_checked = refl
end_phase b x (called c k h j) =
    let r = up_phase b x false b [] refl c k h in
    ap (λ l. phase b x (1 ∷ l)) (sym (append-nil (listed c (suc k)))) ∙ ap (λ f. moved b x f 1) r.1

offers_in : (b : Player) (d x : ℕ) (p : Bool) (o : Option ℕ) (f s : Line) → ValidIn d x p o f s → offered b x (choices_in o f s) ≡ offered_by x (line_now o f s).bets
offers_in b d x p None f s v = ap (offered b x) (sym (append-nil (listed f.checks f.bets))) ∙ open_in b x false b [] refl f.checks f.bets v.0.0
offers_in b d x p (Some r) f s v = open_in b x true b (ended f.checks f.bets) (end_phase b x v.2) s.checks s.bets v.3.0

pub offers_are : (b : Player) (d x : ℕ) (p : Bool) (z : Sight) → Valid d x p z → offered b x (told z).choices ≡ offers_of x z
offers_are b d x p z v = offers_in b d x p z.history.public z.history.first z.history.second v.history

all_at : {P : Sight → Type 0} (l : List Sight) → All P l → (i : ℕ) (d : Sight) → i < length l → P (get_or l i d)
all_at [] a i d h = absurd (omega arith)
all_at (z ∷ l) (and q a) zero d h = q
all_at (z ∷ l) (and q a) (suc i) d h = all_at l a i d (omega arith)

-- at each sight of a game there are as many choices as its stored sight offers
pub choices_are : (s : Sheet) → Sound s → (w : Player) (i : ℕ) (d : Sight) → i < length (sights_of w (game_as s)) → choices s w i ≡ offers_of s.raises (get_or (sights_of w (game_as s)) i d)
choices_are s h w i d l =
    let L = sights_of w (game_as s) in
    let like = game_like s h.ranks.most in
    let e : get_or (S.sights w (R.game s)) i nobody ≡ told (get_or L i d) = ap (λ m. get_or m i nobody) (sights_to s.ranks s.raises s.public w like) ∙ get_or-map told L i d nobody l in
    ap (λ (z : R.Sight). offered s.begins s.raises z.choices) e ∙ offers_are s.begins s.ranks s.raises s.public (get_or L i d) (all_at L (sights_valid s.ranks s.raises s.public w like) i d l)

-- a game has as many sights as are stored
pub sights_many : (s : Sheet) → Sound s → (w : Player) → length (S.sights w (R.game s)) ≡ length (sights_of w (game_as s))
sights_many s h w = ap (λ (l : List R.Sight). length l) (sights_to s.ranks s.raises s.public w (game_like s h.ranks.most)) ∙ length-map (sights_of w (game_as s)) told
