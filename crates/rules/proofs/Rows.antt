-- Rows of the small game.
use Rattle.std.proofs.Common.{◌≡◌, ℕ, zero, suc, ◌<◌, false, List, [], ◌∷◌, length, sym, refl, ◌∙◌, arith}
use Rattle.std.proofs.lemmas.Bool.{both_ways}
use Rattle.cards.specs.Game.{total}
use Rattle.cards.specs.Floor.{after, next, nth}
use Rattle.rules.specs.declared.Player.TheVariants.{House}
use Rattle.rules.specs.Memory.{Dealable}
use Rattle.rules.specs.Statements.{choices, Plans, small, planned, two, SmallRows}
use Rattle.rules.proofs.Sheets.{reckoned}

dealable_small : Dealable small 18
dealable_small = record { two = omega arith; for_house = refl; for_guest = refl; three = λ e. absurd (both_ways false refl e); for_both = λ e. absurd (both_ways false refl e) }

-- two weights that sum to 18
pub record Halved (ws : List ℕ) : Type 0 where
  pub sum : total ws ≡ 18
  pub size : length ws ≡ 2

-- rows for six sights
pub data Six : List (List ℕ) → Type 0 where
  six : {a b c d e f : List ℕ} → Halved a → Halved b → Halved c → Halved d → Halved e → Halved f → Six (a ∷ b ∷ c ∷ d ∷ e ∷ f ∷ [])

halved : {rows : List (List ℕ)} → Six rows → (i : ℕ) → i < 6 → Halved (planned rows i)
halved (six a b c d e f) zero h = a
halved (six a b c d e f) (suc zero) h = b
halved (six a b c d e f) (suc (suc zero)) h = c
halved (six a b c d e f) (suc (suc (suc zero))) h = d
halved (six a b c d e f) (suc (suc (suc (suc zero)))) h = e
halved (six a b c d e f) (suc (suc (suc (suc (suc zero))))) h = f
halved (six a b c d e f) (suc (suc (suc (suc (suc (suc i)))))) h = absurd (omega arith)

-- two choices at each sight of the house
two_choices : (i : ℕ) → choices small House i ≡ 2
two_choices zero = refl
two_choices (suc zero) = refl
two_choices (suc (suc zero)) = refl
two_choices (suc (suc (suc zero))) = refl
two_choices (suc (suc (suc (suc zero)))) = refl
two_choices (suc (suc (suc (suc (suc zero))))) = refl
two_choices (suc (suc (suc (suc (suc (suc i)))))) = refl

plans_six : {rows : List (List ℕ)} → Six rows → Plans small 18 House (planned rows)
plans_six r = record { sums = λ i h. (halved r i h).sum; sizes = λ i h. (halved r i h).size ∙ sym (two_choices i) }

half : (a b : ℕ) → total (two a b) ≡ 18 → Halved (two a b)
half a b e = record { sum = e; size = refl }

pub small_rows : SmallRows
unfolding after next nth total
small_rows = record {
  first = reckoned small 18 dealable_small House _ (plans_six (six (half 12 6 refl) (half 18 0 refl) (half 18 0 refl) (half 6 12 refl) (half 0 18 refl) (half 0 18 refl)));
  second = reckoned small 18 dealable_small House _ (plans_six (six (half 18 0 refl) (half 18 0 refl) (half 18 0 refl) (half 18 0 refl) (half 0 18 refl) (half 0 18 refl)));
  third = reckoned small 18 dealable_small House _ (plans_six (six (half 9 9 refl) (half 9 9 refl) (half 9 9 refl) (half 9 9 refl) (half 9 9 refl) (half 0 18 refl)));
}
