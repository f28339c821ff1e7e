-- What is known of a file once its beginning is read. Assumes nothing: these are definitions.
use Rattle.std.specs.Prelude.{◌≡◌, ℕ, ◌*◌, ◌^◌, ◌<◌, ◌≤◌, Ok}
use Rattle.rules.specs.declared.Player.TheVariants.{House}
use Rattle.rules.specs.Play.{purse}
use Rattle.rules.specs.Sound.{Sound}
use Rattle.rules.specs.Counts.{word_count}
use Rattle.tree.specs.Built.{sizes_of}
use Rattle.plans.specs.Bases.{Based}
use Rattle.worst.specs.Admit.{admitted}
use Rattle.answers.specs.declared.Opening.{Opening}
use Rattle.answers.specs.Files.{room}

-- the sheet is sound, its tree fits memory for `space` places, m fits the sheet, and all sums stay below 2^62
pub record ReadyIn (space : ℕ) (o : Opening) : Type 0 where
  pub sound : Sound o.sheet
  pub sizes_are : o.sizes ≡ sizes_of o.sheet
  pub fits : admitted (sizes_of o.sheet) space space space space ≡ Ok (sizes_of o.sheet)
  pub based : Based o.sheet o.m
  pub small : 2 * purse o.sheet * o.m ^ word_count o.sheet House < 2 ^ 62

-- the same for `reckon` and `play`
abbrev pub Ready : Opening → Type 0
Ready = ReadyIn room

-- what is known whatever memory there is: the tree is not too large
pub record Begun (o : Opening) : Type 0 where
  pub sound : Sound o.sheet
  pub sizes_are : o.sizes ≡ sizes_of o.sheet
  pub few : (sizes_of o.sheet).places ≤ 65536
  pub few_house : (sizes_of o.sheet).house.sights < 2 ^ 32
  pub few_guest : (sizes_of o.sheet).guest.sights < 2 ^ 32
  pub based : Based o.sheet o.m
  pub small : 2 * purse o.sheet * o.m ^ word_count o.sheet House < 2 ^ 62
