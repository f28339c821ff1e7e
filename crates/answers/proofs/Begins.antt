-- What is known of a file that begins as it should. Assumes nothing.
use Rattle.std.proofs.Common.{◌≡◌, ℕ, ◌*◌, ◌^◌, ◌<◌, List, take, drop, Some, None, Ok, Err, Option, Result, IfOk, sym, refl, arith}
use Rattle.std.proofs.lemmas.Grind.{common_steps}
use Rattle.std.proofs.lemmas.Result.{IfOk-at_ok}
use Rattle.rules.specs.declared.Player.TheVariants.{House}
use Rattle.rules.specs.declared.Sheet.{Sheet}
use Rattle.rules.specs.declared.Refusal as R
use Rattle.rules.specs.Read as rules
use Rattle.rules.specs.Play.{purse}
use Rattle.rules.specs.Sound.{Sound}
use Rattle.rules.specs.Counts.{word_count}
use Rattle.tree.specs.declared.Sizes.{Sizes}
use Rattle.tree.specs.Built.{sizes_of}
use Rattle.plans.specs.declared.Refusal as P
use Rattle.plans.specs.Numbers.{numbers, front}
use Rattle.plans.specs.Bases.{base_of, size_of, Based}
use Rattle.worst.specs.declared.Refusal as W
use Rattle.worst.specs.Admit.{admitted}
use Rattle.answers.specs.declared.Opening.{Opening}
use Rattle.answers.specs.Files.{open_size, open_base, open_number, open_memory, open_sheet_in, opened_in}
use Rattle.answers.specs.Ready.{Begun}
use Rattle.answers.proofs.Openings.{Fits, admitted_fits, size_small}

-- a rule sheet that was read is sound
read_sound : (xs : List ℕ) (s : Sheet) → rules.read xs ≡ Ok s → Sound s
read_sound xs s e = record {
  ranks = record { least = grind (arith, common_steps); most = grind (arith, common_steps) };
  copies = record { least = grind (arith, common_steps); most = grind (arith, common_steps) };
  ante = record { least = grind (arith, common_steps); most = grind (arith, common_steps) };
  first = record { least = grind (arith, common_steps); most = grind (arith, common_steps) };
  second = record { least = grind (arith, common_steps); most = grind (arith, common_steps) };
  raises = grind (arith, common_steps);
  deck = grind (arith, common_steps);
  shown = λ p. grind (arith, common_steps);
}

-- an m that was taken fits the sheet
base_based : (s : Sheet) (n m : ℕ) → Sound s → base_of s n ≡ Ok m → Based s m
base_based s n m h e = grind (arith, common_steps)

-- a file that begins so is ready
pub opened_ready : (room : ℕ) (bytes : List ℕ) (o : Opening) → room < 2 ^ 32 → opened_in room bytes ≡ Ok o → Begun o
opened_ready room bytes o rl e = IfOk-at_ok Begun e (at_sheet (rules.read (take 9 bytes)) refl)
  where
    at_size : (s : Sheet) (m : ℕ) → Sound s → Based s m → Fits (sizes_of s) room room room room → (r : Result ℕ P.Refusal) → size_of (2 * purse s) m (word_count s House) ≡ r → IfOk (open_size s m r) Begun
    at_size s m h b f (Ok k) er =
        record { sound = h; sizes_are = refl; few = f.few; few_house = (let a = f.house in omega (arith, a, rl)); few_guest = (let a = f.guest in omega (arith, a, rl)); based = b; small = size_small (2 * purse s) m (word_count s House) k (sym er) }
    at_size s m h b f (Err x) er = tt

    at_base : (s : Sheet) (n : ℕ) → Sound s → Fits (sizes_of s) room room room room → (r : Result ℕ P.Refusal) → base_of s n ≡ r → IfOk (open_base s r) Begun
    at_base s n h f (Ok m) er = at_size s m h (base_based s n m h er) f (size_of (2 * purse s) m (word_count s House)) refl
    at_base s n h f (Err x) er = tt

    at_number : (s : Sheet) → Sound s → Fits (sizes_of s) room room room room → (r : Option ℕ) → IfOk (open_number s r) Begun
    at_number s h f (Some n) = at_base s n h f (base_of s n) refl
    at_number s h f None = tt

    at_memory : (s : Sheet) → Sound s → (r : Result Sizes W.Refusal) → admitted (sizes_of s) room room room room ≡ r → IfOk (open_memory s (drop 9 bytes) r) Begun
    at_memory s h (Ok z) er = at_number s h (admitted_fits z (sizes_of s) room room room room (sym er)) (front (numbers (drop 9 bytes)))
    at_memory s h (Err x) er = tt

    at_sheet : (r : Result Sheet R.Refusal) → rules.read (take 9 bytes) ≡ r → IfOk (open_sheet_in room (drop 9 bytes) r) Begun
    at_sheet (Ok s) er = at_memory s (read_sound (take 9 bytes) s er) (admitted (sizes_of s) room room room room) refl
    at_sheet (Err x) er = tt
