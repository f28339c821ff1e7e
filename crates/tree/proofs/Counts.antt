-- How many places there are. Assumes nothing.
use Rattle.std.proofs.Common.{◌≡◌, ℕ, zero, suc, ◌+◌, ◌*◌, Bool, true, false, List, [], ◌∷◌, length, refl, ap, ◌∙◌, add-mul, one-mul, arith}
use Rattle.cards.specs.Game.{pick}
use Rattle.rules.specs.declared.Player.{Player}
use Rattle.rules.specs.declared.Sheet.{Sheet}
use Rattle.tree.specs.declared.Hand.{Hand}
use Rattle.tree.specs.declared.Act.TheVariants.{Check, Bet, Call, Raise}
use Rattle.tree.specs.Compact.{Play, end, size, sizes, answers_as, round_as, each, first_as, second_as, shown_as, higher_as, paired_as, acted_as, due_of, shows}
use Rattle.rules.specs.Play.{left, purse, other}
use Rattle.tree.specs.Flat.{bet_size, first_size}

module _ (t b c : ℕ) (then : Hand → Play) (same : (h : Hand) → size (then h) ≡ c) where
  answers_size : (x : ℕ) (w : Player) (h : Hand) → size (answers_as t b then x w h) ≡ (x + 1) * (2 + c)
  answers_size zero w h = let e = same (acted_as w Call (due_of w h.paid) h) in let m = one-mul (2 + c) in omega (arith, e, m)
  answers_size (suc x) w h =
      let e = same (acted_as w Call (due_of w h.paid) h) in
      let i = answers_size x (other w) (acted_as w Raise (due_of w h.paid + b) h) in
      let s : suc x + 1 ≡ (x + 1) + 1 = omega arith in
      let m : (suc x + 1) * (2 + c) ≡ (x + 1) * (2 + c) + (2 + c) = ap (λ n. n * (2 + c)) s ∙ add-mul (x + 1) 1 (2 + c) ∙ ap (λ n. (x + 1) * (2 + c) + n) (one-mul (2 + c)) in
      omega (arith, e, i, m)

  pub round_size : (x : ℕ) (w : Player) (h : Hand) → size (round_as t b then x w h) ≡ bet_size x c
  round_size x w h =
      let o = other w in
      let h1 = acted_as w Check 0 h in
      let e = same (acted_as o Check 0 h1) in
      let a1 = answers_size x (other o) (acted_as o Bet b h1) in
      let a2 = answers_size x o (acted_as w Bet b h) in
      omega (arith, e, a1, a2)

pub each_size : (c r : ℕ) (deck : List ℕ) (then : ℕ → Play) → ((q : ℕ) → size (then q) ≡ c) → sizes (each r deck then) ≡ length (left deck) * c
each_size c r [] then same = omega arith
each_size c r (zero ∷ deck) then same = each_size c (suc r) deck then same
each_size c r (suc k ∷ deck) then same =
    let e = same r in
    let i = each_size c (suc r) deck then same in
    let s : suc (length (left deck)) ≡ 1 + length (left deck) = omega arith in
    let m : suc (length (left deck)) * c ≡ c + length (left deck) * c = ap (λ n. n * c) s ∙ add-mul 1 (length (left deck)) c ∙ ap (λ n. n + length (left deck) * c) (one-mul c) in
    omega (arith, e, i, m)

pub first_size_is : (s : Sheet) (deck : List ℕ) (h : Hand) → size (first_as s deck h) ≡ first_size s deck
first_size_is s deck h = go s.public
  where
    second : (h : Hand) → size (second_as s deck h) ≡ 1 + length (left deck) * bet_size s.raises 1
    second h =
        let e = each_size (bet_size s.raises 1) 0 deck (λ r. shown_as s r h)
        (λ r. round_size (purse s) s.bets.second 1 (λ h'. end (paired_as (purse s) r h')) (λ h'. refl) s.raises s.begins (shows r h)) in
        omega (arith, e)

    go : (p : Bool) → size (round_as (purse s) s.bets.first (pick p (second_as s deck) (λ h'. end (higher_as (purse s) h'))) s.raises s.begins h)
        ≡ bet_size s.raises (pick p (1 + length (left deck) * bet_size s.raises 1) 1)
    go true = round_size (purse s) s.bets.first (1 + length (left deck) * bet_size s.raises 1) (second_as s deck) second s.raises s.begins h
    go false = round_size (purse s) s.bets.first 1 (λ h'. end (higher_as (purse s) h')) (λ h'. refl) s.raises s.begins h
