-- What a check that passed says of its value. Assumes nothing.
use Rattle.std.proofs.Common.{◌≡◌, ℕ, ◌≤◌, Bool, true, false, ◌&&◌, leb, Some, None, Ok, Err, Result, refl, arith}
use Rattle.cards.specs.Game.{pick}
use Rattle.std.proofs.lemmas.Bool.{and_parts, leb-true}
use Rattle.rules.specs.Read.{ranged}

pub some_picked : {X : Type 0} (b : Bool) (x y : X) → Some y ≡ pick b (Some x) None → (b ≡ true) × (y ≡ x)
some_picked true x y e = (refl, cc)
some_picked false x y e = let z : ◌≡◌ {A = ℕ} 0 1 = cc in absurd (omega arith)

pub ok_same : {A E : Type 0} (a b : A) → ◌≡◌ {A = Result A E} (Ok a) (Ok b) → a ≡ b
ok_same a b h = cc

pub no_ok : {A E B : Type 0} (e : E) (a : A) → ◌≡◌ {A = Result A E} (Err e) (Ok a) → B
no_ok e a h = let z : ◌≡◌ {A = ℕ} 0 1 = cc in absurd (omega arith)

pub ranged_high : (low high x y : ℕ) → Some y ≡ ranged low high x → y ≤ high
ranged_high low high x y e =
    let p = some_picked (leb low x && leb x high) x y e in
    let h = leb-true x high (and_parts (leb low x) (leb x high) p.0).1 in omega arith
