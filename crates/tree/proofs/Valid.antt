-- The sights that a game has, and that what they tell tells them apart. Assumes nothing.
use Rattle.std.proofs.Common.{◌≡◌, ℕ, zero, suc, ◌+◌, ◌<◌, ◌≤◌, Bool, true, false, List, [], ◌∷◌, ◌++◌, Some, None, Option, sym, refl, ap, ◌∙◌, subst, arith}
use Rattle.rules.specs.Play as R
use Rattle.rules.specs.Sights as S
use Rattle.tree.specs.declared.Line.{Line}
use Rattle.tree.specs.declared.Sight.{Sight}
use Rattle.tree.specs.Seen.{same_stored_sight}
use Rattle.tree.specs.Told.{checks_listed, listed, ended, choices_in, told}
use Rattle.rules.proofs.Same.{sight_eq, sight_refl}
use Rattle.tree.proofs.Equal.{sight_same, sight_itself}

abbrev pub line_of : ℕ → ℕ → Line
line_of c k = record { checks = c; bets = k }

-- a round that goes on, with x raises at the most
abbrev pub Going : ℕ → Line → Type 0
Going x l = (l.checks ≤ 1) × (l.bets ≤ x + 1)

-- a round that is over without a fold: two checks, or a bet that was called
pub data Ended (x : ℕ) : Line → Type 0 where
  both_checked : Ended x (line_of 2 0)
  called : (c k : ℕ) → c ≤ 1 → suc k ≤ x + 1 → Ended x (line_of c (suc k))

-- with a public card only in games that have one, of d ranks
abbrev pub ValidIn : ℕ → ℕ → Bool → Option ℕ → Line → Line → Type 0
ValidIn d x p None f s = Going x f × (s ≡ line_of 0 0)
ValidIn d x p (Some r) f s = (p ≡ true) × (r < d) × Ended x f × Going x s

pub record Valid (d x : ℕ) (p : Bool) (z : Sight) : Type 0 where
  pub own : z.own < 13
  pub history : ValidIn d x p z.history.public z.history.first z.history.second

-- reading the lines back from the choices: in the first round, or in the second after the first
data Read : Type 0 where
  one : ℕ → ℕ → Read
  two : ℕ → ℕ → ℕ → ℕ → Read

abbrev step : Read → ℕ → Read
step (one zero zero) zero = one 1 0
step (one (suc c) zero) zero = two 2 0 0 0
step (one c zero) (suc a) = one c 1
step (one c (suc k)) zero = one c (suc k)
step (one c (suc k)) (suc zero) = two c (suc k) 0 0
step (one c (suc k)) (suc (suc a)) = one c (suc (suc k))
step (two f g c zero) zero = two f g (suc c) 0
step (two f g c zero) (suc a) = two f g c 1
step (two f g c (suc k)) a = two f g c (suc (suc k))

abbrev reads : List ℕ → Read
reads [] = one 0 0
reads (a ∷ rest) = step (reads rest) a

checks_read : (c : ℕ) → c ≤ 1 → reads (checks_listed c) ≡ one c 0
checks_read zero h = refl
checks_read (suc zero) h = refl
checks_read (suc (suc c)) h = absurd (omega arith)

first_read : (c k : ℕ) → c ≤ 1 → reads (listed c k) ≡ one c k
first_read c zero h = checks_read c h
first_read zero (suc zero) h = refl
first_read (suc zero) (suc zero) h = refl
first_read (suc (suc c)) (suc zero) h = absurd (omega arith)
first_read c (suc (suc k)) h = ap (λ r. step r 2) (first_read c (suc k) h)

end_read : {x : ℕ} {l : Line} → Ended x l → reads (ended l.checks l.bets) ≡ two l.checks l.bets 0 0
end_read both_checked = refl
end_read (called c k h j) = ap (λ r. step r 1) (first_read c (suc k) h)

second_checks : (f g c : ℕ) (es : List ℕ) → reads es ≡ two f g 0 0 → reads (checks_listed c ++ es) ≡ two f g c 0
second_checks f g zero es e = e
second_checks f g (suc c) es e = ap (λ r. step r 0) (second_checks f g c es e)

second_read : (f g c k : ℕ) (es : List ℕ) → reads es ≡ two f g 0 0 → reads (listed c k ++ es) ≡ two f g c k
second_read f g c zero es e = second_checks f g c es e
second_read f g c (suc zero) es e = ap (λ r. step r 1) (second_checks f g c es e)
second_read f g c (suc (suc k)) es e = ap (λ r. step r 2) (second_read f g c (suc k) es e)

abbrev seen : ℕ → Option ℕ → Line → Line → Sight
seen o p f s = record { own = o; history = record { first = f; public = p; second = s } }

abbrev at1 : Read → ℕ
at1 (one c k) = c
at1 (two f g c k) = f

abbrev at2 : Read → ℕ
at2 (one c k) = k
at2 (two f g c k) = g

abbrev at3 : Read → ℕ
at3 (one c k) = 0
at3 (two f g c k) = c

abbrev at4 : Read → ℕ
at4 (one c k) = 0
at4 (two f g c k) = k

line_same : (a b : Line) → a.checks ≡ b.checks → a.bets ≡ b.bets → a ≡ b
line_same a b p q = λ i. record { checks = p i; bets = q i }

same_lines : (d x : ℕ) (p : Bool) (o : Option ℕ) (f s f' s' : Line) → ValidIn d x p o f s → ValidIn d x p o f' s' → choices_in o f s ≡ choices_in o f' s' → (f ≡ f') × (s ≡ s')
same_lines d x p None f s f' s' (v, e) (w, g) h =
    let r = sym (first_read f.checks f.bets v.0) ∙ ap reads h ∙ first_read f'.checks f'.bets w.0 in
    (line_same f f' (ap at1 r) (ap at2 r), e ∙ sym g)
same_lines d x p (Some r) f s f' s' (_, _, v, u) (_, _, w, t) h =
    let q = sym (second_read _ _ s.checks s.bets _ (end_read v)) ∙ ap reads h ∙ second_read _ _ s'.checks s'.bets _ (end_read w) in
    (line_same f f' (ap at1 q) (ap at2 q), line_same s s' (ap at3 q) (ap at4 q))

pub told_same : (d x : ℕ) (p : Bool) (a b : Sight) → Valid d x p a → Valid d x p b → told a ≡ told b → a ≡ b
told_same d x p a b v w e =
    let o : a.own ≡ b.own = ap (λ (z : R.Sight). z.own) e in
    let q : a.history.public ≡ b.history.public = ap (λ (z : R.Sight). z.public) e in
    let P : Option ℕ → Type 0 = λ u. ValidIn d x p u b.history.first b.history.second in
    let h : choices_in a.history.public a.history.first a.history.second ≡ choices_in a.history.public b.history.first b.history.second =
    ap (λ (z : R.Sight). z.choices) e ∙ ap (λ u. choices_in u b.history.first b.history.second) (sym q) in
    let l = same_lines d x p a.history.public a.history.first a.history.second b.history.first b.history.second v.history (subst P (sym q) w.history) h in
    let lf = l.0 in
    let ls = l.1 in
    λ i. record { own = o i; history = record { first = lf i; public = q i; second = ls i } }

tests_agree : (x y : Bool) → (x ≡ true → y ≡ true) → (y ≡ true → x ≡ true) → x ≡ y
tests_agree true true f g = refl
tests_agree true false f g = sym (f refl)
tests_agree false true f g = g refl
tests_agree false false f g = refl

-- the test on stored sights is the test on what they tell
pub apart : (d x : ℕ) (p : Bool) (a b : Sight) → Valid d x p a → Valid d x p b → same_stored_sight a b ≡ S.same_sight (told a) (told b)
apart d x p a b v w =
    tests_agree (same_stored_sight a b) (S.same_sight (told a) (told b))
    (λ e. ap (λ z. S.same_sight (told a) (told z)) (sym (sight_same a b e)) ∙ sight_refl (told a))
    (λ e. ap (same_stored_sight a) (sym (told_same d x p a b v w (sight_eq (told a) (told b) e))) ∙ sight_itself a)
