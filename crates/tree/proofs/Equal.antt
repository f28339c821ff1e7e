-- The tests on sights say that they are equal. Assumes nothing.
use Rattle.std.proofs.Common.{◌≡◌, ℕ, Bool, true, false, ◌&&◌, eqb, Some, None, Option, refl, ap, ◌∙◌}
use Rattle.std.proofs.lemmas.Bool.{eqb-true, eq-eqb, and_parts, and_from, both_ways}
use Rattle.tree.specs.declared.Line.{Line}
use Rattle.tree.specs.declared.History.{History}
use Rattle.tree.specs.declared.Sight.{Sight}
use Rattle.tree.specs.Seen.{same_line, same_public_card, same_stored_sight}

abbrev line_of : ℕ → ℕ → Line
line_of c k = record { checks = c; bets = k }

-- the test on counts
line_eq : (a b : Line) → same_line a b ≡ true → a ≡ b
line_eq a b e =
    let p = and_parts (eqb a.checks b.checks) (eqb a.bets b.bets) e in
    ap (λ n. line_of n a.bets) (eqb-true a.checks b.checks p.0) ∙ ap (line_of b.checks) (eqb-true a.bets b.bets p.1)

line_refl : (a : Line) → same_line a a ≡ true
line_refl a = and_from (eqb a.checks a.checks) (eqb a.bets a.bets) (eq-eqb a.checks a.checks refl) (eq-eqb a.bets a.bets refl)

public_eq : (a b : Option ℕ) → same_public_card a b ≡ true → a ≡ b
public_eq None None e = refl
public_eq None (Some q) e = absurd (both_ways false refl e)
public_eq (Some r) None e = absurd (both_ways false refl e)
public_eq (Some r) (Some q) e = ap Some (eqb-true r q e)

public_refl : (a : Option ℕ) → same_public_card a a ≡ true
public_refl None = refl
public_refl (Some r) = eq-eqb r r refl

abbrev same_history : History → History → Bool
same_history a b = same_line a.first b.first && (same_public_card a.public b.public && same_line a.second b.second)

history_eq : (a b : History) → same_history a b ≡ true → a ≡ b
history_eq a b e =
    let p = and_parts (same_line a.first b.first) (same_public_card a.public b.public && same_line a.second b.second) e in
    let q = and_parts (same_public_card a.public b.public) (same_line a.second b.second) p.1 in
    let mk : Line → Option ℕ → Line → History = λ f o s. record { first = f; public = o; second = s } in
    ap (λ f. mk f a.public a.second) (line_eq a.first b.first p.0) ∙ ap (λ o. mk b.first o a.second) (public_eq a.public b.public q.0)
    ∙ ap (mk b.first b.public) (line_eq a.second b.second q.1)

history_refl : (a : History) → same_history a a ≡ true
history_refl a =
    and_from (same_line a.first a.first) (same_public_card a.public a.public && same_line a.second a.second) (line_refl a.first)
    (and_from (same_public_card a.public a.public) (same_line a.second a.second) (public_refl a.public) (line_refl a.second))

pub sight_same : (a b : Sight) → same_stored_sight a b ≡ true → a ≡ b
sight_same a b e =
    let p = and_parts (eqb a.own b.own) (same_line a.history.first b.history.first && (same_public_card a.history.public b.history.public && same_line a.history.second b.history.second)) e in
    let of : ℕ → History → Sight = λ o h. record { own = o; history = h } in
    ap (λ o. of o a.history) (eqb-true a.own b.own p.0) ∙ ap (of b.own) (history_eq a.history b.history p.1)

pub sight_itself : (a : Sight) → same_stored_sight a a ≡ true
sight_itself a =
    and_from (eqb a.own a.own) (same_line a.history.first a.history.first && (same_public_card a.history.public a.history.public && same_line a.history.second a.history.second))
    (eq-eqb a.own a.own refl) (history_refl a.history)
