use Rattle.std.proofs.Common.{◌≡◌, ◌+◌, ◌*◌, ◌≤◌, sym, ◌∙◌, arith, rules}
use Rattle.rules.specs.Play.{without}
use Rattle.tree.specs.Compact.{first_as, sits}
use Rattle.tree.specs.Cards.{cards_of}
use Rattle.tree.specs.Flat.{first_size}
use Rattle.tree.proofs.Counts.{first_size_is}
use Rattle.tree.proofs.Game.count_guest.Goals as goal

pub returns-clause-value : goal.returns-clause-value
returns-clause-value c =
    let s = c.args.self.sheet in
    let cards = cards_of c.args.deck in
    λ a. c.places.ensures.value (λ b. first_as s (without b cards) (sits s.bets.ante a b))
    (λ r n p q. let e : n ≡ first_size s (without r cards) = search rules in e ∙ sym (first_size_is s (without r cards) (sits s.bets.ante a r)))

pub returns-clause-most : goal.returns-clause-most
returns-clause-most c =
    let most : c.places.result ≤ 1 + 13 * 6000 = c.places.ensures.most 6000 (λ r n p q. search rules) in omega arith
