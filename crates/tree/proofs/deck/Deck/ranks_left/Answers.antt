use Rattle.std.proofs.Common.{nat_lt, ap, ◌∙◌, length, rules, tests}
use Rattle.std.proofs.lemmas.Iterator.{YieldsList-from_slice}
use Rattle.std.proofs.lemmas.Iterator.Consumers.{YieldsList-from_filter, count_from_yields_List}
use Rattle.rules.specs.Play.{left}
use Rattle.tree.proofs.Deals.{filter_left}
use Rattle.tree.proofs.deck.Deck.ranks_left.Goals as goal

pub returns-clause-value : goal.returns-clause-value
returns-clause-value c =
    count_from_yields_List c.filter.result c.count.result c.count.ensures.ran (YieldsList-from_filter _ (nat_lt 0) (YieldsList-from_slice c.cards.result.now cc) c.filter.ensures.closure (λ x b q k. search (rules, tests)))
    ∙ ap length (filter_left c.cards.result.now) ∙ ap (λ xs. length (left xs)) c.cards.ensures.value
