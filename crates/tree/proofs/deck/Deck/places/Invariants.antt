use Rattle.std.proofs.Common.{◌≡◌, ℕ, ◌+◌, ◌*◌, ◌<◌, ◌≤◌, take, slice_index}
use Rattle.tree.specs.Compact.{Play, size, sizes, each}
use Rattle.tree.specs.Cards.{cards_of}
use Rattle.tree.proofs.deck.Deck.places.Given as goal

abbrev pub invariant-loop-rank : goal.invariant-loop-rank
invariant-loop-rank g l =
    ((then : ℕ → Play) → ((r n : ℕ) → 0 < slice_index (cards_of l.self) r → goal.F-post g l.of r n → n ≡ size (then r)) →
    l.sum ≡ 1 + sizes (each 0 (take l.rank (cards_of l.self)) then))
    × ((most : ℕ) → ((r n : ℕ) → 0 < slice_index (cards_of l.self) r → goal.F-post g l.of r n → n ≤ most) → l.sum ≤ 1 + most * l.rank)
