-- Where a sight is met in a tree; the trees of two sights have no later sight in common. Assumes nothing: these are definitions and a statement.
use Rattle.std.specs.Prelude.{◌≡◌, ℕ, List}
use Rattle.cards.specs.Game.{Tree, deal, ours, theirs, Trees, more}
use Rattle.cards.specs.Played.{Move, Recalls}

-- the guest is to choose at sight s somewhere in the tree
mutual
  pub data Met (s : ℕ) : Tree → Type 0 where
    met_here : {ts : Trees} → Met s (theirs s ts)
    met_deal : {ws : List ℕ} {ts : Trees} → Mets s ts → Met s (deal ws ts)
    met_ours : {i : ℕ} {ts : Trees} → Mets s ts → Met s (ours i ts)
    met_theirs : {i : ℕ} {ts : Trees} → Mets s ts → Met s (theirs i ts)

  pub data Mets (s : ℕ) : Trees → Type 0 where
    mets_first : {t : Tree} {ts : Trees} → Met s t → Mets s (more t ts)
    mets_later : {t : Tree} {ts : Trees} → Mets s ts → Mets s (more t ts)

-- where the guest has the same past at two places, a sight that comes later after both shows that they are at one sight
unfoldable pub SightsLieApart : Type 0
SightsLieApart =
    (tells : ℕ → List Move) (s i j : ℕ) (past : List Move) (ts us : Trees) → Recalls tells past (theirs i ts) → Recalls tells past (theirs j us) →
    Mets s ts → Mets s us → i ≡ j
