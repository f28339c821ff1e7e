-- Of trees that fit, the first fits, and so do those after it.
use Rattle.std.proofs.Common.{ℕ}
use Rattle.cards.specs.Game.{Tree, Trees, more, Plan}
use Rattle.cards.specs.Promise.{Well, Wells, wells_more}

pub first_fits : {m n : ℕ} {plan : Plan} {counts : ℕ → ℕ} {t : Tree} {ts : Trees} → Wells m plan counts n (more t ts) → Well m plan counts n t
first_fits (wells_more h hs) = h

pub rest_fits : {m n : ℕ} {plan : Plan} {counts : ℕ → ℕ} {t : Tree} {ts : Trees} → Wells m plan counts n (more t ts) → Wells m plan counts n ts
rest_fits (wells_more h hs) = hs
