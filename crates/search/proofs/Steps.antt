-- A plan is proposed row by row, and written byte by byte. Assumes nothing.
use Rattle.std.proofs.Common.{◌≡◌, ℕ, ◌+◌, ◌<◌, ◌⊎◌, inl, inr, List, [], ◌∷◌, ◌++◌, length, get_or, take, sym, ap, ◌∙◌, subst, append-nil, arith}
use Rattle.std.proofs.lemmas.List.{take_more}
use Rattle.tree.specs.declared.Sight.{Sight}
use Rattle.tree.specs.Told.{offers_of}
use Rattle.plans.specs.declared.Row.{Row}
use Rattle.plans.proofs.Reading.{no_sight}
use Rattle.search.specs.Taken.{Fair, Taken}
use Rattle.search.specs.Encoded.{encoded}

-- where no sight or no row is left, all is written
pub written_all : (x : ℕ) (zs : List Sight) (rows : List Row) (bytes all : List ℕ) → (zs ≡ []) ⊎ (rows ≡ []) → bytes ++ encoded x zs rows ≡ all → bytes ≡ all
written_all x [] rows bytes all h l = sym (append-nil bytes) ∙ l
written_all x (z ∷ zs) [] bytes all h l = sym (append-nil bytes) ∙ l
written_all x (z ∷ zs) (r ∷ rows) bytes all h l = elim h [ inl e ↦ (let f = ap length e in absurd (omega (arith, f))) | inr e ↦ (let f = ap length e in absurd (omega (arith, f))) ]

-- one row more
snoc : (x m : ℕ) (zs : List Sight) (rows : List Row) (z : Sight) (r : Row) → Taken x m zs rows → Fair (offers_of x z) m r.weights → Taken x m (zs ++ (z ∷ [])) (rows ++ (r ∷ []))
snoc x m [] [] z r t f = (f, tt)
snoc x m [] (s ∷ rows) z r t f = absurd t
snoc x m (y ∷ zs) [] z r t f = absurd t
snoc x m (y ∷ zs) (s ∷ rows) z r t f = (t.0, snoc x m zs rows z r t.1 f)

pub taken_more : (x m i : ℕ) (zs : List Sight) (rows more : List Row) (r : Row) → Taken x m (take i zs) rows → i < length zs → Fair (offers_of x (get_or zs i no_sight)) m r.weights →
    more ≡ rows ++ (r ∷ []) → Taken x m (take (i + 1) zs) more
taken_more x m i zs rows more r t h f e =
    let s = snoc x m (take i zs) rows (get_or zs i no_sight) r t f in
    let p = subst (λ q. Taken x m q (rows ++ (r ∷ []))) (sym (take_more zs i no_sight h)) s in
    subst (Taken x m (take (i + 1) zs)) (sym e) p
