-- A writer that goes on, and closes a place. Assumes nothing.
use Rattle.std.proofs.Common.{◌≡◌, ℕ, ◌+◌, ◌-◌, ◌<◌, ◌≤◌, List, length, set, ap, ◌∙◌, subst, arith}
use Rattle.rules.specs.declared.Ends.{Ends}
use Rattle.tree.specs.declared.Place.{Place}
use Rattle.tree.specs.declared.Place.TheVariants.{Over}
use Rattle.tree.specs.declared.Node.{Node}
use Rattle.tree.specs.Compact.{Play, Plays, end, size, sizes}
use Rattle.tree.specs.Flat.{raw, unnumbered, Written}
use Rattle.tree.specs.Rep.{node}
use Rattle.tree.proofs.Put.{put_one, length_put}
use Rattle.tree.proofs.Lay.{Rows, raws, length_flat, length_flats}

pub written_length : (c : ℕ) (p : Play) (at k : ℕ) (xs ys : List Node) → at + size p ≤ length xs → Written c p at xs ys k → length ys ≡ length xs
written_length c p at k xs ys h w =
    let l = length_flat unnumbered unnumbered c p in
    ap length w.holds ∙ length_put xs (raw c p) at (omega (arith, l, h))

pub rows_length : (ws : List ℕ) (ps : Plays) (at k : ℕ) (xs ys : List Node) → at + sizes ps ≤ length xs → Rows ws ps at xs ys k → length ys ≡ length xs
rows_length ws ps at k xs ys h r =
    let l = length_flats unnumbered unnumbered ws ps in
    ap length r.holds ∙ length_put xs (raws ws ps) at (omega (arith, l, h))

-- the same, from the place that was left open on
pub begun : (c : ℕ) (p : Play) (at i k : ℕ) (xs xs' ys : List Node) → i ≡ at → xs' ≡ xs → Written c p i xs' ys k → Written c p at xs ys k
begun c p at i k xs xs' ys ei ex w =
    let P : ℕ → Type 0 = λ a. Written c p a xs' ys k in
    let Q : List Node → Type 0 = λ l. Written c p at l ys k in
    subst Q ex (subst P ei w)

pub over_closed : (c : ℕ) (t : Ends) (at i j k : ℕ) (xs ys zs : List Node) → at < length xs → i ≡ at → ys ≡ xs → k ≡ at + 1 →
    zs ≡ set ys i (node (Over t) c (k - i)) → j ≡ k → Written c (end t) at xs zs j
over_closed c t at i j k xs ys zs h ei ey ek ez ej =
    let n : k - i ≡ 1 = omega arith in
    record {
      ends = ej ∙ ek;
      holds = ez ∙ ap (λ l. set l i (node (Over t) c (k - i))) ey ∙ ap (λ a. set xs a (node (Over t) c (k - i))) ei
          ∙ ap (λ m. set xs at (node (Over t) c m)) n ∙ put_one xs at (node (Over t) c 1) h;
    }

pub closed : (c : ℕ) (p : Play) (at i j k : ℕ) (xs ys zs : List Node) (pl : Place) → i ≡ at → zs ≡ set ys i (node pl c (k - i)) → j ≡ k →
    Written c p at xs (set ys at (node pl c (k - at))) k → Written c p at xs zs j
closed c p at i j k xs ys zs pl ei ez ej w = record { ends = ej ∙ w.ends; holds = ez ∙ ap (λ a. set ys a (node pl c (k - a))) ei ∙ w.holds }
