-- Writing a played hand place by place. Assumes nothing.
use Rattle.std.proofs.Common.{◌≡◌, ℕ, suc, ◌+◌, ◌-◌, ◌≤◌, List, [], ◌∷◌, length, set, sym, refl, ap, ◌∙◌, arith, length-append}
use Rattle.rules.specs.declared.Player.{Player}
use Rattle.tree.specs.declared.Sight.{Sight}
use Rattle.tree.specs.declared.Place.{Place}
use Rattle.tree.specs.declared.Place.TheVariants.{Deal}
use Rattle.tree.specs.declared.Node.{Node}
use Rattle.tree.specs.Compact.{Play, end, dealt, turn, Plays, no_more, also, size, sizes}
use Rattle.tree.specs.Flat.{flat, flats, raw, unnumbered, put, seat, Written}
use Rattle.tree.specs.Rep.{node, first_of, rest_of}
use Rattle.cards.specs.Game.{total}
use Rattle.tree.proofs.Put.{put_nil, put_more, put_front}

mutual
  pub length_flat : (f g : Sight → ℕ) (c : ℕ) (p : Play) → length (flat f g c p) ≡ size p
  length_flat f g c (end t) = refl
  length_flat f g c (dealt ws ps) = ap suc (length_flats f g ws ps)
  length_flat f g c (turn w z ps) = ap suc (length_flats f g [] ps)

  pub length_flats : (f g : Sight → ℕ) (ws : List ℕ) (ps : Plays) → length (flats f g ws ps) ≡ sizes ps
  length_flats f g ws no_more = refl
  length_flats f g ws (also p ps) =
      let a = length_flat f g (first_of ws) p in
      let b = length_flats f g (rest_of ws) ps in
      let c = length-append (flat f g (first_of ws) p) (flats f g (rest_of ws) ps) in
      omega (arith, a, b, c)

abbrev pub raws : List ℕ → Plays → List Node
raws = flats unnumbered unnumbered

-- the trees of a place, one after the other
pub record Rows (ws : List ℕ) (ps : Plays) (at : ℕ) (before after : List Node) (next : ℕ) : Type 0 where
  pub ends : next ≡ at + sizes ps
  pub holds : after ≡ put before at (raws ws ps)

pub rows_none : (ws : List ℕ) (at : ℕ) (xs : List Node) → Rows ws no_more at xs xs at
rows_none ws at xs = record { ends = omega arith; holds = sym (put_nil xs at) }

pub rows_also : (ws : List ℕ) (p : Play) (ps : Plays) (at k j : ℕ) (xs ys zs : List Node) → at + sizes (also p ps) ≤ length xs →
    Written (first_of ws) p at xs ys k → Rows (rest_of ws) ps k ys zs j → Rows ws (also p ps) at xs zs j
rows_also ws p ps at k j xs ys zs h w r =
    let lp = length_flat unnumbered unnumbered (first_of ws) p in
    record {
      ends = let a = w.ends in let b = r.ends in omega arith;
      holds = r.holds ∙ ap (λ l. put l k (raws (rest_of ws) ps)) w.holds
          ∙ put_more xs (raw (first_of ws) p) (raws (rest_of ws) ps) at k (let a = w.ends in omega (arith, lp)) (omega (arith, lp));
    }

pub turn_written : (c : ℕ) (w : Player) (z : Sight) (ps : Plays) (at k : ℕ) (xs ys : List Node) (pl : Place) (n : ℕ) →
    at + 1 + sizes ps ≤ length xs → Rows [] ps (at + 1) xs ys k → pl ≡ seat unnumbered unnumbered w z → n ≡ k - at →
    Written c (turn w z ps) at xs (set ys at (node pl c n)) k
turn_written c w z ps at k xs ys pl n h r e en =
    let lp = length_flats unnumbered unnumbered [] ps in
    let m : n ≡ suc (sizes ps) = (let b = r.ends in omega arith) in
    record {
      ends = let b = r.ends in omega arith;
      holds = ap (λ l. set l at (node pl c n)) r.holds
          ∙ put_front xs (raws [] ps) at (node pl c n) (omega (arith, lp))
          ∙ ap (λ v. put xs at (node v c n ∷ raws [] ps)) e
          ∙ ap (λ v. put xs at (node (seat unnumbered unnumbered w z) c v ∷ raws [] ps)) m;
    }

pub deal_written : (c : ℕ) (ws : List ℕ) (ps : Plays) (at k : ℕ) (xs ys : List Node) (d n : ℕ) →
    at + 1 + sizes ps ≤ length xs → Rows ws ps (at + 1) xs ys k → d ≡ total ws → n ≡ k - at →
    Written c (dealt ws ps) at xs (set ys at (node (Deal d) c n)) k
deal_written c ws ps at k xs ys d n h r e en =
    let lp = length_flats unnumbered unnumbered ws ps in
    let m : n ≡ suc (sizes ps) = (let b = r.ends in omega arith) in
    record {
      ends = let b = r.ends in omega arith;
      holds = ap (λ l. set l at (node (Deal d) c n)) r.holds
          ∙ put_front xs (raws ws ps) at (node (Deal d) c n) (omega (arith, lp))
          ∙ ap (λ v. put xs at (node (Deal v) c n ∷ raws ws ps)) e
          ∙ ap (λ v. put xs at (node (Deal (total ws)) c v ∷ raws ws ps)) m;
    }

pub rows_met : (ws : List ℕ) (ps : Plays) (at k j : ℕ) (xs ys zs : List Node) → k ≡ j → ys ≡ zs → Rows ws ps at xs zs j → Rows ws ps at xs ys k
rows_met ws ps at k j xs ys zs ek ey r = record { ends = ek ∙ r.ends; holds = ey ∙ r.holds }
