-- The tree and its sights in lent memory. Assumes nothing.
use Rattle.std.proofs.Common.{◌≡◌, ℕ, zero, suc, ◌+◌, ◌*◌, ◌<◌, ◌≤◌, Bool, true, false, ◌⊎◌, List, [], ◌∷◌, ◌++◌, map, length, get_or, replicate, Some, None, Option, sym, refl, ap, ◌∙◌, subst, inl, inr, arith}
use lib.ListN.{length-replicate}
use Rattle.std.proofs.lemmas.List.{append-nil, drop_all, length-map}
use Rattle.std.proofs.lemmas.Bool.{both_ways}
use Rattle.rules.specs.declared.Player.{Player}
use Rattle.rules.specs.declared.Player.TheVariants.{House, Guest}
use Rattle.rules.specs.declared.Sheet.{Sheet}
use Rattle.rules.specs.Play as R
use Rattle.rules.specs.Sights as S
use Rattle.rules.specs.Sound.{Sound}
use Rattle.tree.specs.declared.Line.{Line}
use Rattle.tree.specs.declared.Sight.{Sight}
use Rattle.tree.specs.declared.Node.{Node}
use Rattle.tree.specs.Rep.{node_at}
use Rattle.tree.specs.Compact.{game_as}
use Rattle.tree.specs.Flat.{raw, unnumbered, put, Written}
use Rattle.tree.specs.Seen.{noted, sight_at, seen_in, as_list, met, sights_of, numbered_node}
use Rattle.tree.specs.Slots.{InRange, Ready}
use Rattle.tree.specs.Told.{told}
use Rattle.tree.specs.Built.{Begins, nodes_of}
use Rattle.tree.proofs.Lay.{length_flat}
use Rattle.tree.proofs.Sees.{seen_flat, flat_numbered}
use Rattle.tree.proofs.Valid.{Ended, both_checked, called, ValidIn, Valid}
use Rattle.tree.proofs.Like.{Like, game_like}
use Rattle.tree.proofs.Numbers.{All, and, met_valid, sights_to}
use Rattle.tree.proofs.Measures.{size_is}

-- a valid sight has its slot
end_low : {x : ℕ} {l : Line} → x ≤ 3 → Ended x l → (l.checks < 3) × (l.bets < 5)
end_low h both_checked = (omega arith, omega arith)
end_low h (called c k a b) = (omega arith, omega arith)

-- a table has a slot for each sight: of a first round, and where there are public cards of d ranks, as often again for each
abbrev pub Large : ℕ → Bool → ℕ → Type 0
Large d p n = ((p ≡ true) × (2925 * (d + 1) ≤ n)) ⊎ ((p ≡ false) × (195 ≤ n))

ranged_in : (d x : ℕ) (p : Bool) (n : ℕ) (o : Option ℕ) (own : ℕ) (f s : Line) → x ≤ 3 → own < 13 → ValidIn d x p o f s → Large d p n →
    InRange n (record { own = own; history = record { first = f; public = o; second = s } })
ranged_in d x p n None own f s hx ho (g, e) t =
    let c0 : s.checks ≡ 0 = ap (λ (l : Line). l.checks) e in
    let b0 : s.bets ≡ 0 = ap (λ (l : Line). l.bets) e in
    let g0 = g.0 in
    let g1 = g.1 in
    record {
      own = ho;
      checks1 = omega arith;
      bets1 = omega arith;
      checks2 = omega arith;
      bets2 = omega arith;
      inside = elim t [ inl a ↦ (let q = a.1 in omega arith) | inr a ↦ (let q = a.1 in omega arith) ];
    }
ranged_in d x p n (Some r) own f s hx ho (e, hr, k, g) t =
    let l = end_low hx k in
    let l0 = l.0 in
    let l1 = l.1 in
    let g0 = g.0 in
    let g1 = g.1 in
    record {
      own = ho;
      checks1 = l0;
      bets1 = l1;
      checks2 = omega arith;
      bets2 = omega arith;
      inside = elim t [ inl a ↦ (let q = a.1 in omega arith) | inr a ↦ absurd (both_ways p a.0 e) ];
    }

-- what holds of all sights that are met holds of each node's
at_node : (P : Sight → Type 0) (w : Player) (ns : List Node) → All P (seen_in w ns) → (i : ℕ) (z : Sight) → i < length ns → sight_at w (node_at ns i).place ≡ Some z → P z
at_node P w [] a i z h e = absurd (omega arith)
at_node P w (n ∷ ns) a zero z h e = let Q : Option Sight → Type 0 = λ o. All P (as_list o ++ seen_in w ns) in first (subst Q e a)
  where
    first : {l : List Sight} → All P (z ∷ l) → P z
    first (and q b) = q
at_node P w (n ∷ ns) a (suc i) z h e = at_node P w ns (past (sight_at w n.place) a) i z (omega arith) e
  where
    past : (o : Option Sight) → All P (as_list o ++ seen_in w ns) → All P (seen_in w ns)
    past None b = b
    past (Some y) (and q b) = b

put_whole : {X : Type 0} (xs ys : List X) → length xs ≡ length ys → put xs 0 ys ≡ ys
unfolding put
put_whole xs ys e = ap (λ l. ys ++ l) (drop_all (0 + length ys) xs (omega arith)) ∙ append-nil ys

pub all_zero : (n k : ℕ) → ◌≡◌ {A = ℕ} (get_or (replicate n 0) k 0) 0
all_zero zero k = refl
all_zero (suc n) zero = refl
all_zero (suc n) (suc k) = all_zero n k

module _ (s : Sheet) (h : Sound s) where
  abbrev like : Like s.ranks s.raises s.public (R.game s) (game_as s)
  like = game_like s h.ranks.most

  pub whole : (n0 n1 : List Node) (k : ℕ) → length n0 ≡ R.count (R.game s) → Written 0 (game_as s) 0 n0 n1 k → n1 ≡ raw 0 (game_as s)
  whole n0 n1 k l w = w.holds ∙ put_whole n0 (raw 0 (game_as s)) (l ∙ sym (size_is s h) ∙ sym (length_flat unnumbered unnumbered 0 (game_as s)))

  seen_is : (w : Player) (n1 : List Node) → n1 ≡ raw 0 (game_as s) → seen_in w n1 ≡ met w (game_as s)
  seen_is w n1 e = ap (seen_in w) e ∙ seen_flat w 0 (game_as s)

  pub sights_length : (w : Player) → length (sights_of w (game_as s)) ≡ length (S.sights w (R.game s))
  sights_length w = sym (ap length (sights_to s.ranks s.raises s.public w like) ∙ length-map (sights_of w (game_as s)) told)

  pub ready : (w : Player) (n1 : List Node) (room : ℕ) (t : List ℕ) → n1 ≡ raw 0 (game_as s) → length (S.sights w (R.game s)) ≤ room →
      Large s.ranks s.public (length t) → ((k : ℕ) → get_or t k 0 ≡ 0) → Ready n1 w room t
  ready w n1 room t e hr ht z = record {
    room_is = (let a = ap (λ l. length (noted [] l)) (seen_is w n1 e) in let b = sights_length w in omega (arith, a, b));
    ranged = λ i y l q.
        (let P : List Sight → Type 0 = All (Valid s.ranks s.raises s.public) in
        let v = at_node (Valid s.ranks s.raises s.public) w n1 (subst P (sym (seen_is w n1 e)) (met_valid s.ranks s.raises s.public w like)) i y l q in
        ranged_in s.ranks s.raises s.public (length t) y.history.public y.own y.history.first y.history.second h.raises v.own v.history ht);
    zeros = z;
  }

  -- a table of n zeros
  pub blank_ready : (w : Player) (n1 : List Node) (room n : ℕ) → n1 ≡ raw 0 (game_as s) → length (S.sights w (R.game s)) ≤ room → Large s.ranks s.public n → Ready n1 w room (replicate n 0)
  blank_ready w n1 room n e hr ht = ready w n1 room (replicate n 0) e hr (subst (Large s.ranks s.public) (sym (length-replicate {A = ℕ} n 0)) ht) (all_zero n)

  pub filled : (n1 n2 : List Node) → n1 ≡ raw 0 (game_as s) → n2 ≡ map (numbered_node (noted [] (seen_in House n1)) (noted [] (seen_in Guest n1))) n1 → n2 ≡ nodes_of s
  filled n1 n2 e q =
      q ∙ ap (λ l. map (numbered_node (noted [] l) (noted [] (seen_in Guest n1))) n1) (seen_is House n1 e)
      ∙ ap (λ l. map (numbered_node (sights_of House (game_as s)) (noted [] l)) n1) (seen_is Guest n1 e)
      ∙ ap (map (numbered_node (sights_of House (game_as s)) (sights_of Guest (game_as s)))) e ∙ flat_numbered (sights_of House (game_as s)) (sights_of Guest (game_as s)) 0 (game_as s)

  pub begun : (w : Player) (n1 : List Node) (z0 z1 : List Sight) → n1 ≡ raw 0 (game_as s) → Begins (noted [] (seen_in w n1)) z0 z1 → Begins (sights_of w (game_as s)) z0 z1
  begun w n1 z0 z1 e b = let P : List Sight → Type 0 = λ l. Begins (noted [] l) z0 z1 in subst P (seen_is w n1 e) b
