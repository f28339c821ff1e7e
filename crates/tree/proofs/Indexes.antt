-- Numbers by tables are numbers by lists. Assumes nothing.
use Rattle.std.proofs.Common.{◌≡◌, ℕ, zero, suc, ◌-◌, ◌<◌, Bool, true, false, List, [], ◌∷◌, ◌++◌, map, length, get_or, drop, Some, refl, ap, ◌∙◌, subst, inl, inr, zero-add, arith}
use Rattle.cards.specs.Game.{pick}
use Rattle.std.proofs.lemmas.Bool.{or_cases, or_left, or_right}
use Rattle.rules.specs.declared.Player.{Player}
use Rattle.rules.specs.declared.Player.TheVariants.{House as Ours, Guest as Theirs}
use Rattle.tree.specs.declared.Sight.{Sight}
use Rattle.tree.specs.declared.Place.{Place}
use Rattle.tree.specs.declared.Place.TheVariants.{Over, Deal, House, Guest}
use Rattle.tree.specs.declared.Node.{Node}
use Rattle.tree.specs.Rep.{node, node_at}
use Rattle.tree.specs.Flat.{put, Noted}
use Rattle.tree.specs.Seen.{same_stored_sight, place_of, known, noted, as_list, sight_at, seen_in, numbered_place, numbered_node}
use Rattle.tree.specs.Slots.{slot_of, Tabled, tabled_place, tabled_node, Ready}
use Rattle.tree.specs.Built.{Begins}
use Rattle.tree.proofs.Equal.{sight_same, sight_itself}

put_begins : {X : Type 0} (xs ys zs : List X) → zs ≡ put xs 0 ys → Begins ys xs zs
unfolding put
put_begins xs ys zs e = e ∙ ap (λ n. ys ++ drop n xs) (zero-add (length ys))

pub noted_begins : (zs s0 s : List Sight) (n : ℕ) → Noted zs s0 s n → Begins zs s0 s
noted_begins zs s0 s n q = put_begins s0 zs s q.holds

-- a sight that is met is noted
known_append : (z : Sight) (xs ys : List Sight) → known z ys ≡ true → known z (xs ++ ys) ≡ true
known_append z [] ys e = e
known_append z (x ∷ xs) ys e = or_right (same_stored_sight z x) (known z (xs ++ ys)) (known_append z xs ys e)

known_front : (z : Sight) (xs ys : List Sight) → known z xs ≡ true → known z (xs ++ ys) ≡ true
known_front z [] ys e = absurd (let b : ◌≡◌ {A = Bool} false true = e in let c : ◌≡◌ {A = ℕ} 0 1 = ap (λ v. pick v 1 0) b in omega arith)
known_front z (x ∷ xs) ys e =
    elim (or_cases (same_stored_sight z x) (known z xs) e) [ inl p ↦ or_left (same_stored_sight z x) (known z (xs ++ ys)) p | inr q ↦ or_right (same_stored_sight z x) (known z (xs ++ ys)) (known_front z xs ys q) ]

stays : (b : Bool) (z s : Sight) (old : List Sight) → known z old ≡ true → known z (pick b old (old ++ (s ∷ []))) ≡ true
stays true z s old e = e
stays false z s old e = known_front z old (s ∷ []) e

comes : (b : Bool) (z : Sight) (old : List Sight) → known z old ≡ b → known z (pick b old (old ++ (z ∷ []))) ≡ true
comes true z old e = e
comes false z old e = known_append z old (z ∷ []) (or_left (same_stored_sight z z) false (sight_itself z))

mutual
  kept : (z : Sight) (old ss : List Sight) → known z old ≡ true → known z (noted old ss) ≡ true
  kept z old [] e = e
  kept z old (s ∷ ss) e = kept z (pick (known s old) old (old ++ (s ∷ []))) ss (stays (known s old) z s old e)

  noted_known : (z : Sight) (old ss : List Sight) → known z ss ≡ true → known z (noted old ss) ≡ true
  noted_known z old [] e = absurd (let c : ◌≡◌ {A = ℕ} 0 1 = ap (λ v. pick v 1 0) e in omega arith)
  noted_known z old (s ∷ ss) e =
      elim (or_cases (same_stored_sight z s) (known z ss) e) [
        | inl p ↦ (let P : Sight → Type 0 = λ u. known z (noted (pick (known u old) old (old ++ (u ∷ []))) ss) ≡ true in
            subst P (sight_same z s p) (kept z (pick (known z old) old (old ++ (z ∷ []))) ss (comes (known z old) z old refl)))
        | inr q ↦ noted_known z (pick (known s old) old (old ++ (s ∷ []))) ss q
      ]

seen_known : (w : Player) (ns : List Node) (i : ℕ) (z : Sight) → i < length ns → sight_at w (node_at ns i).place ≡ Some z → known z (seen_in w ns) ≡ true
seen_known w [] i z h e = absurd (omega arith)
seen_known w (n ∷ ns) zero z h e =
    ap (λ o. known z (as_list o ++ seen_in w ns)) e ∙ or_left (same_stored_sight z z) (known z (seen_in w ns)) (sight_itself z)
seen_known w (n ∷ ns) (suc i) z h e = known_append z (as_list (sight_at w n.place)) (seen_in w ns) (seen_known w ns i z (omega arith) e)

-- what the table of w holds less one is the number
module _ (ns : List Node) (w : Player) (room : ℕ) (t0 t : List ℕ) (r : Ready ns w room t0) (tab : Tabled (length t0) t (noted [] (seen_in w ns))) where
  pub number_is : (i : ℕ) (z : Sight) → i < length ns → sight_at w (node_at ns i).place ≡ Some z → get_or t (slot_of z) 0 - 1 ≡ place_of z (noted [] (seen_in w ns))
  number_is i z h e =
      let k = noted_known z [] (seen_in w ns) (seen_known w ns i z h e) in
      let a = tab z (r.ranged i z h e) in
      let b = ap (λ c. pick c (suc (place_of z (noted [] (seen_in w ns)))) 0) k in
      omega (arith, a, b)

map_same : (f g : Node → Node) (ns : List Node) → ((i : ℕ) → i < length ns → f (node_at ns i) ≡ g (node_at ns i)) → map f ns ≡ map g ns
map_same f g [] h = refl
map_same f g (n ∷ ns) h =
    ap (λ x. x ∷ map f ns) (h 0 (omega arith)) ∙ ap (λ l. g n ∷ l) (map_same f g ns (λ i l. h (suc i) (omega arith)))

module _ (ns : List Node) (room room' : ℕ) (h0 h g0 g : List ℕ) (rh : Ready ns Ours room h0) (rg : Ready ns Theirs room' g0)
    (th : Tabled (length h0) h (noted [] (seen_in Ours ns))) (tg : Tabled (length g0) g (noted [] (seen_in Theirs ns))) where
  abbrev hs : List Sight
  hs = noted [] (seen_in Ours ns)

  abbrev gs : List Sight
  gs = noted [] (seen_in Theirs ns)

  place_same : (i : ℕ) → i < length ns → (p : Place) → (node_at ns i).place ≡ p → tabled_place h g p ≡ numbered_place hs gs p
  place_same i l (Over e) q = refl
  place_same i l (Deal n) q = refl
  place_same i l (House z n) q = ap (House z) (number_is ns Ours room h0 h rh th i z l (ap (sight_at Ours) q))
  place_same i l (Guest z n) q = ap (Guest z) (number_is ns Theirs room' g0 g rg tg i z l (ap (sight_at Theirs) q))

  pub tabled_numbered : map (tabled_node h g) ns ≡ map (numbered_node hs gs) ns
  tabled_numbered =
      map_same (tabled_node h g) (numbered_node hs gs) ns
      (λ i l. ap (λ p. node p (node_at ns i).share (node_at ns i).size) (place_same i l (node_at ns i).place refl))
