-- Looking sights up, noting and numbering them. Assumes nothing.
use Rattle.std.proofs.Common.{◌≡◌, ℕ, suc, ◌+◌, ◌<◌, ◌≤◌, Bool, true, false, ◌||◌, List, [], ◌∷◌, ◌++◌, map, length, get_or, take, drop, set, Some, None, sym, refl, ap, ◌∙◌, arith, take-append-drop}
use Rattle.cards.specs.Game.{pick}
use Rattle.std.proofs.lemmas.List.{append_assoc, append-nil, take_more, drop_more, drop_all, length-take-le, take_at, set_at, get_or_at, map_more, map-append, length-map, length_push}
use Rattle.rules.specs.declared.Player.{Player}
use Rattle.rules.specs.declared.Player.TheVariants.{House, Guest}
use Rattle.tree.specs.declared.Sight.{Sight}
use Rattle.tree.specs.declared.Node.{Node}
use Rattle.tree.specs.declared.Place.TheVariants.{Deal}
use Rattle.tree.specs.Compact.{Play, end, dealt, turn, Plays, no_more, also, sizes}
use Rattle.tree.specs.Flat.{seat, flat, flats, raw, unnumbered, put, Noted}
use Rattle.tree.specs.Rep.{node, first_of, rest_of}
use Rattle.cards.specs.Game.{total}
use Rattle.tree.specs.Seen.{same_stored_sight, place_of, known, noted, as_list, own_turn, sight_at, seen_in, met, met_all, numbered_place, numbered_node}
use Rattle.tree.proofs.Put.{put_one, put_more}
use Rattle.tree.proofs.Lay.{raws}

-- a look-up, from i on
pub place_skip : (z : Sight) (xs : List Sight) (i : ℕ) (d : Sight) → i < length xs → same_stored_sight z (get_or xs i d) ≡ false →
    place_of z xs ≡ i + place_of z (drop i xs) → place_of z xs ≡ (i + 1) + place_of z (drop (i + 1) xs)
place_skip z xs i d h e inv =
    let a = ap (place_of z) (drop_more xs i d h) in
    let b : place_of z (get_or xs i d ∷ drop (i + 1) xs) ≡ suc (place_of z (drop (i + 1) xs)) = ap (λ b. pick b 0 (suc (place_of z (drop (i + 1) xs)))) e in
    omega (arith, inv, a, b)

pub place_here : (z : Sight) (xs : List Sight) (i : ℕ) (d : Sight) → i < length xs → same_stored_sight z (get_or xs i d) ≡ true →
    place_of z xs ≡ i + place_of z (drop i xs) → i ≡ place_of z xs
place_here z xs i d h e inv =
    let a = ap (place_of z) (drop_more xs i d h) in
    let b : place_of z (get_or xs i d ∷ drop (i + 1) xs) ≡ 0 = ap (λ b. pick b 0 (suc (place_of z (drop (i + 1) xs)))) e in
    omega (arith, inv, a, b)

pub place_none : (z : Sight) (xs : List Sight) (i : ℕ) → length xs ≤ i → place_of z xs ≡ i + place_of z (drop i xs) → i ≡ place_of z xs
place_none z xs i h inv = let a = ap (place_of z) (drop_all i xs h) in omega (arith, inv, a)

one_less : (b : Bool) (p n : ℕ) → pick b 0 (suc p) ≡ suc n → (b ≡ false) × (p ≡ n)
one_less true p n e = absurd (omega (arith, e))
one_less false p n e = (refl, omega (arith, e))

most_of : (b : Bool) (p n : ℕ) → p ≤ n → pick b 0 (suc p) ≤ suc n
most_of true p n h = omega arith
most_of false p n h = omega arith

pub place_most : (z : Sight) (xs : List Sight) → place_of z xs ≤ length xs
place_most z [] = omega arith
place_most z (y ∷ xs) = most_of (same_stored_sight z y) (place_of z xs) (length xs) (place_most z xs)

pub unknown : (z : Sight) (xs : List Sight) → place_of z xs ≡ length xs → known z xs ≡ false
unknown z [] e = refl
unknown z (y ∷ xs) e =
    let p = one_less (same_stored_sight z y) (place_of z xs) (length xs) e in
    ap (λ b. b || known z xs) p.0 ∙ unknown z xs p.1

known_or : (b k : Bool) (p n : ℕ) → (p < n → k ≡ true) → pick b 0 (suc p) < suc n → (b || k) ≡ true
known_or true k p n f h = refl
known_or false k p n f h = f (omega arith)

pub is_known : (z : Sight) (xs : List Sight) → place_of z xs < length xs → known z xs ≡ true
is_known z [] h = absurd (omega arith)
is_known z (y ∷ xs) h = known_or (same_stored_sight z y) (known z xs) (place_of z xs) (length xs) (is_known z xs) h

noted_append : (old xs ys : List Sight) → noted old (xs ++ ys) ≡ noted (noted old xs) ys
noted_append old [] ys = refl
noted_append old (x ∷ xs) ys = noted_append (pick (known x old) old (old ++ (x ∷ []))) xs ys

seen_append : (w : Player) (xs ys : List Node) → seen_in w (xs ++ ys) ≡ seen_in w xs ++ seen_in w ys
seen_append w [] ys = refl
seen_append w (x ∷ xs) ys =
    ap (λ l. as_list (sight_at w x.place) ++ l) (seen_append w xs ys) ∙ sym (append_assoc (as_list (sight_at w x.place)) (seen_in w xs) (seen_in w ys))

-- the sights of the first i nodes, each once
abbrev pub list : Player → List Node → ℕ → List Sight
list w ns i = noted [] (seen_in w (take i ns))

list_more : (w : Player) (ns : List Node) (i : ℕ) (d : Node) → i < length ns → list w ns (i + 1) ≡ noted (list w ns i) (as_list (sight_at w (get_or ns i d).place))
list_more w ns i d h =
    ap (λ l. noted [] (seen_in w l)) (take_more ns i d h)
    ∙ ap (noted []) (seen_append w (take i ns) (get_or ns i d ∷ []) ∙ ap (λ l. seen_in w (take i ns) ++ l) (append-nil (as_list (sight_at w (get_or ns i d).place))))
    ∙ noted_append [] (seen_in w (take i ns)) (as_list (sight_at w (get_or ns i d).place))

pub list_pass : (w : Player) (ns : List Node) (i : ℕ) (d : Node) → i < length ns → sight_at w (get_or ns i d).place ≡ None → list w ns (i + 1) ≡ list w ns i
list_pass w ns i d h e = list_more w ns i d h ∙ ap (λ o. noted (list w ns i) (as_list o)) e

pub list_old : (w : Player) (ns : List Node) (i : ℕ) (d : Node) (z : Sight) → i < length ns → sight_at w (get_or ns i d).place ≡ Some z →
    place_of z (list w ns i) < length (list w ns i) → list w ns (i + 1) ≡ list w ns i
list_old w ns i d z h e l =
    list_more w ns i d h ∙ ap (λ o. noted (list w ns i) (as_list o)) e ∙ ap (λ b. pick b (list w ns i) (list w ns i ++ (z ∷ []))) (is_known z (list w ns i) l)

pub list_new : (w : Player) (ns : List Node) (i : ℕ) (d : Node) (z : Sight) → i < length ns → sight_at w (get_or ns i d).place ≡ Some z →
    place_of z (list w ns i) ≡ length (list w ns i) → list w ns (i + 1) ≡ list w ns i ++ (z ∷ [])
list_new w ns i d z h e l =
    list_more w ns i d h ∙ ap (λ o. noted (list w ns i) (as_list o)) e ∙ ap (λ b. pick b (list w ns i) (list w ns i ++ (z ∷ []))) (unknown z (list w ns i) l)

-- what was noted stays noted
grows : (b : Bool) (old : List Sight) (s : Sight) → length old ≤ length (pick b old (old ++ (s ∷ [])))
grows true old s = omega arith
grows false old s = let l = length_push old s in omega (arith, l)

noted_most : (old ss : List Sight) → length old ≤ length (noted old ss)
noted_most old [] = omega arith
noted_most old (s ∷ ss) = let a = grows (known s old) old s in let b = noted_most (pick (known s old) old (old ++ (s ∷ []))) ss in omega (arith, a, b)

pub list_most : (w : Player) (ns : List Node) (i : ℕ) → length (list w ns i) ≤ length (noted [] (seen_in w ns))
list_most w ns i =
    let e : noted [] (seen_in w ns) ≡ noted (list w ns i) (seen_in w (drop i ns)) =
    ap (λ l. noted [] (seen_in w l)) (sym (take-append-drop i ns)) ∙ ap (noted []) (seen_append w (take i ns) (drop i ns)) ∙ noted_append [] (seen_in w (take i ns)) (seen_in w (drop i ns)) in
    let l = ap length e in
    let m = noted_most (list w ns i) (seen_in w (drop i ns)) in omega (arith, l, m)

-- in memory
pub noted_front : (zs s0 s : List Sight) (n : ℕ) → Noted zs s0 s n → take n s ≡ zs
unfolding put
noted_front zs s0 s n q = ap (take n) q.holds ∙ take_at zs (drop (0 + length zs) s0) n (sym q.count)

pub noted_same : (zs ys s0 s : List Sight) (n : ℕ) → ys ≡ zs → Noted zs s0 s n → Noted ys s0 s n
noted_same zs ys s0 s n e q = record { count = q.count ∙ ap length (sym e); holds = q.holds ∙ ap (put s0 0) (sym e) }

pub noted_none : (s : List Sight) → put s 0 [] ≡ s → Noted [] s s 0
noted_none s e = record { count = refl; holds = sym e }

pub noted_push : (zs ys s0 s : List Sight) (n : ℕ) (z : Sight) → ys ≡ zs ++ (z ∷ []) → n < length s0 → length s ≡ length s0 → Noted zs s0 s n → Noted ys s0 (set s n z) (n + 1)
noted_push zs ys s0 s n z e h l q =
    let c = q.count in
    record {
      count = sym (ap length e ∙ length_push zs z ∙ ap (λ m. m + 1) (sym c));
      holds = put_one s n z (omega arith) ∙ ap (λ m. put m n (z ∷ [])) q.holds ∙ put_more s0 zs (z ∷ []) 0 n (omega arith) (omega arith) ∙ ap (put s0 0) (sym e);
    }

-- numbering in place
module _ (f : Node → Node) (s0 s : List Node) (i : ℕ) (d : Node) (h : i < length s0) (e : s ≡ map f (take i s0) ++ drop i s0) where
  front : length (map f (take i s0)) ≡ i
  front = length-map (take i s0) f ∙ length-take-le i s0 (omega arith)

  goes_on : s ≡ map f (take i s0) ++ (get_or s0 i d ∷ drop (i + 1) s0)
  goes_on = e ∙ ap (λ l. map f (take i s0) ++ l) (drop_more s0 i d h)

  pub map_here : get_or s i d ≡ get_or s0 i d
  map_here = ap (λ l. get_or l i d) goes_on ∙ get_or_at (map f (take i s0)) (get_or s0 i d) (drop (i + 1) s0) d i front

pub map_next : (f : Node → Node) (s0 s : List Node) (i : ℕ) (d v : Node) → i < length s0 → s ≡ map f (take i s0) ++ drop i s0 → v ≡ f (get_or s i d) →
    set s i v ≡ map f (take (i + 1) s0) ++ drop (i + 1) s0
map_next f s0 s i d v h e ev =
    ap (λ l. set l i v) (goes_on f s0 s i d h e) ∙ set_at (map f (take i s0)) (get_or s0 i d) (drop (i + 1) s0) v i (front f s0 s i d h e)
    ∙ ap (λ x. map f (take i s0) ++ (x ∷ drop (i + 1) s0)) (ev ∙ ap f (map_here f s0 s i d h e))
    ∙ sym (append_assoc (map f (take i s0)) (f (get_or s0 i d) ∷ []) (drop (i + 1) s0))
    ∙ ap (λ l. l ++ drop (i + 1) s0) (sym (map_more f s0 i d h))

-- of a played hand that is laid out
seat_seen : (w v : Player) (z : Sight) → sight_at w (seat unnumbered unnumbered v z) ≡ own_turn w v z
seat_seen w House z = refl
seat_seen w Guest z = refl

mutual
  pub seen_flat : (w : Player) (c : ℕ) (p : Play) → seen_in w (raw c p) ≡ met w p
  seen_flat w c (end t) = refl
  seen_flat w c (dealt ws ps) = seen_flats w ws ps
  seen_flat w c (turn v z ps) = ap (λ o. as_list o ++ seen_in w (raws [] ps)) (seat_seen w v z) ∙ ap (λ l. as_list (own_turn w v z) ++ l) (seen_flats w [] ps)

  pub seen_flats : (w : Player) (ws : List ℕ) (ps : Plays) → seen_in w (raws ws ps) ≡ met_all w ps
  seen_flats w ws no_more = refl
  seen_flats w ws (also p ps) =
      seen_append w (raw (first_of ws) p) (raws (rest_of ws) ps)
      ∙ ap (λ l. l ++ seen_in w (raws (rest_of ws) ps)) (seen_flat w (first_of ws) p) ∙ ap (λ l. met w p ++ l) (seen_flats w (rest_of ws) ps)

module _ (hs gs : List Sight) where
  abbrev h_of : Sight → ℕ
  h_of z = place_of z hs

  abbrev g_of : Sight → ℕ
  g_of z = place_of z gs

  seat_numbered : (v : Player) (z : Sight) → numbered_place hs gs (seat unnumbered unnumbered v z) ≡ seat h_of g_of v z
  seat_numbered House z = refl
  seat_numbered Guest z = refl

  mutual
    pub flat_numbered : (c : ℕ) (p : Play) → map (numbered_node hs gs) (raw c p) ≡ flat h_of g_of c p
    flat_numbered c (end t) = refl
    flat_numbered c (dealt ws ps) = ap (λ l. node (Deal (total ws)) c (suc (sizes ps)) ∷ l) (flats_numbered ws ps)
    flat_numbered c (turn v z ps) =
        ap (λ q. node q c (suc (sizes ps)) ∷ map (numbered_node hs gs) (raws [] ps)) (seat_numbered v z)
        ∙ ap (λ l. node (seat h_of g_of v z) c (suc (sizes ps)) ∷ l) (flats_numbered [] ps)

    pub flats_numbered : (ws : List ℕ) (ps : Plays) → map (numbered_node hs gs) (raws ws ps) ≡ flats h_of g_of ws ps
    flats_numbered ws no_more = refl
    flats_numbered ws (also p ps) =
        map-append (numbered_node hs gs) (raw (first_of ws) p) (raws (rest_of ws) ps)
        ∙ ap (λ l. l ++ map (numbered_node hs gs) (raws (rest_of ws) ps)) (flat_numbered (first_of ws) p) ∙ ap (λ l. flat h_of g_of (first_of ws) p ++ l) (flats_numbered (rest_of ws) ps)
