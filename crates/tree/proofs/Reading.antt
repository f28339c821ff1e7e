-- What is laid out can be read as the tree of the rule sheet. Assumes nothing.
use Rattle.std.proofs.Common.{◌≡◌, ℕ, suc, ◌+◌, ◌-◌, ◌*◌, ◌/◌, ◌<◌, Bool, List, [], ◌∷◌, ◌++◌, map, length, drop, sym, refl, ap, ◌∙◌, subst, add-zero, mul-zero, arith, length-drop}
use native.Mathlib.Nat.{zero-div}
use Rattle.std.proofs.lemmas.List.{append_assoc, drop-drop, drop_at, get_or-drop}
use Rattle.cards.specs.Game.{Tree, Trees, total}
use Rattle.cards.specs.Reckon.{places, places_all}
use Rattle.rules.specs.declared.Player.TheVariants.{House as Ours, Guest as Theirs}
use Rattle.rules.specs.declared.Ends.{Ends}
use Rattle.rules.specs.Play as R
use Rattle.rules.specs.Sights as S
use Rattle.rules.specs.Sights.{weighed, weights}
use Rattle.rules.specs.Statements.{HasEnd, here, past_deal, past_turn, SomeHasEnd, in_this, in_rest}
use Rattle.tree.specs.declared.Sight.{Sight}
use Rattle.tree.specs.declared.Place.{Place}
use Rattle.tree.specs.declared.Place.TheVariants.{Over, Deal, House, Guest}
use Rattle.tree.specs.declared.Node.{Node}
use Rattle.tree.specs.Compact.{Play, end, dealt, turn, Plays, size, sizes}
use Rattle.tree.specs.Flat.{flat, flats}
use Rattle.tree.specs.Rep.{node, node_at, Stands, ends_of, first_of, rest_of, Rep, Reps, Weighed}
use Rattle.tree.specs.Seen.{place_of}
use Rattle.tree.specs.Told.{told}
use Rattle.tree.proofs.Lay.{length_flat}
use Rattle.tree.proofs.Valid.{Valid}
use Rattle.tree.proofs.Like.{Like, ends, deals, turns, Likes, nil, both}
use Rattle.tree.proofs.Numbers.{All, place_to}

-- a row that goes on with ys from i on
first_at : (ns : List Node) (i : ℕ) (y : Node) (ys : List Node) → drop i ns ≡ y ∷ ys → node_at ns i ≡ y
first_at ns i y ys e = ap (node_at ns) (sym (add-zero i)) ∙ sym (get_or-drop i ns 0 _) ∙ ap (λ l. node_at l 0) e

inside_at : (ns : List Node) (i : ℕ) (y : Node) (ys : List Node) → drop i ns ≡ y ∷ ys → i < length ns
inside_at ns i y ys e = let l = ap length e in let d = length-drop i ns in omega (arith, l, d)

stands : (ns : List Node) (i : ℕ) (p : Place) (c n : ℕ) (ys : List Node) → drop i ns ≡ node p c n ∷ ys → Stands ns i p n
stands ns i p c n ys e =
    record { inside = inside_at ns i (node p c n) ys e; place = ap (λ (x : Node). x.place) (first_at ns i (node p c n) ys e); size = ap (λ (x : Node). x.size) (first_at ns i (node p c n) ys e) }

rest_at : (ns : List Node) (i : ℕ) (y : Node) (ys : List Node) → drop i ns ≡ y ∷ ys → drop (i + 1) ns ≡ ys
rest_at ns i y ys e = sym (drop-drop 1 i ns) ∙ ap (drop 1) e

past_at : (ns xs ys : List Node) (i n : ℕ) → length xs ≡ n → drop i ns ≡ xs ++ ys → drop (i + n) ns ≡ ys
past_at ns xs ys i n l e = sym (drop-drop n i ns) ∙ ap (drop n) e ∙ drop_at xs ys n l

weigh_first : (m n : ℕ) (cs : List ℕ) → first_of (weighed m n cs) ≡ m * first_of cs / n
weigh_first m n [] = sym (ap (λ k. k / n) (mul-zero m) ∙ zero-div n)
weigh_first m n (c ∷ cs) = refl

weigh_rest : (m n : ℕ) (cs : List ℕ) → rest_of (weighed m n cs) ≡ weighed m n (rest_of cs)
weigh_rest m n [] = refl
weigh_rest m n (c ∷ cs) = refl

ends_are : (k : ℕ) (e f : Ends) → e ≡ f → e.house + e.guest ≡ k → Over f ≡ Over (ends_of k e.house)
ends_are k e f h s =
    let g : e.guest ≡ k - e.house = omega arith in
    ap Over (sym h ∙ (λ i. record { house = e.house; guest = g i }))

module _ (d x : ℕ) (p : Bool) (k m : ℕ) (hs gs : List Sight) (vh : All (Valid d x p) hs) (vg : All (Valid d x p) gs) where
  abbrev f : Sight → ℕ
  f z = place_of z hs

  abbrev g : Sight → ℕ
  g z = place_of z gs

  abbrev tree_of : R.Place → Tree
  tree_of = S.numbered m (map told hs) (map told gs)

  abbrev trees_of : R.Places → Trees
  trees_of = S.numbered_all m (map told hs) (map told gs)

  mutual
    pub places_are : {q : R.Place} {r : Play} → Like d x p q r → places (tree_of q) ≡ size r
    places_are (ends e) = refl
    places_are (deals cs l) = ap suc (all_are l)
    places_are (turns Ours e v l) = ap suc (all_are l)
    places_are (turns Theirs e v l) = ap suc (all_are l)

    all_are : {ps : R.Places} {qs : Plays} → Likes d x p ps qs → places_all (trees_of ps) ≡ sizes qs
    all_are nil = refl
    all_are (both l j) = let a = places_are l in let b = all_are j in omega (arith, a, b)

  sized : (ns : List Node) (i : ℕ) (pl : Place) {ps : R.Places} {qs : Plays} → Likes d x p ps qs → Stands ns i pl (suc (sizes qs)) → Stands ns i pl (suc (places_all (trees_of ps)))
  sized ns i pl l st = let P : ℕ → Type 0 = λ n. Stands ns i pl (suc n) in subst P (sym (all_are l)) st

  placed : (ns : List Node) (i n : ℕ) (a b : Place) → a ≡ b → Stands ns i a n → Stands ns i b n
  placed ns i n a b e st = record { inside = st.inside; place = st.place ∙ e; size = st.size }

  share_at : (r : Play) (ns rest : List Node) (i c : ℕ) → drop i ns ≡ flat f g c r ++ rest → (node_at ns i).share ≡ c
  share_at (end t) ns rest i c e = ap (λ (x : Node). x.share) (first_at ns i (node (Over t) c 1) rest e)
  share_at (dealt cs ps) ns rest i c e = ap (λ (x : Node). x.share) (first_at ns i (node (Deal (total cs)) c (suc (sizes ps))) (flats f g cs ps ++ rest) e)
  share_at (turn Ours z ps) ns rest i c e = ap (λ (x : Node). x.share) (first_at ns i (node (House z (f z)) c (suc (sizes ps))) (flats f g [] ps ++ rest) e)
  share_at (turn Theirs z ps) ns rest i c e = ap (λ (x : Node). x.share) (first_at ns i (node (Guest z (g z)) c (suc (sizes ps))) (flats f g [] ps ++ rest) e)

  -- at every end the players have k together
  abbrev Sums : R.Place → Type 0
  Sums q = (e : Ends) → HasEnd e q → e.house + e.guest ≡ k

  abbrev AllSums : R.Places → Type 0
  AllSums ps = (e : Ends) → SomeHasEnd e ps → e.house + e.guest ≡ k

  mutual
    pub rep_of : {q : R.Place} {r : Play} → Like d x p q r → Sums q → (ns rest : List Node) (i c : ℕ) → drop i ns ≡ flat f g c r ++ rest → Rep k m ns i (tree_of q)
    rep_of (ends {e = a} {f = b} h) s ns rest i c e = placed ns i 1 (Over b) (Over (ends_of k a.house)) (ends_are k a b h (s a here)) (stands ns i (Over b) c 1 rest e)
    rep_of (deals cs {qs = qs} l) s ns rest i c e = (
      total cs,
      (
        sized ns i (Deal (total cs)) l (stands ns i (Deal (total cs)) c (suc (sizes qs)) (flats f g cs qs ++ rest) e),
        weighed_of l (λ a h. s a (past_deal h)) ns rest (i + 1) (total cs) cs (rest_at ns i (node (Deal (total cs)) c (suc (sizes qs))) (flats f g cs qs ++ rest) e),
      ),
    )
    rep_of (turns Ours {s = y} {z = z} {qs = qs} h v l) s ns rest i c e =
        let at : House z (f z) ≡ House z (S.place y (map told hs)) = ap (House z) (sym (ap (λ u. S.place u (map told hs)) h ∙ place_to d x p z hs v vh)) in (
          z,
          (
            sized ns i (House z (S.place y (map told hs))) l (placed ns i _ (House z (f z)) _ at (stands ns i (House z (f z)) c (suc (sizes qs)) (flats f g [] qs ++ rest) e)),
            reps_of l (λ a b. s a (past_turn b)) ns rest (i + 1) [] (rest_at ns i (node (House z (f z)) c (suc (sizes qs))) (flats f g [] qs ++ rest) e),
          ),
        )
    rep_of (turns Theirs {s = y} {z = z} {qs = qs} h v l) s ns rest i c e =
        let at : Guest z (g z) ≡ Guest z (S.place y (map told gs)) = ap (Guest z) (sym (ap (λ u. S.place u (map told gs)) h ∙ place_to d x p z gs v vg)) in (
          z,
          (
            sized ns i (Guest z (S.place y (map told gs))) l (placed ns i _ (Guest z (g z)) _ at (stands ns i (Guest z (g z)) c (suc (sizes qs)) (flats f g [] qs ++ rest) e)),
            reps_of l (λ a b. s a (past_turn b)) ns rest (i + 1) [] (rest_at ns i (node (Guest z (g z)) c (suc (sizes qs))) (flats f g [] qs ++ rest) e),
          ),
        )

    reps_of : {ps : R.Places} {qs : Plays} → Likes d x p ps qs → AllSums ps → (ns rest : List Node) (i : ℕ) (cs : List ℕ) → drop i ns ≡ flats f g cs qs ++ rest → Reps k m ns i (trees_of ps)
    reps_of nil s ns rest i cs e = tt
    reps_of (both {q = q} {r = r} {qs = qs} l j) s ns rest i cs e =
        let split = e ∙ append_assoc (flat f g (first_of cs) r) (flats f g (rest_of cs) qs) rest in
        let lp = length_flat f g (first_of cs) r ∙ sym (places_are l) in (
          rep_of l (λ a h. s a (in_this h)) ns (flats f g (rest_of cs) qs ++ rest) i (first_of cs) split,
          reps_of j (λ a h. s a (in_rest h)) ns rest (i + places (tree_of q)) (rest_of cs) (past_at ns (flat f g (first_of cs) r) (flats f g (rest_of cs) qs ++ rest) i (places (tree_of q)) lp split),
        )

    weighed_of : {ps : R.Places} {qs : Plays} → Likes d x p ps qs → AllSums ps → (ns rest : List Node) (i n : ℕ) (cs : List ℕ) → drop i ns ≡ flats f g cs qs ++ rest → Weighed k m n ns i (weighed m n cs) (trees_of ps)
    weighed_of nil s ns rest i n cs e = tt
    weighed_of (both {q = q} {r = r} {ps = ps} {qs = qs} l j) s ns rest i n cs e =
        let split = e ∙ append_assoc (flat f g (first_of cs) r) (flats f g (rest_of cs) qs) rest in
        let lp = length_flat f g (first_of cs) r ∙ sym (places_are l) in
        let P : List ℕ → Type 0 = λ ws. Weighed k m n ns (i + places (tree_of q)) ws (trees_of ps) in (
          weigh_first m n cs ∙ ap (λ c. m * c / n) (sym (share_at r ns (flats f g (rest_of cs) qs ++ rest) i (first_of cs) split)),
          (
            rep_of l (λ a h. s a (in_this h)) ns (flats f g (rest_of cs) qs ++ rest) i (first_of cs) split,
            subst P (sym (weigh_rest m n cs))
                (weighed_of j (λ a h. s a (in_rest h)) ns rest (i + places (tree_of q)) n (rest_of cs) (past_at ns (flat f g (first_of cs) r) (flats f g (rest_of cs) qs ++ rest) i (places (tree_of q)) lp split)),
          ),
        )
