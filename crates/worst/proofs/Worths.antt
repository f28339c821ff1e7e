-- What the pure reckoning comes to, whatever the number of steps: enough steps give one value.
use Rattle.std.proofs.Common.{◌≡◌, ℕ, zero, suc, ◌+◌, ◌*◌, ◌^◌, ◌<◌, ◌≤◌, Bool, true, false, eqb, List, [], ◌∷◌, ◌++◌, length, sym, refl, ap, ◌∙◌, subst, add-zero, zero-add, mul-add, arith}
use Rattle.std.proofs.lemmas.Bool.{eqb-true, eq-eqb}
use Rattle.cards.specs.Game.{Tree, over, deal, ours, theirs, Trees, none, more, Plan, many, pick}
use Rattle.cards.specs.Floor.{Item, next, after}
use Rattle.cards.specs.Reckon.{places, item, sure, open', open_all, sure_of, open_of, is_at, same, others, sight_number, least, last, by_sight, reckon, worst}
use Rattle.cards.proofs.AtHand.{least_low, last_low, places_pos, nth_places, open_size}
use Rattle.worst.specs.Items.{Fit, Fits}
use Rattle.worst.specs.Worth.{room, mass, worth, Choice, Each, AllAt, There}
use Rattle.worst.proofs.Sums.{room_is, length_room, mass-++, fits_nth, sure_mass}

pub is_sight : (i : ℕ) (t : Tree) → Choice t → is_at i t ≡ eqb i (sight_number t)
is_sight i (over g) c = absurd c
is_sight i (deal ws ts) c = absurd c
is_sight i (ours j ts) c = absurd c
is_sight i (theirs j ts) c = refl

module _ (m : ℕ) (plan : Plan) (choices : ℕ → ℕ) (most words : ℕ) where
  -- items that fit, whoever is to choose
  abbrev pub FitAll : List Item → Type 0
  FitAll [] = Unit {0}
  FitAll (x ∷ xs) = Fit m plan choices most x.tree x.left × (x.left ≤ words) × FitAll xs

  pub each_fit : (xs : List Item) → Each m plan choices most words xs → FitAll xs
  each_fit [] h = tt
  each_fit (x ∷ xs) h = (h.0.fit, h.0.left, each_fit xs h.1)

  pub each-++ : (xs ys : List Item) → Each m plan choices most words xs → Each m plan choices most words ys → Each m plan choices most words (xs ++ ys)
  each-++ [] ys h g = g
  each-++ (x ∷ xs) ys h g = (h.0, each-++ xs ys h.1 g)

  -- what is open

  mutual
    pub open_each : (t : Tree) (w n : ℕ) → Fit m plan choices most t n → n ≤ words → Each m plan choices most words (open' m plan t w n)
    open_each (over g) w n h l = tt
    open_each (deal ws ts) w zero h l = tt
    open_each (deal ws ts) w (suc n) h l = open_all_each ts ws w n h.2 (omega arith)
    open_each (ours i ts) w zero h l = tt
    open_each (ours i ts) w (suc n) h l = open_all_each ts (plan i) w n h.2 (omega arith)
    open_each (theirs i ts) w n h l = (record { choice = tt; fit = h; left = l }, tt)

    pub open_all_each : (ts : Trees) (ws : List ℕ) (w n : ℕ) → Fits m plan choices most ts n → n ≤ words → Each m plan choices most words (open_all m plan ts ws w n)
    open_all_each none ws w n h l = tt
    open_all_each (more t ts) [] w n h l = tt
    open_all_each (more t ts) (v ∷ ws) w n h l = each-++ (open' m plan t (w * v) n) (open_all m plan ts ws w n) (open_each t (w * v) n h.0 l) (open_all_each ts ws w n h.1 l)

  pub open_of_each : (xs : List Item) → FitAll xs → Each m plan choices most words (open_of m plan xs)
  open_of_each [] h = tt
  open_of_each (x ∷ xs) h = each-++ (open' m plan x.tree x.times x.left) (open_of m plan xs) (open_each x.tree x.times x.left h.0 h.1) (open_of_each xs h.2)

  pub open_of_room : (xs : List Item) → room (open_of m plan xs) ≤ room xs
  open_of_room xs = omega (arith, room_is (open_of m plan xs), room_is xs, open_size m plan xs)

  pub sure_of_mass : (xs : List Item) → FitAll xs → sure_of m plan xs + most * mass m (open_of m plan xs) ≤ most * mass m xs
  sure_of_mass [] h = omega arith
  sure_of_mass (x ∷ xs) h =
      let a = sure_mass m plan choices most x.tree x.times x.left h.0 in
      let b = sure_of_mass xs h.2 in
      let c : most * mass m (open' m plan x.tree x.times x.left ++ open_of m plan xs) ≡ most * mass m (open' m plan x.tree x.times x.left) + most * mass m (open_of m plan xs) =
      ap (λ z. most * z) (mass-++ m (open' m plan x.tree x.times x.left) (open_of m plan xs)) ∙ mul-add most _ _ in
      let d = mul-add most (x.times * m ^ x.left) (mass m xs) in omega arith

  -- items that are open already

  open_is : (t : Tree) (w n : ℕ) → Choice t → (sure m plan t w n ≡ 0) × (open' m plan t w n ≡ item w n t ∷ [])
  open_is (over g) w n c = absurd c
  open_is (deal ws ts) w n c = absurd c
  open_is (ours i ts) w n c = absurd c
  open_is (theirs i ts) w n c = (refl, refl)

  pub each_sure : (xs : List Item) → Each m plan choices most words xs → sure_of m plan xs ≡ 0
  each_sure [] h = refl
  each_sure (x ∷ xs) h = let a = open_is x.tree x.times x.left h.0.choice in let b = each_sure xs h.1 in omega (arith, a.0)

  pub each_open : (xs : List Item) → Each m plan choices most words xs → open_of m plan xs ≡ xs
  each_open [] h = refl
  each_open (x ∷ xs) h =
      ap (λ zs. zs ++ open_of m plan xs) (open_is x.tree x.times x.left h.0.choice).1 ∙ ap (λ zs. x ∷ zs) (each_open xs h.1)

  -- put together by sight

  pub same_each : (i : ℕ) (xs : List Item) → Each m plan choices most words xs → Each m plan choices most words (same i xs)
  same_each i [] h = tt
  same_each i (x ∷ xs) h =
      elim (is_at i x.tree) as (λ b. Each m plan choices most words (pick b (x ∷ same i xs) (same i xs))) [ true ↦ (h.0, same_each i xs h.1) | false ↦ same_each i xs h.1 ]

  pub others_each : (i : ℕ) (xs : List Item) → Each m plan choices most words xs → Each m plan choices most words (others i xs)
  others_each i [] h = tt
  others_each i (x ∷ xs) h =
      elim (is_at i x.tree) as (λ b. Each m plan choices most words (pick b (others i xs) (x ∷ others i xs))) [ true ↦ others_each i xs h.1 | false ↦ (h.0, others_each i xs h.1) ]

  pub same_at : (i : ℕ) (xs : List Item) → Each m plan choices most words xs → AllAt i (same i xs)
  same_at i [] h = tt
  same_at i (x ∷ xs) h = go (is_at i x.tree) refl (same_at i xs h.1)
    where
      go : (b : Bool) → is_at i x.tree ≡ b → AllAt i (same i xs) → AllAt i (pick b (x ∷ same i xs) (same i xs))
      go true e a = (sym (eqb-true i (sight_number x.tree) (sym (is_sight i x.tree h.0.choice) ∙ e)), a)
      go false e a = a

  pub room_parts : (i : ℕ) (xs : List Item) → room (same i xs) + room (others i xs) ≡ room xs
  room_parts i [] = refl
  room_parts i (x ∷ xs) =
      let a = room_parts i xs in
      elim (is_at i x.tree) as (λ b. room (pick b (x ∷ same i xs) (same i xs)) + room (pick b (others i xs) (x ∷ others i xs)) ≡ places x.tree + room xs) [ true ↦ omega arith | false ↦ omega arith ]

  pub mass_parts : (i : ℕ) (xs : List Item) → mass m (same i xs) + mass m (others i xs) ≡ mass m xs
  mass_parts i [] = refl
  mass_parts i (x ∷ xs) =
      let a = mass_parts i xs in
      elim (is_at i x.tree) as (λ b. mass m (pick b (x ∷ same i xs) (same i xs)) + mass m (pick b (others i xs) (x ∷ others i xs)) ≡ x.times * m ^ x.left + mass m xs) [ true ↦ omega arith | false ↦ omega arith ]

  pub one_same : (x : Item) (xs : List Item) → Choice x.tree → 1 ≤ length (same (sight_number x.tree) (x ∷ xs))
  one_same x xs c =
      rw (is_sight (sight_number x.tree) x.tree c ∙ eq-eqb (sight_number x.tree) (sight_number x.tree) refl) (omega arith)

  -- after choice k

  pub mass_after : (k : ℕ) (xs : List Item) → mass m (after k xs) ≡ mass m xs
  unfolding after
  mass_after k [] = refl
  mass_after k (x ∷ xs) = let a = mass_after k xs in omega arith

  one_after : (k : ℕ) (t : Tree) (n : ℕ) → Choice t → Fit m plan choices most t n → k < choices (sight_number t) → Fit m plan choices most (next k t) n × (suc (places (next k t)) ≤ places t)
  unfolding next
  one_after k (over g) n c h l = absurd c
  one_after k (deal ws ts) n c h l = absurd c
  one_after k (ours j ts) n c h l = absurd c
  one_after k (theirs j ts) n c h l =
      let e = h.0 in let p : k < many ts = omega arith in
      (fits_nth m plan choices most ts n k h.1 p, (let a = nth_places ts k p in omega arith))

  pub at_there : (i k : ℕ) (xs : List Item) → AllAt i xs → k < choices i → There choices k xs
  at_there i k [] h l = tt
  at_there i k (x ∷ xs) h l = (subst (λ z. k < choices z) (sym h.0) l, at_there i k xs h.1 l)

  pub after_fit : (k : ℕ) (xs : List Item) → Each m plan choices most words xs → There choices k xs → FitAll (after k xs)
  unfolding after
  after_fit k [] h l = tt
  after_fit k (x ∷ xs) h l = ((one_after k x.tree x.left h.0.choice h.0.fit l.0).0, h.0.left, after_fit k xs h.1 l.1)

  pub after_room : (k : ℕ) (xs : List Item) → Each m plan choices most words xs → There choices k xs → length xs + room (after k xs) ≤ room xs
  unfolding after
  after_room k [] h l = omega arith
  after_room k (x ∷ xs) h l =
      let a = one_after k x.tree x.left h.0.choice h.0.fit l.0 in
      let b = after_room k xs h.1 l.1 in omega (arith, a.1)

  least_cong : (n : ℕ) (f g : ℕ → ℕ) → ((k : ℕ) → k ≤ n → f k ≡ g k) → least n f ≡ least n g
  least_cong zero f g h = h 0 (omega arith)
  least_cong (suc n) f g h = let a = least_cong n f g (λ k l. h k (omega arith)) in let b = h (suc n) (omega arith) in rw (a, b) refl

  module _ (pos : (i : ℕ) → 0 < choices i) where
    by_sight_cong : (b : ℕ) (f g : List Item → ℕ) → ((zs : List Item) → FitAll zs → suc (room zs) ≤ b → f zs ≡ g zs) → (ys : List Item) → Each m plan choices most words ys → room ys ≤ b →
        by_sight m plan choices f ys ≡ by_sight m plan choices g ys
    by_sight_cong b f g h [] e l = refl
    by_sight_cong b f g h (x ∷ xs) e l =
        let ys : List Item = x ∷ xs in
        let i = sight_number x.tree in
        let rp : room (same i ys) + room (others i ys) ≡ room ys = room_parts i ys in
        let os : 1 ≤ length (same i ys) = one_same x xs e.0.choice in
        let se = same_each i ys e in
        let sa = same_at i ys e in
        let rl : length (same i ys) ≤ room (same i ys) = length_room (same i ys) in
        let a : least (last (choices i)) (λ k. f (after k (same i ys))) ≡ least (last (choices i)) (λ k. g (after k (same i ys))) =
        least_cong (last (choices i)) (λ k. f (after k (same i ys))) (λ k. g (after k (same i ys)))
        (λ k q. let th = at_there i k (same i ys) sa (last_low (choices i) k (pos i) q) in
        let ar = after_room k (same i ys) se th in
        h (after k (same i ys)) (after_fit k (same i ys) se th) (omega arith)) in
        let c : f (others i ys) ≡ g (others i ys) = h (others i ys) (each_fit (others i ys) (others_each i ys e)) (omega arith) in
        rw (a, c) refl

    pub reckon_fuel : (f g : ℕ) (xs : List Item) → FitAll xs → room xs ≤ f → room xs ≤ g → reckon m plan choices f xs ≡ reckon m plan choices g xs
    reckon_fuel zero zero xs h a b = refl
    reckon_fuel zero (suc g) [] h a b = refl
    reckon_fuel zero (suc g) (x ∷ xs) h a b = let p = places_pos x.tree in absurd (omega arith)
    reckon_fuel (suc f) zero [] h a b = refl
    reckon_fuel (suc f) zero (x ∷ xs) h a b = let p = places_pos x.tree in absurd (omega arith)
    reckon_fuel (suc f) (suc g) xs h a b =
        let r = open_of_room xs in
        ap (λ z. sure_of m plan xs + z)
        (by_sight_cong (room xs) (reckon m plan choices f) (reckon m plan choices g) (λ zs q l. reckon_fuel f g zs q (omega arith) (omega arith)) (open_of m plan xs) (open_of_each xs h) r)

    pub worth_fuel : (f : ℕ) (xs : List Item) → FitAll xs → room xs ≤ f → reckon m plan choices f xs ≡ worth m plan choices xs
    unfolding worth
    worth_fuel f xs h l = reckon_fuel f (room xs) xs h l (omega arith)

    -- items where the guest is to choose are worth what their sights give
    pub worth_each : (ys : List Item) → Each m plan choices most words ys → worth m plan choices ys ≡ by_sight m plan choices (worth m plan choices) ys
    worth_each ys e =
        let f = room ys in
        sym (worth_fuel (suc f) ys (each_fit ys e) (omega arith))
        ∙ ap (λ z. z + by_sight m plan choices (reckon m plan choices f) (open_of m plan ys)) (each_sure ys e)
        ∙ zero-add _
        ∙ ap (λ zs. by_sight m plan choices (reckon m plan choices f) zs) (each_open ys e)
        ∙ by_sight_cong (suc f) (reckon m plan choices f) (worth m plan choices) (λ zs q l. worth_fuel f zs q (omega arith)) ys e (omega arith)

    -- others are worth what is sure and what is open
    pub worth_open : (xs : List Item) → FitAll xs → worth m plan choices xs ≡ sure_of m plan xs + worth m plan choices (open_of m plan xs)
    worth_open xs h =
        let f = room xs in
        let e = open_of_each xs h in
        let r = open_of_room xs in
        sym (worth_fuel (suc f) xs h (omega arith))
        ∙ ap (λ z. sure_of m plan xs + z)
        (by_sight_cong (suc f) (reckon m plan choices f) (worth m plan choices) (λ zs q l. worth_fuel f zs q (omega arith)) (open_of m plan xs) e (omega arith)
        ∙ sym (worth_each (open_of m plan xs) e))

    by_sight_le : (f : List Item → ℕ) → ((zs : List Item) → FitAll zs → f zs ≤ most * mass m zs) → (ys : List Item) → Each m plan choices most words ys → by_sight m plan choices f ys ≤ most * mass m ys
    by_sight_le f h [] e = omega arith
    by_sight_le f h (x ∷ xs) e =
        let ys : List Item = x ∷ xs in
        let i = sight_number x.tree in
        let se = same_each i ys e in
        let th = at_there i 0 (same i ys) (same_at i ys e) (pos i) in
        let a : least (last (choices i)) (λ k. f (after k (same i ys))) ≤ f (after 0 (same i ys)) = least_low (λ k. f (after k (same i ys))) (last (choices i)) 0 (omega arith) in
        let b : f (after 0 (same i ys)) ≤ most * mass m (after 0 (same i ys)) = h (after 0 (same i ys)) (after_fit 0 (same i ys) se th) in
        let c : most * mass m (after 0 (same i ys)) ≡ most * mass m (same i ys) = ap (λ z. most * z) (mass_after 0 (same i ys)) in
        let d : f (others i ys) ≤ most * mass m (others i ys) = h (others i ys) (each_fit (others i ys) (others_each i ys e)) in
        let q : most * mass m ys ≡ most * mass m (same i ys) + most * mass m (others i ys) = ap (λ z. most * z) (sym (mass_parts i ys)) ∙ mul-add most _ _ in
        omega arith

    reckon_le : (f : ℕ) (xs : List Item) → FitAll xs → reckon m plan choices f xs ≤ most * mass m xs
    reckon_le zero xs h = omega arith
    reckon_le (suc f) xs h =
        let a = by_sight_le (reckon m plan choices f) (reckon_le f) (open_of m plan xs) (open_of_each xs h) in
        let b = sure_of_mass xs h in omega arith

    pub worth_le : (xs : List Item) → FitAll xs → worth m plan choices xs ≤ most * mass m xs
    unfolding worth
    worth_le xs h = reckon_le (room xs) xs h

pub worth_none : (m : ℕ) (plan : Plan) (choices : ℕ → ℕ) → worth m plan choices [] ≡ 0
unfolding worth
worth_none m plan choices = refl

pub worth_whole : (m : ℕ) (plan : Plan) (choices : ℕ → ℕ) (n : ℕ) (t : Tree) → worth m plan choices (item 1 n t ∷ []) ≡ worst m plan choices n t
unfolding worth
worth_whole m plan choices n t = ap (λ z. reckon m plan choices z (item 1 n t ∷ [])) (add-zero (places t))
