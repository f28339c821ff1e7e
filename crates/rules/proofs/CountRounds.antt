-- The sights of a player in one round of betting, as a list: how many they are, and that none comes twice. Assumes nothing.
use Rattle.std.proofs.Common.{◌≡◌, ℕ, zero, suc, ◌+◌, ◌*◌, ◌≤◌, Bool, true, false, not, List, [], ◌∷◌, ◌++◌, length, Option, sym, refl, ap, ◌∙◌, subst, inl, inr, arith, length-append}
use mathlib.Core.List.Memᴰ
use Rattle.std.proofs.lemmas.List.{append-nil}
use Rattle.cards.specs.Game.{pick}
use Rattle.rules.specs.declared.Player.{Player}
use Rattle.rules.specs.declared.Player.TheVariants.{House, Guest}
use Rattle.rules.specs.Play.{other, check, bet, Sight, sight, Place, Hand, acts, checked, acting, free, answers, round}
use Rattle.rules.specs.Sights.{is_same_player, met}
use Rattle.rules.proofs.CountWords.{other_turn, after}
use Rattle.rules.proofs.CountLists.{In, Apart, apart_append}

-- later choices were made after all of these
pub data After (ks : List ℕ) : List ℕ → Type 0 where
  now : {ls : List ℕ} → ks ≡ ls → After ks ls
  later : {l : ℕ} {ls : List ℕ} → After ks ls → After ks (l ∷ ls)

after_length : {ks ls : List ℕ} → After ks ls → length ks ≤ length ls
after_length (now e) = let f = ap length e in omega arith
after_length (later a) = let h = after_length a in omega arith

after_all : {k : ℕ} {ks ls : List ℕ} → After (k ∷ ks) ls → After ks ls
after_all {k = k} {ks = ks} (now e) = let P : List ℕ → Type 0 = After ks in subst P e (later (now refl))
after_all (later a) = later (after_all a)

-- choices are made after one choice, and not after two at one place
after_one : {i j : ℕ} {ks ls : List ℕ} → After (i ∷ ks) ls → After (j ∷ ks) ls → i ≡ j
after_one (now e) (now f) = cc
after_one (now e) (later b) = let g = ap length e in absurd (omega (arith, after_length b))
after_one (later a) (now f) = let g = ap length f in absurd (omega (arith, after_length a))
after_one (later a) (later b) = after_one a b

-- the player with this rank, where c is the public card
module _ (a : ℕ) (c : Option ℕ) where
  abbrev pub seen : List ℕ → Sight
  seen ks = record { own = a; public = c; choices = ks }

  -- the sights of two branches, before them one more if it is the player's turn
  abbrev pub fork : Bool → List ℕ → List Sight → List Sight → List Sight
  fork mine ks xs ys = pick mine (seen ks ∷ (xs ++ ys)) (xs ++ ys)

  fork_length : (mine : Bool) (ks : List ℕ) (xs ys : List Sight) → length (fork mine ks xs ys) ≡ pick mine 1 0 + (length xs + length ys)
  fork_length true ks xs ys = ap suc (length-append xs ys) ∙ omega arith
  fork_length false ks xs ys = length-append xs ys ∙ omega arith

  fork_each : (Q : Sight → Type 0) (mine : Bool) (ks : List ℕ) (xs ys : List Sight) → Q (seen ks) → ((z : Sight) → In z xs → Q z) → ((z : Sight) → In z ys → Q z) → (z : Sight) → In z (fork mine ks xs ys) → Q z
  fork_each Q mine ks xs ys here f g z q = go mine q
    where
      both : In z (xs ++ ys) → Q z
      both r = elim (Memᴰ.append_cases xs r) [ inl l ↦ f z l | inr l ↦ g z l ]

      go : (mine : Bool) → In z (fork mine ks xs ys) → Q z
      go true r = elim (Memᴰ.cases_cons r) [ inl e ↦ subst Q (sym e) here | inr l ↦ both l ]
      go false r = both r

  fork_more : (z : Sight) (mine : Bool) (ks : List ℕ) (xs xs' ys ys' : List Sight) → (In z xs → In z xs') → (In z ys → In z ys') → In z (fork mine ks xs ys) → In z (fork mine ks xs' ys')
  fork_more z mine ks xs xs' ys ys' f g q = go mine q
    where
      both : In z (xs ++ ys) → In z (xs' ++ ys')
      both r = elim (Memᴰ.append_cases xs r) [ inl l ↦ Memᴰ.append_left ys' (f l) | inr l ↦ Memᴰ.append_right xs' (g l) ]

      go : (mine : Bool) → In z (fork mine ks xs ys) → In z (fork mine ks xs' ys')
      go true r = elim (Memᴰ.cases_cons r) [ inl e ↦ Memᴰ.head e | inr l ↦ Memᴰ.tail (both l) ]
      go false r = both r

  -- branches after different choices have no sight in common
  fork_apart : (i j : ℕ) (mine : Bool) (ks : List ℕ) (xs ys : List Sight) → (i ≡ j → ⊥) → ((z : Sight) → In z xs → After (i ∷ ks) z.choices) → ((z : Sight) → In z ys → After (j ∷ ks) z.choices) →
      Apart xs → Apart ys → Apart (fork mine ks xs ys)
  fork_apart i j mine ks xs ys n f g a b = go mine
    where
      both : Apart (xs ++ ys)
      both = apart_append xs ys a b (λ z p q. n (after_one (f z p) (g z q)))

      never : {k : ℕ} → After (k ∷ ks) ks → ⊥
      never l = omega (arith, after_length l)

      go : (mine : Bool) → Apart (fork mine ks xs ys)
      go true = (λ q. elim (Memᴰ.append_cases xs q) [ inl l ↦ never (f (seen ks) l) | inr l ↦ never (g (seen ks) l) ], both)
      go false = both

  -- THE SIGHTS OF ONE ROUND; F has those that follow it
  module _ (F : List ℕ → List Sight) where
    abbrev pub answers_sights : ℕ → Bool → List ℕ → List Sight
    answers_sights zero mine ks = fork mine ks (F (1 ∷ ks)) []
    answers_sights (suc x) mine ks = fork mine ks (F (1 ∷ ks)) (answers_sights x (not mine) (2 ∷ ks))

    abbrev pub checked_sights : ℕ → Bool → List ℕ → List Sight
    checked_sights x mine ks = fork mine ks (F (0 ∷ ks)) (answers_sights x (not mine) (1 ∷ ks))

    abbrev pub round_sights : ℕ → Bool → List ℕ → List Sight
    round_sights x mine ks = fork mine ks (checked_sights x (not mine) (0 ∷ ks)) (answers_sights x (not mine) (1 ∷ ks))

    -- how many they are
    module _ (n : ℕ) (same : (ks : List ℕ) → length (F ks) ≡ n) where
      answers_length : (x : ℕ) (mine : Bool) (ks : List ℕ) → length (answers_sights x mine ks) ≡ after mine x + (x + 1) * n
      answers_length zero mine ks = fork_length mine ks (F (1 ∷ ks)) [] ∙ go mine
        where
          go : (mine : Bool) → pick mine 1 0 + (length (F (1 ∷ ks)) + 0) ≡ after mine 0 + 1 * n
          go true = omega (arith, same (1 ∷ ks))
          go false = omega (arith, same (1 ∷ ks))
      answers_length (suc x) mine ks = fork_length mine ks (F (1 ∷ ks)) _ ∙ go mine _ (answers_length x (not mine) (2 ∷ ks))
        where
          go : (mine : Bool) (k : ℕ) → k ≡ after (not mine) x + (x + 1) * n → pick mine 1 0 + (length (F (1 ∷ ks)) + k) ≡ after mine (suc x) + (suc x + 1) * n
          go true k e = omega (arith, same (1 ∷ ks))
          go false k e = omega (arith, same (1 ∷ ks))

      pub round_length : (x : ℕ) (mine : Bool) (ks : List ℕ) → length (round_sights x mine ks) ≡ (x + 2) + (2 * x + 3) * n
      round_length x mine ks =
          fork_length mine ks (checked_sights x (not mine) (0 ∷ ks)) _
          ∙ go mine _ _ _ (same (0 ∷ (0 ∷ ks))) (answers_length x (not (not mine)) (1 ∷ (0 ∷ ks))) (answers_length x (not mine) (1 ∷ ks)) (fork_length (not mine) (0 ∷ ks) (F (0 ∷ (0 ∷ ks))) _)
        where
          go : (mine : Bool) (i j k : ℕ) {l : ℕ} → i ≡ n → j ≡ after (not (not mine)) x + (x + 1) * n → k ≡ after (not mine) x + (x + 1) * n → l ≡ pick (not mine) 1 0 + (i + j) →
              pick mine 1 0 + (l + k) ≡ (x + 2) + (2 * x + 3) * n
          go true i j k e f g h = omega arith
          go false i j k e f g h = omega arith

    -- what holds of each of them
    module _ (P : List ℕ → Sight → Type 0) (here : (ks : List ℕ) → P ks (seen ks)) (back : (k : ℕ) (ks : List ℕ) (z : Sight) → P (k ∷ ks) z → P ks z) (holds : (ks : List ℕ) (z : Sight) → In z (F ks) → P ks z) where
      answers_each : (x : ℕ) (mine : Bool) (ks : List ℕ) (z : Sight) → In z (answers_sights x mine ks) → P ks z
      answers_each zero mine ks = fork_each (P ks) mine ks _ [] (here ks) (λ z q. back 1 ks z (holds (1 ∷ ks) z q)) (λ z q. elim q [ ])
      answers_each (suc x) mine ks = fork_each (P ks) mine ks _ _ (here ks) (λ z q. back 1 ks z (holds (1 ∷ ks) z q)) (λ z q. back 2 ks z (answers_each x (not mine) (2 ∷ ks) z q))

      checked_each : (x : ℕ) (mine : Bool) (ks : List ℕ) (z : Sight) → In z (checked_sights x mine ks) → P ks z
      checked_each x mine ks = fork_each (P ks) mine ks _ _ (here ks) (λ z q. back 0 ks z (holds (0 ∷ ks) z q)) (λ z q. back 1 ks z (answers_each x (not mine) (1 ∷ ks) z q))

      pub round_each : (x : ℕ) (mine : Bool) (ks : List ℕ) (z : Sight) → In z (round_sights x mine ks) → P ks z
      round_each x mine ks = fork_each (P ks) mine ks _ _ (here ks) (λ z q. back 0 ks z (checked_each x (not mine) (0 ∷ ks) z q)) (λ z q. back 1 ks z (answers_each x (not mine) (1 ∷ ks) z q))

    -- none comes twice
    module _ (follows : (ks : List ℕ) (z : Sight) → In z (F ks) → After ks z.choices) (apart : (ks : List ℕ) → Apart (F ks)) where
      abbrev pub Behind : List ℕ → Sight → Type 0
      Behind ks z = After ks z.choices

      answers_behind : (x : ℕ) (mine : Bool) (ks : List ℕ) (z : Sight) → In z (answers_sights x mine ks) → Behind ks z
      answers_behind = answers_each Behind (λ ks. now refl) (λ k ks z. after_all) follows

      answers_apart : (x : ℕ) (mine : Bool) (ks : List ℕ) → Apart (answers_sights x mine ks)
      answers_apart zero mine ks = fork_apart 1 2 mine ks _ [] (λ e. omega arith) (follows (1 ∷ ks)) (λ z q. elim q [ ]) (apart (1 ∷ ks)) tt
      answers_apart (suc x) mine ks =
          fork_apart 1 2 mine ks _ _ (λ e. omega arith) (follows (1 ∷ ks)) (answers_behind x (not mine) (2 ∷ ks)) (apart (1 ∷ ks)) (answers_apart x (not mine) (2 ∷ ks))

      pub round_behind : (x : ℕ) (mine : Bool) (ks : List ℕ) (z : Sight) → In z (round_sights x mine ks) → Behind ks z
      round_behind = round_each Behind (λ ks. now refl) (λ k ks z. after_all) follows

      pub round_apart : (x : ℕ) (mine : Bool) (ks : List ℕ) → Apart (round_sights x mine ks)
      round_apart x mine ks =
          fork_apart 0 1 mine ks _ _ (λ e. omega arith) (checked_each Behind (λ ks. now refl) (λ k ks z. after_all) follows x (not mine) (0 ∷ ks)) (answers_behind x (not mine) (1 ∷ ks))
          (fork_apart 0 1 (not mine) (0 ∷ ks) _ _ (λ e. omega arith) (follows (0 ∷ (0 ∷ ks))) (answers_behind x (not (not mine)) (1 ∷ (0 ∷ ks))) (apart (0 ∷ (0 ∷ ks))) (answers_apart x (not (not mine)) (1 ∷ (0 ∷ ks))))
          (answers_apart x (not mine) (1 ∷ ks))

  -- a sight stays, if it stays in what follows
  module _ (F G : List ℕ → List Sight) (z : Sight) (stays : (ks : List ℕ) → In z (F ks) → In z (G ks)) where
    answers_more : (x : ℕ) (mine : Bool) (ks : List ℕ) → In z (answers_sights F x mine ks) → In z (answers_sights G x mine ks)
    answers_more zero mine ks = fork_more z mine ks _ _ [] [] (stays (1 ∷ ks)) (λ q. q)
    answers_more (suc x) mine ks = fork_more z mine ks _ _ _ _ (stays (1 ∷ ks)) (answers_more x (not mine) (2 ∷ ks))

    pub round_more : (x : ℕ) (mine : Bool) (ks : List ℕ) → In z (round_sights F x mine ks) → In z (round_sights G x mine ks)
    round_more x mine ks =
        fork_more z mine ks _ _ _ _ (fork_more z (not mine) (0 ∷ ks) _ _ _ _ (stays (0 ∷ (0 ∷ ks))) (answers_more x (not (not mine)) (1 ∷ (0 ∷ ks)))) (answers_more x (not mine) (1 ∷ ks))

  -- they are what player w meets in a round
  fork_met : (w v : Player) (h : Hand) (xs ys zs : List Sight) → h.rank w ≡ a → h.public ≡ c → zs ≡ xs ++ ys →
      pick (is_same_player w v) (sight v h ∷ zs) zs ≡ fork (is_same_player w v) h.choices xs ys
  fork_met House House h xs ys zs e f g = λ i. record { own = e i; public = f i; choices = h.choices } ∷ g i
  fork_met House Guest h xs ys zs e f g = g
  fork_met Guest House h xs ys zs e f g = g
  fork_met Guest Guest h xs ys zs e f g = λ i. record { own = e i; public = f i; choices = h.choices } ∷ g i

  joined : {xs xs' ys ys' : List Sight} → xs ≡ xs' → ys ≡ ys' → xs ++ (ys ++ []) ≡ xs' ++ ys'
  joined {ys = ys} e f = rw (append-nil ys) (λ i. e i ++ f i)

  module _ (w : Player) (t b : ℕ) (then : Hand → Place) (F : List ℕ → List Sight) (same : (h : Hand) → h.rank w ≡ a → h.public ≡ c → met w (then h) ≡ F h.choices) where
    answers_met : (x : ℕ) (v : Player) (h : Hand) → h.rank w ≡ a → h.public ≡ c → met w (answers t b then x v h) ≡ answers_sights F x (is_same_player w v) h.choices
    answers_met zero v h e f = fork_met w v h _ [] _ e f (ap (λ l. l ++ []) (same _ e f))
    answers_met (suc x) v h e f =
        fork_met w v h (F (1 ∷ h.choices)) (answers_sights F x (not (is_same_player w v)) (2 ∷ h.choices)) _ e f
        (joined (same _ e f) (answers_met x (other v) _ e f ∙ ap (λ mine. answers_sights F x mine (2 ∷ h.choices)) (other_turn w v)))

    checked_met : (x : ℕ) (v : Player) (h : Hand) → h.rank w ≡ a → h.public ≡ c → met w (acting checked v h (free t b then x then v h)) ≡ checked_sights F x (is_same_player w v) h.choices
    checked_met x v h e f =
        fork_met w v h (F (0 ∷ h.choices)) (answers_sights F x (not (is_same_player w v)) (1 ∷ h.choices)) _ e f
        (joined (same _ e f) (answers_met x (other v) _ e f ∙ ap (λ mine. answers_sights F x mine (1 ∷ h.choices)) (other_turn w v)))

    pub round_met : (x : ℕ) (v : Player) (h : Hand) → h.rank w ≡ a → h.public ≡ c → met w (round t b then x v h) ≡ round_sights F x (is_same_player w v) h.choices
    round_met x v h e f =
        fork_met w v h (checked_sights F x (not (is_same_player w v)) (0 ∷ h.choices)) (answers_sights F x (not (is_same_player w v)) (1 ∷ h.choices)) _ e f (joined
        (checked_met x (other v) (acts v check 0 h) e f ∙ ap (λ mine. checked_sights F x mine (0 ∷ h.choices)) (other_turn w v))
        (answers_met x (other v) (acts v bet b h) e f ∙ ap (λ mine. answers_sights F x mine (1 ∷ h.choices)) (other_turn w v)))
