-- How many words the tree of a rule sheet needs. Assumes nothing.
use Rattle.std.proofs.Common.{◌≡◌, ℕ, zero, suc, ◌+◌, ◌*◌, ◌/◌, ◌<◌, ◌≤◌, max, Bool, true, false, not, List, [], ◌∷◌, replicate, refl, ap, ◌∙◌, arith}
use Rattle.cards.specs.Game.{pick, total}
use Rattle.cards.specs.Promise.{turned, turned_all}
use Rattle.rules.specs.declared.Player.{Player}
use Rattle.rules.specs.declared.Player.TheVariants.{House, Guest}
use Rattle.rules.specs.declared.Sheet.{Sheet}
use Rattle.rules.specs.Sound.{Sound}
use Rattle.rules.specs.Play.{other, purse, Sight, Place, end, dealt, turn, Places, no_more, also, Hand, answers, round, each, deals, without, sits, final, second, first, shows, game}
use Rattle.rules.specs.Sights.{is_same_player, numbered, numbered_all, words, words_all}
use Rattle.rules.specs.Counts.{turns, word_count, WordsAre}

-- the largest number of deals and choices of player w on a path
abbrev mutual
  deep : Player → Place → ℕ
  deep w (end e) = 0
  deep w (dealt cs ps) = suc (deep_all w ps)
  deep w (turn v s ps) = pick (is_same_player w v) 1 0 + deep_all w ps

  deep_all : Player → Places → ℕ
  deep_all w no_more = 0
  deep_all w (also p ps) = max (deep w p) (deep_all w ps)

module _ (m : ℕ) (hs gs : List Sight) where
  mutual
    words_deep : (p : Place) → words (numbered m hs gs p) ≡ deep House p
    words_deep (end e) = refl
    words_deep (dealt cs ps) = ap suc (words_all_deep ps)
    words_deep (turn House s ps) = let e = words_all_deep ps in omega arith
    words_deep (turn Guest s ps) = let e = words_all_deep ps in omega arith

    words_all_deep : (ps : Places) → words_all (numbered_all m hs gs ps) ≡ deep_all House ps
    words_all_deep no_more = refl
    words_all_deep (also p ps) = ap (λ n. max n (words_all (numbered_all m hs gs ps))) (words_deep p) ∙ ap (λ n. max (deep House p) n) (words_all_deep ps)

  module _ (k : ℕ) where
    mutual
      turned_deep : (p : Place) → words (turned k (numbered m hs gs p)) ≡ deep Guest p
      turned_deep (end e) = refl
      turned_deep (dealt cs ps) = ap suc (turned_all_deep ps)
      turned_deep (turn House s ps) = let e = turned_all_deep ps in omega arith
      turned_deep (turn Guest s ps) = let e = turned_all_deep ps in omega arith

      turned_all_deep : (ps : Places) → words_all (turned_all k (numbered_all m hs gs ps)) ≡ deep_all Guest ps
      turned_all_deep no_more = refl
      turned_all_deep (also p ps) =
          ap (λ n. max n (words_all (turned_all k (numbered_all m hs gs ps)))) (turned_deep p) ∙ ap (λ n. max (deep Guest p) n) (turned_all_deep ps)

pub other_turn : (w v : Player) → is_same_player w (other v) ≡ not (is_same_player w v)
other_turn House House = refl
other_turn House Guest = refl
other_turn Guest House = refl
other_turn Guest Guest = refl

other_other : (v : Player) → other (other v) ≡ v
other_other House = refl
other_other Guest = refl

-- how often a player acts after a bet with x raises left, where it is its turn or not
abbrev pub after : Bool → ℕ → ℕ
after mine x = pick mine ((x + 2) / 2) ((x + 1) / 2)

-- a round adds the turns in it, whatever follows
module _ (w : Player) (t b c : ℕ) (then : Hand → Place) (same : (h : Hand) → deep w (then h) ≡ c) where
  last_answer : (mine : Bool) (n : ℕ) → n ≡ c → pick mine 1 0 + max 0 (max n 0) ≡ c + after mine 0
  last_answer true n e = omega arith
  last_answer false n e = omega arith

  more_answers : (mine : Bool) (x n k : ℕ) → n ≡ c → k ≡ c + after (not mine) x → pick mine 1 0 + max 0 (max n (max k 0)) ≡ c + after mine (suc x)
  more_answers true x n k e f = omega arith
  more_answers false x n k e f = omega arith

  answers_deep : (x : ℕ) (v : Player) (h : Hand) → deep w (answers t b then x v h) ≡ c + after (is_same_player w v) x
  answers_deep zero v h = last_answer (is_same_player w v) _ (same _)
  answers_deep (suc x) v h = more_answers (is_same_player w v) x _ _ (same _) (answers_deep x (other v) _ ∙ ap (λ mine. c + after mine x) (other_turn w v))

  round_turns : (mine : Bool) (x n k l : ℕ) → n ≡ c → k ≡ c + after mine x → l ≡ c + after (not mine) x →
      pick mine 1 0 + max (pick (not mine) 1 0 + max n (max k 0)) (max l 0) ≡ c + pick mine ((x + 4) / 2) ((x + 3) / 2)
  round_turns true x n k l e f g = omega arith
  round_turns false x n k l e f g = omega arith

  pub round_deep : (x : ℕ) (v : Player) (h : Hand) → deep w (round t b then x v h) ≡ c + pick (is_same_player w v) ((x + 4) / 2) ((x + 3) / 2)
  round_deep x v h =
      rw (other_turn w v)
      (round_turns (is_same_player w v) x _ _ _ (same _) (answers_deep x (other (other v)) _ ∙ ap (λ u. c + after (is_same_player w u) x) (other_other v))
      (answers_deep x (other v) _ ∙ ap (λ mine. c + after mine x) (other_turn w v)))

-- a deal adds one, where a card is left
each_most : (w : Player) (c r : ℕ) (deck : List ℕ) (then : ℕ → Place) → ((q : ℕ) → deep w (then q) ≡ c) → deep_all w (each r deck then) ≤ c
each_most w c r [] then same = omega arith
each_most w c r (zero ∷ deck) then same = each_most w c (suc r) deck then same
each_most w c r (suc k ∷ deck) then same = let h = each_most w c (suc r) deck then same in omega (arith, same r)

each_deep : (w : Player) (c r : ℕ) (deck : List ℕ) (then : ℕ → Place) → ((q : ℕ) → deep w (then q) ≡ c) → 0 < total deck → deep_all w (each r deck then) ≡ c
unfolding total
each_deep w c r [] then same l = absurd (omega arith)
each_deep w c r (zero ∷ deck) then same l = each_deep w c (suc r) deck then same (omega arith)
each_deep w c r (suc k ∷ deck) then same l = let h = each_most w c (suc r) deck then same in omega (arith, same r)

-- a card taken leaves one card less
pub without_total : (r : ℕ) (deck : List ℕ) → total deck ≤ suc (total (without r deck))
unfolding total
without_total r [] = omega arith
without_total zero (c ∷ deck) = omega arith
without_total (suc r) (c ∷ deck) = let h = without_total r deck in omega arith

pub replicate_total : (n c : ℕ) → total (replicate n c) ≡ n * c
unfolding total
replicate_total zero c = omega arith
replicate_total (suc n) c = let e = replicate_total n c in omega arith

module _ (s : Sheet) (w : Player) where
  second_deep : (deck : List ℕ) → 0 < total deck → (h : Hand) → deep w (second s deck h) ≡ suc (turns s w)
  second_deep deck l h = ap suc (each_deep w (turns s w) 0 deck _ (λ r. round_deep w (purse s) s.bets.second 0 (final s) (λ h'. refl) s.raises s.begins (shows r h) ∙ omega arith) l)

  follow_deep : (p : Bool) (deck : List ℕ) → (p ≡ true → 0 < total deck) → (h : Hand) → deep w (pick p (second s deck) (final s) h) ≡ pick p (suc (turns s w)) 0
  follow_deep true deck l h = second_deep deck (l refl) h
  follow_deep false deck l h = refl

  first_deep : (deck : List ℕ) → (s.public ≡ true → 0 < total deck) → (h : Hand) → deep w (first s deck h) ≡ turns s w + pick s.public (suc (turns s w)) 0
  first_deep deck l h = round_deep w (purse s) s.bets.first _ _ (follow_deep s.public deck l) s.raises s.begins h ∙ omega arith

  pub game_deep : Sound s → deep w (game s) ≡ word_count s w
  game_deep ok =
      let D = replicate s.ranks s.copies in
      let e = replicate_total s.ranks s.copies in
      let n = turns s w + pick s.public (suc (turns s w)) 0 in
      let for_guest : (a b : ℕ) → deep w (first s (without b (without a D)) (sits s.bets.ante a b)) ≡ n =
      λ a b. first_deep (without b (without a D)) (λ q. omega (arith, ok.shown q, without_total a D, without_total b (without a D))) (sits s.bets.ante a b) in
      let for_house : (a : ℕ) → deep w (deals (without a D) (λ b. first s (without b (without a D)) (sits s.bets.ante a b))) ≡ suc n =
      λ a. ap suc (each_deep w n 0 (without a D) _ (for_guest a) (omega (arith, without_total a D))) in
      ap suc (each_deep w (suc n) 0 D _ for_house (omega arith)) ∙ ends s.public
    where
      ends : (p : Bool) → suc (suc (turns s w + pick p (suc (turns s w)) 0)) ≡ 2 + turns s w + pick p (1 + turns s w) 0
      ends true = omega arith
      ends false = omega arith

pub words_are : WordsAre
unfolding WordsAre
words_are s m ok = (words_deep m _ _ (game s) ∙ game_deep s House ok, turned_deep m _ _ (2 * purse s) (game s) ∙ game_deep s Guest ok)
