-- How many sights each player has. Assumes nothing.
use Rattle.std.proofs.Common.{◌≡◌, ℕ, zero, suc, ◌+◌, ◌-◌, ◌*◌, ◌≤◌, Bool, true, false, eqb, List, [], ◌∷◌, ◌++◌, length, replicate, Some, None, Option, sym, refl, ap, ◌∙◌, subst, arith}
use Rattle.std.proofs.lemmas.Bool.{both_ways}
use Rattle.cards.specs.Game.{pick, total}
use Rattle.rules.specs.declared.Player.{Player}
use Rattle.rules.specs.declared.Player.TheVariants.{House, Guest}
use Rattle.rules.specs.declared.Sheet.{Sheet}
use Rattle.rules.specs.Sound.{Sound}
use Rattle.rules.specs.Play.{purse, Sight, Place, Hand, each, deals, left, without, sits, final, second, first, shows, game}
use Rattle.rules.specs.Sights.{is_same_player, met, met_all}
use Rattle.rules.specs.Counts.{count_of_sights, SightsAre}
use Rattle.rules.proofs.CountWords.{without_total, replicate_total}
use Rattle.rules.proofs.CountLists.{In, Apart, sights_length}
use Rattle.rules.proofs.CountDecks.{Left, some_left, left_before, left_swap, left_full, left_less, spread, spread_in, spread_from, spread_apart, spread_length, pairs, pairs_in, pairs_from, pairs_swap}
use Rattle.rules.proofs.CountRounds.{After, round_sights, round_length, round_each, round_behind, round_apart, round_more, round_met}

each_met : (w : Player) (r : ℕ) (deck : List ℕ) (then : ℕ → Place) (f : ℕ → List Sight) → ((q : ℕ) → met w (then (r + q)) ≡ f q) → met_all w (each r deck then) ≡ spread deck f
each_met w r [] then f same = refl
each_met w r (zero ∷ deck) then f same = each_met w (suc r) deck then (λ q. f (suc q)) (λ q. ap (λ n. met w (then n)) (omega arith) ∙ same (suc q))
each_met w r (suc c ∷ deck) then f same =
    let e : met w (then r) ≡ f 0 = ap (λ n. met w (then n)) (omega arith) ∙ same 0 in
    let d = each_met w (suc r) deck then (λ q. f (suc q)) (λ q. ap (λ n. met w (then n)) (omega arith) ∙ same (suc q)) in
    λ i. e i ++ d i

deals_met : (w : Player) (deck : List ℕ) (then : ℕ → Place) (f : ℕ → List Sight) → ((q : ℕ) → met w (then q) ≡ f q) → met w (deals deck then) ≡ spread deck f
deals_met w deck then f same = each_met w 0 deck then f (λ q. ap (λ n. met w (then n)) (omega arith) ∙ same q)

-- a player with rank a, who begins or not, where x raises may be made in a round
module _ (x : ℕ) (mine : Bool) (a : ℕ) where
  -- the sights of a second round after these choices, with this public card
  abbrev late_sights : List ℕ → ℕ → List Sight
  late_sights ks r = round_sights a (Some r) (λ ls. []) x mine ks

  -- those of all second rounds, where a card is shown from this deck
  abbrev follow_sights : Bool → List ℕ → List ℕ → List Sight
  follow_sights p deck ks = pick p (spread deck (late_sights ks)) []

  abbrev view : Bool → List ℕ → List Sight
  view p deck = round_sights a None (follow_sights p deck) x mine []

  -- how many there are
  late_length : (ks : List ℕ) (r : ℕ) → length (late_sights ks r) ≡ x + 2
  late_length ks r = round_length a (Some r) (λ ls. []) 0 (λ ls. refl) x mine ks ∙ omega arith

  follow_length : (p : Bool) (deck ks : List ℕ) → length (follow_sights p deck ks) ≡ pick p (length (left deck) * (x + 2)) 0
  follow_length true deck ks = spread_length deck (late_sights ks) (x + 2) (λ r l. late_length ks r)
  follow_length false deck ks = refl

  view_length : (p : Bool) (deck : List ℕ) → length (view p deck) ≡ (x + 2) + (2 * x + 3) * pick p (length (left deck) * (x + 2)) 0
  view_length p deck = round_length a None (follow_sights p deck) _ (follow_length p deck) x mine []

  -- whose they are, and which card they show
  late_public : (ks : List ℕ) (r : ℕ) (z : Sight) → In z (late_sights ks r) → z.public ≡ Some r
  late_public ks r = round_each a (Some r) (λ ls. []) (λ ls z. z.public ≡ Some r) (λ ls. refl) (λ k ls z e. e) (λ ls z q. elim q [ ]) x mine ks

  late_own : (ks : List ℕ) (r : ℕ) (z : Sight) → In z (late_sights ks r) → z.own ≡ a
  late_own ks r = round_each a (Some r) (λ ls. []) (λ ls z. z.own ≡ a) (λ ls. refl) (λ k ls z e. e) (λ ls z q. elim q [ ]) x mine ks

  follow_own : (p : Bool) (deck ks : List ℕ) (z : Sight) → In z (follow_sights p deck ks) → z.own ≡ a
  follow_own true deck ks z q = let (r, l, i) = spread_from deck (late_sights ks) z q in late_own ks r z i
  follow_own false deck ks z q = elim q [ ]

  view_own : (p : Bool) (deck : List ℕ) (z : Sight) → In z (view p deck) → z.own ≡ a
  view_own p deck = round_each a None (follow_sights p deck) (λ ls z. z.own ≡ a) (λ ls. refl) (λ k ls z e. e) (follow_own p deck) x mine []

  -- none comes twice
  late_behind : (ks : List ℕ) (r : ℕ) (z : Sight) → In z (late_sights ks r) → After ks z.choices
  late_behind ks r = round_behind a (Some r) (λ ls. []) (λ ls z q. elim q [ ]) (λ ls. tt) x mine ks

  late_apart : (ks : List ℕ) (r : ℕ) → Apart (late_sights ks r)
  late_apart ks r = round_apart a (Some r) (λ ls. []) (λ ls z q. elim q [ ]) (λ ls. tt) x mine ks

  late_one : (ks : List ℕ) (r q : ℕ) (z : Sight) → In z (late_sights ks r) → In z (late_sights ks q) → r ≡ q
  late_one ks r q z i j = let e = late_public ks r z i in let f = late_public ks q z j in cc

  follow_behind : (p : Bool) (deck ks : List ℕ) (z : Sight) → In z (follow_sights p deck ks) → After ks z.choices
  follow_behind true deck ks z q = let (r, l, i) = spread_from deck (late_sights ks) z q in late_behind ks r z i
  follow_behind false deck ks z q = elim q [ ]

  follow_apart : (p : Bool) (deck ks : List ℕ) → Apart (follow_sights p deck ks)
  follow_apart true deck ks = spread_apart deck (late_sights ks) (late_apart ks) (late_one ks)
  follow_apart false deck ks = tt

  view_apart : (p : Bool) (deck : List ℕ) → Apart (view p deck)
  view_apart p deck = round_apart a None (follow_sights p deck) (follow_behind p deck) (follow_apart p deck) x mine []

  -- a sight is there with each deck that has its public card
  follow_more : (p : Bool) (deck deck' : List ℕ) (z : Sight) → ((r : ℕ) → p ≡ true → z.public ≡ Some r → Left r deck → Left r deck') → (ks : List ℕ) → In z (follow_sights p deck ks) → In z (follow_sights p deck' ks)
  follow_more true deck deck' z keeps ks q =
      let (r, l, i) = spread_from deck (late_sights ks) z q in spread_in deck' (late_sights ks) r z (keeps r refl (late_public ks r z i) l) i
  follow_more false deck deck' z keeps ks q = q

  view_more : (p : Bool) (deck deck' : List ℕ) (z : Sight) → ((r : ℕ) → p ≡ true → z.public ≡ Some r → Left r deck → Left r deck') → In z (view p deck) → In z (view p deck')
  view_more p deck deck' z keeps = round_more a None (follow_sights p deck) (follow_sights p deck') z (follow_more p deck deck' z keeps) x mine []

-- what a player meets in a hand
abbrev held : Player → ℕ → ℕ → ℕ
held House a b = a
held Guest a b = b

module _ (s : Sheet) (w : Player) where
  abbrev mine : Bool
  mine = is_same_player w s.begins

  abbrev deck : List ℕ
  deck = replicate s.ranks s.copies

  abbrev sees : ℕ → List ℕ → List Sight
  sees a d = view s.raises mine a s.public d

  second_met : (a : ℕ) (d : List ℕ) (h : Hand) → h.rank w ≡ a → met w (second s d h) ≡ spread d (late_sights s.raises mine a h.choices)
  second_met a d h e =
      deals_met w d _ _ (λ r. round_met a (Some r) w (purse s) s.bets.second (final s) (λ ls. []) (λ h' e' f'. refl) s.raises s.begins (shows r h) e refl)

  follow_met : (p : Bool) (a : ℕ) (d : List ℕ) (h : Hand) → h.rank w ≡ a → met w (pick p (second s d) (final s) h) ≡ follow_sights s.raises mine a p d h.choices
  follow_met true a d h e = second_met a d h e
  follow_met false a d h e = refl

  first_met : (a : ℕ) (d : List ℕ) (h : Hand) → h.rank w ≡ a → h.public ≡ None → h.choices ≡ [] → met w (first s d h) ≡ sees a d
  first_met a d h e f g =
      round_met a None w (purse s) s.bets.first (pick s.public (second s d) (final s)) (follow_sights s.raises mine a s.public d)
      (λ h' e' f'. follow_met s.public a d h' e') s.raises s.begins h e f
      ∙ ap (λ ks. round_sights a None (follow_sights s.raises mine a s.public d) s.raises mine ks) g

  game_met : met w (game s) ≡ pairs deck (λ a b d. sees (held w a b) d)
  game_met = deals_met w deck _ _ (λ a. deals_met w (without a deck) _ _ (λ b. first_met (held w a b) (without b (without a deck)) (sits s.bets.ante a b) (own a b w) refl refl))
    where
      own : (a b : ℕ) (v : Player) → (sits s.bets.ante a b).rank v ≡ held v a b
      own a b House = refl
      own a b Guest = refl

  -- all sights: for each own rank those with each public card that is left beside it
  abbrev all_sights : List Sight
  all_sights = spread deck (λ a. sees a (without a deck))

  all_apart : Apart all_sights
  all_apart = spread_apart deck _ (λ a. view_apart s.raises mine a s.public (without a deck))
      (λ a b z i j. sym (view_own s.raises mine a s.public (without a deck) z i) ∙ view_own s.raises mine b s.public (without b deck) z j)

  all_length : Sound s → length all_sights ≡ count_of_sights s
  all_length ok =
      spread_length deck _ _ (λ a l. view_length s.raises mine a s.public (without a deck)
      ∙ ap (λ n. (s.raises + 2) + (2 * s.raises + 3) * pick s.public (n * (s.raises + 2)) 0) (left_less s.ranks a s.copies ok.copies.least l))
      ∙ ap (λ n. n * ((s.raises + 2) + (2 * s.raises + 3) * pick s.public ((s.ranks - pick (eqb s.copies 1) 1 0) * (s.raises + 2)) 0)) (left_full s.ranks s.copies ok.copies.least)
      ∙ product s.public s.ranks (s.raises + 2) (2 * s.raises + 3) (s.ranks - pick (eqb s.copies 1) 1 0)
    where
      product : (p : Bool) (k y u d : ℕ) → k * (y + u * pick p (d * y) 0) ≡ k * y * (1 + pick p (u * d) 0)
      product true k y u d = omega arith
      product false k y u d = omega arith

  -- the sights that are met are all sights
  met_all_sights : (z : Sight) → In z (pairs deck (λ a b d. sees a d)) → In z all_sights
  met_all_sights z q =
      let (a, b, l, k, i) = pairs_from deck (λ a b d. sees a d) z q in
      spread_in deck (λ a. sees a (without a deck)) a z l
      (view_more s.raises mine a s.public (without b (without a deck)) (without a deck) z (λ r t e j. left_before b r (without a deck) j) i)

  -- for each own rank and public card there is a card for the other player
  another : Sound s → (a : ℕ) (c : Option ℕ) → (b : ℕ) × Left b (without a deck) × ((r : ℕ) → s.public ≡ true → c ≡ Some r → Left r (without a deck) → Left r (without b (without a deck)))
  another ok a c = go s.public ok.shown c
    where
      all : total deck ≡ s.ranks * s.copies
      all = replicate_total s.ranks s.copies

      go : (p : Bool) → (p ≡ true → 3 ≤ s.ranks * s.copies) → (c : Option ℕ) →
          (b : ℕ) × Left b (without a deck) × ((r : ℕ) → p ≡ true → c ≡ Some r → Left r (without a deck) → Left r (without b (without a deck)))
      go true k (Some q) =
          let (b, l) = some_left (without q (without a deck)) (omega (arith, all, k refl, without_total a deck, without_total q (without a deck))) in
          (b, left_before q b (without a deck) l, λ r t e j. let f : q ≡ r = cc in subst (λ (n : ℕ). Left n (without b (without a deck))) f (left_swap q b (without a deck) (subst (λ (n : ℕ). Left n (without a deck)) (sym f) j) l))
      go true k None =
          let (b, l) = some_left (without a deck) (omega (arith, all, k refl, without_total a deck)) in
          (b, l, λ r t e j. let z : ◌≡◌ {A = ℕ} 0 1 = cc in absurd (omega arith))
      go false k c =
          let (b, l) = some_left (without a deck) (omega (arith, all, ok.deck, without_total a deck)) in
          (b, l, λ r t e j. absurd (both_ways false refl t))

  all_sights_met : Sound s → (z : Sight) → In z all_sights → In z (pairs deck (λ a b d. sees a d))
  all_sights_met ok z q =
      let (a, l, i) = spread_from deck (λ a. sees a (without a deck)) z q in
      let (b, k, keeps) = another ok a z.public in
      pairs_in deck (λ a b d. sees a d) a b z l k (view_more s.raises mine a s.public (without a deck) (without b (without a deck)) z keeps i)

  own_first : (z : Sight) (v : Player) → In z (pairs deck (λ a b d. sees (held v a b) d)) → In z (pairs deck (λ a b d. sees a d))
  own_first z House q = q
  own_first z Guest q = pairs_swap deck (λ a b d. sees b d) z q

  own_back : (z : Sight) (v : Player) → In z (pairs deck (λ a b d. sees a d)) → In z (pairs deck (λ a b d. sees (held v a b) d))
  own_back z House q = q
  own_back z Guest q = pairs_swap deck (λ a b d. sees a d) z q

pub sights_are : SightsAre
unfolding SightsAre
sights_are s w ok =
    sights_length w (game s) (all_sights s w) (all_apart s w)
    (λ z q. met_all_sights s w z (own_first s w z w (subst (λ (l : List Sight). In z l) (game_met s w) q)))
    (λ z q. subst (λ (l : List Sight). In z l) (sym (game_met s w)) (own_back s w z w (all_sights_met s w ok z q)))
    ∙ all_length s w ok
