-- The laws of the tree of a rule sheet.
use Rattle.std.proofs.Common.{◌≡◌, ℕ, zero, suc, ◌+◌, ◌*◌, ◌/◌, ◌%◌, ◌<◌, ◌≤◌, Bool, true, false, List, [], ◌∷◌, length, get_or, None, Option, sym, refl, ap, ◌∙◌, subst, mul-zero, zero-add, mul-add, mul_right_comm, mul-div_cancel, arith}
use native.Mathlib.Nat.{mod-add-div'}
use Rattle.std.proofs.lemmas.Bool.{ne_eqb, and_from, or_from, or_left, or_right, not_from_false, both_ways}
use Rattle.cards.specs.Game.{Tree, over, deal, ours, Trees, none, more, Plan, many, pick, total}
use Rattle.cards.specs.Promise.{Well, well_over, well_deal, well_ours, well_theirs, Wells, wells_none, wells_more, AtMost, most_over, most_deal, most_ours, most_theirs, AllMost, most_none, most_more, among, once, once_all, turned, turned_all}
use Rattle.cards.specs.Played.{Move, Recalls, recalls_over, recalls_deal, recalls_ours, recalls_theirs, RecallsAll, recalls_none, recalls_more, RecallsAfter, after_none, after_more}
use Rattle.cards.proofs.Bracket.{many_turned}
use Rattle.rules.specs.declared.Player.{Player}
use Rattle.rules.specs.declared.Player.TheVariants.{House, Guest}
use Rattle.rules.specs.declared.Sheet.{Sheet}
use Rattle.rules.specs.Play.{other, opening, checked, facing, Sight, Place, end, dealt, turn, Places, no_more, also, purse, game}
use Rattle.rules.specs.Sights.{is_same_player, met, met_all, known, sights, place, at_turn, weighed, numbered, numbered_all, tree, words, words_all}
use Rattle.rules.specs.Memory.{Step, Phase, at, shut, phase, actor, late, open_choices, past, offered, moves, nobody, told, choices_of, Weighs, Dealable}
use Rattle.rules.specs.Statements.{WeightsSum}
use Rattle.rules.proofs.Good.{count, of, extend, Good, good_end, good_deal, good_turn, Goods, goods_none, goods_also, Chosen, chosen_none, chosen_also, Deals, game_good}
use Rattle.rules.proofs.Same.{sight_refl, known_left, known_right, known_all, place_gives, place_low, place_one}

-- a deal that is there, of cards whose number divides m
pub record Fair (m : ℕ) (cs : List ℕ) : Type 0 where
  pub some : 0 < total cs
  pub even : m % total cs ≡ 0

deals_fair : (s : Sheet) (m : ℕ) → Dealable s m → Deals s (Fair m)
deals_fair s m d = record {
  for_house = λ cs e. record { some = omega (arith, d.two); even = rw e d.for_house };
  for_guest = λ cs e. record { some = omega (arith, d.two); even = rw e d.for_guest };
  for_both = λ p cs e. record { some = omega (arith, d.three p); even = rw e (d.for_both p) };
}

pub fair_game : (s : Sheet) (m : ℕ) → Dealable s m → Good s.begins (2 * purse s) (Fair m) s.raises [] [] (game s)
fair_game s m d = game_good s (Fair m) (deals_fair s m d)

-- all sights of a place are in the lists
abbrev mutual
  pub Listed : List Sight → List Sight → Place → Type 0
  Listed hs gs (end e) = Unit {0}
  Listed hs gs (dealt ws ps) = ListedAll hs gs ps
  Listed hs gs (turn v s ps) = (known s (of v hs gs) ≡ true) × ListedAll hs gs ps

  pub ListedAll : List Sight → List Sight → Places → Type 0
  ListedAll hs gs no_more = Unit {0}
  ListedAll hs gs (also p ps) = Listed hs gs p × ListedAll hs gs ps

met_first : (v : Player) (s : Sight) (ps : Places) → known s (met v (turn v s ps)) ≡ true
met_first House s ps = or_left _ _ (sight_refl s)
met_first Guest s ps = or_left _ _ (sight_refl s)

met_later : (w v : Player) (s z : Sight) (ps : Places) → known z (met_all w ps) ≡ true → known z (met w (turn v s ps)) ≡ true
met_later House House s z ps e = or_right _ _ e
met_later House Guest s z ps e = e
met_later Guest House s z ps e = e
met_later Guest Guest s z ps e = or_right _ _ e

mutual
  listed : (p : Place) (hs gs : List Sight) → ((w : Player) (s : Sight) → known s (met w p) ≡ true → known s (of w hs gs) ≡ true) → Listed hs gs p
  listed (end e) hs gs f = tt
  listed (dealt ws ps) hs gs f = listed_all ps hs gs f
  listed (turn v s ps) hs gs f = (f v s (met_first v s ps), listed_all ps hs gs (λ w z e. f w z (met_later w v s z ps e)))

  listed_all : (ps : Places) (hs gs : List Sight) → ((w : Player) (s : Sight) → known s (met_all w ps) ≡ true → known s (of w hs gs) ≡ true) → ListedAll hs gs ps
  listed_all no_more hs gs f = tt
  listed_all (also p ps) hs gs f =
      (listed p hs gs (λ w s e. f w s (known_left s (met w p) (met_all w ps) e)), listed_all ps hs gs (λ w s e. f w s (known_right s (met w p) (met_all w ps) e)))

pub in_sights : (p : Place) → Listed (sights House p) (sights Guest p) p
in_sights p = listed p _ _ f
  where
    f : (w : Player) (s : Sight) → known s (met w p) ≡ true → known s (of w (sights House p) (sights Guest p)) ≡ true
    f House s e = known_all s (met House p) e
    f Guest s e = known_all s (met Guest p) e

module _ (z : Player) (k m x : ℕ) (hs gs : List Sight) where
  -- what the house has is on the table
  most_turn : (v : Player) (i j : ℕ) (ts : Trees) → AllMost k ts → AtMost k (at_turn v i j ts)
  most_turn House i j ts a = most_ours a
  most_turn Guest i j ts a = most_theirs a

  mutual
    good_most : {hp gp : List Step} {p : Place} → Good z k (Fair m) x hp gp p → AtMost k (numbered m hs gs p)
    good_most (good_end l) = most_over (omega arith)
    good_most (good_deal w c g) = most_deal (goods_most g)
    good_most (good_turn {v = v} e o g) = most_turn v _ _ _ (chosen_most g)

    goods_most : {hp gp : List Step} {ps : Places} → Goods z k (Fair m) x hp gp ps → AllMost k (numbered_all m hs gs ps)
    goods_most goods_none = most_none
    goods_most (goods_also g gs) = most_more (good_most g) (goods_most gs)

    chosen_most : {v : Player} {s : Sight} {j : ℕ} {hp gp : List Step} {ps : Places} → Chosen z k (Fair m) x v s j hp gp ps → AllMost k (numbered_all m hs gs ps)
    chosen_most chosen_none = most_none
    chosen_most (chosen_also g gs) = most_more (good_most g) (chosen_most gs)

pub tree_most : (s : Sheet) (m : ℕ) → Dealable s m → AtMost (2 * purse s) (tree s m)
tree_most s m d = good_most s.begins (2 * purse s) m s.raises _ _ (fair_game s m d)

-- numbers of earlier sights
abbrev pub numbers : List Sight → List Step → List ℕ
numbers l [] = []
numbers l (z ∷ zs) = place z.seen l ∷ numbers l zs

-- a sight is none of those before it, which saw fewer choices
not_before : (z : Player) (x : ℕ) (w : Player) (s : Sight) (l : List Sight) → known s l ≡ true → (r : ℕ) (c : Option ℕ) (ks : List ℕ) → length ks ≤ length s.choices → among (place s l) (numbers l (past z x w r c ks)) ≡ false
unfolding among
not_before z x w s l e r c [] h = refl
not_before z x w s l e r c (k ∷ ks) h = go (is_same_player w (actor (phase z x ks))) (not_before z x w s l e r c ks (omega arith))
  where
    y : Sight
    y = record { own = r; public = pick (late (phase z x ks)) c None; choices = ks }

    apart : place s l ≡ place y l → ⊥
    apart p = let q : length s.choices ≡ length ks = ap (λ (u : Sight). length u.choices) (place_one s y l e p) in omega arith

    go : (b : Bool) → among (place s l) (numbers l (past z x w r c ks)) ≡ false → among (place s l) (numbers l (pick b (record { seen = y; chose = k } ∷ past z x w r c ks) (past z x w r c ks))) ≡ false
    go true f = or_from _ _ (ne_eqb _ _ apart) f
    go false f = f

module _ (z : Player) (k m x : ℕ) (hs gs : List Sight) where
  numbers_extend : (l : List Sight) (w v : Player) (s : Sight) (j : ℕ) (zs : List Step) → numbers l (extend w v s j zs) ≡ pick (is_same_player w v) (place s l ∷ numbers l zs) (numbers l zs)
  numbers_extend l House House s j zs = refl
  numbers_extend l House Guest s j zs = refl
  numbers_extend l Guest House s j zs = refl
  numbers_extend l Guest Guest s j zs = refl

  once_turn : (v : Player) (s : Sight) (hp gp : List Step) (ts : Trees) → of v hp gp ≡ past z x v s.own s.public s.choices → known s (of v hs gs) ≡ true →
      once_all (pick (is_same_player House v) (place s hs ∷ numbers hs hp) (numbers hs hp)) (pick (is_same_player Guest v) (place s gs ∷ numbers gs gp) (numbers gs gp)) ts ≡ true →
      once (numbers hs hp) (numbers gs gp) (at_turn v (place s hs) (place s gs) ts) ≡ true
  once_turn House s hp gp ts e n o = and_from _ _ (not_from_false _ (ap (λ (zs : List Step). among (place s hs) (numbers hs zs)) e ∙ not_before z x House s hs n s.own s.public s.choices (omega arith))) o
  once_turn Guest s hp gp ts e n o = and_from _ _ (not_from_false _ (ap (λ (zs : List Step). among (place s gs) (numbers gs zs)) e ∙ not_before z x Guest s gs n s.own s.public s.choices (omega arith))) o

  mutual
    good_once : {hp gp : List Step} {p : Place} → Good z k (Fair m) x hp gp p → Listed hs gs p → once (numbers hs hp) (numbers gs gp) (numbered m hs gs p) ≡ true
    good_once (good_end l) i = refl
    good_once (good_deal w c g) i = goods_once g i
    good_once (good_turn {hp = hp} {gp = gp} {v = v} {s = s} e o g) i = once_turn v s hp gp _ e i.0 (chosen_once g i.1)

    goods_once : {hp gp : List Step} {ps : Places} → Goods z k (Fair m) x hp gp ps → ListedAll hs gs ps → once_all (numbers hs hp) (numbers gs gp) (numbered_all m hs gs ps) ≡ true
    goods_once goods_none i = refl
    goods_once (goods_also g r) i = and_from _ _ (good_once g i.0) (goods_once r i.1)

    chosen_once : {v : Player} {s : Sight} {j : ℕ} {hp gp : List Step} {ps : Places} → Chosen z k (Fair m) x v s j hp gp ps → ListedAll hs gs ps →
        once_all (pick (is_same_player House v) (place s hs ∷ numbers hs hp) (numbers hs hp)) (pick (is_same_player Guest v) (place s gs ∷ numbers gs gp) (numbers gs gp)) (numbered_all m hs gs ps) ≡ true
    chosen_once chosen_none i = refl
    chosen_once (chosen_also {v = v} {s = s} {j = j} {hp = hp} {gp = gp} {p = p} g r) i =
        and_from _ _ (rw (← numbers_extend hs House v s j hp, ← numbers_extend gs Guest v s j gp) (good_once g i.0)) (chosen_once r i.1)

pub tree_once : (s : Sheet) (m : ℕ) → Dealable s m → once [] [] (tree s m) ≡ true
tree_once s m d = good_once s.begins (2 * purse s) m s.raises _ _ (fair_game s m d) (in_sights (game s))

told_is : (z : Player) (x : ℕ) (w : Player) (l : List Sight) (s : Sight) → known s l ≡ true → told z x w l (place s l) ≡ moves l (past z x w s.own s.public s.choices)
told_is z x w l s e = ap (λ (y : Sight). moves l (past z x w y.own y.public y.choices)) (place_gives s l nobody e)

-- the tree as it is seen by who plays against w, where k is on the table
abbrev pub against : Player → ℕ → Tree → Tree
against House k t = turned k t
against Guest k t = t

abbrev pub against_all : Player → ℕ → Trees → Trees
against_all House k ts = turned_all k ts
against_all Guest k ts = ts

-- `w` is the player whose recall it is
module _ (z : Player) (k m x : ℕ) (hs gs : List Sight) where
  recalls_turn : (w v : Player) (s : Sight) (hp gp : List Step) (ts : Trees) → of v hp gp ≡ past z x v s.own s.public s.choices → known s (of v hs gs) ≡ true →
      (is_same_player w v ≡ true → RecallsAfter (told z x w (of w hs gs)) (place s (of w hs gs)) 0 (moves (of w hs gs) (of w hp gp)) (against_all w k ts)) →
      (is_same_player w v ≡ false → RecallsAll (told z x w (of w hs gs)) (moves (of w hs gs) (of w hp gp)) (against_all w k ts)) →
      Recalls (told z x w (of w hs gs)) (moves (of w hs gs) (of w hp gp)) (against w k (at_turn v (place s hs) (place s gs) ts))
  recalls_turn House House s hp gp ts e n f g = recalls_theirs (told_is z x House hs s n ∙ ap (moves hs) (sym e)) (f refl)
  recalls_turn House Guest s hp gp ts e n f g = recalls_ours (g refl)
  recalls_turn Guest House s hp gp ts e n f g = recalls_ours (g refl)
  recalls_turn Guest Guest s hp gp ts e n f g = recalls_theirs (told_is z x Guest gs s n ∙ ap (moves gs) (sym e)) (f refl)

  recalls_end : (w : Player) (f : ℕ → List Move) (past : List Move) (g : ℕ) → Recalls f past (against w k (over g))
  recalls_end House f past g = recalls_over
  recalls_end Guest f past g = recalls_over

  recalls_dealt : (w : Player) (f : ℕ → List Move) (past : List Move) (ws : List ℕ) (ts : Trees) → RecallsAll f past (against_all w k ts) → Recalls f past (against w k (deal ws ts))
  recalls_dealt House f past ws ts r = recalls_deal r
  recalls_dealt Guest f past ws ts r = recalls_deal r

  recalls_no : (w : Player) (f : ℕ → List Move) (past : List Move) → RecallsAll f past (against_all w k none)
  recalls_no House f past = recalls_none
  recalls_no Guest f past = recalls_none

  recalls_one : (w : Player) (f : ℕ → List Move) (past : List Move) (t : Tree) (ts : Trees) → Recalls f past (against w k t) → RecallsAll f past (against_all w k ts) → RecallsAll f past (against_all w k (more t ts))
  recalls_one House f past t ts r q = recalls_more r q
  recalls_one Guest f past t ts r q = recalls_more r q

  after_no : (w : Player) (f : ℕ → List Move) (i j : ℕ) (past : List Move) → RecallsAfter f i j past (against_all w k none)
  after_no House f i j past = after_none
  after_no Guest f i j past = after_none

  after_one : (w : Player) (f : ℕ → List Move) (i j : ℕ) (past : List Move) (t : Tree) (ts : Trees) → Recalls f (record { sight = i; choice = j } ∷ past) (against w k t) → RecallsAfter f i (suc j) past (against_all w k ts) → RecallsAfter f i j past (against_all w k (more t ts))
  after_one House f i j past t ts r q = after_more r q
  after_one Guest f i j past t ts r q = after_more r q

  moves_own : (l : List Sight) (w v : Player) (s : Sight) (j : ℕ) (hp gp : List Step) → is_same_player w v ≡ true →
      moves l (of w (extend House v s j hp) (extend Guest v s j gp)) ≡ (record { sight = place s l; choice = j } ∷ moves l (of w hp gp))
  moves_own l House House s j hp gp e = refl
  moves_own l House Guest s j hp gp e = absurd (both_ways false refl e)
  moves_own l Guest House s j hp gp e = absurd (both_ways false refl e)
  moves_own l Guest Guest s j hp gp e = refl

  moves_other : (l : List Sight) (w v : Player) (s : Sight) (j : ℕ) (hp gp : List Step) → is_same_player w v ≡ false →
      moves l (of w (extend House v s j hp) (extend Guest v s j gp)) ≡ moves l (of w hp gp)
  moves_other l House House s j hp gp e = absurd (both_ways true e refl)
  moves_other l House Guest s j hp gp e = refl
  moves_other l Guest House s j hp gp e = refl
  moves_other l Guest Guest s j hp gp e = absurd (both_ways true e refl)

  mutual
    good_recalls : {hp gp : List Step} {p : Place} → Good z k (Fair m) x hp gp p → (w : Player) → Listed hs gs p → Recalls (told z x w (of w hs gs)) (moves (of w hs gs) (of w hp gp)) (against w k (numbered m hs gs p))
    good_recalls (good_end l) w i = recalls_end w _ _ _
    good_recalls (good_deal u c g) w i = recalls_dealt w _ _ _ _ (goods_recalls g w i)
    good_recalls (good_turn {hp = hp} {gp = gp} {v = v} {s = s} e o g) w i = recalls_turn w v s hp gp _ e i.0 (chosen_own g w i.1) (chosen_other g w i.1)

    goods_recalls : {hp gp : List Step} {ps : Places} → Goods z k (Fair m) x hp gp ps → (w : Player) → ListedAll hs gs ps → RecallsAll (told z x w (of w hs gs)) (moves (of w hs gs) (of w hp gp)) (against_all w k (numbered_all m hs gs ps))
    goods_recalls goods_none w i = recalls_no w _ _
    goods_recalls (goods_also g r) w i = recalls_one w _ _ _ _ (good_recalls g w i.0) (goods_recalls r w i.1)

    chosen_own : {v : Player} {s : Sight} {j : ℕ} {hp gp : List Step} {ps : Places} → Chosen z k (Fair m) x v s j hp gp ps → (w : Player) → ListedAll hs gs ps → is_same_player w v ≡ true →
        RecallsAfter (told z x w (of w hs gs)) (place s (of w hs gs)) j (moves (of w hs gs) (of w hp gp)) (against_all w k (numbered_all m hs gs ps))
    chosen_own chosen_none w i y = after_no w _ _ _ _
    chosen_own (chosen_also {v = v} {s = s} {j = j} {hp = hp} {gp = gp} {p = p} g r) w i y =
        after_one w _ _ _ _ _ _ (subst (λ (l : List Move). Recalls (told z x w (of w hs gs)) l (against w k (numbered m hs gs p))) (moves_own (of w hs gs) w v s j hp gp y) (good_recalls g w i.0)) (chosen_own r w i.1 y)

    chosen_other : {v : Player} {s : Sight} {j : ℕ} {hp gp : List Step} {ps : Places} → Chosen z k (Fair m) x v s j hp gp ps → (w : Player) → ListedAll hs gs ps → is_same_player w v ≡ false →
        RecallsAll (told z x w (of w hs gs)) (moves (of w hs gs) (of w hp gp)) (against_all w k (numbered_all m hs gs ps))
    chosen_other chosen_none w i y = recalls_no w _ _
    chosen_other (chosen_also {v = v} {s = s} {j = j} {hp = hp} {gp = gp} {p = p} g r) w i y =
        recalls_one w _ _ _ _ (subst (λ (l : List Move). Recalls (told z x w (of w hs gs)) l (against w k (numbered m hs gs p))) (moves_other (of w hs gs) w v s j hp gp y) (good_recalls g w i.0)) (chosen_other r w i.1 y)

pub tree_recalls : (s : Sheet) (m : ℕ) → Dealable s m → (w : Player) →
    let l = of w (sights House (game s)) (sights Guest (game s)) in Recalls (told s.begins s.raises w l) (moves l (of w [] [])) (against w (2 * purse s) (tree s m))
tree_recalls s m d w = good_recalls s.begins (2 * purse s) m s.raises _ _ (fair_game s m d) w (in_sights (game s))

-- the weights of a deal sum to m
weighed_total : (q n : ℕ) → 0 < n → (cs : List ℕ) → total (weighed (q * n) n cs) ≡ q * total cs
unfolding total
weighed_total q n p [] = sym (mul-zero q)
weighed_total q n p (c ∷ cs) =
    let a : q * n * c / n ≡ q * c = ap (λ (y : ℕ). y / n) (mul_right_comm q n c) ∙ mul-div_cancel (q * c) p in
    let e = weighed_total q n p cs in
    let d = mul-add q c (total cs) in omega arith

pub weights_sum : WeightsSum
weights_sum m cs p d =
    let e : m ≡ m / total cs * total cs = sym (mod-add-div' m (total cs)) ∙ ap (λ (y : ℕ). y + m / total cs * total cs) d ∙ zero-add _ in
    ap (λ (y : ℕ). total (weighed y (total cs) cs)) e ∙ weighed_total (m / total cs) (total cs) p cs ∙ sym e

pub weighed_length : (m n : ℕ) (cs : List ℕ) → length (weighed m n cs) ≡ length cs
weighed_length m n [] = refl
weighed_length m n (c ∷ cs) = ap suc (weighed_length m n cs)

-- as many trees as places
pub many_count : (m : ℕ) (hs gs : List Sight) (ps : Places) → many (numbered_all m hs gs ps) ≡ count ps
unfolding many
many_count m hs gs no_more = refl
many_count m hs gs (also p ps) = ap suc (many_count m hs gs ps)

-- a plan of who plays against w
module _ (z : Player) (k m x : ℕ) (hs gs : List Sight) (plan : Plan) where
  abbrev Fits : Player → ℕ → Tree → Type 0
  Fits w n t = Well m plan (choices_of z x (of w hs gs)) n (against w k t)

  abbrev FitsAll : Player → ℕ → Trees → Type 0
  FitsAll w n ts = Wells m plan (choices_of z x (of w hs gs)) n (against_all w k ts)

  -- with words enough for the trees
  abbrev FitFrom : Player → Trees → Type 0
  FitFrom w ts = (n : ℕ) → words_all (against_all w k ts) ≤ n → FitsAll w n ts

  sized : (l : List Sight) (s : Sight) (n : ℕ) → known s l ≡ true → offered z x s.choices ≡ n → choices_of z x l (place s l) ≡ n
  sized l s n i o = ap (λ (y : Sight). offered z x y.choices) (place_gives s l nobody i) ∙ o

  chair_turn : (l : List Sight) (s : Sight) (ts : Trees) (ch : ℕ → ℕ) (n : ℕ) → Weighs z m x l plan → known s l ≡ true → offered z x s.choices ≡ many ts → suc (words_all ts) ≤ n →
      ((n : ℕ) → words_all ts ≤ n → Wells m plan ch n ts) → Well m plan ch n (ours (place s l) ts)
  chair_turn l s ts ch zero f i o h g = absurd (omega arith)
  chair_turn l s ts ch (suc n) f i o h g = well_ours (f.sums (place s l) (place_low s l i)) (f.sizes (place s l) (place_low s l i) ∙ sized l s (many ts) i o) (g n (omega arith))

  chair_deal : (ws : List ℕ) (ts : Trees) (ch : ℕ → ℕ) (n : ℕ) → total ws ≡ m → length ws ≡ many ts → suc (words_all ts) ≤ n → ((n : ℕ) → words_all ts ≤ n → Wells m plan ch n ts) → Well m plan ch n (deal ws ts)
  chair_deal ws ts ch zero e c h g = absurd (omega arith)
  chair_deal ws ts ch (suc n) e c h g = well_deal e c (g n (omega arith))

  fits_turn : (w v : Player) → Weighs z m x (of (other w) hs gs) plan → (s : Sight) (ts : Trees) (n : ℕ) → known s (of v hs gs) ≡ true → offered z x s.choices ≡ many ts →
      words (against w k (at_turn v (place s hs) (place s gs) ts)) ≤ n → FitFrom w ts → Fits w n (at_turn v (place s hs) (place s gs) ts)
  fits_turn House House f s ts n i o h g = well_theirs (sized hs s _ i o ∙ sym (many_turned k ts)) (g n h)
  fits_turn House Guest f s ts n i o h g = chair_turn gs s (turned_all k ts) _ n f i (o ∙ sym (many_turned k ts)) h g
  fits_turn Guest House f s ts n i o h g = chair_turn hs s ts _ n f i o h g
  fits_turn Guest Guest f s ts n i o h g = well_theirs (sized gs s _ i o) (g n h)

  fits_deal : (w : Player) (ws : List ℕ) (ts : Trees) (n : ℕ) → total ws ≡ m → length ws ≡ many ts → words (against w k (deal ws ts)) ≤ n → FitFrom w ts → Fits w n (deal ws ts)
  fits_deal House ws ts n e c h g = chair_deal ws (turned_all k ts) _ n e (c ∙ sym (many_turned k ts)) h g
  fits_deal Guest ws ts n e c h g = chair_deal ws ts _ n e c h g

  fits_end : (w : Player) (n g : ℕ) → Fits w n (over g)
  fits_end House n g = well_over
  fits_end Guest n g = well_over

  fits_none : (w : Player) (n : ℕ) → FitsAll w n none
  fits_none House n = wells_none
  fits_none Guest n = wells_none

  fits_more : (w : Player) (t : Tree) (ts : Trees) (n : ℕ) → words_all (against_all w k (more t ts)) ≤ n → ((n : ℕ) → words (against w k t) ≤ n → Fits w n t) → FitFrom w ts → FitsAll w n (more t ts)
  fits_more House t ts n h f g = wells_more (f n (omega arith)) (g n (omega arith))
  fits_more Guest t ts n h f g = wells_more (f n (omega arith)) (g n (omega arith))

  module _ (w : Player) (f : Weighs z m x (of (other w) hs gs) plan) where
    mutual
      good_fits : {hp gp : List Step} {p : Place} → Good z k (Fair m) x hp gp p → Listed hs gs p → (n : ℕ) → words (against w k (numbered m hs gs p)) ≤ n → Fits w n (numbered m hs gs p)
      good_fits (good_end l) i n h = fits_end w n _
      good_fits (good_deal {ws = ws} {ps = ps} d c g) i n h = fits_deal w _ _ n (weights_sum m ws d.some d.even) (weighed_length m (total ws) ws ∙ c ∙ sym (many_count m hs gs ps)) h (goods_fit g i)
      good_fits (good_turn {v = v} {s = s} {ps = ps} e o g) i n h = fits_turn w v f s _ n i.0 (o ∙ sym (many_count m hs gs ps)) h (chosen_fit g i.1)

      goods_fit : {hp gp : List Step} {ps : Places} → Goods z k (Fair m) x hp gp ps → ListedAll hs gs ps → FitFrom w (numbered_all m hs gs ps)
      goods_fit goods_none i n h = fits_none w n
      goods_fit (goods_also g r) i n h = fits_more w _ _ n h (good_fits g i.0) (goods_fit r i.1)

      chosen_fit : {v : Player} {s : Sight} {j : ℕ} {hp gp : List Step} {ps : Places} → Chosen z k (Fair m) x v s j hp gp ps → ListedAll hs gs ps → FitFrom w (numbered_all m hs gs ps)
      chosen_fit chosen_none i n h = fits_none w n
      chosen_fit (chosen_also g r) i n h = fits_more w _ _ n h (good_fits g i.0) (chosen_fit r i.1)

pub tree_fits : (s : Sheet) (m : ℕ) → Dealable s m → (w : Player) (plan : Plan) → Weighs s.begins m s.raises (of (other w) (sights House (game s)) (sights Guest (game s))) plan →
    let t = against w (2 * purse s) (tree s m) in Well m plan (choices_of s.begins s.raises (of w (sights House (game s)) (sights Guest (game s)))) (words t) t
tree_fits s m d w plan f = good_fits s.begins (2 * purse s) m s.raises _ _ plan w f (fair_game s m d) (in_sights (game s)) _ (omega arith)

-- a choice is always there
some_choice : (p : Phase) → 0 < open_choices p
some_choice (at d w opening) = omega arith
some_choice (at d w checked) = omega arith
some_choice (at d w (facing zero)) = omega arith
some_choice (at d w (facing (suc y))) = omega arith
some_choice shut = omega arith

pub some_choices : (z : Player) (x : ℕ) (l : List Sight) (i : ℕ) → 0 < choices_of z x l i
some_choices z x l i = some_choice (phase z x (get_or l i nobody).choices)
