-- What holds of every place of a rule sheet's game.
use Rattle.std.proofs.Common.{◌≡◌, ℕ, zero, suc, ◌+◌, ◌-◌, ◌*◌, ◌<◌, ◌≤◌, Bool, true, false, not, ◌&&◌, eqb, ltb, List, [], ◌∷◌, length, get_or, replicate, Some, None, Option, sym, refl, ap, ◌∙◌, subst, zero-add, mul-suc, mul-add, arith}
use Rattle.std.proofs.lemmas.Bool.{both_ways}
use Rattle.cards.specs.Game.{pick, total}
use Rattle.rules.specs.declared.Player.{Player}
use Rattle.rules.specs.declared.Player.TheVariants.{House, Guest}
use Rattle.rules.specs.declared.Sheet.{Sheet}
use Rattle.rules.specs.declared.Ends.{Ends}
use Rattle.rules.specs.Play.{other, check, bet, call, raise, Stand, opening, checked, facing, offers, Sight, Place, end, dealt, turn, Places, no_more, also, purse, Hand, sight, acts, shows, due, won_by, split, higher, settled, by_choice, acting, answers, free, final, round, left, each, deals, without, sits, second, game}
use Rattle.rules.specs.Sights.{is_same_player}
use Rattle.rules.specs.Memory.{Step, Phase, at, moved, phase, actor, late, open_choices, past, offered}
use Rattle.rules.proofs.CountWords.{replicate_total}

abbrev pub count : Places → ℕ
count no_more = 0
count (also p ps) = suc (count ps)

abbrev pub of : {A : Type 0} → Player → A → A → A
of House a b = a
of Guest a b = b

-- one more step of player v, in the past of player w
abbrev pub extend : Player → Player → Sight → ℕ → List Step → List Step
extend w v s j l = pick (is_same_player w v) (record { seen = s; chose = j } ∷ l) l

-- player z begins, k on the table, D of the copies left at each deal, x raises in a round; with what the house and the guest saw and chose before
mutual
  pub data Good (z : Player) (k : ℕ) (D : List ℕ → Type 0) (x : ℕ) : List Step → List Step → Place → Type 0 where
    good_end : {hp gp : List Step} {e : Ends} → e.house + e.guest ≡ k → Good z k D x hp gp (end e)
    good_deal : {hp gp : List Step} {ws : List ℕ} {ps : Places} → D ws → length ws ≡ count ps → Goods z k D x hp gp ps → Good z k D x hp gp (dealt ws ps)
    good_turn : {hp gp : List Step} {v : Player} {s : Sight} {ps : Places} → of v hp gp ≡ past z x v s.own s.public s.choices → offered z x s.choices ≡ count ps → Chosen z k D x v s 0 hp gp ps → Good z k D x hp gp (turn v s ps)

  pub data Goods (z : Player) (k : ℕ) (D : List ℕ → Type 0) (x : ℕ) : List Step → List Step → Places → Type 0 where
    goods_none : {hp gp : List Step} → Goods z k D x hp gp no_more
    goods_also : {hp gp : List Step} {p : Place} {ps : Places} → Good z k D x hp gp p → Goods z k D x hp gp ps → Goods z k D x hp gp (also p ps)

  -- the places after the choices j, j + 1, .. of player v at sight s
  pub data Chosen (z : Player) (k : ℕ) (D : List ℕ → Type 0) (x : ℕ) : Player → Sight → ℕ → List Step → List Step → Places → Type 0 where
    chosen_none : {v : Player} {s : Sight} {j : ℕ} {hp gp : List Step} → Chosen z k D x v s j hp gp no_more
    chosen_also : {v : Player} {s : Sight} {j : ℕ} {hp gp : List Step} {p : Place} {ps : Places} → Good z k D x (extend House v s j hp) (extend Guest v s j gp) p → Chosen z k D x v s (suc j) hp gp ps → Chosen z k D x v s j hp gp (also p ps)

abbrev pub GoodAt : Player → ℕ → (List ℕ → Type 0) → ℕ → Hand → Place → Type 0
GoodAt z k D x h p = Good z k D x (past z x House (h.rank House) h.public h.choices) (past z x Guest (h.rank Guest) h.public h.choices) p

-- what the players have at the end is what is on the table
abbrev Shared : ℕ → Ends → Type 0
Shared k e = e.house + e.guest ≡ k

module _ (t : ℕ) where
  won_shared : (v : Player) (h : Hand) → h.paid (other v) ≤ t → Shared (2 * t) (won_by t v h)
  won_shared House h l = omega arith
  won_shared Guest h l = omega arith

  pick_shared : (b : Bool) (e f : Ends) → Shared (2 * t) e → Shared (2 * t) f → Shared (2 * t) (pick b e f)
  pick_shared true e f p q = p
  pick_shared false e f p q = q

  split_shared : Shared (2 * t) (split t)
  split_shared = omega arith

  higher_shared : (h : Hand) → h.paid House ≤ t → h.paid Guest ≤ t → Shared (2 * t) (higher t h)
  higher_shared h p q = pick_shared (ltb (h.rank Guest) (h.rank House)) _ _ (won_shared House h q) (pick_shared (ltb (h.rank House) (h.rank Guest)) _ _ (won_shared Guest h p) split_shared)

  settled_shared : (c : Option ℕ) (h : Hand) → h.paid House ≤ t → h.paid Guest ≤ t → Shared (2 * t) (settled t c h)
  settled_shared None h p q = higher_shared h p q
  settled_shared (Some r) h p q = pick_shared (eqb (h.rank House) r && not (eqb (h.rank Guest) r)) _ _ (won_shared House h q) (pick_shared (eqb (h.rank Guest) r && not (eqb (h.rank House) r)) _ _ (won_shared Guest h p) (higher_shared h p q))

-- both have put in the same, and no more than l
pub record Level (l : ℕ) (h : Hand) : Type 0 where
  pub same : h.paid House ≡ h.paid Guest
  pub low : h.paid Guest ≤ l

-- d is whether it is the second round: before it no card is shown, and nothing that was seen tells of one
pub record Kept (z : Player) (x : ℕ) (d : Bool) (h : Hand) : Type 0 where
  pub card : pick d h.public None ≡ h.public
  pub early : d ≡ false → (w : Player) (r : ℕ) (c : Option ℕ) → past z x w r c h.choices ≡ past z x w r None h.choices

module _ (z : Player) (t : ℕ) (D : List ℕ → Type 0) (x : ℕ) where
  -- after an act
  abbrev Stepped : Hand → ℕ → Place → Player → Option ℕ → Type 0
  Stepped h a p v c =
      Good z (2 * t) D x (extend House v (record { own = h.rank House; public = c; choices = h.choices }) a (past z x House (h.rank House) h.public h.choices))
      (extend Guest v (record { own = h.rank Guest; public = c; choices = h.choices }) a (past z x Guest (h.rank Guest) h.public h.choices)) p

  stepped : (v : Player) (a : ℕ) (h : Hand) (p : Place) → Stepped h a p v h.public → Good z (2 * t) D x (extend House v (sight v h) a (past z x House (h.rank House) h.public h.choices)) (extend Guest v (sight v h) a (past z x Guest (h.rank Guest) h.public h.choices)) p
  stepped House a h p g = g
  stepped Guest a h p g = g

  acted : (v : Player) (a n : ℕ) (h : Hand) (p : Place) → actor (phase z x h.choices) ≡ v → pick (late (phase z x h.choices)) h.public None ≡ h.public → GoodAt z (2 * t) D x (acts v a n h) p →
      Good z (2 * t) D x (extend House v (sight v h) a (past z x House (h.rank House) h.public h.choices)) (extend Guest v (sight v h) a (past z x Guest (h.rank Guest) h.public h.choices)) p
  acted v a n h p e f g = stepped v a h p (subst (λ (c : Option ℕ). Stepped h a p v c) f (subst (λ (w : Player). Stepped h a p w (pick (late (phase z x h.choices)) h.public None)) e g))

  own_past : (v : Player) (h : Hand) → of v (past z x House (h.rank House) h.public h.choices) (past z x Guest (h.rank Guest) h.public h.choices) ≡ past z x v (h.rank v) h.public h.choices
  own_past House h = refl
  own_past Guest h = refl

  -- a choice in the same round
  kept_on : (d : Bool) (v : Player) (a n : ℕ) (h : Hand) → late (phase z x h.choices) ≡ d → Kept z x d h → Kept z x d (acts v a n h)
  kept_on d v a n h e k = record { card = k.card; early = λ f w r c. go (late (phase z x h.choices)) (e ∙ f) (is_same_player w (actor (phase z x h.choices))) w r c (k.early f w r c) }
    where
      go : (l : Bool) → l ≡ false → (b : Bool) (w : Player) (r : ℕ) (c : Option ℕ) → past z x w r c h.choices ≡ past z x w r None h.choices →
          pick b (record { seen = record { own = r; public = pick l c None; choices = h.choices }; chose = a } ∷ past z x w r c h.choices) (past z x w r c h.choices) ≡
          pick b (record { seen = record { own = r; public = pick l None None; choices = h.choices }; chose = a } ∷ past z x w r None h.choices) (past z x w r None h.choices)
      go true e b w r c q = absurd (both_ways true e refl)
      go false e true w r c q = ap {B = List Step} (λ l. record { seen = record { own = r; public = None; choices = h.choices }; chose = a } ∷ l) q
      go false e false w r c q = q

  module _ (d : Bool) (b l : ℕ) (low : l ≤ t) (then : Hand → Place) (follows : (h : Hand) → Level l h → phase z x h.choices ≡ at true z opening → Kept z x d h → GoodAt z (2 * t) D x h (then h)) where
    called : (w : Player) (h : Hand) → h.paid (other w) ≤ l → h.paid w ≤ h.paid (other w) → Level l (acts w call (due w h) h)
    called House h p r = record { same = omega arith; low = omega arith }
    called Guest h p r = record { same = omega arith; low = omega arith }

    folded : (w : Player) (h : Hand) → h.paid (other w) ≤ l → h.paid w ≤ h.paid (other w) → Shared (2 * t) (won_by t (other w) h)
    folded House h p r = won_shared t Guest h (omega arith)
    folded Guest h p r = won_shared t House h (omega arith)

    raise_paid : (w : Player) (h : Hand) (y : ℕ) → h.paid (other w) + b * suc y ≤ l → h.paid w ≤ h.paid (other w) → (acts w raise (due w h + b) h).paid (other (other w)) + b * y ≤ l
    raise_paid House h y p r = let e = mul-suc b y in omega arith
    raise_paid Guest h y p r = let e = mul-suc b y in omega arith

    raise_more : (w : Player) (h : Hand) → h.paid w ≤ h.paid (other w) → (acts w raise (due w h + b) h).paid (other w) ≤ (acts w raise (due w h + b) h).paid (other (other w))
    raise_more House h r = omega arith
    raise_more Guest h r = omega arith

    at_card : (h : Hand) → late (phase z x h.choices) ≡ d → Kept z x d h → pick (late (phase z x h.choices)) h.public None ≡ h.public
    at_card h e k = ap (λ (c : Bool). pick c h.public None) e ∙ k.card

    answers_good : (y : ℕ) (w : Player) (h : Hand) → h.paid (other w) + b * y ≤ l → h.paid w ≤ h.paid (other w) →
        phase z x h.choices ≡ at d w (facing y) → Kept z x d h → GoodAt z (2 * t) D x h (answers t b then y w h)
    answers_good zero w h p r e k =
        let p' : h.paid (other w) ≤ l = omega arith in
        good_turn (own_past w h) (ap open_choices e)
        (chosen_also (good_end (folded w h p' r))
        (chosen_also (acted w call (due w h) h _ (ap actor e) (at_card h (ap late e) k) (follows _ (called w h p' r) (ap (λ (ph : Phase). moved z x ph 1) e) (kept_on d w call (due w h) h (ap late e) k))) chosen_none))
    answers_good (suc y) w h p r e k =
        let p' : h.paid (other w) ≤ l = omega arith in
        good_turn (own_past w h) (ap open_choices e)
        (chosen_also (good_end (folded w h p' r))
        (chosen_also (acted w call (due w h) h _ (ap actor e) (at_card h (ap late e) k) (follows _ (called w h p' r) (ap (λ (ph : Phase). moved z x ph 1) e) (kept_on d w call (due w h) h (ap late e) k)))
        (chosen_also (acted w raise (due w h + b) h _ (ap actor e) (at_card h (ap late e) k)
        (answers_good y (other w) (acts w raise (due w h + b) h) (raise_paid w h y p r) (raise_more w h r) (ap (λ (ph : Phase). moved z x ph 2) e) (kept_on d w raise (due w h + b) h (ap late e) k))) chosen_none)))

    bet_paid : (w : Player) (h : Hand) (l' : ℕ) → Level l' h → l' + b * (1 + x) ≤ l → (acts w bet b h).paid (other (other w)) + b * x ≤ l
    bet_paid House h l' v p = let e = mul-suc b x in let q = mul-add b 1 x in omega arith
    bet_paid Guest h l' v p = let e = mul-suc b x in let q = mul-add b 1 x in omega arith

    bet_more : (w : Player) (h : Hand) (l' : ℕ) → Level l' h → (acts w bet b h).paid (other w) ≤ (acts w bet b h).paid (other (other w))
    bet_more House h l' v = omega arith
    bet_more Guest h l' v = omega arith

    check_level : (w : Player) (h : Hand) (l' : ℕ) → Level l' h → Level l' (acts w check 0 h)
    check_level House h l' v = record { same = omega arith; low = omega arith }
    check_level Guest h l' v = record { same = omega arith; low = omega arith }

    -- where there is nothing to call; what follows a check is good
    free_good : (st : Stand) → offers st ≡ 2 → (w : Player) → moved z x (at d w st) bet ≡ at d (other w) (facing x) → (checks : Hand → Place) (h : Hand) (l' : ℕ) → Level l' h → l' + b * (1 + x) ≤ l →
        phase z x h.choices ≡ at d w st → Kept z x d h → GoodAt z (2 * t) D x (acts w check 0 h) (checks (acts w check 0 h)) →
        GoodAt z (2 * t) D x h (turn w (sight w h) (by_choice 2 0 (free t b then x checks w h)))
    free_good st two w f checks h l' v p e k g =
        good_turn (own_past w h) (ap open_choices e ∙ two)
        (chosen_also (acted w check 0 h _ (ap actor e) (at_card h (ap late e) k) g)
        (chosen_also (acted w bet b h _ (ap actor e) (at_card h (ap late e) k)
        (answers_good x (other w) (acts w bet b h) (bet_paid w h l' v p) (bet_more w h l' v) (ap (λ (q : Phase). moved z x q bet) e ∙ f) (kept_on d w bet b h (ap late e) k))) chosen_none))

    round_good : (h : Hand) (l' : ℕ) → Level l' h → l' + b * (1 + x) ≤ l → phase z x h.choices ≡ at d z opening → Kept z x d h → GoodAt z (2 * t) D x h (round t b then x z h)
    round_good h l' v p e k =
        let h₁ = acts z check 0 h in
        let k₁ = kept_on d z check 0 h (ap late e) k in
        let e₁ : phase z x h₁.choices ≡ at d (other z) checked = ap (λ (q : Phase). moved z x q check) e in
        let v₁ = check_level z h l' v in
        free_good opening refl z refl (λ h'. acting checked (other z) h' (free t b then x then (other z) h')) h l' v p e k
        (free_good checked refl (other z) refl then h₁ l' v₁ p e₁ k₁
        (follows _ (raised_level (check_level (other z) h₁ l' v₁)) (ap (λ (q : Phase). moved z x q check) e₁) (kept_on d (other z) check 0 h₁ (ap late e₁) k₁)))
      where
        raised_level : {h' : Hand} → Level l' h' → Level l h'
        raised_level v' = record { same = v'.same; low = omega arith }

-- deals
left_total : (deck : List ℕ) → total (left deck) ≡ total deck
unfolding total
left_total [] = refl
left_total (zero ∷ deck) = left_total deck ∙ sym (zero-add _)
left_total (suc c ∷ deck) = ap (λ (y : ℕ). suc c + y) (left_total deck)

left_count : (deck : List ℕ) (r : ℕ) (then : ℕ → Place) → length (left deck) ≡ count (each r deck then)
left_count [] r then = refl
left_count (zero ∷ deck) r then = left_count deck (suc r) then
left_count (suc c ∷ deck) r then = ap suc (left_count deck (suc r) then)

total_without : (deck : List ℕ) (r : ℕ) → 0 < get_or deck r 0 → suc (total (without r deck)) ≡ total deck
unfolding total
total_without [] r p = omega arith
total_without (c ∷ deck) zero p = omega arith
total_without (c ∷ deck) (suc r) p = let e = total_without deck r p in omega arith

module _ (z : Player) (k : ℕ) (D : List ℕ → Type 0) (x : ℕ) (hp gp : List Step) (then : ℕ → Place) where
  each_good : (deck : List ℕ) (r : ℕ) → ((j : ℕ) → 0 < get_or deck j 0 → Good z k D x hp gp (then (r + j))) → Goods z k D x hp gp (each r deck then)
  each_good [] r f = goods_none
  each_good (zero ∷ deck) r f = each_good deck (suc r) (λ j p. let e : r + suc j ≡ suc r + j = omega arith in subst (λ (y : ℕ). Good z k D x hp gp (then y)) e (f (suc j) p))
  each_good (suc c ∷ deck) r f =
      let e₀ : r + 0 ≡ r = omega arith in
      let p₀ : 0 < suc c = omega arith in
      goods_also (subst (λ (y : ℕ). Good z k D x hp gp (then y)) e₀ (f 0 p₀))
      (each_good deck (suc r) (λ j p. let e : r + suc j ≡ suc r + j = omega arith in subst (λ (y : ℕ). Good z k D x hp gp (then y)) e (f (suc j) p)))

  deals_good : (deck : List ℕ) → D (left deck) → ((r : ℕ) → 0 < get_or deck r 0 → Good z k D x hp gp (then r)) → Good z k D x hp gp (deals deck then)
  deals_good deck d f = good_deal d (left_count deck 0 then) (each_good deck 0 (λ j q. subst (λ (y : ℕ). Good z k D x hp gp (then y)) (sym (zero-add j)) (f j q)))

-- D of the copies left at each deal of a sheet
pub record Deals (s : Sheet) (D : List ℕ → Type 0) : Type 0 where
  pub for_house : (cs : List ℕ) → total cs ≡ s.ranks * s.copies → D cs
  pub for_guest : (cs : List ℕ) → total cs ≡ s.ranks * s.copies - 1 → D cs
  pub for_both : s.public ≡ true → (cs : List ℕ) → total cs ≡ s.ranks * s.copies - 2 → D cs

module _ (s : Sheet) (D : List ℕ → Type 0) (d : Deals s D) where
  abbrev z : Player
  z = s.begins

  abbrev x : ℕ
  x = s.raises

  abbrev GoodIn : Hand → Place → Type 0
  GoodIn h p = GoodAt z (2 * purse s) D x h p

  abbrev l₁ : ℕ
  l₁ = s.bets.ante + s.bets.first * (1 + s.raises)

  final_good : (l : ℕ) → l ≤ purse s → (h : Hand) → Level l h → GoodIn h (final s h)
  final_good l p h v = good_end (settled_shared (purse s) h.public h (omega arith) (omega arith))

  after_first : (pu : Bool) → s.public ≡ pu → (deck : List ℕ) → total deck ≡ s.ranks * s.copies - 2 → (h : Hand) → Level l₁ h → phase z x h.choices ≡ at true z opening → Kept z x false h →
      GoodIn h ((pick pu (second s deck) (final s)) h)
  after_first true e deck c h v ph k =
      deals_good z (2 * purse s) D x _ _ _ deck (d.for_both e (left deck) (left_total deck ∙ c)) (λ r q.
      let g : GoodIn (shows r h) _ = round_good z (purse s) D x true s.bets.second (purse s) (omega arith) (final s) (λ h' v' ph' k'. final_good (purse s) (omega arith) h' v')
      (shows r h) l₁ (record { same = v.same; low = v.low }) (rw e (omega arith)) ph (record { card = refl; early = λ f. absurd (both_ways true f refl) }) in
      shifted r g)
    where
      to : (r : ℕ) (w : Player) → past z x w (h.rank w) (Some r) h.choices ≡ past z x w (h.rank w) h.public h.choices
      to r w = k.early refl w (h.rank w) (Some r) ∙ sym (k.early refl w (h.rank w) h.public)

      shifted : (r : ℕ) {p : Place} → GoodIn (shows r h) p → GoodIn h p
      shifted r {p} g = subst (λ (a : List Step). Good z (2 * purse s) D x a (past z x Guest (h.rank Guest) h.public h.choices) p) (to r House)
          (subst (λ (a : List Step). Good z (2 * purse s) D x (past z x House (h.rank House) (Some r) h.choices) a p) (to r Guest) g)
  after_first false e deck c h v ph k = final_good l₁ (omega arith) h v

  pub game_good : Good s.begins (2 * purse s) D s.raises [] [] (game s)
  game_good =
      let deck = replicate s.ranks s.copies in
      let n = replicate_total s.ranks s.copies in
      deals_good z (2 * purse s) D x [] [] _ deck (d.for_house (left deck) (left_total deck ∙ n)) (λ a p.
      let n' = total_without deck a p in
      let c' : total (without a deck) ≡ s.ranks * s.copies - 1 = omega arith in
      deals_good z (2 * purse s) D x [] [] _ (without a deck) (d.for_guest (left (without a deck)) (left_total (without a deck) ∙ c')) (λ b q.
      let n'' = total_without (without a deck) b q in
      let c'' : total (without b (without a deck)) ≡ s.ranks * s.copies - 2 = omega arith in
      round_good z (purse s) D x false s.bets.first l₁ (omega arith) _ (after_first s.public refl (without b (without a deck)) c'')
      (sits s.bets.ante a b) s.bets.ante (record { same = refl; low = omega arith }) (omega arith) refl (record { card = refl; early = λ f w r c. refl })))
