-- The game by its own definitions and the game as the code keeps it, side by side. Assumes nothing.
use Rattle.std.proofs.Common.{◌≡◌, ℕ, zero, suc, ◌+◌, ◌-◌, ◌<◌, ◌≤◌, Bool, true, false, not, ◌&&◌, eqb, ltb, List, [], ◌∷◌, ◌++◌, map, length, get_or, replicate, Some, None, Option, sym, refl, ap, ◌∙◌, subst, append-nil, add-one, arith, length-set}
use lib.ListN.{length-replicate}
use Rattle.cards.specs.Game.{pick}
use Rattle.std.proofs.lemmas.List.{map-append}
use Rattle.rules.specs.declared.Player.{Player}
use Rattle.rules.specs.declared.Player.TheVariants.{House, Guest}
use Rattle.rules.specs.declared.Sheet.{Sheet}
use Rattle.rules.specs.declared.Ends.{Ends}
use Rattle.rules.specs.Play as R
use Rattle.rules.specs.Play.{other, purse, split, left, without, check, bet, call, raise}
use Rattle.rules.specs.Sights as S
use Rattle.tree.specs.declared.History.{History}
use Rattle.tree.specs.declared.Sight.{Sight}
use Rattle.tree.specs.declared.Hand.{Hand}
use Rattle.tree.specs.declared.Act.{Act}
use Rattle.tree.specs.declared.Act.TheVariants.{Check, Bet, Call, Raise}
use Rattle.tree.specs.Compact.{Play, end, dealt, turn, Plays, no_more, also, rank_of, sight_of, won_by_as, higher_as, paired_as, settled_as, due_of, hears_in, hears_as, acted_as, answers_as, round_as, each, shows, shown_as, second_as, sits, game_as}
use Rattle.tree.specs.Seen.{met, met_all, own_turn, as_list}
use Rattle.tree.specs.Told.{listed, ended, history_choices, told}
use Rattle.tree.proofs.Valid.{line_of, Ended, both_checked, called, Valid}

module _ (d x : ℕ) (p : Bool) where
  mutual
    pub data Like : R.Place → Play → Type 0 where
      ends : {e f : Ends} → e ≡ f → Like (R.end e) (end f)
      deals : (cs : List ℕ) {ps : R.Places} {qs : Plays} → Likes ps qs → Like (R.dealt cs ps) (dealt cs qs)
      turns : (w : Player) {s : R.Sight} {z : Sight} {ps : R.Places} {qs : Plays} → s ≡ told z → Valid d x p z → Likes ps qs → Like (R.turn w s ps) (turn w z qs)

    pub data Likes : R.Places → Plays → Type 0 where
      nil : Likes R.no_more no_more
      both : {q : R.Place} {r : Play} {ps : R.Places} {qs : Plays} → Like q r → Likes ps qs → Likes (R.also q ps) (also r qs)

-- the same cards and tokens on both sides
record Same (h : R.Hand) (k : Hand) : Type 0 where
  house : h.rank House ≡ k.house
  guest : h.rank Guest ≡ k.guest
  paid_house : h.paid House ≡ k.paid.house
  paid_guest : h.paid Guest ≡ k.paid.guest
  public : h.public ≡ k.history.public
  low_house : k.house < 13
  low_guest : k.guest < 13

won_same : (t : ℕ) (w : Player) {h : R.Hand} {k : Hand} → Same h k → R.won_by t w h ≡ won_by_as t w k
won_same t House s = let e = s.paid_guest in λ i. record { house = t + e i; guest = t - e i }
won_same t Guest s = let e = s.paid_house in λ i. record { house = t - e i; guest = t + e i }

higher_same : (t : ℕ) {h : R.Hand} {k : Hand} → Same h k → R.higher t h ≡ higher_as t k
higher_same t s =
    let a = s.house in let b = s.guest in let p = won_same t House s in let q = won_same t Guest s in
    λ i. pick (ltb (b i) (a i)) (p i) (pick (ltb (a i) (b i)) (q i) (split t))

settled_same : (t : ℕ) (o : Option ℕ) {h : R.Hand} {k : Hand} → Same h k → R.settled t o h ≡ settled_as t o k
settled_same t None s = higher_same t s
settled_same t (Some r) s =
    let a = s.house in let b = s.guest in let p = won_same t House s in let q = won_same t Guest s in let l = higher_same t s in
    λ i. pick (eqb (a i) r && not (eqb (b i) r)) (p i) (pick (eqb (b i) r && not (eqb (a i) r)) (q i) (l i))

due_same : (w : Player) {h : R.Hand} {k : Hand} → Same h k → R.due w h ≡ due_of w k.paid
due_same House s = let a = s.paid_house in let b = s.paid_guest in λ i. b i - a i
due_same Guest s = let a = s.paid_house in let b = s.paid_guest in λ i. a i - b i

hears_public : (o : Option ℕ) (a : Act) (h : History) → (hears_in o a h).public ≡ h.public
hears_public None a h = refl
hears_public (Some r) a h = refl

acts_same : (w : Player) (c : ℕ) (a : Act) (n m : ℕ) → n ≡ m → {h : R.Hand} {k : Hand} → Same h k → Same (R.acts w c n h) (acted_as w a m k)
acts_same House c a n m e {h} {k} s = record {
  house = s.house;
  guest = s.guest;
  paid_house = (let b = s.paid_house in λ i. b i + e i);
  paid_guest = s.paid_guest;
  public = s.public ∙ sym (hears_public k.history.public a k.history);
  low_house = s.low_house;
  low_guest = s.low_guest;
}
acts_same Guest c a n m e {h} {k} s = record {
  house = s.house;
  guest = s.guest;
  paid_house = s.paid_house;
  paid_guest = (let b = s.paid_guest in λ i. b i + e i);
  public = s.public ∙ sym (hears_public k.history.public a k.history);
  low_house = s.low_house;
  low_guest = s.low_guest;
}

sight_told : (w : Player) {h : R.Hand} {k : Hand} → Same h k → h.choices ≡ history_choices k.history → R.sight w h ≡ told (sight_of w k)
sight_told House s e = let a = s.house in let b = s.public in λ i. record { own = a i; public = b i; choices = e i }
sight_told Guest s e = let a = s.guest in let b = s.public in λ i. record { own = a i; public = b i; choices = e i }

low : (w : Player) {h : R.Hand} {k : Hand} → Same h k → rank_of w k < 13
low House s = s.low_house
low Guest s = s.low_guest

-- a round; hist c j is what is stored after c checks and j bets and raises in it, and base lists the choices before it
record Round (D X : ℕ) (p : Bool) (hist : ℕ → ℕ → History) (base : List ℕ) : Type 0 where
  check : (c : ℕ) → hears_as Check (hist c 0) ≡ hist (suc c) 0
  bet : (c k : ℕ) → hears_as Bet (hist c k) ≡ hist c (suc k)
  raise : (c k : ℕ) → hears_as Raise (hist c k) ≡ hist c (suc k)
  call : (c k : ℕ) → hears_as Call (hist c k) ≡ hist c k
  tells : (c k : ℕ) → history_choices (hist c k) ≡ listed c k ++ base
  fine : (c k o : ℕ) → c ≤ 1 → k ≤ X + 1 → o < 13 → Valid D X p (record { own = o; history = hist c k })

module _ (D X : ℕ) (p : Bool) (t b : ℕ) (f : R.Hand → R.Place) (g : Hand → Play) (hist : ℕ → ℕ → History) (base : List ℕ) (R1 : Round D X p hist base)
    (goes : (h : R.Hand) (k : Hand) (c j : ℕ) → Ended X (line_of c j) → Same h k → k.history ≡ hist c j → h.choices ≡ ended c j ++ base → Like D X p (f h) (g k)) where
  record At (c j : ℕ) (h : R.Hand) (k : Hand) : Type 0 where
    same : Same h k
    history : k.history ≡ hist c j
    choices : h.choices ≡ listed c j ++ base

  sighted : (w : Player) (c j : ℕ) {h : R.Hand} {k : Hand} → At c j h k → R.sight w h ≡ told (sight_of w k)
  sighted w c j a = sight_told w a.same (a.choices ∙ sym (R1.tells c j) ∙ ap history_choices (sym a.history))

  valid_at : (w : Player) (c j : ℕ) {h : R.Hand} {k : Hand} → c ≤ 1 → j ≤ X + 1 → At c j h k → Valid D X p (sight_of w k)
  valid_at w c j {k = k} hc hj a =
      let P : History → Type 0 = λ u. Valid D X p (record { own = rank_of w k; history = u }) in
      subst P (sym a.history) (R1.fine c j (rank_of w k) hc hj (low w a.same))

  check_at : (w : Player) (c : ℕ) {h : R.Hand} {k : Hand} → At c 0 h k → At (suc c) 0 (R.acts w check 0 h) (acted_as w Check 0 k)
  check_at w c a = record {
    same = acts_same w check Check 0 0 refl a.same;
    history = ap (hears_as Check) a.history ∙ R1.check c;
    choices = ap (λ l. check ∷ l) a.choices;
  }

  bet_at : (w : Player) (c : ℕ) {h : R.Hand} {k : Hand} → At c 0 h k → At c 1 (R.acts w bet b h) (acted_as w Bet b k)
  bet_at w c a = record {
    same = acts_same w bet Bet b b refl a.same;
    history = ap (hears_as Bet) a.history ∙ R1.bet c 0;
    choices = ap (λ l. bet ∷ l) a.choices;
  }

  raise_at : (w : Player) (c j : ℕ) {h : R.Hand} {k : Hand} → At c (suc j) h k → At c (suc (suc j)) (R.acts w raise (R.due w h + b) h) (acted_as w Raise (due_of w k.paid + b) k)
  raise_at w c j a = record {
    same = acts_same w raise Raise _ _ (ap (λ n. n + b) (due_same w a.same)) a.same;
    history = ap (hears_as Raise) a.history ∙ R1.raise c (suc j);
    choices = ap (λ l. raise ∷ l) a.choices;
  }

  call_like : (w : Player) (c j : ℕ) {h : R.Hand} {k : Hand} → c ≤ 1 → suc j ≤ X + 1 → At c (suc j) h k → Like D X p (f (R.acts w call (R.due w h) h)) (g (acted_as w Call (due_of w k.paid) k))
  call_like w c j hc hj a =
      goes _ _ c (suc j) (called c j hc hj) (acts_same w call Call _ _ (due_same w a.same) a.same) (ap (hears_as Call) a.history ∙ R1.call c (suc j)) (ap (λ l. call ∷ l) a.choices)

  answers_like : (y c j : ℕ) (w : Player) {h : R.Hand} {k : Hand} → c ≤ 1 → suc j + y ≤ X + 1 → At c (suc j) h k → Like D X p (R.answers t b f y w h) (answers_as t b g y w k)
  answers_like zero c j w hc hj a =
      turns w (sighted w c (suc j) a) (valid_at w c (suc j) hc (omega arith) a) (both (ends (won_same t (other w) a.same)) (both (call_like w c j hc (omega arith) a) nil))
  answers_like (suc y) c j w hc hj a =
      turns w (sighted w c (suc j) a) (valid_at w c (suc j) hc (omega arith) a)
      (both (ends (won_same t (other w) a.same)) (both (call_like w c j hc (omega arith) a) (both (answers_like y c (suc j) (other w) hc (omega arith) (raise_at w c j a)) nil)))

  round_like : (w : Player) {h : R.Hand} {k : Hand} → At 0 0 h k → Like D X p (R.round t b f X w h) (round_as t b g X w k)
  round_like w a =
      let a1 = check_at w 0 a in
      let a2 = check_at (other w) 1 a1 in
      turns w (sighted w 0 0 a) (valid_at w 0 0 (omega arith) (omega arith) a)
      (both (turns (other w) (sighted (other w) 1 0 a1) (valid_at (other w) 1 0 (omega arith) (omega arith) a1)
      (both (goes _ _ 2 0 both_checked a2.same a2.history a2.choices) (both (answers_like X 1 0 (other (other w)) (omega arith) (omega arith) (bet_at (other w) 1 a1)) nil)))
      (both (answers_like X 0 0 (other w) (omega arith) (omega arith) (bet_at w 0 a)) nil))

each_like : (D X : ℕ) (p : Bool) (r : ℕ) (deck : List ℕ) (f : ℕ → R.Place) (g : ℕ → Play) → ((q : ℕ) → q < r + length deck → Like D X p (f q) (g q)) → Likes D X p (R.each r deck f) (each r deck g)
each_like D X p r [] f g same = nil
each_like D X p r (zero ∷ deck) f g same = each_like D X p (suc r) deck f g (λ q h. same q (omega arith))
each_like D X p r (suc c ∷ deck) f g same = both (same r (omega arith)) (each_like D X p (suc r) deck f g (λ q h. same q (omega arith)))

-- the first round, and the second after a first that ended so
first_round : (D X : ℕ) (p : Bool) → Round D X p (λ c k. record { first = line_of c k; public = None; second = line_of 0 0 }) []
first_round D X p = record {
  check = λ c. ap (λ n. record { first = line_of n 0; public = None; second = line_of 0 0 }) (add-one c);
  bet = λ c k. ap (λ n. record { first = line_of c n; public = None; second = line_of 0 0 }) (add-one k);
  raise = λ c k. ap (λ n. record { first = line_of c n; public = None; second = line_of 0 0 }) (add-one k);
  call = λ c k. refl;
  tells = λ c k. sym (append-nil (listed c k));
  fine = λ c k o hc hk ho. record { own = ho; history = ((hc, hk), refl) };
}

second_round : (D X : ℕ) (c j r : ℕ) → Ended X (line_of c j) → r < D → Round D X true (λ d k. record { first = line_of c j; public = Some r; second = line_of d k }) (ended c j)
second_round D X c j r e hr = record {
  check = λ d. ap (λ n. record { first = line_of c j; public = Some r; second = line_of n 0 }) (add-one d);
  bet = λ d k. ap (λ n. record { first = line_of c j; public = Some r; second = line_of d n }) (add-one k);
  raise = λ d k. ap (λ n. record { first = line_of c j; public = Some r; second = line_of d n }) (add-one k);
  call = λ d k. refl;
  tells = λ d k. refl;
  fine = λ d k o hd hk ho. record { own = ho; history = (refl, hr, e, (hd, hk)) };
}

abbrev end_first : ℕ → ℕ → History
end_first c j = record { first = line_of c j; public = None; second = line_of 0 0 }

module _ (s : Sheet) where
  final_like : (p : Bool) (o : Option ℕ) (h : R.Hand) (k : Hand) → Same h k → k.history.public ≡ o → Like s.ranks s.raises p (R.final s h) (end (settled_as (purse s) o k))
  final_like p o h k q e = ends (ap (λ u. R.settled (purse s) u h) (q.public ∙ e) ∙ settled_same (purse s) o q)

  shown_like : (r c j : ℕ) (h : R.Hand) (k : Hand) → r < s.ranks → Ended s.raises (line_of c j) → Same h k → k.history ≡ end_first c j → h.choices ≡ ended c j ++ [] →
      Like s.ranks s.raises true (R.round (purse s) s.bets.second (R.final s) s.raises s.begins (R.shows r h)) (shown_as s r k)
  shown_like r c j h k hr e q eh ec =
      round_like s.ranks s.raises true (purse s) s.bets.second (R.final s) (λ h'. end (paired_as (purse s) r h')) (λ d i. record { first = line_of c j; public = Some r; second = line_of d i }) (ended c j)
      (second_round s.ranks s.raises c j r e hr) (λ h' k' d i _ q' e' _. final_like true (Some r) h' k' q' (ap (λ (u : History). u.public) e')) s.begins {h = R.shows r h} {k = shows r k}
      (record {
        same = record { house = q.house; guest = q.guest; paid_house = q.paid_house; paid_guest = q.paid_guest; public = refl; low_house = q.low_house; low_guest = q.low_guest };
        history = ap (λ (u : History). record { first = u.first; public = Some r; second = u.second }) eh;
        choices = ec ∙ append-nil (ended c j);
      })

  follow_like : (p : Bool) (deck : List ℕ) → length deck ≤ s.ranks → (h : R.Hand) (k : Hand) (c j : ℕ) → Ended s.raises (line_of c j) → Same h k → k.history ≡ end_first c j → h.choices ≡ ended c j ++ [] →
      Like s.ranks s.raises p (pick p (R.second s deck) (R.final s) h) (pick p (second_as s deck) (λ h'. end (higher_as (purse s) h')) k)
  follow_like true deck l h k c j e q eh ec = deals (left deck) (each_like s.ranks s.raises true 0 deck _ (λ r. shown_as s r k) (λ r hr. shown_like r c j h k (omega arith) e q eh ec))
  follow_like false deck l h k c j e q eh ec = final_like false None h k q (ap (λ (u : History). u.public) eh)

  first_like : (p : Bool) (deck : List ℕ) → length deck ≤ s.ranks → (a b : ℕ) → a < 13 → b < 13 →
      Like s.ranks s.raises p (R.round (purse s) s.bets.first (pick p (R.second s deck) (R.final s)) s.raises s.begins (R.sits s.bets.ante a b))
      (round_as (purse s) s.bets.first (pick p (second_as s deck) (λ h'. end (higher_as (purse s) h'))) s.raises s.begins (sits s.bets.ante a b))
  first_like p deck l a b ha hb =
      round_like s.ranks s.raises p (purse s) s.bets.first _ _ end_first [] (first_round s.ranks s.raises p) (follow_like p deck l) s.begins {h = R.sits s.bets.ante a b} {k = sits s.bets.ante a b}
      (record { same = record { house = refl; guest = refl; paid_house = refl; paid_guest = refl; public = refl; low_house = ha; low_guest = hb }; history = refl; choices = refl })

  pub game_like : s.ranks ≤ 13 → Like s.ranks s.raises s.public (R.game s) (game_as s)
  game_like h =
      let D = replicate s.ranks s.copies in
      let l_d : length D ≤ s.ranks = (let l = length-replicate s.ranks s.copies in omega (arith, l)) in
      let lw : (a : ℕ) (d : List ℕ) → length (without a d) ≡ length d = λ a d. length-set d a (get_or d a 0 - 1) in
      deals (left D) (each_like s.ranks s.raises s.public 0 D _ _ (λ a ha. deals (left (without a D)) (each_like s.ranks s.raises s.public 0 (without a D) _ _ (λ b hb.
      first_like s.public (without b (without a D)) (let l1 = lw b (without a D) in let l2 = lw a D in omega (arith, l1, l2)) a b (omega arith) (let l2 = lw a D in omega (arith, l2))))))

-- the sights met on both sides
module _ (d x : ℕ) (p : Bool) where
  own_like : (w v : Player) (z : Sight) (l : List R.Sight) → pick (S.is_same_player w v) (told z ∷ l) l ≡ map told (as_list (own_turn w v z)) ++ l
  own_like House House z l = refl
  own_like House Guest z l = refl
  own_like Guest House z l = refl
  own_like Guest Guest z l = refl

  mutual
    pub met_like : (w : Player) {q : R.Place} {r : Play} → Like d x p q r → S.met w q ≡ map told (met w r)
    met_like w (ends e) = refl
    met_like w (deals cs l) = mets_like w l
    met_like w (turns v {s = s} {z = z} {ps = ps} {qs = qs} e f l) =
        ap (λ u. pick (S.is_same_player w v) (u ∷ S.met_all w ps) (S.met_all w ps)) e ∙ ap (λ m. pick (S.is_same_player w v) (told z ∷ m) m) (mets_like w l)
        ∙ own_like w v z (map told (met_all w qs)) ∙ sym (map-append told (as_list (own_turn w v z)) (met_all w qs))

    pub mets_like : (w : Player) {ps : R.Places} {qs : Plays} → Likes d x p ps qs → S.met_all w ps ≡ map told (met_all w qs)
    mets_like w nil = refl
    mets_like w (both {q = q} {r = r} {ps = ps} {qs = qs} l k) =
        ap (λ z. z ++ S.met_all w ps) (met_like w l) ∙ ap (λ z. map told (met w r) ++ z) (mets_like w k) ∙ sym (map-append told (met w r) (met_all w qs))
