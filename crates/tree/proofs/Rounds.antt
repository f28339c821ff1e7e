-- Writing a round of betting. Assumes nothing.
use Rattle.std.proofs.Common.{◌≡◌, ℕ, zero, suc, ◌+◌, ◌-◌, ◌<◌, ◌≤◌, List, [], length, set, sym, refl, ap, ◌∙◌, subst, arith}
use Rattle.rules.specs.declared.Player.{Player}
use Rattle.rules.specs.declared.Ends.{Ends}
use Rattle.tree.specs.declared.Hand.{Hand}
use Rattle.tree.specs.declared.Place.{Place}
use Rattle.tree.specs.declared.Node.{Node}
use Rattle.tree.specs.declared.Act.TheVariants.{Bet, Call, Raise}
use Rattle.tree.specs.Compact.{Play, end, turn, no_more, also, size, won_by_as, sight_of, acted_as, due_of, answers_as}
use Rattle.rules.specs.Play.{other}
use Rattle.tree.specs.Flat.{unnumbered, seat, Written}
use Rattle.tree.specs.Rep.{node}
use Rattle.tree.proofs.Lay.{rows_none, rows_also, turn_written}

pub carry : (c at k : ℕ) (xs ys : List Node) {p q : Play} → p ≡ q → Written c p at xs ys k → Written c q at xs ys k
carry c at k xs ys e w = let P : Play → Type 0 = λ p. Written c p at xs ys k in subst P e w

module _ (t b : ℕ) (then : Hand → Play) where
  abbrev pub called : Player → Hand → Play
  called w h = then (acted_as w Call (due_of w h.paid) h)

  abbrev pub raised : ℕ → Player → Hand → Play
  raised x w h = answers_as t b then x (other w) (acted_as w Raise (due_of w h.paid + b) h)

  pub answers_room : (x : ℕ) (w : Player) (h : Hand) → 2 + size (called w h) ≤ size (answers_as t b then x w h)
  answers_room zero w h = omega arith
  answers_room (suc x) w h = omega arith

  abbrev last_answers : Player → Hand → Play
  last_answers w h = turn w (sight_of w h) (also (end (won_by_as t (other w) h)) (also (called w h) no_more))

  abbrev more_answers : ℕ → Player → Hand → Play
  more_answers x w h = turn w (sight_of w h) (also (end (won_by_as t (other w) h)) (also (called w h) (also (raised x w h) no_more)))

  answers_last : (x : ℕ) (w : Player) (h : Hand) → x ≤ 0 → last_answers w h ≡ answers_as t b then x w h
  answers_last zero w h l = refl
  answers_last (suc x) w h l = absurd (omega arith)

  answers_more : (x : ℕ) (w : Player) (h : Hand) → 0 < x → more_answers (x - 1) w h ≡ answers_as t b then x w h
  answers_more zero w h l = absurd (omega arith)
  answers_more (suc x) w h l = let e : suc x - 1 ≡ x = omega arith in ap (λ n. more_answers n w h) e

  pub raise_room : (x : ℕ) (w : Player) (h : Hand) → 0 < x → size (answers_as t b then x w h) ≡ 2 + size (called w h) + size (raised (x - 1) w h)
  raise_room x w h l = ap size (sym (answers_more x w h l)) ∙ omega arith

  pub last_written : (x : ℕ) (w : Player) (h : Hand) (at j k : ℕ) (xs ys zs : List Node) (pl : Place) (n : ℕ) → x ≤ 0 →
      at + size (answers_as t b then x w h) ≤ length xs →
      Written 0 (end (won_by_as t (other w) h)) (at + 1) xs ys j → Written 0 (called w h) j ys zs k →
      pl ≡ seat unnumbered unnumbered w (sight_of w h) → n ≡ k - at → length ys ≡ length xs →
      Written 0 (answers_as t b then x w h) at xs (set zs at (node pl 0 n)) k
  last_written x w h at j k xs ys zs pl n l room a c e en ly =
      let r = ap size (sym (answers_last x w h l)) in
      let ea = a.ends in
      carry 0 at k xs (set zs at (node pl 0 n)) (answers_last x w h l)
      (turn_written 0 w (sight_of w h) (also (end (won_by_as t (other w) h)) (also (called w h) no_more)) at k xs zs pl n (omega (arith, r))
      (rows_also [] (end (won_by_as t (other w) h)) (also (called w h) no_more) (at + 1) j k xs ys zs (omega (arith, r)) a
      (rows_also [] (called w h) no_more j k k ys zs zs (omega (arith, r)) c (rows_none [] k zs))) e en)

  pub more_written : (x : ℕ) (w : Player) (h : Hand) (at j k i : ℕ) (xs ys zs vs : List Node) (pl : Place) (n : ℕ) → 0 < x →
      at + size (answers_as t b then x w h) ≤ length xs →
      Written 0 (end (won_by_as t (other w) h)) (at + 1) xs ys j → Written 0 (called w h) j ys zs k → Written 0 (raised (x - 1) w h) k zs vs i →
      pl ≡ seat unnumbered unnumbered w (sight_of w h) → n ≡ i - at → length ys ≡ length xs → length zs ≡ length xs →
      Written 0 (answers_as t b then x w h) at xs (set vs at (node pl 0 n)) i
  more_written x w h at j k i xs ys zs vs pl n l room a c d e en ly lz =
      let r = raise_room x w h l in
      let ea = a.ends in
      let ec = c.ends in
      carry 0 at i xs (set vs at (node pl 0 n)) (answers_more x w h l)
      (turn_written 0 w (sight_of w h) (also (end (won_by_as t (other w) h)) (also (called w h) (also (raised (x - 1) w h) no_more))) at i xs vs pl n (omega (arith, r))
      (rows_also [] (end (won_by_as t (other w) h)) (also (called w h) (also (raised (x - 1) w h) no_more)) (at + 1) j i xs ys vs (omega (arith, r)) a
      (rows_also [] (called w h) (also (raised (x - 1) w h) no_more) j k i ys zs vs (omega (arith, r)) c
      (rows_also [] (raised (x - 1) w h) no_more k i i zs vs vs (omega (arith, r)) d (rows_none [] i vs)))) e en)

  -- what the code has at hand: the results of its calls, and what they are
  pub called_is : (w : Player) (h hc : Hand) (d : ℕ) → d ≡ due_of w h.paid → hc ≡ acted_as w Call d h → hc ≡ acted_as w Call (due_of w h.paid) h
  called_is w h hc d ed eh = eh ∙ ap (λ v. acted_as w Call v h) ed

  pub raised_is : (w : Player) (h hr : Hand) (d : ℕ) → d ≡ due_of w h.paid → hr ≡ acted_as w Raise (d + b) h → hr ≡ acted_as w Raise (due_of w h.paid + b) h
  raised_is w h hr d ed eh = eh ∙ ap (λ v. acted_as w Raise (v + b) h) ed

  pub folded_is : (w o : Player) (h : Hand) (tk : Ends) → o ≡ other w → tk ≡ won_by_as t o h → end tk ≡ end (won_by_as t (other w) h)
  folded_is w o h tk eo et = ap end (et ∙ ap (λ v. won_by_as t v h) eo)

  pub onward_is : (x : ℕ) (w o : Player) (h hr : Hand) → o ≡ other w → hr ≡ acted_as w Raise (due_of w h.paid + b) h → answers_as t b then x o hr ≡ raised x w h
  onward_is x w o h hr eo eh = ap (λ v. answers_as t b then x v hr) eo ∙ ap (answers_as t b then x (other w)) eh

pub two_written : (c : ℕ) (w : Player) (h : Hand) (p q : Play) (at j k : ℕ) (xs ys zs : List Node) (pl : Place) →
    at + (1 + size p + size q) ≤ length xs → Written 0 p (at + 1) xs ys j → Written 0 q j ys zs k →
    pl ≡ seat unnumbered unnumbered w (sight_of w h) → length ys ≡ length xs →
    Written c (turn w (sight_of w h) (also p (also q no_more))) at xs (set zs at (node pl c (k - at))) k
two_written c w h p q at j k xs ys zs pl room a b e ly =
    let ea = a.ends in
    turn_written c w (sight_of w h) (also p (also q no_more)) at k xs zs pl (k - at) (omega arith)
    (rows_also [] p (also q no_more) (at + 1) j k xs ys zs (omega arith) a (rows_also [] q no_more j k k ys zs zs (omega arith) b (rows_none [] k zs))) e refl

module _ (t b : ℕ) (then : Hand → Play) where
  pub bet_is : (x : ℕ) (w o : Player) (h hb : Hand) → o ≡ other w → hb ≡ acted_as w Bet b h → answers_as t b then x o hb ≡ answers_as t b then x (other w) (acted_as w Bet b h)
  bet_is x w o h hb eo eh = ap (λ v. answers_as t b then x v hb) eo ∙ ap (answers_as t b then x (other w)) eh
