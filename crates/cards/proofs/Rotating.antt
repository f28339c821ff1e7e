-- The floor with a rotation only proves too little: a small game with recall has no worst by it. Each of its floors is one by `Floor`.
use Rattle.std.proofs.Common.{◌≡◌, ℕ, zero, suc, ◌+◌, ◌*◌, ◌<◌, ◌≤◌, ◌⊎◌, List, [], ◌∷◌, ◌++◌, sym, refl, ap, ◌∙◌, subst, inl, inr, append-nil, zero-add, arith}
use Rattle.cards.specs.Game.{Tree, over, deal, ours, theirs, Trees, none, more, Plan, Way, many, total, sum, at}
use Rattle.cards.specs.Floor.{Item, sum_of, spread, nth, AtSight, nil, and, next, after, Floor, nothing, ended, dealt, planned, later, apart, chosen, lower}
use Rattle.cards.specs.Promise.{Legal, Well, well_over, well_deal, well_theirs, wells_none, wells_more}
use Rattle.cards.specs.Played.{Recalls, RecallsAfter, recalls_over, recalls_deal, recalls_theirs, recalls_none, recalls_more, after_none, after_more}
use Rattle.cards.specs.Reckon.{item}
use Rattle.cards.specs.Rotating.{Rotating, nothing', ended', dealt', planned', later', apart', chosen', lower', RotatingWorst, RotatingIsAFloor, RotatingFallsShort, plain, crossed, ones, four, crossing, no_plan, both}
use Rattle.cards.proofs.FloorHolds.{floor_below}
use Rattle.cards.proofs.Worsts.{worst_is}

module _ {m : ℕ} {plan : Plan} {choices : ℕ → ℕ} where
  put_last : {v : ℕ} {x : Item} (xs : List Item) → Floor m plan choices (xs ++ (x ∷ [])) v → Floor m plan choices (x ∷ xs) v
  put_last xs f = rw append-nil at (later xs [] f)

  still : {v : ℕ} {xs : List Item} → Rotating m plan choices xs v → Floor m plan choices xs v
  still nothing' = nothing
  still (ended' f) = ended (still f)
  still (dealt' f) = dealt (still f)
  still (planned' f) = planned (still f)
  still (later' xs f) = put_last xs (still f)
  still (apart' xs ys f g) = apart xs ys (still f) (still g)
  still (chosen' i h s f) = chosen i h s (λ k l. still (f k l))
  still (lower' h f) = lower h (still f)

pub rotating_is_a_floor : RotatingIsAFloor
unfolding RotatingIsAFloor
rotating_is_a_floor m v plan choices xs f = still f

-- four trees of two sights, crossed, behind a deal
data Letter : Type 0 where
  A : Letter
  B : Letter
  A' : Letter
  B' : Letter
  D : Letter

abbrev tree_of : Letter → Tree
tree_of A = theirs 0 plain
tree_of B = theirs 1 plain
tree_of A' = theirs 0 crossed
tree_of B' = theirs 1 crossed
tree_of D = deal ones four

abbrev left_of : Letter → ℕ
left_of A = 0
left_of B = 0
left_of A' = 0
left_of B' = 0
left_of D = 1

abbrev it : Letter → Item
it l = item 1 (left_of l) (tree_of l)

abbrev its : List Letter → List Item
its [] = []
its (l ∷ ls) = it l ∷ its ls

abbrev weight : Letter → ℕ
weight A = 1
weight B = 1
weight A' = 1
weight B' = 1
weight D = 4

abbrev len : List Letter → ℕ
len [] = 0
len (l ∷ ls) = weight l + len ls

-- each sight exchanges two of three points
data Point : Type 0 where
  p0 : Point
  p1 : Point
  p2 : Point

abbrev swap : ℕ → Point → Point
swap zero p0 = p1
swap zero p1 = p0
swap zero p2 = p2
swap (suc i) p0 = p0
swap (suc i) p1 = p2
swap (suc i) p2 = p1

swap_twice : (i : ℕ) (s : Point) → swap i (swap i s) ≡ s
swap_twice zero p0 = refl
swap_twice zero p1 = refl
swap_twice zero p2 = refl
swap_twice (suc i) p0 = refl
swap_twice (suc i) p1 = refl
swap_twice (suc i) p2 = refl

abbrev step : Letter → Point → Point
step A s = swap 0 s
step B s = swap 1 s
step A' s = swap 0 s
step B' s = swap 1 s
step D s = swap 1 (swap 0 (swap 1 (swap 0 s)))

abbrev undo : Letter → Point → Point
undo A s = swap 0 s
undo B s = swap 1 s
undo A' s = swap 0 s
undo B' s = swap 1 s
undo D s = swap 0 (swap 1 (swap 0 (swap 1 s)))

undo_step : (l : Letter) (s : Point) → undo l (step l s) ≡ s
undo_step A s = swap_twice 0 s
undo_step B s = swap_twice 1 s
undo_step A' s = swap_twice 0 s
undo_step B' s = swap_twice 1 s
undo_step D p0 = refl
undo_step D p1 = refl
undo_step D p2 = refl

abbrev act : List Letter → Point → Point
act [] s = s
act (l ∷ ls) s = act ls (step l s)

act_append : (a b : List Letter) (s : Point) → act (a ++ b) s ≡ act b (act a s)
act_append [] b s = refl
act_append (l ∷ a) b s = act_append a b (step l s)

len_append : (a b : List Letter) → len (a ++ b) ≡ len a + len b
len_append [] b = sym (zero-add _)
len_append (l ∷ a) b = let e = len_append a b in omega arith

its_append : (a b : List Letter) → its (a ++ b) ≡ its a ++ its b
its_append [] b = refl
its_append (l ∷ a) b = ap {B = List Item} (λ r. it l ∷ r) (its_append a b)

record Bound (ls : List Letter) (v : ℕ) : Type 0 where
  low : 2 * v ≤ len ls
  closed : 2 * v ≡ len ls → (s : Point) → act ls s ≡ s

abbrev kind : Tree → ℕ
kind (over g) = 0
kind (deal ws ts) = 1
kind (ours i ts) = 2
kind (theirs i ts) = 3

abbrev kind_first : List Item → ℕ
kind_first [] = 4
kind_first (x ∷ xs) = kind x.tree

abbrev tail : List Item → List Item
tail [] = []
tail (x ∷ xs) = xs

letter_kind : (ls : List Letter) → (kind_first (its ls) ≡ 1) ⊎ ((kind_first (its ls) ≡ 3) ⊎ (kind_first (its ls) ≡ 4))
letter_kind [] = inr (inr refl)
letter_kind (A ∷ ls) = inr (inl refl)
letter_kind (B ∷ ls) = inr (inl refl)
letter_kind (A' ∷ ls) = inr (inl refl)
letter_kind (B' ∷ ls) = inr (inl refl)
letter_kind (D ∷ ls) = inl refl

split : (xs ys : List Item) (ls : List Letter) → xs ++ ys ≡ its ls → (a : List Letter) × (b : List Letter) × (ls ≡ a ++ b) × (xs ≡ its a) × (ys ≡ its b)
split [] ys ls e = ([], ls, refl, refl, e)
split (x ∷ xs) ys [] e = let z : ◌≡◌ {A = ℕ} 0 1 = cc in absurd (omega arith)
split (x ∷ xs) ys (l ∷ ls) e =
    let r = split xs ys ls (ap tail e) in
    let h : x ≡ it l = cc in
    let p = r.2 in let q = r.3 in
    (l ∷ r.0, r.1, ap {B = List Letter} (λ k. l ∷ k) p, cc, r.4)

turn_bound : (l : Letter) (ls : List Letter) (v : ℕ) → Bound (ls ++ (l ∷ [])) v → Bound (l ∷ ls) v
turn_bound l ls v b = record { low = (let a = b.low in let c = len_append ls (l ∷ []) in omega arith); closed = λ e s. go e s }
  where
    back : 2 * v ≡ weight l + len ls → (s : Point) → step l (act ls s) ≡ s
    back e s = sym (act_append ls (l ∷ []) s) ∙ b.closed (let c = len_append ls (l ∷ []) in omega arith) s

    go : 2 * v ≡ weight l + len ls → (s : Point) → act ls (step l s) ≡ s
    go e s = sym (undo_step l (act ls (step l s))) ∙ ap (undo l) (back e (step l s)) ∙ undo_step l s

join_bound : (a b : List Letter) (u v : ℕ) → Bound a u → Bound b v → Bound (a ++ b) (u + v)
join_bound a b u v x y = record {
  low = (let p = x.low in let q = y.low in let c = len_append a b in omega arith);
  closed = λ e s. (let p = x.low in let q = y.low in let c = len_append a b in
      let e₁ : 2 * u ≡ len a = omega arith in
      let e₂ : 2 * v ≡ len b = omega arith in
      act_append a b s ∙ y.closed e₂ (act a s) ∙ x.closed e₁ s);
}

lower_bound : (ls : List Letter) (u v : ℕ) → u ≤ v → Bound ls v → Bound ls u
lower_bound ls u v h b = record { low = (let p = b.low in omega arith); closed = λ e. b.closed (let p = b.low in omega arith) }

inv : {i : ℕ} {xs : List Item} → AtSight i xs → (x : Item) (ys : List Item) → xs ≡ x ∷ ys → ((ts : Trees) × (x.tree ≡ theirs i ts)) × AtSight i ys
inv nil x ys e = let z : ◌≡◌ {A = ℕ} 0 1 = cc in absurd (omega arith)
inv {i} (and {w = w} {n = n} {ts = ts} {xs = xs} a) x ys e =
    let h : item w n (theirs i ts) ≡ x = cc in
    ((ts, sym (ap (λ (y : Item). y.tree) h)), subst (λ (l : List Item). AtSight i l) (ap tail e) a)

abbrev sight : Tree → ℕ
sight (over g) = 9
sight (deal ws ts) = 9
sight (ours i ts) = 9
sight (theirs i ts) = i

one_step : (l : Letter) (i : ℕ) (ts : Trees) → tree_of l ≡ theirs i ts → (weight l ≡ 1) × ((s : Point) → step l s ≡ swap i s)
one_step A i ts e = (refl, λ s. ap (λ (k : ℕ). swap k s) (ap sight e))
one_step B i ts e = (refl, λ s. ap (λ (k : ℕ). swap k s) (ap sight e))
one_step A' i ts e = (refl, λ s. ap (λ (k : ℕ). swap k s) (ap sight e))
one_step B' i ts e = (refl, λ s. ap (λ (k : ℕ). swap k s) (ap sight e))
one_step D i ts e = let z : ◌≡◌ {A = ℕ} 1 3 = ap kind e in absurd (omega arith)

even : (ls : List Letter) (i v : ℕ) → AtSight i (its ls) → 2 * v ≡ len ls → (s : Point) → act ls s ≡ s
even [] i v a e s = refl
even (l ∷ []) i v a e s =
    let r = inv a (it l) [] refl in let w = one_step l i r.0.0 r.0.1 in let w₀ = w.0 in absurd (omega arith)
even (l ∷ (k ∷ ls)) i zero a e s =
    let r = inv a (it l) (its (k ∷ ls)) refl in let w = one_step l i r.0.0 r.0.1 in let w₀ = w.0 in absurd (omega arith)
even (l ∷ (k ∷ ls)) i (suc v) a e s =
    let r = inv a (it l) (its (k ∷ ls)) refl in
    let w = one_step l i r.0.0 r.0.1 in
    let r' = inv r.1 (it k) (its ls) refl in
    let w' = one_step k i r'.0.0 r'.0.1 in
    let w₀ = w.0 in
    let w₁ = w'.0 in
    even ls i v r'.1 (omega arith) (step k (step l s)) ∙ w'.1 (step l s) ∙ ap (swap i) (w.1 s) ∙ swap_twice i s

abbrev first_way : Way
first_way i = 0

counts : (ls : List Letter) (i : ℕ) → AtSight i (its ls) → sum_of 4 no_plan first_way (after 0 (its ls)) + sum_of 4 no_plan first_way (after 1 (its ls)) ≡ len ls
unfolding sum_of after next nth
counts [] i a = refl
counts (A ∷ ls) i a = let r = counts ls i (inv a (it A) (its ls) refl).1 in omega arith
counts (B ∷ ls) i a = let r = counts ls i (inv a (it B) (its ls) refl).1 in omega arith
counts (A' ∷ ls) i a = let r = counts ls i (inv a (it A') (its ls) refl).1 in omega arith
counts (B' ∷ ls) i a = let r = counts ls i (inv a (it B') (its ls) refl).1 in omega arith
counts (D ∷ ls) i a = let z : ◌≡◌ {A = ℕ} 1 3 = ap kind (inv a (it D) (its ls) refl).0.1 in absurd (omega arith)

legal_first : Legal both first_way
legal_first i = omega arith

empty_bound : (ls : List Letter) → [] ≡ its ls → Bound ls 0
empty_bound [] e = record { low = omega arith; closed = λ q s. refl }
empty_bound (l ∷ ls) e = let z : ◌≡◌ {A = ℕ} 0 1 = cc in absurd (omega arith)

later_bound : (x : Item) (xs : List Item) (v : ℕ) (ls : List Letter) → x ∷ xs ≡ its ls → ((ks : List Letter) → xs ++ (x ∷ []) ≡ its ks → Bound ks v) → Bound ls v
later_bound x xs v [] e f = let z : ◌≡◌ {A = ℕ} 0 1 = cc in absurd (omega arith)
later_bound x xs v (l ∷ ls) e f =
    let h : x ≡ it l = cc in
    let t = ap tail e in
    let a = its_append ls (l ∷ []) in
    turn_bound l ls v (f (ls ++ (l ∷ [])) cc)

dealt_bound : (w n v : ℕ) (ws : List ℕ) (ts : Trees) (xs : List Item) (ls : List Letter) → item w (suc n) (deal ws ts) ∷ xs ≡ its ls → ((ks : List Letter) → spread w n ts ws xs ≡ its ks → Bound ks v) → Bound ls v
unfolding spread
dealt_bound w n v ws ts xs [] e f = let z : ◌≡◌ {A = ℕ} 1 4 = ap kind_first e in absurd (omega arith)
dealt_bound w n v ws ts xs (A ∷ ls) e f = let z : ◌≡◌ {A = ℕ} 1 3 = ap kind_first e in absurd (omega arith)
dealt_bound w n v ws ts xs (B ∷ ls) e f = let z : ◌≡◌ {A = ℕ} 1 3 = ap kind_first e in absurd (omega arith)
dealt_bound w n v ws ts xs (A' ∷ ls) e f = let z : ◌≡◌ {A = ℕ} 1 3 = ap kind_first e in absurd (omega arith)
dealt_bound w n v ws ts xs (B' ∷ ls) e f = let z : ◌≡◌ {A = ℕ} 1 3 = ap kind_first e in absurd (omega arith)
dealt_bound w n v ws ts xs (D ∷ ls) e f =
    let h : item w (suc n) (deal ws ts) ≡ it D = cc in
    let w₁ : w ≡ 1 = ap (λ (y : Item). y.times) h in
    let n₁ : suc n ≡ 1 = ap (λ (y : Item). y.left) h in
    let n₀ : n ≡ 0 = omega arith in
    let t : deal ws ts ≡ deal ones four = ap (λ (y : Item). y.tree) h in
    let ws₁ : ws ≡ ones = cc in
    let ts₁ : ts ≡ four = cc in
    let r : xs ≡ its ls = ap tail e in
    let q : spread w n ts ws xs ≡ spread 1 0 four ones (its ls) = cc in
    let b = f (A ∷ (B ∷ (A' ∷ (B' ∷ ls)))) q in
    record { low = (let l = b.low in omega arith); closed = λ e'. b.closed (omega arith) }

bound : {xs : List Item} {v : ℕ} → Rotating 4 no_plan both xs v → (ls : List Letter) → xs ≡ its ls → Bound ls v
bound nothing' ls e = empty_bound ls e
bound (ended' f) ls e = let z = ap kind_first e in let y = letter_kind ls in absurd (omega arith)
bound (dealt' {w = w} {n = n} {v = v} {ws = ws} {ts = ts} {xs = xs} f) ls e = dealt_bound w n v ws ts xs ls e (bound f)
bound (planned' f) ls e = let z = ap kind_first e in let y = letter_kind ls in absurd (omega arith)
bound (later' {v = v} {x = x} xs f) ls e = later_bound x xs v ls e (bound f)
bound (apart' {u = u} {v = v} xs ys f g) ls e =
    let r = split xs ys ls e in
    subst (λ (k : List Letter). Bound k (u + v)) (sym r.2) (join_bound r.0 r.1 u v (bound f r.0 r.3) (bound g r.1 r.4))
bound (chosen' {v = v} i {xs = xs} p a f) ls e =
    let a' = subst (λ (l : List Item). AtSight i l) e a in
    let h₀ = floor_below 4 no_plan first_way legal_first (still (f 0 (omega arith))) in
    let h₁ = floor_below 4 no_plan first_way legal_first (still (f 1 (omega arith))) in
    let e₀ = ap (λ (l : List Item). sum_of 4 no_plan first_way (after 0 l)) e in
    let e₁ = ap (λ (l : List Item). sum_of 4 no_plan first_way (after 1 l)) e in
    let c = counts ls i a' in
    record { low = omega arith; closed = even ls i v a' }
bound (lower' {u = u} {v = v} h f) ls e = lower_bound ls u v h (bound f ls e)

-- the house has 2 whatever the guest does, and no such floor says so
always : (way : Way) → Legal both way → sum 4 no_plan way crossing 1 ≡ 2
always way l = go (way 0) (way 1) (l 0) (l 1)
  where
    go : (a b : ℕ) → a < 2 → b < 2 → 1 * at 4 no_plan way plain a 0 + (1 * at 4 no_plan way plain b 0 + (1 * at 4 no_plan way crossed a 0 + (1 * at 4 no_plan way crossed b 0 + 0))) ≡ 2
    go zero zero p q = refl
    go zero (suc zero) p q = refl
    go (suc zero) zero p q = refl
    go (suc zero) (suc zero) p q = refl
    go zero (suc (suc b)) p q = absurd (omega arith)
    go (suc zero) (suc (suc b)) p q = absurd (omega arith)
    go (suc (suc a)) b p q = absurd (omega arith)

p1≢p0 : p1 ≡ p0 → ⊥
p1≢p0 e = let z : ◌≡◌ {A = ℕ} 0 1 = cc in omega arith

no_worst : (v : ℕ) → RotatingWorst 4 1 no_plan both crossing v → ⊥
no_worst v w =
    let b = bound w.floor (D ∷ []) refl in
    let e : 2 ≡ v = sym (always w.way w.legal) ∙ w.reached in
    let c = b.closed (omega arith) p0 in
    p1≢p0 c

pub rotating_falls_short : RotatingFallsShort
unfolding after next nth many total
rotating_falls_short = record { well = fits; recalls = remembers; no_worst = no_worst; worst = worst_is 4 no_plan both (λ i. []) (λ i. omega arith) 1 crossing fits remembers }
  where
    two : {i a b : ℕ} → Well 4 no_plan both 0 (theirs i (more (over a) (more (over b) none)))
    two = well_theirs refl (wells_more well_over (wells_more well_over wells_none))

    ends : {i a b : ℕ} → RecallsAfter (λ i. []) i 0 [] (more (over a) (more (over b) none))
    ends = after_more recalls_over (after_more recalls_over after_none)

    fits : Well 4 no_plan both 1 crossing
    fits = well_deal refl refl (wells_more two (wells_more two (wells_more two (wells_more two wells_none))))

    remembers : Recalls (λ i. []) [] crossing
    remembers = recalls_deal (recalls_more (recalls_theirs refl ends) (recalls_more (recalls_theirs refl ends) (recalls_more (recalls_theirs refl ends) (recalls_more (recalls_theirs refl ends) recalls_none))))
