-- What the reckoning and the hands ask holds of a rule sheet's own tree and a plan that was read. Assumes nothing.
use Rattle.std.proofs.Common.{◌≡◌, ℕ, ◌+◌, ◌*◌, ◌^◌, ◌<◌, ◌≤◌, List, [], ◌∷◌, ◌++◌, map, length, take, drop, Ok, Result, sym, refl, ap, ◌∙◌, subst, le_of_mul-le-mul_right, arith, pow-add, take_all}
use native.Mathlib.Nat.{one-le-pow}
use Rattle.std.proofs.lemmas.List.{take_at}
use Rattle.cards.specs.Promise.{Well, AtMost, Worst}
use Rattle.cards.specs.Reckon.{places, worst}
use Rattle.cards.proofs.Bracket.{most_turned}
use Rattle.rules.specs.declared.Player.{Player}
use Rattle.rules.specs.declared.Player.TheVariants.{House, Guest}
use Rattle.rules.specs.declared.Sheet.{Sheet}
use Rattle.rules.specs.Play.{other, purse}
use Rattle.rules.specs.Sights.{tree, words}
use Rattle.rules.specs.Counts.{word_count, WordsAre}
use Rattle.rules.specs.Statements.{choices, seat, Plans, Stands}
use Rattle.rules.proofs.Sheets.{sheets_stand_lem}
use Rattle.rules.proofs.CountWords.{words_are}
use Rattle.tree.specs.declared.Sizes.{Sizes}
use Rattle.tree.specs.declared.Node.{Node}
use Rattle.tree.specs.Built.{sizes_of, Laid as TreeLaid, Memory, Begins}
use Rattle.tree.specs.Built as built
use Rattle.tree.specs.declared.Sight.{Sight}
use Rattle.tree.specs.declared.Refusal as T
use Rattle.tree.specs.Compact.{game_as}
use Rattle.tree.specs.Seen.{sights_of}
use Rattle.tree.proofs.Offers.{sights_many}
use Rattle.tree.proofs.Measures.{measured}
use Rattle.plans.specs.declared.Row.{Row}
use Rattle.plans.specs.declared.Refusal as P
use Rattle.plans.specs.Plan.{plan_of}
use Rattle.plans.specs.Bases.{size_of}
use Rattle.plans.proofs.Planned.{plans_stand_lem}
use Rattle.worst.specs.Whole.{Whole}
use Rattle.bracket.specs.Chairs.{WorstAt, BracketsStand}
use Rattle.bracket.proofs.Turns.{places_turned, rep_turned}
use Rattle.bracket.specs.Turned.{turned_node}
use Rattle.bracket.proofs.Seats.{brackets_stand}
use Rattle.hands.specs.Laid.{Laid}
use Rattle.answers.specs.declared.Opening.{Opening}
use Rattle.answers.specs.Files.{plan_in, plan_length, kept_by, beyond, sized_rival}
use Rattle.answers.specs.declared.Answer.TheVariants.{One}
use Rattle.answers.specs.declared.Kept.{Kept}
use Rattle.answers.specs.Ready.{Begun}
use Rattle.answers.specs.Steps.{Lies, Standing, Roomy}
use Rattle.answers.proofs.Openings.{Fits, tree_admitted, size_small}

-- two shares of a whole, by rows of a and of b: each is at most its own rows of it
share : (v u k a b : ℕ) → v * b + u * a ≤ k * (a * b) → 0 < b → v ≤ k * a
share v u k a b h p = le_of_mul-le-mul_right {m = v} {n = k * a} {k = b} (omega (arith, h)) p

module _ (o : Opening) (r : Begun o) where
  abbrev s : Sheet
  s = o.sheet

  abbrev m : ℕ
  m = o.m

  abbrev z : Sizes
  z = sizes_of s

  fits : Fits z z.places z.house.sights z.guest.sights z.places
  fits = record { places = omega arith; house = omega arith; guest = omega arith; work = omega arith; few = r.few }

  places_here : o.sizes.places ≡ z.places
  places_here = ap (λ (x : Sizes). x.places) r.sizes_are

  pub stands : Stands s m
  stands = sheets_stand_lem s m r.based.deals

  pub seat_words : (w : Player) → words (seat s m w) ≡ word_count s w
  unfolding WordsAre
  seat_words House = (words_are s m r.sound).0
  seat_words Guest = (words_are s m r.sound).1

  pub plan_is : (w : Player) (bytes : List ℕ) (rows : List Row) → plan_in o w bytes ≡ Ok rows → Plans s m w (plan_of rows (choices s w))
  plan_is w bytes rows e = plans_stand_lem s m w bytes rows r.sound e

  pub well : (w : Player) (bytes : List ℕ) (rows : List Row) → plan_in o w bytes ≡ Ok rows → Well m (plan_of rows (choices s w)) (choices s (other w)) (word_count s w) (seat s m w)
  well w bytes rows e =
      let P : ℕ → Type 0 = λ n. Well m (plan_of rows (choices s w)) (choices s (other w)) n (seat s m w) in
      subst P (seat_words w) (stands.fits w (plan_of rows (choices s w)) (plan_is w bytes rows e))

  seat_most : (w : Player) → AtMost (2 * purse s) (seat s m w)
  seat_most House = stands.table
  seat_most Guest = most_turned (2 * purse s) (tree s m)

  seat_places : (w : Player) → places (seat s m w) ≡ (sizes_of s).places
  seat_places House = (measured s r.sound).places_are m
  seat_places Guest = places_turned (2 * purse s) (tree s m) ∙ (measured s r.sound).places_are m

  pub some_table : 0 < 2 * purse s
  some_table = let a = r.sound.ante.least in omega arith

  pub few_nodes : (nodes : List Node) → length nodes ≡ o.sizes.places → length nodes < 2 ^ 32
  few_nodes nodes l = let a = places_here in let b = r.few in omega (arith, l, a, b)

  pub whole : (w : Player) (bytes : List ℕ) (rows : List Row) (nodes : List Node) → plan_in o w bytes ≡ Ok rows → Lies o w nodes → length nodes ≡ o.sizes.places →
      2 * purse s * m ^ word_count s w < 2 ^ 62 → Whole (2 * purse s) (seat s m w) (choices s w) (choices s (other w)) nodes rows m (word_count s w) o.sizes.places
  whole w bytes rows nodes e rep l small = record {
    rep = rep;
    well = well w bytes rows e;
    most = seat_most w;
    chosen = stands.some (other w);
    base = r.based.least;
    small = small;
    some = some_table;
    fits = (let a = seat_places w in let b = places_here in omega (arith, a, b));
    few = few_nodes nodes l;
  }

  begins : (w : Player) (n : ℕ) (z0 z1 : List Sight) → n ≡ length (sights_of w (game_as s)) → Begins (sights_of w (game_as s)) z0 z1 → take n z1 ≡ sights_of w (game_as s)
  begins w n z0 z1 e b = ap (take n) b ∙ take_at (sights_of w (game_as s)) (drop (length (sights_of w (game_as s))) z0) n (sym e)

  pub standing : (n0 n1 : List Node) (h0 h1 g0 g1 : List Sight) → TreeLaid s n0 n1 h0 h1 g0 g1 → Standing o n1 h1 g1
  standing n0 n1 h0 h1 g0 g1 l = record {
    rep = l.stands m;
    house_are = begins House o.sizes.house.sights h0 h1 (ap (λ (z : Sizes). z.house.sights) r.sizes_are ∙ sights_many s r.sound House) l.house_are;
    guest_are = begins Guest o.sizes.guest.sights g0 g1 (ap (λ (z : Sizes). z.guest.sights) r.sizes_are ∙ sights_many s r.sound Guest) l.guest_are;
  }

  -- the tree is written into memory of that length
  pub written : (res : Result Sizes T.Refusal) (n0 n1 : List Node) (h0 h1 g0 g1 : List Sight) → Roomy o.sizes n0 h0 g0 →
      res ≡ built.admitted (sizes_of s) (length n0) (length h0) (length g0) → Memory s res n0 n1 h0 h1 g0 g1 → Standing o n1 h1 g1
  written res n0 n1 h0 h1 g0 g1 l e mem =
      let ln : length n0 ≡ z.places = l.places ∙ places_here in
      let lh : length h0 ≡ z.house.sights = l.ours ∙ ap (λ (x : Sizes). x.house.sights) r.sizes_are in
      let lg : length g0 ≡ z.guest.sights = l.theirs ∙ ap (λ (x : Sizes). x.guest.sights) r.sizes_are in
      let q : res ≡ Ok z = e ∙ (λ i. built.admitted z (ln i) (lh i) (lg i)) ∙ tree_admitted z _ _ _ _ fits in
      let P : Result Sizes T.Refusal → Type 0 = λ v. Memory s v n0 n1 h0 h1 g0 g1 in
      standing n0 n1 h0 h1 g0 g1 (subst P q mem)

  -- the same of vectors of these lengths, over the whole of which it is written
  pub record Stored (nodes : List Node) (house guest : List Sight) : Type 0 where
    pub stands : Lies o House nodes
    pub places : length nodes ≡ o.sizes.places
    pub ours : house ≡ sights_of House (game_as s)
    pub theirs : guest ≡ sights_of Guest (game_as s)

  pub stored : (nodes ns : List Node) (house hs guest gs : List Sight) (n h g : ℕ) → Standing o nodes house guest → length nodes ≡ n → length house ≡ h → length guest ≡ g →
      n ≡ o.sizes.places → h ≡ o.sizes.house.sights → g ≡ o.sizes.guest.sights → Stored (take n (nodes ++ drop (length nodes) ns)) (take h (house ++ drop (length house) hs)) (take g (guest ++ drop (length guest) gs))
  stored nodes ns house hs guest gs n h g w en eh eg ln lh lg =
      record {
        stands = subst (Lies o House) (sym (take_at nodes (drop (length nodes) ns) n en)) w.rep;
        places = ap (λ (v : List Node). length v) (take_at nodes (drop (length nodes) ns) n en) ∙ en ∙ ln;
        ours = take_at house (drop (length house) hs) h eh ∙ sym (take_all o.sizes.house.sights house (omega (arith, eh, lh))) ∙ w.house_are;
        theirs = take_at guest (drop (length guest) gs) g eg ∙ sym (take_all o.sizes.guest.sights guest (omega (arith, eg, lg))) ∙ w.guest_are;
      }

  -- the same with the code's own terms for the words and the row's length
  pub whole_at : (w : Player) (bytes : List ℕ) (rows : List Row) (nodes : List Node) (n space : ℕ) → plan_in o w bytes ≡ Ok rows → n ≡ word_count s w → space ≡ o.sizes.places →
      Lies o w nodes → length nodes ≡ o.sizes.places → 2 * purse s * m ^ word_count s w < 2 ^ 62 → Whole (2 * purse s) (seat s m w) (choices s w) (choices s (other w)) nodes rows m n space
  whole_at w bytes rows nodes n space e en es rep l small =
      let B : ℕ → Type 0 = λ v. Whole (2 * purse s) (seat s m w) (choices s w) (choices s (other w)) nodes rows m v space in
      let C : ℕ → Type 0 = λ v. Whole (2 * purse s) (seat s m w) (choices s w) (choices s (other w)) nodes rows m (word_count s w) v in
      subst B (sym en) (subst C (sym es) (whole w bytes rows nodes e rep l small))

  pub kept_is : (w : Player) (rows : List Row) (n v h : ℕ) → n ≡ word_count s w → v ≡ worst m (plan_of rows (choices s w)) (choices s (other w)) n (seat s m w) → h ≡ m ^ n → record { worst = v; hands = h } ≡ kept_by o w rows
  kept_is w rows n v h en ev eh =
      (λ i. record { worst = ev i; hands = eh i }) ∙ (λ i. record { worst = worst m (plan_of rows (choices s w)) (choices s (other w)) (en i) (seat s m w); hands = m ^ en i })

  -- what is kept is the worst
  pub worst_at : (w : Player) (bytes : List ℕ) (rows : List Row) → plan_in o w bytes ≡ Ok rows → WorstAt s m w (plan_of rows (choices s w)) (kept_by o w rows).worst
  worst_at w bytes rows e =
      let plan = plan_of rows (choices s w) in
      let P : ℕ → Type 0 = λ v. Worst m (words (seat s m w)) plan (choices s (other w)) (seat s m w) v in
      record {
        plans = plan_is w bytes rows e;
        worst = subst P (ap (λ n. worst m plan (choices s (other w)) n (seat s m w)) (seat_words w)) (stands.reckoned w plan (plan_is w bytes rows e));
      }

  -- both worsts are small enough for the verdict
  bars : (b c : List ℕ) (rows rivals : List Row) → plan_in o House b ≡ Ok rows → plan_in o Guest c ≡ Ok rivals →
      (kept_by o House rows).worst * m ^ word_count s Guest + (kept_by o Guest rivals).worst * m ^ word_count s House ≤ 2 * purse s * (m ^ word_count s House * m ^ word_count s Guest)
  unfolding BracketsStand
  bars b c rows rivals e f =
      let h = (brackets_stand s m r.based.deals (let l = r.based.least in omega arith)).bars_house (plan_of rivals (choices s Guest)) (kept_by o Guest rivals).worst (worst_at Guest c rivals f) (plan_of rows (choices s House)) (kept_by o House rows).worst (worst_at House b rows e) in
      let P : ℕ → ℕ → Type 0 = λ x y. (kept_by o House rows).worst * m ^ y + (kept_by o Guest rivals).worst * m ^ x ≤ 2 * purse s * m ^ (x + y) in
      let Q : ℕ → Type 0 = λ x. P x (words (seat s m Guest)) in
      let R : ℕ → Type 0 = λ n. (kept_by o House rows).worst * m ^ word_count s Guest + (kept_by o Guest rivals).worst * m ^ word_count s House ≤ 2 * purse s * n in
      subst R (pow-add m (word_count s House) (word_count s Guest)) (subst (P (word_count s House)) (seat_words Guest) (subst Q (seat_words House) h))

  positive : (n : ℕ) → 0 < m ^ n
  positive n = one-le-pow n m (let l = r.based.least in omega arith)

  pub low_house : (b c : List ℕ) (rows rivals : List Row) → plan_in o House b ≡ Ok rows → plan_in o Guest c ≡ Ok rivals → (kept_by o House rows).worst ≤ 2 * purse s * m ^ word_count s House
  low_house b c rows rivals e f = share (kept_by o House rows).worst (kept_by o Guest rivals).worst (2 * purse s) (m ^ word_count s House) (m ^ word_count s Guest) (bars b c rows rivals e f) (positive (word_count s Guest))

  pub low_guest : (b c : List ℕ) (rows rivals : List Row) → plan_in o House b ≡ Ok rows → plan_in o Guest c ≡ Ok rivals → (kept_by o Guest rivals).worst ≤ 2 * purse s * m ^ word_count s Guest
  low_guest b c rows rivals e f =
      let h = bars b c rows rivals e f in
      share (kept_by o Guest rivals).worst (kept_by o House rows).worst (2 * purse s) (m ^ word_count s Guest) (m ^ word_count s House) (omega (arith, h)) (positive (word_count s House))

  pub few_sights : (w : Player) → length (sights_of w (game_as s)) < 2 ^ 32
  few_sights House = let a = sights_many s r.sound House in let b = r.few_house in omega (arith, a, b)
  few_sights Guest = let a = sights_many s r.sound Guest in let b = r.few_guest in omega (arith, a, b)

  -- the sizes that the file was admitted with
  pub words_there : o.sizes.guest.words ≡ word_count s Guest
  words_there = ap (λ (z : Sizes). z.guest.words) r.sizes_are

  pub table_is : o.sizes.table ≡ 2 * purse s
  table_is = ap (λ (z : Sizes). z.table) r.sizes_are

  pub rival_small : (k : ℕ) → Ok k ≡ size_of o.sizes.table m o.sizes.guest.words → 2 * purse s * m ^ word_count s Guest < 2 ^ 62
  rival_small k e = size_small (2 * purse s) m (word_count s Guest) k (e ∙ ap (λ t. size_of t m o.sizes.guest.words) table_is ∙ ap (size_of (2 * purse s) m) words_there)

  -- the nodes that are turned hold the turned tree
  pub turned_rep : (nodes nodes' : List Node) → nodes' ≡ map turned_node nodes → Lies o House nodes → Lies o Guest nodes'
  turned_rep nodes nodes' e rep =
      subst (Lies o Guest) (sym e) (rep_turned (2 * purse s) m nodes 0 (tree s m) rep stands.table)

  -- the code's steps from the bytes after m on are those of a definition that cuts the plan off
  pub to_plan : {X : Type 0} (F : List ℕ → Result (List Row) P.Refusal → X) (res : Result (List Row) P.Refusal) (rest part more : List ℕ) →
      part ≡ take (plan_length o House) rest → more ≡ drop (plan_length o House) rest → plan_in o House part ≡ res →
      F more res ≡ F (drop (plan_length o House) rest) (plan_in o House (take (plan_length o House) rest))
  to_plan F res rest part more ep em er =
      let q : res ≡ plan_in o House (take (plan_length o House) rest) = sym er ∙ ap (plan_in o House) ep in
      λ i. F (em i) (q i)

  -- nothing follows the plan; or something does
  pub ends_here : (k : Kept) (l : List ℕ) → length l ≡ 0 → One o.sizes k ≡ beyond o k l
  ends_here k [] e = refl
  ends_here k (b ∷ l) e = absurd (omega arith)

  pub goes_on : (k : Kept) (l : List ℕ) → (length l ≡ 0 → ⊥) → sized_rival o k l (size_of o.sizes.table m (word_count s Guest)) ≡ beyond o k l
  goes_on k [] h = absurd (h refl)
  goes_on k (b ∷ l) h = refl

  pub laid_at : (bytes : List ℕ) (rows : List Row) (nodes nodes' : List Node) → plan_in o House bytes ≡ Ok rows → nodes' ≡ nodes → Lies o House nodes →
      Laid (2 * purse s) m (word_count s House) (choices s House) (choices s Guest) rows nodes' 0 (tree s m)
  laid_at bytes rows nodes nodes' e en rep =
      let P : List Node → Type 0 = λ v. Laid (2 * purse s) m (word_count s House) (choices s House) (choices s Guest) rows v 0 (tree s m) in
      subst P (sym en) (record { lies = rep; fits = well House bytes rows e })

pub power_small : (k x : ℕ) → 0 < k → k * x < 2 ^ 62 → x < 2 ^ 62
power_small k x h l = grind arith
