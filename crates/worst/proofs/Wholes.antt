-- The whole tree.
use Rattle.std.proofs.Common.{◌≡◌, ℕ, ◌+◌, ◌*◌, ◌^◌, ◌<◌, ◌≤◌, List, [], ◌∷◌, ◌++◌, length, ap, append-nil, arith}
use Rattle.cards.specs.Game.{Tree, Trees, Plan}
use Rattle.cards.specs.Floor.{Item}
use Rattle.cards.specs.Promise.{Well, well_over, well_deal, well_ours, well_theirs, Wells, wells_none, wells_more, AtMost, most_over, most_deal, most_ours, most_theirs, AllMost, most_none, most_more}
use Rattle.cards.specs.Reckon.{item, sure, open', worst}
use Rattle.plans.specs.Plan.{plan_of}
use Rattle.plans.specs.declared.Row.{Row}
use Rattle.tree.specs.declared.Node.{Node}
use Rattle.worst.specs.Items.{Told, told_plan, Bounds, Powers, Fit, Fits}
use Rattle.worst.specs.Spread.{Ready, Spread}
use Rattle.worst.specs.Worth.{worth}
use Rattle.worst.specs.Rows.{Rows}
use Rattle.worst.specs.Whole.{Whole}
use Rattle.worst.specs.declared.Entry.{Entry}
use Rattle.worst.specs.declared.Grown.{Grown}
use Rattle.worst.proofs.Sums.{sure_mass, open_room, length_room, entries_length}
use Rattle.worst.proofs.Worths.{open_each, worth_open, worth_le, worth_whole}

module _ (m : ℕ) (plan : Plan) (choices : ℕ → ℕ) (k : ℕ) where
  mutual
    pub fit_of : {n : ℕ} {t : Tree} → Well m plan choices n t → AtMost k t → Fit m plan choices k t n
    fit_of well_over (most_over h) = h
    fit_of (well_deal a b g) (most_deal h) = (a, b, fits_of g h)
    fit_of (well_ours a b g) (most_ours h) = (a, b, fits_of g h)
    fit_of (well_theirs a g) (most_theirs h) = (a, fits_of g h)

    fits_of : {n : ℕ} {ts : Trees} → Wells m plan choices n ts → AllMost k ts → Fits m plan choices k ts n
    fits_of wells_none most_none = tt
    fits_of (wells_more g gs) (most_more h hs) = (fit_of g h, fits_of gs hs)

abbrev pub root : ℕ → Entry
root words = record { times = 1; left = words; at = 0 }

abbrev pub told : ℕ → ℕ → (ℕ → ℕ) → (ℕ → ℕ) → Told
told k words c choices = record { table = k; words = words; counts = c; choices = choices }

once : (k m n : ℕ) → k * (1 * m ^ n) ≡ k * m ^ n
once k m n = ap (λ z. k * z) (omega arith)

module _ (k : ℕ) (t : Tree) (c choices : ℕ → ℕ) (nodes : List Node) (rows : List Row) (m words : ℕ) (powers : List ℕ) (ps : Powers m words powers) where
  pub whole_bounds : (space : ℕ) → Whole k t c choices nodes rows m words space → Bounds (told k words c choices) nodes m powers
  whole_bounds space q = record { some = q.some; base = q.base; below = q.small; few = q.few; chosen = q.chosen; powers_are = ps }

  pub whole_ready : (space : ℕ) → Whole k t c choices nodes rows m words space → Ready (told k words c choices) t nodes rows m powers space 0 (root words)
  whole_ready space q =
      record { bounds = whole_bounds space q; rep = q.rep; fit = fit_of m (plan_of rows c) choices k q.well q.most; left = omega arith; small = rw (once k m words) q.small; fits = (let a = q.fits in omega arith) }

  pub whole_rows : (before later : List Entry) (g : Grown) → Whole k t c choices nodes rows m words (length before) → length later ≡ length before →
      Spread (told k words c choices) t nodes rows m 0 (root words) before later g → Rows (told k words c choices) (open' m (plan_of rows c) t 1 words) nodes rows m powers g.len later
  whole_rows before later g q l s =
      let plan = plan_of rows c in
      let ft = fit_of m plan choices k q.well q.most in
      let ln = entries_length k m nodes s.new _ s.row in
      let lr = length_room (open' m plan t 1 words) in
      let ro = open_room m plan t 1 words in
      let cm = sure_mass m plan choices k t 1 words ft in
      let on = once k m words in
      let sm = q.small in let f = q.fits in let li = s.len_is in
      record { bounds = whole_bounds (length before) q; len_le = omega arith; row = rw s.taken s.row; each = open_each m plan choices k words t 1 words ft (omega arith); small = omega arith; fits = omega arith }

  pub whole_value : (before later : List Entry) (g : Grown) (r : ℕ) → Whole k t c choices nodes rows m words (length before) → length later ≡ length before →
      ((w : Told) (tree : Tree) → Ready w tree nodes rows m powers (length before) 0 (root words) → Spread w tree nodes rows m 0 (root words) before later g) →
      ((w : Told) (xs : List Item) → Rows w xs nodes rows m powers g.len later → r ≡ worth m (told_plan w rows) w.choices xs) → g.sum + r ≡ worst m (plan_of rows c) choices words t
  whole_value before later g r q l s h =
      let plan = plan_of rows c in
      let ft = fit_of m plan choices k q.well q.most in
      let sp = s (told k words c choices) t (whole_ready (length before) q) in
      let w = h (told k words c choices) _ (whole_rows before later g q l sp) in
      let a : worth m plan choices (item 1 words t ∷ []) ≡ (sure m plan t 1 words + 0) + worth m plan choices (open' m plan t 1 words ++ []) =
      worth_open m plan choices k words q.chosen (item 1 words t ∷ []) (ft, omega arith, tt) in
      let b : worth m plan choices (open' m plan t 1 words ++ []) ≡ worth m plan choices (open' m plan t 1 words) = ap (worth m plan choices) (append-nil (open' m plan t 1 words)) in
      let d = worth_whole m plan choices words t in
      let e = sp.sum in omega arith

  pub whole_small : (space v : ℕ) → Whole k t c choices nodes rows m words space → v ≡ worst m (plan_of rows c) choices words t → v < 2 ^ 62
  whole_small space v q e =
      let plan = plan_of rows c in
      let ft = fit_of m plan choices k q.well q.most in
      let a : worth m plan choices (item 1 words t ∷ []) ≤ k * (1 * m ^ words + 0) = worth_le m plan choices k words q.chosen (item 1 words t ∷ []) (ft, omega arith, tt) in
      let b : k * (1 * m ^ words + 0) ≡ k * m ^ words = ap (λ z. k * z) (omega arith) in
      let d = worth_whole m plan choices words t in
      let s = q.small in omega arith
