-- A hand, place by place.
use Rattle.std.proofs.Common.{◌≡◌, ℕ, zero, suc, ◌+◌, ◌<◌, ltb, List, [], ◌∷◌, length, drop, Some, None, Ok, Err, sym, refl, ap, ◌∙◌, subst, inl, inr, add-one, arith}
use Rattle.std.proofs.lemmas.Bool.{lt-ltb, cases_Bool}
use Rattle.rules.specs.declared.Ends.{Ends}
use Rattle.cards.specs.Game.{Tree, over, deal, ours, theirs, Trees, Plan, many, total, pick}
use Rattle.cards.specs.Promise.{Well, Wells, well_deal, well_ours, well_theirs}
use Rattle.cards.specs.Played.{Outcome, done, refused, plays, lands}
use Rattle.cards.specs.Reckon.{places_all}
use Rattle.tree.proofs.Reps.{rep_size}
use Rattle.tree.specs.Rep.{Rep, Reps, Weighed, node_at, ends_of}
use Rattle.tree.specs.declared.Sight.{Sight}
use Rattle.tree.specs.declared.Place.TheVariants.{Over, Deal, House, Guest}
use Rattle.tree.specs.declared.Node.{Node}
use Rattle.hands.specs.Refused.{number_of, place_of}
use Rattle.hands.specs.Source.{unfit}
use Rattle.hands.specs.declared.Refusal.{Refusal}
use Rattle.hands.specs.declared.Refusal.TheVariants.{HighWord, FewWords}
use Rattle.hands.specs.Laid.{Ended}
use Rattle.hands.specs.Steps.{Falling, Fallen, Chooses}
use Rattle.hands.proofs.Kids.{kids_take}

-- a hand whose outcome is o has come to the place at i
pub record Stage (k m : ℕ) (plan : Plan) (counts : ℕ → ℕ) (nodes : List Node) (o : Outcome) (i made used : ℕ) (chosen words : List ℕ) : Type 0 where
  pub n : ℕ
  pub tree : Tree
  pub lies : Rep k m nodes i tree
  pub fits : Well m plan counts n tree
  pub goes : o ≡ plays m plan tree made used chosen words

-- what follows a word
abbrev pub heed : ℕ → ℕ → List ℕ → (ℕ → List ℕ → Outcome) → Outcome
heed m d [] f = refused 10 d
heed m d (x ∷ words) f = pick (ltb x m) (f x words) (refused 9 d)

-- at a place where a word is drawn
pub record Drawing (m : ℕ) (plan : Plan) (counts : ℕ → ℕ) (nodes : List Node) (o : Outcome) (i made used : ℕ) (chosen words : List ℕ) : Type 0 where
  pub n : ℕ
  pub ws : List ℕ
  pub ts : Trees
  pub all : total ws ≡ m
  pub long : length ws ≡ many ts
  pub fits : Wells m plan counts n ts
  pub size : (node_at nodes i).size ≡ suc (places_all ts)
  pub goes : o ≡ heed m used words (λ x rest. lands m plan ts ws x made (suc used) chosen rest)

-- at a choice of the guest
pub record Choosing (k m : ℕ) (plan : Plan) (counts : ℕ → ℕ) (nodes : List Node) (o : Outcome) (i made used : ℕ) (chosen words : List ℕ) : Type 0 where
  pub n : ℕ
  pub j : ℕ
  pub ts : Trees
  pub lie : Reps k m nodes (i + 1) ts
  pub fits : Wells m plan counts n ts
  pub size : (node_at nodes i).size ≡ suc (places_all ts)
  pub goes : o ≡ plays m plan (theirs j ts) made used chosen words

module _ (k m : ℕ) (plan : Plan) (counts : ℕ → ℕ) (nodes : List Node) (o : Outcome) (i made used : ℕ) (chosen words : List ℕ) where
  over_ends : (t : Tree) → Rep k m nodes i t → o ≡ plays m plan t made used chosen words → (e : Ends) → (node_at nodes i).place ≡ Over e → Ended k o (Ok e)
  over_ends (over g) h go e p =
      let q : Over e ≡ Over (ends_of k g) = sym p ∙ h.place in
      let u : e ≡ ends_of k g = cc in
      record { outcome = ap (λ v. done v.house) u ∙ sym go; shared = u ∙ ap (λ v. ends_of k v.house) (sym u) }
  over_ends (deal ws ts) h go e p = let q : Over e ≡ Deal h.0 = sym p ∙ h.1.0.place in let z : ◌≡◌ {A = ℕ} 0 1 = cc in absurd (omega arith)
  over_ends (ours j ts) h go e p = let q : Over e ≡ House h.0 j = sym p ∙ h.1.0.place in let z : ◌≡◌ {A = ℕ} 0 1 = cc in absurd (omega arith)
  over_ends (theirs j ts) h go e p = let q : Over e ≡ Guest h.0 j = sym p ∙ h.1.0.place in let z : ◌≡◌ {A = ℕ} 0 1 = cc in absurd (omega arith)

  pub stage_over : Stage k m plan counts nodes o i made used chosen words → (e : Ends) → (node_at nodes i).place ≡ Over e → Ended k o (Ok e)
  stage_over s e p = over_ends s.tree s.lies s.goes e p

heeds_deal :
    (m : ℕ) (plan : Plan) (ws : List ℕ) (ts : Trees) (made used : ℕ) (chosen words : List ℕ) →
    plays m plan (deal ws ts) made used chosen words ≡ heed m used words (λ x rest. lands m plan ts ws x made (suc used) chosen rest)
heeds_deal m plan ws ts made used chosen [] = refl
heeds_deal m plan ws ts made used chosen (x ∷ words) = refl

heeds_ours :
    (m : ℕ) (plan : Plan) (j : ℕ) (ts : Trees) (made used : ℕ) (chosen words : List ℕ) →
    plays m plan (ours j ts) made used chosen words ≡ heed m used words (λ x rest. lands m plan ts (plan j) x made (suc used) chosen rest)
heeds_ours m plan j ts made used chosen [] = refl
heeds_ours m plan j ts made used chosen (x ∷ words) = refl

module _ (k m : ℕ) (plan : Plan) (counts : ℕ → ℕ) (nodes : List Node) (o : Outcome) (i made used : ℕ) (chosen words : List ℕ) where
  deal_draws :
      (n : ℕ) (t : Tree) → Rep k m nodes i t → Well m plan counts n t → o ≡ plays m plan t made used chosen words → (parts : ℕ) → (node_at nodes i).place ≡ Deal parts →
      (d : Drawing m plan counts nodes o i made used chosen words) × Weighed k m parts nodes (i + 1) d.ws d.ts
  deal_draws n (over g) h f go parts p = let q : Deal parts ≡ Over (ends_of k g) = sym p ∙ h.place in let z : ◌≡◌ {A = ℕ} 0 1 = cc in absurd (omega arith)
  deal_draws n (ours j ts) h f go parts p = let q : Deal parts ≡ House h.0 j = sym p ∙ h.1.0.place in let z : ◌≡◌ {A = ℕ} 0 1 = cc in absurd (omega arith)
  deal_draws n (theirs j ts) h f go parts p = let q : Deal parts ≡ Guest h.0 j = sym p ∙ h.1.0.place in let z : ◌≡◌ {A = ℕ} 0 1 = cc in absurd (omega arith)
  deal_draws zero (deal ws ts) h f go parts p = elim f [ ]
  deal_draws (suc n) (deal ws ts) h (well_deal all long fits) go parts p =
      let q : Deal parts ≡ Deal h.0 = sym p ∙ h.1.0.place in
      let u : h.0 ≡ parts = cc in (
        record {
          n = n;
          ws = ws;
          ts = ts;
          all = all;
          long = long;
          fits = fits;
          size = h.1.0.size;
          goes = go ∙ heeds_deal m plan ws ts made used chosen words;
        },
        subst (λ v. Weighed k m v nodes (i + 1) ws ts) u h.1.1,
      )

  pub stage_deal :
      Stage k m plan counts nodes o i made used chosen words → (parts : ℕ) → (node_at nodes i).place ≡ Deal parts →
      (d : Drawing m plan counts nodes o i made used chosen words) × Weighed k m parts nodes (i + 1) d.ws d.ts
  stage_deal s parts p = deal_draws s.n s.tree s.lies s.fits s.goes parts p

  ours_draws :
      (n : ℕ) (t : Tree) → Rep k m nodes i t → Well m plan counts n t → o ≡ plays m plan t made used chosen words → (z : Sight) (j : ℕ) → (node_at nodes i).place ≡ House z j →
      (d : Drawing m plan counts nodes o i made used chosen words) × (d.ws ≡ plan j) × Reps k m nodes (i + 1) d.ts
  ours_draws n (over g) h f go z j p = let q : House z j ≡ Over (ends_of k g) = sym p ∙ h.place in let z : ◌≡◌ {A = ℕ} 0 1 = cc in absurd (omega arith)
  ours_draws n (deal ws ts) h f go z j p = let q : House z j ≡ Deal h.0 = sym p ∙ h.1.0.place in let z : ◌≡◌ {A = ℕ} 0 1 = cc in absurd (omega arith)
  ours_draws n (theirs l ts) h f go z j p = let q : House z j ≡ Guest h.0 l = sym p ∙ h.1.0.place in let z : ◌≡◌ {A = ℕ} 0 1 = cc in absurd (omega arith)
  ours_draws zero (ours l ts) h f go z j p = elim f [ ]
  ours_draws (suc n) (ours l ts) h (well_ours all long fits) go z j p =
      let q : House z j ≡ House h.0 l = sym p ∙ h.1.0.place in
      let u : l ≡ j = cc in (
        record {
          n = n;
          ws = plan l;
          ts = ts;
          all = all;
          long = long;
          fits = fits;
          size = h.1.0.size;
          goes = go ∙ heeds_ours m plan l ts made used chosen words;
        },
        ap plan u,
        h.1.1,
      )

  pub stage_ours :
      Stage k m plan counts nodes o i made used chosen words → (z : Sight) (j : ℕ) → (node_at nodes i).place ≡ House z j →
      (d : Drawing m plan counts nodes o i made used chosen words) × (d.ws ≡ plan j) × Reps k m nodes (i + 1) d.ts
  stage_ours s z j p = ours_draws s.n s.tree s.lies s.fits s.goes z j p

  theirs_choose :
      (n : ℕ) (t : Tree) → Rep k m nodes i t → Well m plan counts n t → o ≡ plays m plan t made used chosen words → (z : Sight) (j : ℕ) → (node_at nodes i).place ≡ Guest z j →
      Choosing k m plan counts nodes o i made used chosen words
  theirs_choose n (over g) h f go z j p = let q : Guest z j ≡ Over (ends_of k g) = sym p ∙ h.place in let z : ◌≡◌ {A = ℕ} 0 1 = cc in absurd (omega arith)
  theirs_choose n (deal ws ts) h f go z j p = let q : Guest z j ≡ Deal h.0 = sym p ∙ h.1.0.place in let z : ◌≡◌ {A = ℕ} 0 1 = cc in absurd (omega arith)
  theirs_choose n (ours l ts) h f go z j p = let q : Guest z j ≡ House h.0 l = sym p ∙ h.1.0.place in let z : ◌≡◌ {A = ℕ} 0 1 = cc in absurd (omega arith)
  theirs_choose n (theirs l ts) h (well_theirs many_is fits) go z j p =
      record { n = n; j = l; ts = ts; lie = h.1.1; fits = fits; size = h.1.0.size; goes = go }

  pub stage_theirs :
      Stage k m plan counts nodes o i made used chosen words → (z : Sight) (j : ℕ) → (node_at nodes i).place ≡ Guest z j →
      Choosing k m plan counts nodes o i made used chosen words
  stage_theirs s z j p = theirs_choose s.n s.tree s.lies s.fits s.goes z j p

heed_unfit : (m d : ℕ) (words : List ℕ) (f : ℕ → List ℕ → Outcome) (e : Refusal) → unfit m d words ≡ Some e → refused (number_of e) (place_of e) ≡ heed m d words f
heed_unfit m d [] f e h = let u : e ≡ FewWords d = cc in ap (λ v. refused (number_of v) (place_of v)) u
heed_unfit m d (x ∷ words) f e h =
    elim (cases_Bool (ltb x m)) [
      | inl t ↦
          (let q : None ≡ Some e = sym (ap (λ b. pick b None (Some (HighWord d))) t) ∙ h in
          let z : ◌≡◌ {A = ℕ} 0 1 = cc in absurd (omega arith))
      | inr t ↦
          (let q : Some (HighWord d) ≡ Some e = sym (ap (λ b. pick b None (Some (HighWord d))) t) ∙ h in
          let u : e ≡ HighWord d = cc in
          ap (λ v. refused (number_of v) (place_of v)) u ∙ sym (ap (λ b. pick b (f x words) (refused 9 d)) t))
    ]

module _ (k m : ℕ) (plan : Plan) (counts : ℕ → ℕ) (nodes : List Node) (o : Outcome) (i made used : ℕ) (chosen words : List ℕ) where
  pub draw_unfit : Drawing m plan counts nodes o i made used chosen words → (e : Refusal) → unfit m used words ≡ Some e → Ended k o (Err e)
  draw_unfit s e h = record { outcome = heed_unfit m used words (λ x rest. lands m plan s.ts s.ws x made (suc used) chosen rest) e h ∙ sym s.goes; shared = tt }

  pub draw_falls : (s : Drawing m plan counts nodes o i made used chosen words) (x : ℕ) → x < m → Falling m s.n plan counts s.ws s.ts x
  draw_falls s x lt = record { inside = omega (arith, s.all); long = s.long; fits = s.fits }

  pub draw_on :
      (s : Drawing m plan counts nodes o i made used chosen words) (x : ℕ) (rest : List ℕ) → words ≡ x ∷ rest → x < m → (r : ℕ) → Fallen k m s.n plan counts nodes s.ws s.ts x r →
      Stage k m plan counts nodes o r made (used + 1) chosen rest
  draw_on s x rest e lt r f =
      let u : o ≡ heed m used (x ∷ rest) (λ y more_words. lands m plan s.ts s.ws y made (suc used) chosen more_words) =
      s.goes ∙ ap (λ v. heed m used v (λ y more_words. lands m plan s.ts s.ws y made (suc used) chosen more_words)) e in
      let b : heed m used (x ∷ rest) (λ y more_words. lands m plan s.ts s.ws y made (suc used) chosen more_words) ≡ lands m plan s.ts s.ws x made (suc used) chosen rest =
      ap (λ t. pick t (lands m plan s.ts s.ws x made (suc used) chosen rest) (refused 9 used)) (lt-ltb x m lt) in
      record {
        n = s.n;
        tree = f.tree;
        lies = f.lies;
        fits = f.fits;
        goes = u ∙ (b ∙ (f.goes made (suc used) chosen rest ∙ ap (λ v. plays m plan f.tree made v chosen rest) (sym (add-one used))));
      }

  pub draw_less :
      (s : Drawing m plan counts nodes o i made used chosen words) (x r : ℕ) → Fallen k m s.n plan counts nodes s.ws s.ts x r → (node_at nodes r).size < (node_at nodes i).size
  draw_less s x r f = omega (arith, rep_size k m nodes r f.tree f.lies, f.fewer, s.size)

module _ (k m : ℕ) (plan : Plan) (counts : ℕ → ℕ) (nodes : List Node) (o : Outcome) (i made used : ℕ) (choices words : List ℕ) where
  pub choose_err :
      (s : Choosing k m plan counts nodes o i made used (drop made choices) words) (e : Refusal) → Chooses k m s.n plan counts nodes s.ts choices made (Err e) → Ended k o (Err e)
  choose_err s e h = record { outcome = sym (s.goes ∙ h s.j used words); shared = tt }

  pub choose_on :
      (s : Choosing k m plan counts nodes o i made used (drop made choices) words) (r : ℕ) → Chooses k m s.n plan counts nodes s.ts choices made (Ok r) →
      Stage k m plan counts nodes o r (made + 1) used (drop (made + 1) choices) words
  choose_on s r h =
      let f = h.1 in
      record {
        n = s.n;
        tree = f.tree;
        lies = f.lies;
        fits = f.fits;
        goes = s.goes
            ∙ (kids_take m plan s.ts choices made h.0 s.j used words
            ∙ (f.goes made used (drop (made + 1) choices) words ∙ ap (λ v. plays m plan f.tree v used (drop (made + 1) choices) words) (sym (add-one made))));
      }

  pub choose_less :
      (s : Choosing k m plan counts nodes o i made used (drop made choices) words) (r : ℕ) → Chooses k m s.n plan counts nodes s.ts choices made (Ok r) → (node_at nodes r).size < (node_at nodes i).size
  choose_less s r h = let f = h.1 in omega (arith, rep_size k m nodes r f.tree f.lies, f.fewer, s.size)
