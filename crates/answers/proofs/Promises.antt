-- What is promised of the answer to a file holds. Assumes nothing.
use Rattle.std.proofs.Common.{◌≡◌, ℕ, ◌+◌, ◌*◌, ◌^◌, ◌<◌, ◌≤◌, List, [], ◌∷◌, ◌++◌, take, drop, Ok, Err, Result, sym, refl, ap, ◌∙◌, subst, append-nil, arith}
use Rattle.cards.specs.Game.{Tree, Plan, Way, sum}
use Rattle.cards.specs.Match.{hand}
use Rattle.cards.specs.Played.{done, played, has, trace, Row}
use Rattle.cards.specs.Promise.{Legal, Worst, FloorHolds, WordsFall, OneWorst}
use Rattle.cards.specs.Reckon.{worst}
use Rattle.cards.specs.Table.{WaysArePlayed}
use Rattle.cards.proofs.FloorHolds.{floor_holds}
use Rattle.cards.proofs.WordsFall.{words_fall}
use Rattle.cards.proofs.OneWorst.{one_worst}
use Rattle.cards.proofs.WaysPlayed.{ways_are_played}
use Rattle.cards.proofs.Sums.{sum_rows_same}
use Rattle.rules.specs.declared.Player.{Player}
use Rattle.rules.specs.declared.Player.TheVariants.{House, Guest}
use Rattle.rules.specs.Play.{other, purse}
use Rattle.rules.specs.Counts.{word_count}
use Rattle.rules.specs.Statements.{choices, seat}
use Rattle.plans.specs.declared.Row.{Row as Weights}
use Rattle.plans.specs.declared.Refusal as P
use Rattle.plans.specs.Bases.{size_of}
use Rattle.bracket.specs.Verdicts.{verdict_of}
use Rattle.bracket.specs.Chairs.{BracketsStand}
use Rattle.bracket.proofs.Seats.{brackets_stand}
use Rattle.answers.specs.declared.Refusal.{Refusal}
use Rattle.answers.specs.declared.Opening.{Opening}
use Rattle.answers.specs.declared.Kept.{Kept}
use Rattle.answers.specs.declared.Answer.{Answer}
use Rattle.answers.specs.declared.Answer.TheVariants.{Refused, One, Both}
use Rattle.answers.specs.Files.{opened_in, past_m, plan_length, plan_in, kept_by, both, with_rival, sized_rival, beyond, with_plan, with_opening}
use Rattle.answers.specs.Ready.{Begun}
use Rattle.answers.specs.Promised.{plan_read, played_sum, Keeps, OnePlanIn, TwoPlansIn, ReckonsIn}
use Rattle.answers.proofs.Wholes.{stands, seat_words, plan_is, well, table_is}
use Rattle.answers.proofs.Begins.{opened_ready}

module _ (o : Opening) (r : Begun o) (w : Player) (bytes : List ℕ) (rows : List Weights) (e : plan_in o w bytes ≡ Ok rows) where
  abbrev m : ℕ
  m = o.m

  abbrev n : ℕ
  n = word_count o.sheet w

  abbrev t : Tree
  t = seat o.sheet m w

  abbrev plan : Plan
  plan = plan_read o w rows

  abbrev counts : ℕ → ℕ
  counts = choices o.sheet (other w)

  the_worst : Worst m n plan counts t (kept_by o w rows).worst
  the_worst =
      let P : ℕ → Type 0 = λ k. Worst m k plan counts t (worst m plan counts k t) in
      subst P (seat_words o r w) ((stands o r).reckoned w plan (plan_is o r w bytes rows e))

  -- a hand that is played by a way ends as the way says
  pub way_played : (way : Way) → Legal counts way → (ws : List ℕ) → Row m n ws → played m plan t (trace plan way t ws) ws ≡ done (hand plan way t ws)
  unfolding WaysArePlayed
  way_played way l ws row =
      ap (λ c. played m plan t c ws) (sym (append-nil (trace plan way t ws))) ∙ ap (played m plan t (trace plan way t ws ++ [])) (sym (append-nil ws))
      ∙ ways_are_played m n plan counts t (well o r w bytes rows e) way l ws row [] []

  one_hand : (way : Way) → Legal counts way → (ws : List ℕ) → Row m n ws → has (2 * purse o.sheet) (played m plan t (trace plan way t ws) ws) ≡ hand plan way t ws
  one_hand way l ws row = ap (has (2 * purse o.sheet)) (way_played way l ws row)

  played_is : (way : Way) → Legal counts way → played_sum o w rows way ≡ sum m plan way t n
  unfolding WordsFall
  played_is way l = sum_rows_same m n (one_hand way l) ∙ words_fall m n plan counts t (well o r w bytes rows e) way l

  pub keeps : Keeps o w rows (kept_by o w rows)
  unfolding FloorHolds OneWorst
  keeps = record {
    plans = plan_is o r w bytes rows e;
    worst = the_worst;
    low = λ way l. subst (λ v. (kept_by o w rows).worst ≤ v) (sym (played_is way l)) (floor_holds m n (kept_by o w rows).worst plan counts t the_worst.floor way l);
    way = the_worst.way;
    legal = the_worst.legal;
    met = played_is the_worst.way the_worst.legal ∙ the_worst.reached;
    only = λ u q. one_worst m n u (kept_by o w rows).worst plan counts t q the_worst;
    hands = refl;
  }

module _ (room : ℕ) (bytes : List ℕ) (rl : room < 2 ^ 32) where
  -- what is promised of an answer
  abbrev Kind : Answer → Type 0
  Kind (Refused e) = Unit {0}
  Kind (One z k) = OnePlanIn room bytes z k
  Kind (Both z k r v) = TwoPlansIn room bytes z k r v

  module _ (o : Opening) (eo : opened_in room bytes ≡ Ok o) (rows : List Weights) (er : plan_in o House (take (plan_length o House) (past_m bytes)) ≡ Ok rows) where
    abbrev begun : Begun o
    begun = opened_ready room bytes o rl eo

    abbrev kept : Kept
    kept = kept_by o House rows

    abbrev rest : List ℕ
    rest = drop (plan_length o House) (past_m bytes)

    two_plans : (rivals : List Weights) → plan_in o Guest rest ≡ Ok rivals → Kind (both o kept (kept_by o Guest rivals))
    unfolding BracketsStand
    two_plans rivals es =
        let s = o.sheet in
        let m = o.m in
        let wh = seat_words o begun House in
        let wg = seat_words o begun Guest in
        let tb = table_is o begun in
        record {
          opening = o;
          rows = rows;
          rivals = rivals;
          begins = eo;
          reads = er;
          reads_rival = es;
          sizes = refl;
          keeps = keeps o begun House (take (plan_length o House) (past_m bytes)) rows er;
          rival_keeps = keeps o begun Guest rest rivals es;
          verdict = (λ i. verdict_of (kept.worst * m ^ sym wg i + (kept_by o Guest rivals).worst * m ^ sym wh i) (tb i * m ^ sym wh i * m ^ sym wg i));
          brackets = brackets_stand s m begun.based.deals (let q = begun.based.least in omega arith);
        }

    at_rival : (q : Result (List Weights) P.Refusal) → plan_in o Guest rest ≡ q → Kind (with_rival o kept q)
    at_rival (Ok rivals) es = two_plans rivals es
    at_rival (Err e) es = tt

    at_rest : (l : List ℕ) → rest ≡ l → Kind (beyond o kept l)
    at_rest [] en = record { opening = o; rows = rows; begins = eo; reads = er; ends = en; sizes = refl; keeps = keeps o begun House (take (plan_length o House) (past_m bytes)) rows er }
    at_rest (b ∷ l) en = at_size (size_of o.sizes.table o.m (word_count o.sheet Guest))
      where
        at_size : (q : Result ℕ P.Refusal) → Kind (sized_rival o kept (b ∷ l) q)
        at_size (Ok n) = at_rival (plan_in o Guest (b ∷ l)) (ap (plan_in o Guest) en)
        at_size (Err e) = tt

  at_plan : (o : Opening) → opened_in room bytes ≡ Ok o → (q : Result (List Weights) P.Refusal) → plan_in o House (take (plan_length o House) (past_m bytes)) ≡ q → Kind (with_plan o (drop (plan_length o House) (past_m bytes)) q)
  at_plan o eo (Ok rows) er = at_rest o eo rows er (drop (plan_length o House) (past_m bytes)) refl
  at_plan o eo (Err e) er = tt

  at_opening : (q : Result Opening Refusal) → opened_in room bytes ≡ q → Kind (with_opening (past_m bytes) q)
  at_opening (Ok o) eo = at_plan o eo (plan_in o House (take (plan_length o House) (past_m bytes))) refl
  at_opening (Err e) eo = tt

  pub reckons : ReckonsIn room bytes
  reckons =
      let kind = at_opening (opened_in room bytes) refl in
      record { one = λ z k h. subst Kind h kind; two = λ z k r v h. subst Kind h kind }
