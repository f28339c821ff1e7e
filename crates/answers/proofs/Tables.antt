-- What is promised of the hands that are played holds. Assumes nothing.
use Rattle.std.proofs.Common.{◌≡◌, ℕ, ◌^◌, ◌<◌, List, [], ◌∷◌, ◌++◌, take, Ok, Err, codes, Result, sym, refl, ap, ◌∙◌, append_assoc, append-nil}
use Rattle.answers.specs.Text.{line}
use Rattle.cards.specs.Played.{Outcome}
use Rattle.cards.specs.Promise.{WordsFall, Well}
use Rattle.cards.specs.Table.{PlayedIsAWay, MatchHolds, MatchIsMet}
use Rattle.cards.proofs.WordsFall.{words_fall}
use Rattle.cards.proofs.PlayedWay.{played_is_a_way}
use Rattle.cards.proofs.Guests.{match_holds, match_is_met}
use Rattle.rules.specs.declared.Player.TheVariants.{House, Guest}
use Rattle.rules.specs.declared.Ends.{Ends}
use Rattle.rules.specs.Counts.{word_count}
use Rattle.rules.specs.Statements.{choices}
use Rattle.plans.specs.declared.Row.{Row as Weights}
use Rattle.hands.specs.declared.Refusal as H
use Rattle.hands.specs.Refused.{outcome_of}
use Rattle.hands.specs.Laid.{Shared}
use Rattle.hands.specs.Match.{outcomes_of, hands_of}
use Rattle.answers.specs.declared.Opening.{Opening}
use Rattle.answers.specs.Files.{past_m, plan_length, plan_in}
use Rattle.answers.specs.Ready.{Begun}
use Rattle.answers.specs.Promised.{plan_read}
use Rattle.answers.specs.Hands.{hand_line, outcome_line, hand_lines, play_plan, table_of, tree_of, AtTable, PlaysIn}
use Rattle.answers.proofs.Wholes.{stands, well}
use Rattle.answers.proofs.Begins.{opened_ready}
use Rattle.answers.proofs.Promises.{keeps, way_played}

at_table : (o : Opening) (r : Begun o) (bytes : List ℕ) (rows : List Weights) → plan_in o House bytes ≡ Ok rows → AtTable o rows
unfolding PlayedIsAWay WordsFall MatchHolds MatchIsMet
at_table o r bytes rows e =
    let m = o.m in
    let n = word_count o.sheet House in
    let plan = plan_read o House rows in
    let counts = choices o.sheet Guest in
    let t = tree_of o in
    let w : Well m plan counts n t = well o r House bytes rows e in
    record {
      keeps = keeps o r House bytes rows e;
      ways = way_played o r House bytes rows e;
      is_a_way = played_is_a_way m n plan counts t w (stands o r).fresh ((stands o r).some Guest);
      sums = words_fall m n plan counts t w;
      holds = match_holds m n (table_of o) plan counts t w ((stands o r).some Guest) (stands o r).table;
      met = match_is_met m n (table_of o) plan counts t w ((stands o r).some Guest);
    }

pub plays : (room : ℕ) (bytes : List ℕ) → room < 2 ^ 32 → PlaysIn room bytes
plays room bytes rl o rows eo er = at_table o (opened_ready room bytes o rl eo) (take (plan_length o House) (past_m bytes)) rows er

-- a line that is printed is that of the outcome
pub same_line : (k : ℕ) (r : Result Ends H.Refusal) → Shared k r → hand_line r ≡ outcome_line k (outcome_of r)
same_line k (Ok e) h = ap (λ (x : Ends). hand_line (Ok x)) h
same_line k (Err e) h = refl

-- one more line is printed
pub step_lines : (k : ℕ) (out out' : List ℕ) (r : Result Ends H.Refusal) (os os' : List Outcome) → out' ≡ out ++ line (hand_line r) [] → Shared k r → os ≡ outcome_of r ∷ os' →
    out' ++ hand_lines k os' ≡ out ++ hand_lines k os
step_lines k out out' r os os' eo sh es =
    let X = hand_lines k os' in
    let h = hand_line r in
    ap (λ l. l ++ X) eo ∙ append_assoc out (line h []) X ∙ ap (λ l. out ++ l) (append_assoc h (codes "\n" ++ []) X)
    ∙ ap (λ l. out ++ line l X) (same_line k r sh) ∙ ap (λ l. out ++ hand_lines k l) (sym es)

-- nothing is left to print
pub printed : (o : Opening) (rows : List Weights) (out out' input : List ℕ) → out ≡ [] →
    out' ++ hand_lines (table_of o) (outcomes_of o.m (plan_read o House rows) (tree_of o) []) ≡ out ++ hand_lines (table_of o) (outcomes_of o.m (plan_read o House rows) (tree_of o) input) →
    out' ≡ play_plan o input (Ok rows)
unfolding hands_of
printed o rows out out' input eo e =
    sym (append-nil out') ∙ e ∙ ap (λ l. l ++ hand_lines (table_of o) (outcomes_of o.m (plan_read o House rows) (tree_of o) input)) eo
