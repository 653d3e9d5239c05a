use Rattle.std.proofs.Common.{◌∙◌, ◌<◌, ◌≤◌, List, [], ℕ, arith, drop, get_or, length, refl, subst, sym, take}
use Rattle.std.proofs.lemmas.List.{take-append-drop, take_all, take_more}
use Rattle.node_main.specs.DrillSchedule.{DrillState, Drills, begun}
use Rattle.node_main.proofs.DrillLemmas.{begun_calm, drills_more, occurs_length, turn_grows}
use Rattle.node_main.proofs.TallyLemmas.{calm, reported}
use Rattle.node_main.proofs.commands.drill.run_drill.Goals as goal

pub returns-in-Err-clause-stopped : goal.returns-in-Err-clause-stopped
returns-in-Err-clause-stopped c = record {
  front = take c.loop-turn.turn-index c.args.words.now;
  rest = drop c.loop-turn.turn-index c.args.words.now;
  whole = sym (take-append-drop c.loop-turn.turn-index c.args.words.now);
  drilled = record {
    last = c.loop-turn.invariant.0;
    drills = c.loop-turn.invariant.1;
    cluster = c.loop-turn.invariant.3 ∙ sym c.in-Err.ensures.stays;
  };
}

pub loop-turn-preserved : goal.loop-turn-preserved
loop-turn-preserved c =
    let i = c.loop-turn.turn-index in
    let words = c.args.words.now in
    let here : i < length words = omega (arith, c.loop-turn-test.true) in
    let d = c.loop-turn.invariant.0 in
    let after = c.in-Ok.ensures.taken d c.loop-turn.invariant.2 c.loop-turn.invariant.3 in
    let grows = turn_grows d (get_or words i []) after.0 after.1 in (
      after.0,
      rw (take_more words i [] here) (drills_more (begun c.args.cluster.now) (take i words) d (get_or words i []) after.0 c.loop-turn.invariant.1 after.1),
      after.2,
      after.3,
      occurs_length d.cluster _ after.1.answer after.0.cluster after.1.occurs ∙ c.loop-turn.invariant.4,
      omega (arith, grows, c.loop-turn.invariant.5),
      omega (arith, grows, c.loop-turn.invariant.6),
      omega (arith, grows, c.loop-turn.invariant.7),
    )

-- every turn was taken
whole : (s : DrillState) (words : List (List ℕ)) (n : ℕ) (d : DrillState) → length words ≤ n → Drills s (take n words) d → Drills s words d
whole s words n d past drills = subst (λ (ws : List (List ℕ)). Drills s ws d) (take_all n words past) drills

pub returns-clause-reports : goal.returns-clause-reports
returns-clause-reports c =
    reported c.drill_report.result c.args.cluster.now c.loop-turn.cluster c.args.words.now c.loop-turn.tally c.loop-turn.invariant.0
    (whole (begun c.args.cluster.now) c.args.words.now c.loop-turn.turn-index c.loop-turn.invariant.0 c.loop-turn-test.false c.loop-turn.invariant.1)
    c.loop-turn.invariant.2 c.loop-turn.invariant.3 c.drill_report.ensures.text c.drill_report.ensures.status c.drill_report.ensures.proof

pub returns-clause-calm : goal.returns-clause-calm
returns-clause-calm c =
    let reached = c.recall_schedule.ensures in
    let none = begun_calm c.honest_work_is_never_refused.ensures.refused c.honest_work_is_never_refused.ensures.agree reached.beginning
    c.args.cluster.now (take c.loop-turn.turn-index c.args.words.now) (begun c.args.cluster.now) c.loop-turn.invariant.0 reached.moment refl refl c.loop-turn.invariant.1
    in
    let tally = c.loop-turn.invariant.2 in
    calm c.drill_report.result (length c.args.words.now) c.loop-turn.tally.refused c.loop-turn.tally.disagreements (tally.refused ∙ none.0) (tally.disagreements ∙ none.1)
    c.drill_report.ensures.text c.drill_report.ensures.status c.drill_report.ensures.proof
