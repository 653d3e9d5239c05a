use Rattle.std.proofs.Common.{◌≡◌, ◌<◌, Some, None, true, sym, subst, refl, arith, length}
use Rattle.std.specs.FinMap.{get}
use Rattle.std.specs.List.{list_any}
use Rattle.lrat_text.specs.Runs.{after_steps}
use Rattle.log_join.specs.ClosedLeaves.{can_close}
use Rattle.dimacs.specs.logic.ClauseMap.{ClauseMap, map_of}
use Rattle.log_join.specs.Written.{leaves_of}
use Rattle.proof_join.specs.RenumberedSteps.{behind}
use Rattle.leaves.proofs.ClosingLemmas.{closes_none, closes_open, tells_none}
use Rattle.leaves.proofs.LineLemmas.{if_on, on_ok, one_over, passed_over}
use Rattle.leaves.proofs.checked_lines.CheckedLines.settle_at.Goals as goal

pub returns-in-None-clause-over : goal.returns-in-None-clause-over
returns-in-None-clause-over c = λ F cubes logs log written live a.
    passed_over F cubes logs (record { steps = log; accepted = true }) written c.args.number c.args.self.now.joiner a
    (subst (λ (M : ClauseMap). get M c.args.number ≡ None) live (sym c.in-None.ensures))

pub returns-in-None-clause-told : goal.returns-in-None-clause-told
returns-in-None-clause-told c = λ F cubes logs log written live a. tells_none F log (leaves_of c.args.self.now.joiner) c.args.self.now.joiner refl

pub returns-in-Some-clause-over : goal.returns-in-Some-clause-over
returns-in-Some-clause-over c = on_ok c.settle.result _ _
    (λ settled F cubes logs log written live a. one_over F cubes logs (record { steps = log; accepted = true }) written c.args.number c.settle.new.self
    (settled F cubes logs log a.low written a.ending a.up a.none (subst (λ (M : ClauseMap). get M c.args.number ≡ Some c.in-Some.lits.now) live (sym c.in-Some.ensures))))
    c.settle.ensures.settled

pub returns-in-Some-clause-told : goal.returns-in-Some-clause-told
returns-in-Some-clause-told c =
    let old = c.args.self.now.joiner in
    if_on c.settle.result _ _ _ (λ b told settled F cubes logs log written live a.
    let own : length F.clauses < c.args.number = (let low = a.ending.low in let up = a.up in omega arith) in
    let here : get (after_steps (map_of F) log) c.args.number ≡ Some c.in-Some.lits.now = subst (λ (M : ClauseMap). get M c.args.number ≡ Some c.in-Some.lits.now) live (sym c.in-Some.ensures) in
    let is : b ≡ list_any (can_close (record { id = behind old.base old.begun c.args.number; clause = c.in-Some.lits.now })) (leaves_of old) = told F cubes logs log a.low written a.ending a.up here in
    record {
      some = λ t. closes_open F log (leaves_of old) (record { id = behind old.base old.begun c.args.number; clause = c.in-Some.lits.now }) c.args.number b t is own here;
      none = λ t. closes_none F cubes logs log written a.low c.args.number c.in-Some.lits.now (behind old.base old.begun c.args.number) old c.settle.new.self b t is a.ending
          (settled F cubes logs log a.low written a.ending a.up a.none here) a.up a.none here;
    }) c.settle.ensures.told c.settle.ensures.settled
