use Rattle.std.proofs.Common.{◌≡◌, None, false, sym, subst}
use Rattle.std.specs.FinMap.{get}
use Rattle.dimacs.specs.logic.ClauseMap.{ClauseMap}
use Rattle.leaves.proofs.LineLemmas.{on_ok, one_over, passed_over, some_not_none}
use Rattle.leaves.proofs.checked_lines.CheckedLines.spend_at.Goals as goal

pub returns-in-None-clause-over : goal.returns-in-None-clause-over
returns-in-None-clause-over c = λ F cubes logs log written live a.
    passed_over F cubes logs (record { steps = log; accepted = false }) written c.args.number c.args.self.now.joiner a
    (subst (λ (M : ClauseMap). get M c.args.number ≡ None) live (sym c.in-None.ensures))

pub returns-in-Some-clause-over : goal.returns-in-Some-clause-over
returns-in-Some-clause-over c = on_ok c.spend.result _ _
    (λ spent F cubes logs log written live a. one_over F cubes logs (record { steps = log; accepted = false }) written c.args.number c.spend.new.self
    (spent F cubes logs log a.low written a.ending a.up a.none
    (subst (λ (M : ClauseMap). ¬ (get M c.args.number ≡ None)) live (some_not_none _ (sym c.in-Some.ensures))))
    )
    c.spend.ensures.spent
