use Rattle.std.proofs.Common.{◌∙◌, refl, ap, subst, ◌≡◌, None, arith}
use Rattle.lrat_check.specs.StepFaults
use Rattle.lrat_check.specs.StepFaults.{live_after}
use Rattle.lrat_check.specs.Logs.{ids_of, log_step_fault}
use Rattle.lrat_text.specs.declared.step.Step.{Step}
use Rattle.lrat_check.specs.inner.LogStates.{state_of}
use Rattle.lrat_check.specs.inner.Logs.{IsCutAt}
use Rattle.lrat_check.proofs.Cuts.{cut_off, uncut}
use Rattle.lrat_check.proofs.Logs.{log_from_none, live_same, top_same}
use Rattle.lrat_check.proofs.log_checker.take_line.Goals as goal

pub returns-in-Ok-take-clause-took : goal.returns-in-Ok-take-clause-took
returns-in-Ok-take-clause-took c =
    let log = c.args.log.now in
    let step : Step = c.read_line_within.new.buffer in
    record {
      spells = c.in-Ok.ensures.found;
      follows = log_from_none log.base log.clauses log.top step (subst (λ (s : Step). log_step_fault log.base log.clauses log.top s ≡ None) c.as_ref.ensures c.in-Ok-take.ensures.took);
      live = c.in-Ok-take.ensures.clauses ∙ ap (live_after log.clauses) c.as_ref.ensures ∙ live_same log.clauses step;
      top = c.in-Ok-take.ensures.top ∙ ap (StepFaults.top_after log.top) c.as_ref.ensures ∙ top_same log.top step;
      base = c.take.ensures.base;
      line = refl;
      cut = c.in-Ok-take.ensures.whole;
      few = omega (arith, c.args.limit.bounded);
      most = refl;
    }

pub returns-in-Err-clause-cut : goal.returns-in-Err-clause-cut
returns-in-Err-clause-cut c =
    uncut (state_of c.args.limit.most c.args.log.now c.args.line c.args.buffer.now) (state_of c.args.limit.most c.args.log.now c.args.line c.read_line_within.new.buffer) refl refl refl refl c.requires refl

pub returns-in-Err-take-clause-cut : goal.returns-in-Err-take-clause-cut
returns-in-Err-take-clause-cut c =
    let log = c.args.log.now in
    cut_off (state_of c.args.limit.most log c.args.line c.args.buffer.now) (state_of c.args.limit.most c.take.new.self c.args.line c.read_line_within.new.buffer) c.take.ensures.base c.in-Err-take.ensures.same refl refl
    (subst (λ (s : Step). IsCutAt log.base log.clauses (ids_of s) c.take.new.self.cut c.take.new.self.clauses) c.as_ref.ensures c.in-Err-take.ensures.front)
