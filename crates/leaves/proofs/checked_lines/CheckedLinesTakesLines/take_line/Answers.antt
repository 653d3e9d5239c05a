use Rattle.std.proofs.Common.{◌≡◌, ℕ, ◌≤◌, List, [], ◌∷◌, ◌++◌, sym, subst, length, arith}
use Rattle.lrat_text.specs.Grammar.{IsStepWithin}
use Rattle.lrat_text.specs.Log.{IsLogStep, log_top}
use Rattle.lrat_text.specs.declared.step.Step.{Step}
use Rattle.lrat_text.specs.Runs.{after_steps, top_of}
use Rattle.lrat_text.specs.Steps.{step_of}
use Rattle.lrat_text.proofs.LineLemmas.{step_more}
use Rattle.dimacs.specs.logic.ClauseMap.{map_of}
use Rattle.log_join.specs.Written.{WithinLog}
use Rattle.leaves.proofs.LineLemmas.{appended, one_behind, refused_within, step_follows, step_small}
use Rattle.leaves.proofs.checked_lines.CheckedLinesTakesLines.take_line.Goals as goal

pub line-requires-clause-limits : goal.line-requires-clause-limits
line-requires-clause-limits c =
    let most : ℕ = c.args.self.now.checker.most in
    let low : most ≤ 199999999 = omega (arith, c.most.ensures.value, c.most.ensures.limit) in
    subst (IsStepWithin 199999999) (sym c.step.ensures) (step_more most 199999999 low c.take.new.self.step c.in-Ok.ensures.took.spells.limits)

pub returns-in-Ok-line : goal.returns-in-Ok-line
returns-in-Ok-line c = (
  tt,
  record {
    takes = c.in-Ok.ensures.took;
    within = λ F cubes logs log written h.
        let old = c.args.self.now in
        let step : Step = c.take.new.self.step in
        let took = c.in-Ok.ensures.took in
        let put = c.in-Ok-line.ensures.line in
        let same : step_of c.step.result ≡ step = c.step.ensures in
        let follows : IsLogStep (length F.clauses) (after_steps (map_of F) log) (top_of (length F.clauses) log) (step_of c.step.result) =
        subst (λ (s : Step). IsLogStep (length F.clauses) (after_steps (map_of F) log) (top_of (length F.clauses) log) s) (sym same)
        (step_follows F log old.checker step h.after took.follows) in
        let small : IsStepWithin (log_top F) (step_of c.step.result) = subst (IsStepWithin (log_top F)) (sym same) (step_small F log old.checker step h.after took.spells.limits) in
        let within : WithinLog F cubes logs (log ++ step_of c.step.result ∷ []) c.line.new.self (written ++ c.line.new.out.items) =
        appended (λ (w : List ℕ). WithinLog F cubes logs (log ++ step_of c.step.result ∷ []) c.line.new.self w) written old.out.items c.line.new.out.items put.0 put.1
        (put.2 F cubes logs log (written ++ old.out.items) h.within follows small) in
        record {
          within = subst (λ (s : Step). WithinLog F cubes logs (log ++ s ∷ []) c.line.new.self (written ++ c.line.new.out.items)) same within;
          after = one_behind F log old.checker c.take.new.self step h.after took.base took.live took.top (c.in-Ok.ensures.stands F h.after.stands);
        };
  },
)

pub returns-in-Ok-cut : goal.returns-in-Ok-cut
returns-in-Ok-cut c = (
  c.in-Err.ensures.refused,
  λ F cubes logs log written h.
      c.in-Ok-cut.ensures F cubes logs log written (refused_within F cubes logs log written c.args.self.now c.take.new.self h c.in-Err.ensures.cut (c.in-Err.ensures.stands F h.after.stands)),
)
