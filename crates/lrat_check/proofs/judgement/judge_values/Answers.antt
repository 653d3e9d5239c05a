use Rattle.std.proofs.Common.{◌==◌, map, ◌∙◌, sym, refl}
use Rattle.std.proofs.lemmas.Bool.{both_ways}
use Rattle.lrat_check.specs.declared.verdict.Verdict.TheVariants.{Model}
use Rattle.lrat_check.proofs.JudgingLemmas.{wrong_number, wrong_byte, not_satisfying, are_values, counted}
use Rattle.lrat_check.proofs.judgement.judge_values.Goals.{then-values-vars-via-then-values-vars, then-values-vars-via-else-values-vars+then-not-are_truths}
use Rattle.lrat_check.proofs.judgement.judge_values.Goals as goal

pub returns-then-values-vars : goal.returns-then-values-vars
returns-then-values-vars c = elim c.then-values-vars.branch [
  | then-values-vars-via-then-values-vars w ↦ wrong_number c.args.formula.now c.args.values.now (λ same. w.if-values-vars.true (same ∙ sym c.vars.ensures.value))
  | then-values-vars-via-else-values-vars+then-not-are_truths w ↦ wrong_byte c.args.formula.now c.args.values.now (sym w.are_truths.ensures ∙ w.if-not-are_truths.true)
]

pub returns-in_default : goal.returns-in_default
returns-in_default c = (
  Model (map (λ b. b == 1) c.args.values.now),
  are_values c.args.formula.now c.args.values.now (map (λ b. b == 1) c.args.values.now) refl (c.if-values-vars.false ∙ c.vars.ensures.value) (sym c.are_truths.ensures ∙ c.if-not-are_truths.false),
)

pub returns-then-not-satisfies : goal.returns-then-not-satisfies
returns-then-not-satisfies c =
    not_satisfying c.args.formula.now c.args.values.now c.new-assignment.result (c.new-assignment.ensures ∙ c.in-Ok.ensures)
    (λ sat. both_ways c.satisfies.result c.if-not-satisfies.true (c.satisfies.ensures.1 sat))

pub returns : goal.returns
returns c =
    let found_is = c.new-assignment.ensures ∙ c.in-Ok.ensures in
    let count = c.if-values-vars.false ∙ c.vars.ensures.value in (
      are_values c.args.formula.now c.args.values.now c.new-assignment.result found_is count (sym c.are_truths.ensures ∙ c.if-not-are_truths.false),
      (counted c.args.formula.now c.args.values.now c.new-assignment.result found_is count, c.satisfies.ensures.0 c.if-not-satisfies.false),
    )
