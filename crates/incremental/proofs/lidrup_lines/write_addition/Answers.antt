use Rattle.std.proofs.Common.{◌≤◌, length, List, ℕ, [], sym, subst, arith}
use Rattle.std.proofs.lemmas.Result.{on_ok_weaker}
use Rattle.dimacs.specs.logic.Rat.{Group}
use Rattle.lrat_text.specs.Grammar.{IsStepWithin}
use Rattle.lrat_text.specs.declared.step.Step.TheVariants.{Add}
use Rattle.incremental.proofs.LineLemmas.{added, addition_long}
use Rattle.incremental.proofs.lidrup_lines.write_addition.Goals as goal

pub put_ref_within-requires-clause-limits : goal.put_ref_within-requires-clause-limits
put_ref_within-requires-clause-limits c = (
  199999999,
  omega arith,
  subst (λ (gs : List Group). IsStepWithin 199999999 (Add c.args.id c.args.lits.now c.args.hints.now gs)) (sym c.new-groups.ensures) c.requires,
)

pub returns-clause-bytes : goal.returns-clause-bytes
returns-clause-bytes c =
    on_ok_weaker c.put_ref_within.result (λ e. added c.put_ref_within.new.out.items c.clear.new.self.items c.args.id c.args.lits.now c.args.hints.now c.new-groups.result c.clear.ensures.items c.new-groups.ensures e) c.put_ref_within.ensures.ok

pub returns-clause-long : goal.returns-clause-long
returns-clause-long c =
    on_ok_weaker c.put_ref_within.result
    (λ e. subst (λ (xs : List ℕ). 5 ≤ length xs) (sym (added c.put_ref_within.new.out.items c.clear.new.self.items c.args.id c.args.lits.now c.args.hints.now c.new-groups.result c.clear.ensures.items c.new-groups.ensures e))
    (addition_long c.args.id c.args.lits.now c.args.hints.now))
    c.put_ref_within.ensures.ok
