use Rattle.std.proofs.Common.{◌≡◌, ◌+◌, ◌-◌, ◌^◌, ◌<◌, ◌++◌, List, ℕ, Err, codes, length, sym, subst, arith}
use Rattle.std.proofs.lemmas.Result.{err_from_is_err_and}
use Rattle.lrat_text.specs.Grammar.{IsStepWithin}
use Rattle.lrat_text.specs.declared.step.Step.{Step}
use Rattle.proof_join.specs.inner.Steps.{IsHeld, IsLow, Writes}
use Rattle.proof_join.proofs.ApartLemmas.{held_limits, held_low}
use Rattle.proof_join.proofs.CopyLemmas.{copied}
use Rattle.proof_join.proofs.StepLemmas.{writes_else}
use Rattle.proof_join.proofs.lines.put_fragment_line.Goals as goal

pub canonical_id_within-requires : goal.canonical_id_within-requires
canonical_id_within-requires c = let (step, s) = c.requires.spelled in record { spelled = (199999999, omega arith, step, s) }

pub returns-in-Some-clause-text : goal.returns-in-Some-clause-text
returns-in-Some-clause-text c = λ step s.
    let k = copied c.args.shift.base c.args.shift.begun c.args.top c.in-Some.id c.args.line.now step c.if-is_none.ensures (sym (c.in-Some.ensures 199999999 step (omega arith) s)) in
    subst (λ (l : List ℕ). (c.put_copy.new.out ≡ c.args.out.now ++ l) × (length (c.args.out.now ++ l) < 2 ^ 32)) k.0 c.in_ok-put_copy.ensures

pub returns-in-Some-clause-top : goal.returns-in-Some-clause-top
returns-in-Some-clause-top c = λ step s.
    (copied c.args.shift.base c.args.shift.begun c.args.top c.in-Some.id c.args.line.now step c.if-is_none.ensures (sym (c.in-Some.ensures 199999999 step (omega arith) s))).1

pub returns-in_err-put_copy-clause-text : goal.returns-in_err-put_copy-clause-text
returns-in_err-put_copy-clause-text c =
    let p = err_from_is_err_and c.from_residual.result c.from_residual.ensures.1 in
    rw (p.1, p.2) (λ step s.
    let k = copied c.args.shift.base c.args.shift.begun c.args.top c.in-Some.id c.args.line.now step c.if-is_none.ensures (sym (c.in-Some.ensures 199999999 step (omega arith) s)) in
    subst (λ (l : List ℕ). Writes {A = ℕ} (Err c.in_err-put_copy.field-0.0) c.put_copy.new.out (c.args.out.now ++ l)) k.0
    (writes_else (Unit {0}) ℕ c.in_err-put_copy.field-0.0 c.put_copy.new.out (c.args.out.now ++ (c.args.line.now ++ codes "\n")) c.in_err-put_copy.ensures))

pub put_renumbered-requires-clause-limits : goal.put_renumbered-requires-clause-limits
put_renumbered-requires-clause-limits c =
    let (step, s) = c.requires.spelled in
    subst (IsStepWithin 199999999) (sym c.as_ref.ensures) (held_limits 199999999 c.in-Ok.literals c.read_apart.new.buffer step (c.in-Ok.ensures step s) s.limits)

pub put_renumbered-requires-clause-low : goal.put_renumbered-requires-clause-low
put_renumbered-requires-clause-low c =
    let (step, s) = c.requires.spelled in
    let k : ℕ = c.args.shift.base + (c.args.top - c.args.shift.begun) in
    subst (IsLow k) (sym c.as_ref.ensures) (held_low k c.in-Ok.literals c.read_apart.new.buffer step (c.in-Ok.ensures step s) (c.requires.low step s))

pub returns-clause-text : goal.returns-clause-text
returns-clause-text c = λ step s.
    c.put_renumbered.ensures.text step (subst (λ (x : Step). IsHeld c.in-Ok.literals x step) (sym c.as_ref.ensures) (c.in-Ok.ensures step s))

pub returns-clause-top : goal.returns-clause-top
returns-clause-top c = λ step s.
    c.put_renumbered.ensures.top step (subst (λ (x : Step). IsHeld c.in-Ok.literals x step) (sym c.as_ref.ensures) (c.in-Ok.ensures step s))
