use Rattle.std.proofs.Common.{◌≡◌, ◌++◌, ◌<◌, ◌^◌, ◌∙◌, ℕ, List, sym, ap, subst, arith}
use Rattle.lrat_check.specs.Logs.{RefusesLogLine, TakesLogLine}
use Rattle.lrat_text.specs.Steps.{step_of}
use Rattle.lrat_text.specs.WrittenLine.{line_of, line_text}
use Rattle.lidrup.specs.inner.LogSteps.{RefusesStep}
use Rattle.lidrup.proofs.ActingLemmas.{checked_line, line_cut, refused_line}
use Rattle.lidrup.proofs.checked_log.check.Goals as goal

pub put_ref_within-requires-clause-limits : goal.put_ref_within-requires-clause-limits
put_ref_within-requires-clause-limits c =
    let few : c.args.checker.now.most < 2 ^ 48 = omega (arith, c.most.ensures.value, c.most.ensures.limit) in
    (c.args.checker.now.most, few, c.requires.limits)

pub returns-in-Ok-clause-took : goal.returns-in-Ok-clause-took
returns-in-Ok-clause-took c =
    let front = c.args.front in
    let step = step_of c.args.step in
    let made : c.put_ref_within.new.out.items ≡ line_of front step = c.in_ok-put_ref_within.ensures.ok ∙ ap (λ (x : List ℕ). x ++ line_of front step) c.clear.ensures.items in
    let cut = line_cut (line_text front step) c.put_ref_within.new.out.items c.deref.result.now c.saturating_sub-end.result c.deref.ensures.value made (omega arith) in
    checked_line front step c.args.checker.now c.take.new.self c.put_ref_within.new.out.items c.requires.numbered c.requires.limits made
    (subst (λ (x : List ℕ). TakesLogLine c.args.checker.now x c.take.new.self) cut c.in-Ok.ensures.took)

pub returns-in-Err-clause-refused : goal.returns-in-Err-clause-refused
returns-in-Err-clause-refused c =
    let front = c.args.front in
    let step = step_of c.args.step in
    let made : c.put_ref_within.new.out.items ≡ line_of front step = c.in_ok-put_ref_within.ensures.ok ∙ ap (λ (x : List ℕ). x ++ line_of front step) c.clear.ensures.items in
    let cut = line_cut (line_text front step) c.put_ref_within.new.out.items c.deref.result.now c.saturating_sub-end.result c.deref.ensures.value made (omega arith) in
    subst (RefusesStep c.args.checker.now step) (sym c.of_log.ensures)
    (refused_line front step c.args.checker.now c.in-Err.fault (omega (arith, c.most.ensures.value, c.most.ensures.limit)) c.requires.numbered c.requires.limits (subst (λ (x : List ℕ). RefusesLogLine c.args.checker.now x c.in-Err.fault) cut c.in-Err.ensures.refused))
