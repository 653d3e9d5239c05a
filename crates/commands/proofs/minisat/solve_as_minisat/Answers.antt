use Rattle.std.proofs.Common.{◌≡◌, false, IfOk, refl, subst}
use Rattle.std.proofs.lemmas.Result.{IfOk-weaker}
use Rattle.commands.specs.Solver.{HasResult, asking}
use Rattle.commands.specs.Written.{Keeps}
use Rattle.commands.specs.inner.Solver.{IsWritten}
use Rattle.commands.proofs.SolverLemmas.{all_true, unkept}
use Rattle.commands.proofs.minisat.solve_as_minisat.Goals as goal

pub returns-clause-truth : goal.returns-clause-truth
returns-clause-truth g c =
    let L = c.args.limits in
    let limit = c.args.files.now.limit in
    all_true c.accepted_proofs_are_sound.ensures L c.vars.ensures.valid _ _ _ c.with_result.result
    (IfOk-weaker c.with_result.result _ _ (λ s w. w.solves)
    (c.with_result.ensures.tells L limit _ c.vars.ensures.valid (unkept L _ _ _ c.in_ok-solved.solved c.in_ok-solved.ensures.tells)))

pub returns-clause-tells : goal.returns-clause-tells
returns-clause-tells g c =
    let L = c.args.limits in
    let limit = c.args.files.now.limit in
    IfOk-weaker c.with_result.result _ _ (λ s w. w.solves)
    (c.with_result.ensures.tells L limit _ c.vars.ensures.valid (unkept L _ _ _ c.in_ok-solved.solved c.in_ok-solved.ensures.tells))

pub returns-clause-kept : goal.returns-clause-kept
returns-clause-kept g c =
    let kept = g.D.Drafts.kept in
    let L = c.args.limits in
    let limit = c.args.files.now.limit in
    let known = g.D.Disk.holds c.args.disk.now c.args.files.now.input.now in
    let same = c.in_ok-solved.ensures.unnamed refl in
    let P : _ → Type 0 = λ d. IfOk c.with_result.result (λ s. HasResult (Keeps kept d c.with_result.new.disk false c.args.files.now.result.now) (c.with_result.new.disk ≡ d) L known s.report) in
    subst P same
    (IfOk-weaker c.with_result.result (IsWritten (Keeps kept c.decided.new.disk c.with_result.new.disk false c.args.files.now.result.now) (c.with_result.new.disk ≡ c.decided.new.disk) L limit known)
    (λ s. HasResult (Keeps kept c.decided.new.disk c.with_result.new.disk false c.args.files.now.result.now) (c.with_result.new.disk ≡ c.decided.new.disk) L known s.report)
    (λ s w. w.result)
    (c.with_result.ensures.tells L limit known c.vars.ensures.valid (unkept L _ _ known c.in_ok-solved.solved c.in_ok-solved.ensures.tells)))
