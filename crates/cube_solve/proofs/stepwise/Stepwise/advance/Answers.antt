use Rattle.std.proofs.Common.{◌≡◌, ◌++◌, List, ℕ, length, sym, refl, subst}
use Rattle.cube_solve.specs.Stepwise.{Reaches}
use Rattle.cube_solve.proofs.StepwiseLemmas.{reached}
use Rattle.cube_solve.proofs.stepwise.Stepwise.advance.Goals as goal

pub returns : goal.returns
returns g c = λ B limit before h.
    let s = c.turns.new.self in
    let told = c.in_ok-counts.counts in
    let u = record s { search = c.take_log-text.new.self; taken = told.bytes } in
    let e = c.in_ok-counts.ensures in
    let r = subst (λ (t : List ℕ). Reaches g.P.Propagator.is_ready g.P.Propagator.attached B c.args.cube.now limit told (before ++ t) c.in_ok-end.end u × (length (before ++ t) ≡ told.bytes))
    (sym c.take_log-text.ensures.text)
    (reached g.P.Propagator.is_ready g.P.Propagator.attached B c.args.cube.now limit before s u told e.conflicts e.lemmas e.bytes c.take_log-text.new.self c.take_log-text.ensures.rest refl
    c.in_ok-end.end (c.in_ok-end.ensures B limit before h)) in
    record { reaches = r.0; bytes = r.1 }
