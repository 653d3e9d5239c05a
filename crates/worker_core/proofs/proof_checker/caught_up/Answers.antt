use Rattle.std.proofs.Common.{◌≡◌, length, Option, Result, Ok, Err, sym, subst}
use Rattle.std.specs.Option.{IfSome}
use Rattle.std.specs.Result.{IfOk, result_ok}
use Rattle.dimacs.specs.logic.Cnf.{Cnf}
use Rattle.lrat_check.specs.Stream.{HasTaken}
use Rattle.worker_core.specs.inner.Invariant.{ChecksPrefix, HasTakenPrefix}
use Rattle.worker_core.specs.declared.proof_checker.ProofChecker.{ProofChecker}
use Rattle.worker_core.proofs.proof_checker.caught_up.Goals as goal

some_of : {E : Type 0} (r : Result ProofChecker E) (P Q : ProofChecker → Type 0) → ((f : ProofChecker) → P f → Q f) → IfOk r P → IfSome (result_ok r) Q
some_of (Ok f) P Q follows h = follows f h
some_of (Err e) P Q follows h = tt

pub returns-in-Some : goal.returns-in-Some
returns-in-Some c = λ F behind.
    let bytes = c.args.bytes.now in
    let follows : HasTakenPrefix F c.in-Some.checker bytes = subst (λ (o : Option ProofChecker). ChecksPrefix F o bytes) c.in-Some.is behind in
    subst (λ (o : Option ProofChecker). IfSome o (λ f. (f.taken ≡ length bytes) × HasTaken F f.stream bytes)) (sym c.ok.ensures.value)
    (some_of c.catch_up.result (λ f. (f.taken ≡ length bytes) × ((G : Cnf) → HasTakenPrefix G c.in-Some.checker bytes → HasTaken G f.stream bytes))
    (λ f. (f.taken ≡ length bytes) × HasTaken F f.stream bytes) (λ f taken. (taken.0, taken.1 F follows)) c.catch_up.ensures)
