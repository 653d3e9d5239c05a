use Rattle.proof_lift.specs.View.{held_of}
use Rattle.std.proofs.Common.{◌≡◌, ◌⊎◌, ◌≤◌, ◌∙◌, ℕ, List, [], Result, Ok, Err, OnOk, inr, sym, ap, subst}
use Rattle.dimacs.specs.logic.Cnf.{Cnf, IsFormula}
use Rattle.lrat_check.specs.ProofFaults.{no_memory}
use Rattle.lrat_check.specs.declared.line_checker.CheckFault.{CheckFault}
use Rattle.lrat_text.specs.Log.{Cube}
use Rattle.proof_lift.specs.Leaves.{ClosesWith, IsCube, IsRefutation, leaf_of}
use Rattle.proof_lift.specs.Stream.{LiftProgress, Within, Failed, GivesEnd, HasTaken, IsLastFault, progress_of}
use Rattle.proof_lift.proofs.CompleteLemmas.{refutations_lift}
use Rattle.proof_lift.proofs.SoundLemmas.{texts_close}
use Rattle.proof_lift.proofs.StreamLemmas.{given, answered, failed_fault}
use Rattle.proof_lift.proofs.lifter.Lifter.finish.Goals as goal

closes : (p : LiftProgress) (r : Result (Unit {0}) CheckFault) (before after : List ℕ) → GivesEnd p r before after
    → OnOk r ((F : Cnf) (q : Cube) (bytes written : List ℕ) → IsFormula F → IsCube F q → HasTaken F q p bytes written → ClosesWith F q written before after)
closes p (Ok _) before after (appended, out, ended) = λ F q bytes written form cube taken.
    let g = given F q p bytes written appended taken ended in
    (appended, out, texts_close F q g.0 _ form cube g.1)
closes p (Err fault) before after gives = tt

complete : (p : LiftProgress) (r : Result (Unit {0}) CheckFault) (before after : List ℕ) → GivesEnd p r before after
    → (F : Cnf) (q : Cube) (bytes written : List ℕ) → F.vars ≤ 199999999 → IsCube F q → HasTaken F q p bytes written → IsRefutation (leaf_of q F) bytes → (r ≡ Ok tt) ⊎ (r ≡ Err no_memory)
complete p r before after gives F q bytes written few cube taken refutes = let l = refutations_lift F q bytes few cube refutes in answered F q p bytes written l.0 before after r taken gives l.1

pub returns : goal.returns
returns c =
    let h = held_of c.self.inside.lines.lifting in
    let line = c.self.inside.lines.line in
    let before = c.args.out.now.items in
    let after = c.end.new.out.items in
    let now : Within h line c.as_slice.result.now ≡ c.args.self =
    ap (Within h line) c.as_slice.ensures.value ∙ ap (λ o. progress_of o h line c.self.inside.begun) (sym c.in_default.is) ∙ c.self.view_is in
    let gives : GivesEnd c.args.self c.end.result before after = subst (λ (p : LiftProgress). GivesEnd p c.end.result before after) now c.end.ensures in
    record { closes = closes c.args.self c.end.result before after gives; complete = complete c.args.self c.end.result before after gives; exact = gives }

pub returns-in-Some-clause-complete : goal.returns-in-Some-clause-complete
returns-in-Some-clause-complete c =
    let h = held_of c.self.inside.lines.lifting in
    let now : Failed c.in-Some.fault ≡ c.args.self = ap (λ o. progress_of o h c.self.inside.lines.line c.self.inside.begun) (sym c.in-Some.is) ∙ c.self.view_is in
    complete c.args.self (Err c.in-Some.fault) [] [] (inr (subst (λ (p : LiftProgress). IsLastFault p c.in-Some.fault) now (failed_fault c.in-Some.fault)))

pub returns-in-Some-clause-exact : goal.returns-in-Some-clause-exact
returns-in-Some-clause-exact c =
    let h = held_of c.self.inside.lines.lifting in
    let now : Failed c.in-Some.fault ≡ c.args.self = ap (λ o. progress_of o h c.self.inside.lines.line c.self.inside.begun) (sym c.in-Some.is) ∙ c.self.view_is in
    inr (subst (λ (p : LiftProgress). IsLastFault p c.in-Some.fault) now (failed_fault c.in-Some.fault))
