use Rattle.std.proofs.Common.{◌≡◌, ◌∙◌, ◌⊎◌, ◌++◌, ℕ, false, List, sym}
use Rattle.std.specs.Global.{Vec}
use Rattle.std.proofs.lemmas.Result.{IfErr-weaker, IfOk-weaker}
use Rattle.dimacs.specs.logic.Cnf.{Cnf}
use Rattle.icnf.specs.Leaves.{Cube}
use Rattle.leaves.specs.LeafLift.{HasTakenProof}
use Rattle.lrat_check.specs.ProofFaults.{no_memory}
use Rattle.lrat_check.specs.declared.line_checker.CheckFault.{CheckFault}
use Rattle.lrat_forms.specs.Forms.{text_form_within}
use Rattle.lrat_forms.specs.Pieces.{is_cut}
use Rattle.lrat_text.specs.Log.{Closes, log_top}
use Rattle.proof_lift.specs.Stream.{IsFaultOf}
use Rattle.text_or_binary.specs.FormLift.{HasTakenFormProof}
use Rattle.text_or_binary.proofs.FormLemmas.{lift_ended}
use Rattle.text_or_binary.proofs.form_lift.FormLift.finish.Goals as goal

pub returns-clause-closes : goal.returns-clause-closes
returns-clause-closes c =
    let uncut : is_cut c.args.self.form.stage ≡ false = sym c.is_cut.ensures ∙ c.if-is_cut.false in
    let ended = lift_ended c.args.self c.rest.result.now c.feed.new.self c.rest.ensures uncut c.feed.ensures in
    IfOk-weaker c.finish.result
    (λ (rest : Vec ℕ). (F : Cnf) (q : Cube) (bytes handed : List ℕ) → HasTakenProof F q bytes handed c.feed.new.self → Closes F q (handed ++ rest.items))
    (λ (rest : Vec ℕ). (F : Cnf) (q : Cube) (bytes handed : List ℕ) → HasTakenFormProof F q bytes handed c.args.self → Closes F q (handed ++ rest.items))
    (λ rest closes F q bytes handed h. closes F q (text_form_within (log_top F) bytes) handed (ended F q bytes handed h)) c.finish.ensures.closes

pub returns-clause-complete : goal.returns-clause-complete
returns-clause-complete c =
    let uncut : is_cut c.args.self.form.stage ≡ false = sym c.is_cut.ensures ∙ c.if-is_cut.false in
    let ended = lift_ended c.args.self c.rest.result.now c.feed.new.self c.rest.ensures uncut c.feed.ensures in
    λ F q bytes handed h refutes. c.finish.ensures.complete F q (text_form_within (log_top F) bytes) handed (ended F q bytes handed h) refutes

pub returns-clause-exact : goal.returns-clause-exact
returns-clause-exact c =
    let uncut : is_cut c.args.self.form.stage ≡ false = sym c.is_cut.ensures ∙ c.if-is_cut.false in
    let ended = lift_ended c.args.self c.rest.result.now c.feed.new.self c.rest.ensures uncut c.feed.ensures in
    IfErr-weaker c.finish.result
    (λ (fault : CheckFault). (F : Cnf) (q : Cube) (bytes handed : List ℕ) → HasTakenProof F q bytes handed c.feed.new.self → (fault ≡ no_memory) ⊎ IsFaultOf F q bytes fault)
    (λ (fault : CheckFault). (F : Cnf) (q : Cube) (bytes handed : List ℕ) → HasTakenFormProof F q bytes handed c.args.self → (fault ≡ no_memory) ⊎ IsFaultOf F q (text_form_within (log_top F) bytes) fault)
    (λ fault is F q bytes handed h. is F q (text_form_within (log_top F) bytes) handed (ended F q bytes handed h)) c.finish.ensures.exact
