-- What a lift of a DRAT proof comes to.
use Rattle.std.specs.Prelude.{IfOk, ◌≡◌, ◌≢◌, ◌<◌, ℕ, List, Option, Some, None, Result, Ok, Err, refl}
use Rattle.std.proofs.Common.{arith, subst, inl}
use Rattle.std.proofs.lemmas.Result.{IfOk-weaker}
use Rattle.commands.specs.Lift.{LiftsAt, LiftsLeaf}
use Rattle.commands.specs.LiftDrat.{LiftsDrat, LiftsDratAt, lifts_made, needs_rat, needs_rat_text, refuses_drat}
use Rattle.dimacs.specs.logic.Cnf.{Cnf}
use Rattle.dimacs.specs.logic.Limits.{Limits}
use Rattle.drat_elaborate.specs.Reports.{elaboration_text}
use Rattle.drat_elaborate.specs.declared.elaborator.Elaborated.{Elaborated}
use Rattle.drat_elaborate.specs.declared.fault.ElaborationFault.{ElaborationFault}
use Rattle.icnf.specs.Leaves.{Cube}
use Rattle.leaves.specs.Leaf.{GivesLeafOf, Prints, leaf_of}
use Rattle.lrat_text.specs.Proof.{Accepts}
use Rattle.reports.specs.declared.report.Report.{Report}

-- a report that is known by its parts
pub prints_of : {E : Type 0} (n : ℕ) (text : List ℕ) (result : Result Report E) → IfOk result (λ r. r.stdout.items ≡ text) → IfOk result (λ r. r.status ≡ n)
    → IfOk result (λ r. r.proof ≡ None) → IfOk result (Prints n text)
prints_of n text (Ok r) is status none = record { status_is = status; text_is = is; no_proof = none }
prints_of n text (Err e) is status none = tt

-- the LRAT proof that was made has no RAT lemma, and what comes of it was lifted or told
pub made_lifts : {E : Type 0} (stays : List ℕ → Type 0) (left : Type 0) (F : Cnf) (at : Option Cube) (q : Cube) (leaf : ℕ) (found : Result Elaborated ElaborationFault) (made : Elaborated)
    (result : Result Report E) → at ≡ Some q → found ≡ Ok made → IfOk found (λ e. Accepts (leaf_of q F) e.text) → made.statistics.rats ≡ 0
    → IfOk result (λ r. LiftsAt stays left F at leaf made.text r) → IfOk result (LiftsDrat stays left F q leaf)
made_lifts stays left F at q leaf found made result at_is is accepted none h =
    let P : Option Cube → Type 0 = λ x. IfOk result (λ r. LiftsAt stays left F x leaf made.text r) in
    let Q : Result Elaborated ElaborationFault → Type 0 = λ x. IfOk x (λ e. Accepts (leaf_of q F) e.text) in
    IfOk-weaker result (λ r. LiftsLeaf stays left F q leaf made.text r) (LiftsDrat stays left F q leaf)
    (λ r lifted. lifts_made made (subst Q is accepted) none lifted) (subst P at_is h)

-- the LRAT proof that was made has a RAT lemma, which was told
pub rat_told : {E : Type 0} (stays : List ℕ → Type 0) (left : Type 0) (F : Cnf) (q : Cube) (leaf : ℕ) (found : Result Elaborated ElaborationFault) (made : Elaborated) (result : Result Report E)
    → found ≡ Ok made → IfOk found (λ e. Accepts (leaf_of q F) e.text) → 0 < made.statistics.rats → left → IfOk result (Prints 1 needs_rat_text) → IfOk result (LiftsDrat stays left F q leaf)
rat_told stays left F q leaf found made result is accepted some h prints =
    let Q : Result Elaborated ElaborationFault → Type 0 = λ x. IfOk x (λ e. Accepts (leaf_of q F) e.text) in
    let other : made.statistics.rats ≢ 0 = λ none. omega arith in
    IfOk-weaker result (Prints 1 needs_rat_text) (LiftsDrat stays left F q leaf) (λ r told. needs_rat made (subst Q is accepted) other h told) prints

-- nothing was made, and why was told
pub fault_told : {E : Type 0} (stays : List ℕ → Type 0) (left : Type 0) (F : Cnf) (q : Cube) (leaf : ℕ) (fault : ElaborationFault) (result : Result Report E)
    → left → IfOk result (Prints 1 (elaboration_text (Err fault))) → IfOk result (LiftsDrat stays left F q leaf)
fault_told stays left F q leaf fault result h prints =
    IfOk-weaker result (Prints 1 (elaboration_text (Err fault))) (LiftsDrat stays left F q leaf) (λ r told. refuses_drat fault h told) prints

-- there is a formula of the leaf, and an elaboration of a proof of it was lifted or told
pub found_lifts : {E : Type 0} (L : Limits) (stays : List ℕ → Type 0) (left : Type 0) (F : Cnf) (q : Option Cube) (leaf : ℕ) (G : Cnf)
    (found : Result Elaborated ElaborationFault) (result : Result Report E)
    → GivesLeafOf L F q (Ok G) → IfOk found (λ e. Accepts G e.text)
    → ((p : Cube) → q ≡ Some p → IfOk found (λ e. Accepts (leaf_of p F) e.text) → IfOk result (LiftsDrat stays left F p leaf))
    → IfOk result (LiftsDratAt L stays left F q leaf)
found_lifts L stays left F None leaf G found result gives accepted goes = absurd gives
found_lifts L stays left F (Some p) leaf G found result gives accepted goes =
    let P : Cnf → Type 0 = λ H. IfOk found (λ e. Accepts H e.text) in
    IfOk-weaker result (LiftsDrat stays left F p leaf) (LiftsDratAt L stays left F (Some p) leaf) (λ r h. inl h) (goes p refl (subst P gives.0 accepted))
