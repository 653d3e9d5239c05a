use Rattle.std.proofs.Common.{ℕ, ◌≤◌, List, All, [], ◌∷◌, ◌++◌}
use Rattle.std.specs.List.{Contains}
use Rattle.dimacs.specs.logic.Cnf.{Cnf}
use Rattle.dimacs.specs.logic.Literal.{negation}
use Rattle.shared_logs.specs.SharedLogs.{SharedStep, Import}
use Rattle.cell_worker.specs.WorkerLog.{last_in}
use Rattle.sharing.specs.inner.Writing.{HasImported, IsWritingSteps}
use Rattle.sharing.proofs.WritingLemmas.{extends_by, goes, imported, importing, not_imported, on_true}
use Rattle.sharing.proofs.exchange.Exchange.take.Goals as goal

pub returns-then-not-branch-clause-stands : goal.returns-then-not-branch-clause-stands
returns-then-not-branch-clause-stands g c =
    goes c.args.worker.now c.number_of.new.worker c.lend.new.self c.in_ok-log.ensures.stands
    (not_imported c.in_ok-lend.field-0 c.number_of.new.worker c.lend.new.self c.in_ok-log.log c.args.offer.number c.literals_of-literals.result.now
    c.in_ok-lend.ensures.stands c.if-not-branch.true)

pub returns-clause-stands : goal.returns-clause-stands
returns-clause-stands g c = λ F steps text h.
    let e = c.in_ok-lend.ensures in
    let a = c.in_ok-log.ensures.stands F steps text h in
    let low : 1 ≤ c.in_ok-log.log = (c.is_clause_number-2.ensures.0 (search c.if-not-is_clause_number-2.false)).0 in
    let x = imported c.in_ok-lend.field-0 c.number_of.new.worker c.lend.new.self c.in_ok-log.log c.args.offer.number c.literals_of-literals.result.now e.stands
    c.if-not-branch.false e.names low c.in_ok-log.ensures.given F a.0 text a.2 in
    let last : List SharedStep = Import (last_in c.lend.new.self) c.literals_of-literals.result.now x.0 c.args.offer.number ∷ [] in
    (a.0 ++ last, extends_by steps a.0 last a.1, x.1)

pub returns-clause-closed : goal.returns-clause-closed
returns-clause-closed g c =
    on_true c.closes.result (All (λ l. Contains c.args.query.now (negation l)) c.literals_of-literals.result.now)
    ((F : Cnf) (steps : List SharedStep) (text : List ℕ) → IsWritingSteps F steps text c.args.worker.now → HasImported F c.args.query.now steps text c.lend.new.self)
    (λ told F steps text h.
    let e = c.in_ok-lend.ensures in
    let a = c.in_ok-log.ensures.stands F steps text h in
    let low : 1 ≤ c.in_ok-log.log = (c.is_clause_number-2.ensures.0 (search c.if-not-is_clause_number-2.false)).0 in
    let x = imported c.in_ok-lend.field-0 c.number_of.new.worker c.lend.new.self c.in_ok-log.log c.args.offer.number c.literals_of-literals.result.now e.stands
    c.if-not-branch.false e.names low c.in_ok-log.ensures.given F a.0 text a.2 in
    let last : List SharedStep = Import (last_in c.lend.new.self) c.literals_of-literals.result.now x.0 c.args.offer.number ∷ [] in
    (a.0 ++ last, extends_by steps a.0 last a.1, x.1, importing c.args.query.now a.0 _ c.literals_of-literals.result.now x.0 c.args.offer.number told))
    c.closes.ensures
