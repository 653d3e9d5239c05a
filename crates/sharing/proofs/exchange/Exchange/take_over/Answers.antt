use Rattle.std.proofs.Common.{◌≡◌, ◌∙◌, sym, subst}
use Rattle.cell_worker.specs.WorkerLog.{IsWorkerReady, vars_in}
use Rattle.cell_worker.specs.declared.worker.CellWorker.{CellWorker}
use Rattle.sharing.specs.inner.Writing.{GoesOn}
use Rattle.sharing.proofs.WritingLemmas.{advanced, extends_trans, goes, on_true_at}
use Rattle.sharing.proofs.exchange.Exchange.take_over.Goals.{else-is_wanted-via-then-is_wanted+in_ok-take+else-branch, else-is_wanted-via-else-is_wanted}
use Rattle.sharing.proofs.exchange.Exchange.take_over.Goals as goal

pub loop-place-init : goal.loop-place-init
loop-place-init g c =
    let e = c.in_ok-advance.ensures in
    (e.ready c.requires, advanced c.in_ok-advance.field-0 c.args.worker.now c.advance.new.self e.stands c.if-not-branch.false e.names, e.vars)

pub loop-place-preserved : goal.loop-place-preserved
loop-place-preserved g c =
    let Keeps : CellWorker g.row.P.Denot → Type 0 = λ x. IsWorkerReady g.P.Propagator.is_ready g.P.Propagator.attached x × GoesOn c.args.worker.now x
    × (vars_in x ≡ vars_in c.args.worker.now) in
    let i = c.loop-place.invariant in
    elim c.else-is_wanted.branch [
      | else-is_wanted-via-then-is_wanted+in_ok-take+else-branch w ↦
          let e = w.in_ok-take.ensures in
          subst Keeps (sym w.worker-is) (e.ready, goes c.args.worker.now c.loop-place.worker w.take.new.worker i.1 e.stands, e.vars ∙ i.2)
      | else-is_wanted-via-else-is_wanted w ↦ subst Keeps (sym w.worker-is) i
    ]

pub returns-then-branch-clause-stands : goal.returns-then-branch-clause-stands
returns-then-branch-clause-stands g c =
    goes c.args.worker.now c.loop-place.worker c.take.new.worker c.loop-place.invariant.1 c.in_ok-take.ensures.stands

pub returns-then-branch-clause-closed : goal.returns-then-branch-clause-closed
returns-then-branch-clause-closed g c = λ F steps text h.
    let a = c.loop-place.invariant.1 F steps text h in
    let i = on_true_at _ _ c.if-branch.true c.in_ok-take.ensures.closed F a.0 text a.2 in
    (i.0, extends_trans steps a.0 i.0 a.1 i.1, i.2, i.3)
