use Rattle.std.proofs.Common.{◌∙◌, refl, arith}
use Rattle.cell_worker.proofs.RestoredLemmas.{writes_nothing, writes_on}
use Rattle.cell_worker.proofs.worker.CellWorker.restore.Goals as goal
use Rattle.cell_worker.proofs.worker.CellWorker.restore.Goals.{then-is_false+in_ok-give_back, else-is_false}

pub loop-place-init : goal.loop-place-init
loop-place-init g c = (c.requires.ready, refl, refl, refl, refl, refl, omega arith, writes_nothing c.args.self.now)

pub loop-place-preserved : goal.loop-place-preserved
loop-place-preserved g c =
    let h = c.loop-place.invariant in
    let old = c.args.self.now in
    let s = c.loop-place.self in
    elim c.if-is_false.branch [
      | then-is_false+in_ok-give_back w ↦
          let e = w.in_ok-give_back.ensures in
          let u = w.give_back.new.self in
          rw w.self-is (
            e.ready,
            e.formula ∙ h.1,
            e.names ∙ h.2,
            e.vars ∙ h.3,
            e.gone ∙ h.4,
            e.clock ∙ h.5,
            (let l = e.last in let m = h.6 in omega arith),
            writes_on old s u h.7 e.stands,
          )
      | else-is_false w ↦ rw w.self-is (h.0, h.1, h.2, h.3, h.4, h.5, (let m = h.6 in omega arith), h.7)
    ]
