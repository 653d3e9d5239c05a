use Rattle.std.proofs.Common.{◌≡◌, ◌<◌, ◌≤◌, ◌∙◌, length, get_or, sym, arith}
use Rattle.std.proofs.lemmas.List.{get_or_default}
use Rattle.cube_solve.specs.Session.{last_of}
use Rattle.cell_worker.proofs.KeptLemmas.{numbered_more}
use Rattle.cell_worker.proofs.kept_session.give_all.Goals as goal

pub loop-i-preserved : goal.loop-i-preserved
loop-i-preserved g c =
    let h = c.loop-i.invariant in
    let e = c.in_ok-give_as.ensures in
    let k = c.args.kept.now in
    let numbers = k.numbers.items in
    let i = c.loop-i.i in
    let number = c.index.result.now in
    let u = c.give_as.new.search in
    let last = e.last in
    let here : i < length numbers = (let m = (c.requires.numbered).matched in let t = c.loop-i-test.true in let n = c.len-i-end.ensures in omega arith) in
    let at : get_or numbers i 0 ≡ number = get_or_default numbers i 0 number here ∙ sym c.index.ensures in
    let most : last_of u ≤ k.all = (let b = ((c.requires.numbered).within i 0 here).1 in omega arith) in (
      e.ready,
      e.vars ∙ h.1,
      e.log ∙ h.2,
      most,
      λ j low below. (let r = (c.requires.numbered).rising i j 0 (omega arith) below in omega arith),
      numbered_more k.formula.clauses numbers i number c.clause.result.now c.loop-i.search u here at (sym c.clause.ensures.clause) e.known h.5,
    )
