use Rattle.std.proofs.Common.{sym, ◌∙◌}
use Rattle.elimination.proofs.PickLemmas.{picked_skip, picked_step}
use Rattle.elimination.proofs.kept.pick.Goals as goal
use Rattle.elimination.proofs.kept.pick.Goals.{then-is_active+in_ok-append_clause+else-not-branch+in_ok-push, else-is_active}

pub loop-i-preserved : goal.loop-i-preserved
loop-i-preserved c =
    let r = c.args.reducer.now in
    let l = c.loop-i in
    elim c.if-is_active.branch [
      | then-is_active+in_ok-append_clause+else-not-branch+in_ok-push w ↦
          let p = w.in_ok-append_clause.ensures w.if-not-branch.false in
          rw (w.builder-is, w.numbers-is) (
            picked_step r.all.clauses r.active l.i l.numbers.items w.push.new.self.items l.builder.done w.append_clause.new.builder.done w.clause.result.now l.invariant.0
                w.in_ok-push.ensures.items w.clause.ensures p.0,
            p.1,
          )
      | else-is_active w ↦
          rw (w.builder-is, w.numbers-is) (picked_skip r.all.clauses r.active l.i l.numbers.items l.builder.done l.invariant.0 (sym c.is_active.ensures ∙ w.if-is_active.false), l.invariant.1)
    ]
