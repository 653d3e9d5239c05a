use Rattle.std.proofs.Common.{rules, arith, ◌≡◌, ◌||◌, ◌*◌, ◌+◌, false, replicate, refl}
use Rattle.std.proofs.lemmas.List.{with_items_is}
use Rattle.dimacs.specs.logic.Literal.{Literal, has}
use Rattle.cube_split.specs.inner.Marks.{AreMarked}
use Rattle.cube_split.proofs.MarkLemmas.{mark_clear, marked_same}
use Rattle.cube_split.proofs.marks.marks_of.Goals as goal

pub returns-clause-marked : goal.returns-clause-marked
returns-clause-marked c =
    let clear : c.deref_mut.result.now ≡ replicate (2 * (c.args.vars + 1)) false = search rules in
    let none : AreMarked c.deref_mut.result.now (λ (l : Literal). false) = rw clear (mark_clear (2 * (c.args.vars + 1))) in
    let items = with_items_is c.in_ok-marks.marks c.mark.new.marks (omega (arith, c.mark.auto.marks, c.deref_mut.ensures.len)) in
    rw items (marked_same c.mark.new.marks (λ l. false || has c.args.literals.now l) (has c.args.literals.now) (λ l. refl) (c.mark.ensures (λ l. false) none))
