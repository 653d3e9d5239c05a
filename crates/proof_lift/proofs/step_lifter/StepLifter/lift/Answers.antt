use Rattle.std.proofs.Common.{◌≡◌, ℕ, ◌+◌, ◌*◌, ◌<◌, ◌≤◌, ◌++◌, List, sym, ap, subst, ◌∙◌, vec_len, arith}
use Rattle.std.specs.Prelude.{All}
use Rattle.dimacs.specs.logic.Literal.{Clause, IsWithin, var_of}
use Rattle.lrat_check.specs.inner.LiteralTable.{FitsTable}
use Rattle.proof_lift.specs.TrimmedLemma.{union}
use Rattle.proof_lift.specs.inner.Images.{images_of}
use Rattle.proof_lift.specs.inner.Ready.{state_of}
use Rattle.proof_lift.specs.inner.Tables.{AllBelow, marked}
use Rattle.proof_lift.proofs.ReadyLemmas.{fits_longer, able_moves, stands_kept, fits_union, within_union, trims_all, trims_numbers, lemma_written, none_left_is, lent_back}
use Rattle.proof_lift.proofs.step_lifter.StepLifter.lift.Goals as goal

pub derive-requires-clause-clause : goal.derive-requires-clause-clause
derive-requires-clause-clause c =
    let q = c.args.self.now.cube.items in
    let C = c.args.lemma.lits.now in
    let is : c.join_cube.new.clause.items ≡ union q C = c.in_ok-join_cube.ensures.clause ∙ ap (λ (x : Clause). union x c.extend_from_slice.new.self.items) c.deref.ensures.value
    ∙ ap (union q) (c.in_ok-extend_from_slice.ensures.items ∙ ap (λ (x : Clause). x ++ C) c.clear.ensures.items) in
    subst (λ (E : Clause). FitsTable (vec_len c.args.self.now.scratch.used) E) (sym is)
    (fits_union (vec_len c.args.self.now.scratch.used) q C c.requires.ready.able.cube_used c.requires.ready.lemma_used)

pub write-requires-clause-literals : goal.write-requires-clause-literals
write-requires-clause-literals c =
    let q = c.args.self.now.cube.items in
    let C = c.args.lemma.lits.now in
    let is : c.join_cube.new.clause.items ≡ union q C = c.in_ok-join_cube.ensures.clause ∙ ap (λ (x : Clause). union x c.extend_from_slice.new.self.items) c.deref.ensures.value
    ∙ ap (union q) (c.in_ok-extend_from_slice.ensures.items ∙ ap (λ (x : Clause). x ++ C) c.clear.ensures.items) in
    trims_all (IsWithin 199999999) c.join_cube.new.clause.items _ c.in_ok-literals.literals.items c.derive.new.self.numbers.items
    (subst (λ (E : Clause). All (IsWithin 199999999) E) (sym is) (within_union 199999999 q C c.requires.ready.able.cube c.requires.literals)) c.in_ok-literals.ensures.derived

pub write-requires-clause-hints : goal.write-requires-clause-hints
write-requires-clause-hints c =
    trims_numbers 199999999 (images_of c.args.self.now.images) c.args.lemma.hints.now _ c.join_cube.new.clause.items c.in_ok-literals.literals.items c.derive.new.self.numbers.items c.requires.ready.able.small c.in_ok-literals.ensures.derived

pub returns-clause-writes : goal.returns-clause-writes
returns-clause-writes c =
    let q = c.args.self.now.cube.items in
    let C = c.args.lemma.lits.now in
    let is : c.join_cube.new.clause.items ≡ union q C = c.in_ok-join_cube.ensures.clause ∙ ap (λ (x : Clause). union x c.extend_from_slice.new.self.items) c.deref.ensures.value
    ∙ ap (union q) (c.in_ok-extend_from_slice.ensures.items ∙ ap (λ (x : Clause). x ++ C) c.clear.ensures.items) in
    lemma_written q C c.join_cube.new.clause.items c.in_ok-literals.literals.items (state_of c.args.self.now) (state_of c.write.new.self) c.args.id c.args.lemma.hints.now _ c.derive.new.self.numbers.items c.is_empty.result
    c.args.out.now.items c.write.new.out.items is
    (ap (λ (m : List ℕ). marked m c.args.line) (lent_back c.args.self.now.scratch.marks.len c.join_cube.new.marks c.args.self.now.scratch.marks.items (c.join_cube.ensures.places ∙ c.deref_mut.ensures.len)) ∙ c.in_ok-join_cube.ensures.assumed)
    c.in_ok-literals.ensures.derived (none_left_is C c.is_empty.result c.is_empty.ensures) c.in_ok-write.ensures.stands
    c.in_ok-write.ensures.counts.0 c.in_ok-write.ensures.counts.1 c.in_ok-write.ensures.counts.2 c.in_ok-write.ensures.text

pub returns-clause-ready : goal.returns-clause-ready
returns-clause-ready c =
    let old = c.args.self.now in
    let new = c.write.new.self in
    let q = old.cube.items in
    let C = c.args.lemma.lits.now in
    let able = c.requires.ready.able in
    let same = c.in_ok-write.ensures.same in
    let E = c.join_cube.new.clause.items in
    let D = c.in_ok-literals.literals.items in
    let is : E ≡ union q C = c.in_ok-join_cube.ensures.clause ∙ ap (λ (x : Clause). union x c.extend_from_slice.new.self.items) c.deref.ensures.value
    ∙ ap (union q) (c.in_ok-extend_from_slice.ensures.items ∙ ap (λ (x : Clause). x ++ C) c.clear.ensures.items) in
    let marks : vec_len old.scratch.marks ≤ vec_len new.scratch.marks = omega (arith, c.in_ok-literals.ensures.roomier.marks, ap vec_len same.marks) in
    let used : vec_len old.scratch.used ≤ vec_len new.scratch.used = omega (arith, c.in_ok-literals.ensures.roomier.used, ap vec_len same.used) in
    let below = able.below in
    let rises = c.requires.lemma in
    let high = c.requires.number.1 in
    let top = c.in_ok-write.ensures.counts.0 in
    let own = c.in_ok-write.ensures.counts.1 in
    let fits_marks : FitsTable (vec_len old.scratch.marks) D = trims_all (λ l. 2 * var_of l + 1 < vec_len old.scratch.marks) E _ D c.derive.new.self.numbers.items
    (subst (λ (x : Clause). FitsTable (vec_len old.scratch.marks) x) (sym is) (fits_union (vec_len old.scratch.marks) q C able.cube_marks c.requires.ready.lemma_marks)) c.in_ok-literals.ensures.derived in
    let fits_used : FitsTable (vec_len old.scratch.used) D = trims_all (λ l. 2 * var_of l + 1 < vec_len old.scratch.used) E _ D c.derive.new.self.numbers.items
    (subst (λ (x : Clause). FitsTable (vec_len old.scratch.used) x) (sym is) (fits_union (vec_len old.scratch.used) q C able.cube_used c.requires.ready.lemma_used)) c.in_ok-literals.ensures.derived in
    let within : All (IsWithin 199999999) D = trims_all (IsWithin 199999999) E _ D c.derive.new.self.numbers.items
    (subst (λ (x : Clause). All (IsWithin 199999999) x) (sym is) (within_union 199999999 q C able.cube c.requires.literals)) c.in_ok-literals.ensures.derived in
    record {
      positive = omega arith;
      able = able_moves old new able (record {
        stands = stands_kept old new c.args.id (old.own + 1) D c.in_ok-write.ensures.stands (record {
          marks = fits_longer (vec_len old.scratch.marks) (vec_len new.scratch.marks) D marks fits_marks;
          used = fits_longer (vec_len old.scratch.used) (vec_len new.scratch.used) D used fits_used;
          number = (omega arith, omega arith);
          last = omega arith;
          within = within;
        });
        cube = same.leaf.cube;
        live = same.live;
        marks = marks;
        used = used;
        below = omega arith;
        room = omega arith;
        top = omega arith;
        own = omega arith;
      });
      clean = record {
        marks = subst (λ v. AllBelow (c.args.line + 1) v.items) (sym same.marks) c.in_ok-literals.ensures.clean.marks;
        used = subst (λ v. AllBelow (c.args.line + 1) v.items) (sym same.used) c.in_ok-literals.ensures.clean.used;
      };
    }
