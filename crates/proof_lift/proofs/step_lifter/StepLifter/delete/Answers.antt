use Rattle.std.proofs.Common.{◌≢◌, ℕ, ◌+◌, ◌≤◌, ◌++◌, List, inl, sym, ap, subst, ◌∙◌, vec_len, length, arith}
use Rattle.std.specs.Prelude.{All}
use Rattle.std.specs.List.{AllByRecursion}
use Rattle.std.proofs.lemmas.Bool.{eqb-false}
use Rattle.std.proofs.lemmas.List.{append-nil}
use Rattle.std.proofs.lemmas.List.Elements.{All-from_recursion}
use Rattle.lrat_text.specs.Grammar.{IsClauseNumber}
use Rattle.lrat_text.specs.Runs.{text_of}
use Rattle.lrat_text.specs.WrittenLine.{line_of}
use Rattle.lrat_text.specs.declared.step.Step.{Step}
use Rattle.lrat_text.specs.declared.step.Step.TheVariants.{Delete}
use Rattle.proof_lift.specs.HintWalk.{ClauseImages}
use Rattle.proof_lift.specs.inner.Images.{images_of}
use Rattle.proof_lift.specs.inner.Ready.{state_of}
use Rattle.proof_lift.specs.inner.Tables.{AllBelow}
use Rattle.proof_lift.proofs.ReadyLemmas.{able_moves, deletion_less, below_later, numbers_all, first_part, some_own, deletion_text, deletion_is}
use Rattle.proof_lift.proofs.step_lifter.StepLifter.delete.Goals as goal

pub returns-then-is_empty-clause-ready : goal.returns-then-is_empty-clause-ready
returns-then-is_empty-clause-ready c =
    let old = c.args.self.now in
    let able = c.requires.ready.able in
    let same = c.in_ok-remove.ensures.same in
    let top = c.in_ok-remove.ensures.counts.0 in
    let own = c.in_ok-remove.ensures.counts.1 in
    let below = able.below in
    let room = able.room in
    record {
      positive = omega arith;
      able = able_moves old _ able (record {
        stands = λ n i D e. inl (deletion_less (images_of old.images) c.args.ids.now n i D (sym (ap (λ (T : ClauseImages). T n) c.in_ok-remove.ensures.stands) ∙ e));
        cube = same.leaf.cube;
        live = same.live;
        marks = omega (arith, ap vec_len same.marks);
        used = omega (arith, ap vec_len same.used);
        below = omega arith;
        room = omega arith;
        top = omega arith;
        own = omega arith;
      });
      clean = record {
        marks = subst (λ v. AllBelow (c.args.line + 1) v.items) (sym same.marks) (below_later c.args.line (c.args.line + 1) old.scratch.marks.items (omega arith) c.requires.ready.clean.marks);
        used = subst (λ v. AllBelow (c.args.line + 1) v.items) (sym same.used) (below_later c.args.line (c.args.line + 1) old.scratch.used.items (omega arith) c.requires.ready.clean.used);
      };
    }

pub put_ref-requires-clause-limits : goal.put_ref-requires-clause-limits
put_ref-requires-clause-limits c =
    let old = c.args.self.now in
    let T = images_of old.images in
    let ids = c.args.ids.now in
    let m = length old.images.formula.clauses in
    let able = c.requires.ready.able in
    let all = numbers_all m old.own T ids (λ n i D e. ((able.small n i D e).0, able.last n i D e)) in
    subst (λ (ns : List ℕ). All IsClauseNumber ns) (sym (c.deref.ensures.value ∙ c.in_ok-remove.ensures.numbers)) (All-from_recursion IsClauseNumber _ (first_part old.own _ all))

pub put_ref-requires-clause-numbered : goal.put_ref-requires-clause-numbered
put_ref-requires-clause-numbered c =
    let old = c.args.self.now in
    let T = images_of old.images in
    let ids = c.args.ids.now in
    let m = length old.images.formula.clauses in
    let able = c.requires.ready.able in
    let all = numbers_all m old.own T ids (λ n i D e. ((able.small n i D e).0, able.last n i D e)) in
    let numbers = c.remove.new.self.scratch.numbers in
    let apart : length numbers.items ≢ 0 = λ z. eqb-false (vec_len numbers) 0 (sym c.is_empty.ensures ∙ c.if-is_empty.false) (omega (arith, numbers.ok, z)) in
    let some : 1 ≤ old.own = some_own old.own numbers.items (subst (λ (ns : List ℕ). AllByRecursion (λ i. IsClauseNumber i × (i ≤ old.own)) ns) (sym c.in_ok-remove.ensures.numbers) all) apart in
    let own = c.in_ok-remove.ensures.counts.1 in
    let below = able.below in
    let room = able.room in
    (omega arith, omega arith)

pub returns-clause-writes : goal.returns-clause-writes
returns-clause-writes c =
    let old = c.args.self.now in
    let numbers = c.remove.new.self.scratch.numbers in
    let apart : length numbers.items ≢ 0 = λ z. eqb-false (vec_len numbers) 0 (sym c.is_empty.ensures ∙ c.if-is_empty.false) (omega (arith, numbers.ok, z)) in
    let counts = c.in_ok-remove.ensures.counts in
    deletion_text old.cube.items (length old.images.formula.clauses) (state_of old) (state_of c.remove.new.self) c.args.ids.now numbers.items c.args.out.now.items c.put_ref.new.out.items
    c.in_ok-remove.ensures.live c.in_ok-remove.ensures.numbers c.in_ok-remove.ensures.stands counts.0 counts.1 counts.2
    (c.in_ok-put_ref.ensures.ok
    ∙ ap (λ (n : ℕ). c.args.out.now.items ++ line_of n (Delete c.deref.result.now)) counts.1
    ∙ ap (λ (ns : List ℕ). c.args.out.now.items ++ line_of old.own (Delete ns)) c.deref.ensures.value
    ∙ ap (λ (xs : List ℕ). c.args.out.now.items ++ xs) (sym (append-nil (line_of old.own (Delete numbers.items))))
    ∙ ap (λ (ss : List Step). c.args.out.now.items ++ text_of old.own ss) (sym (deletion_is numbers.items apart)))

pub returns-clause-ready : goal.returns-clause-ready
returns-clause-ready c =
    let old = c.args.self.now in
    let able = c.requires.ready.able in
    let same = c.in_ok-remove.ensures.same in
    let top = c.in_ok-remove.ensures.counts.0 in
    let own = c.in_ok-remove.ensures.counts.1 in
    let below = able.below in
    let room = able.room in
    record {
      positive = omega arith;
      able = able_moves old _ able (record {
        stands = λ n i D e. inl (deletion_less (images_of old.images) c.args.ids.now n i D (sym (ap (λ (T : ClauseImages). T n) c.in_ok-remove.ensures.stands) ∙ e));
        cube = same.leaf.cube;
        live = same.live;
        marks = omega (arith, ap vec_len same.marks);
        used = omega (arith, ap vec_len same.used);
        below = omega arith;
        room = omega arith;
        top = omega arith;
        own = omega arith;
      });
      clean = record {
        marks = subst (λ v. AllBelow (c.args.line + 1) v.items) (sym same.marks) (below_later c.args.line (c.args.line + 1) old.scratch.marks.items (omega arith) c.requires.ready.clean.marks);
        used = subst (λ v. AllBelow (c.args.line + 1) v.items) (sym same.used) (below_later c.args.line (c.args.line + 1) old.scratch.used.items (omega arith) c.requires.ready.clean.used);
      };
    }
