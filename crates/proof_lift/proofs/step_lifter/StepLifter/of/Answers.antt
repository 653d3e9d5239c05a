use Rattle.std.proofs.Common.{◌≡◌, ℕ, ◌-◌, ◌≤◌, [], Some, sym, ap, subst, ◌∙◌, lit<, length, vec_len, arith}
use Rattle.std.specs.Prelude.{All}
use Rattle.dimacs.specs.logic.Cnf.{IsFormula}
use Rattle.dimacs.specs.logic.Literal.{Clause, IsWithin}
use Rattle.lrat_check.specs.inner.LiteralTable.{FitsTable}
use Rattle.proof_lift.specs.HintWalk.{Kept, ClauseImages}
use Rattle.proof_lift.specs.LiftedText.{leaf_images}
use Rattle.proof_lift.specs.inner.Images.{images_of}
use Rattle.proof_lift.proofs.ReadyLemmas.{leaf_kept, clause_fits, clause_within}
use Rattle.proof_lift.proofs.step_lifter.StepLifter.of.Goals as goal

pub returns-clause-ready : goal.returns-clause-ready
returns-clause-ready c =
    let F = c.args.formula in
    let q = c.args.cube.items in
    let form : IsFormula F = c.vars.ensures.valid in
    let units : length q ≡ c.len-2.result = omega (arith, c.len-2.ensures, c.args.cube.ok) in
    let is : images_of c.in_ok-images.images ≡ leaf_images q F = c.in_ok-images.ensures.stands q units in
    let at = λ (n i : ℕ) (D : Clause) (e : images_of c.in_ok-images.images n ≡ Some (Kept i D)). leaf_kept q F n i D (sym (ap (λ (T : ClauseImages). T n) is) ∙ e) in
    let own : c.len-own.result ≡ length F.clauses = c.len-own.ensures in
    let few = form.clauses in
    let wide : F.vars ≤ 199999999 = omega (arith, form.vars) in
    let short = c.requires.few in
    let count = c.len.ensures in
    record {
      positive = lit< tt;
      able = record {
        marks_fit = λ n i D e. let a = at n i D e in clause_fits F.vars (vec_len c.in_ok-scratch.scratch.marks) D c.in_ok-scratch.ensures.marks (subst (λ (E : Clause). All (IsWithin F.vars) E) (sym a.3) (form.within (n - 1) [] a.2));
        used_fit = λ n i D e. let a = at n i D e in clause_fits F.vars (vec_len c.in_ok-scratch.scratch.used) D c.in_ok-scratch.ensures.used (subst (λ (E : Clause). All (IsWithin F.vars) E) (sym a.3) (form.within (n - 1) [] a.2));
        cube_marks = subst (λ (E : Clause). FitsTable (vec_len c.in_ok-scratch.scratch.marks) E) c.deref.ensures.value c.in_ok-scratch.ensures.cube.0;
        cube_used = subst (λ (E : Clause). FitsTable (vec_len c.in_ok-scratch.scratch.used) E) c.deref.ensures.value c.in_ok-scratch.ensures.cube.1;
        small = λ n i D e.
            let a = at n i D e in
            let same = a.0 in
            let low = a.1 in
            let high = a.2 in
            ((omega arith, omega arith), clause_within 199999999 F.vars D wide (subst (λ (E : Clause). All (IsWithin F.vars) E) (sym a.3) (form.within (n - 1) [] a.2)));
        last = λ n i D e.
            let a = at n i D e in
            let same = a.0 in
            let low = a.1 in
            let high = a.2 in
            omega arith;
        cube = c.requires.within;
        below = omega arith;
        room = omega arith;
        lemmas = omega (arith, c.in_ok-images.ensures.live, c.len-2.ensures);
      };
      clean = c.in_ok-scratch.ensures.clean;
    }
