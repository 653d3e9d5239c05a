use Rattle.std.proofs.Common.{◌<◌, ◌^◌, List, ℕ, [], Ok, codes, refl, sym, ◌∙◌, ◌∷◌, ◌++◌, ap, subst, arith}
use Rattle.std.proofs.lemmas.Result.{on_ok_weaker}
use Rattle.dimacs.specs.logic.Literal.{Literal}
use Rattle.lrat_text.specs.Grammar.{IsStepWithin}
use Rattle.lrat_text.specs.declared.step.Step.TheVariants.{Add}
use Rattle.cube_solve.specs.declared.answer.Answer.{Answer}
use Rattle.sessions.specs.Lines.{Shows}
use Rattle.incremental.specs.inner.LidrupLines.{AppendsLine, core_text, listed_text}
use Rattle.incremental.specs.inner.ReaderSteps.{WritesAnswer, IsShort}
use Rattle.incremental.proofs.LineLemmas.{bare_by, core_bare, core_read, core_same, listed_bare, shown_read}
use Rattle.incremental.proofs.ModelLemmas.{model_limits}
use Rattle.incremental.proofs.proved_session.write_answer.Goals as goal

pub put_listed-requires : goal.put_listed-requires
put_listed-requires c =
    subst (λ (ls : List Literal). IsStepWithin 199999999 (Add 1 ls [] [])) (sym (c.deref.ensures.value ∙ c.in_ok-model-in-Satisfied.ensures))
    (model_limits 199999999 c.in-Satisfied.values (subst (IsShort 199999999) c.in-Satisfied.is c.requires))

pub returns-in_ok-put_line-in-Satisfied : goal.returns-in_ok-put_line-in-Satisfied
returns-in_ok-put_line-in-Satisfied c = on_ok_weaker c.put_listed.result
    (λ e most le own.
    let few : most < 2 ^ 48 = omega arith in
    let out = c.args.out.now.items in
    let mid = c.put_line.new.out.items in
    let values = c.in-Satisfied.values in
    let limits = model_limits most values (subst (IsShort most) c.in-Satisfied.is own) in
    let model = c.deref.ensures.value ∙ c.in_ok-model-in-Satisfied.ensures in
    subst (λ (a : Answer). WritesAnswer most a out c.put_listed.new.out.items) (sym c.in-Satisfied.is) (
      mid,
      record { line = codes "s SATISFIABLE"; bare = bare_by (codes "s SATISFIABLE") refl; read = refl; text = c.in_ok-put_line-in-Satisfied.ensures },
      subst (λ (ls : List Literal). AppendsLine most (Ok (Shows ls)) mid c.put_listed.new.out.items) model
          (let short = subst (λ (ls : List Literal). IsStepWithin most (Add 1 ls [] [])) (sym model) limits in record { line = listed_text 109 c.deref.result.now; bare = listed_bare most few 109 c.deref.result.now short (λ x. cc); read = shown_read most few c.deref.result.now short; text = e }),
    ))
    c.put_listed.ensures

pub returns-in_ok-put_line-in-Failed : goal.returns-in_ok-put_line-in-Failed
returns-in_ok-put_line-in-Failed c = on_ok_weaker c.put_core.result
    (λ e most le own.
    let few : most < 2 ^ 48 = omega arith in
    let out = c.args.out.now.items in
    let mid = c.put_line-in-Failed.new.out.items in
    let f = c.in-Failed.failure in
    let limits = subst (IsShort most) c.in-Failed.is own in
    subst (λ (a : Answer). WritesAnswer most a out c.put_core.new.out.items) (sym c.in-Failed.is) (
      mid,
      record { line = codes "s UNSATISFIABLE"; bare = bare_by (codes "s UNSATISFIABLE") refl; read = refl; text = c.in_ok-put_line-in-Failed.ensures },
      record { line = core_text f.core.items f.hints.items; bare = core_bare most few f.core.items f.hints.items limits; read = core_read most few f.core.items f.hints.items limits; text = e ∙ ap (λ (x : List ℕ). mid ++ (x ++ 10 ∷ [])) (core_same c.deref-in-Failed.ensures.value c.deref-in-Failed-2.ensures.value) },
    ))
    c.put_core.ensures

pub returns-in-Unknown : goal.returns-in-Unknown
returns-in-Unknown c = on_ok_weaker c.put_line-in-Unknown.result
    (λ e most le own. subst (λ (a : Answer). WritesAnswer most a c.args.out.now.items c.put_line-in-Unknown.new.out.items) (sym c.in-Unknown.is)
    (record { line = codes "s UNKNOWN"; bare = bare_by (codes "s UNKNOWN") refl; read = refl; text = e }))
    c.put_line-in-Unknown.ensures
