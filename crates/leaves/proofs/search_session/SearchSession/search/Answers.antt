use Rattle.std.proofs.Common.{◌++◌, ◌∷◌, [], map, subst}
use Rattle.cube_solve.specs.Session.{last_of}
use Rattle.cube_solve.specs.declared.answer.Answer.{Answer}
use Rattle.dimacs.specs.logic.ClauseMap.{map_of}
use Rattle.dimacs.specs.logic.Literal.{negation}
use Rattle.lrat_text.specs.Log.{additions}
use Rattle.lrat_text.specs.Runs.{after_steps}
use Rattle.lrat_text.specs.declared.step.Step.TheVariants.{Add}
use Rattle.leaves.specs.inner.BlockSearch.{AnswerIsRight}
use Rattle.leaves.proofs.SearchSessionLemmas.{ends_at_limit, ends_closed, rup_of}
use Rattle.leaves.proofs.search_session.SearchSession.search.Goals as goal

pub returns-in-Satisfied-clause-searched : goal.returns-in-Satisfied-clause-searched
returns-in-Satisfied-clause-searched g c = λ F closing steps h.
    let a = c.in_ok-answer.ensures.answered F closing steps h in
    subst (λ (x : Answer). AnswerIsRight F c.args.cube.now c.args.limit (after_steps (map_of F) (steps ++ a.own)) (additions a.own) x) c.in-Satisfied.is a.says

pub returns-in_ok-close-in-Failed-clause-searched : goal.returns-in_ok-close-in-Failed-clause-searched
returns-in_ok-close-in-Failed-clause-searched g c = λ F closing steps h.
    let q = c.args.cube.now in
    let a = c.in_ok-answer.ensures.answered F closing steps h in
    let M = after_steps (map_of F) (steps ++ a.own) in
    let core = c.in-Failed.failure.core.items in
    let hints = c.in-Failed.failure.hints.items in
    let s = subst (λ (x : Answer). AnswerIsRight F q c.args.limit M (additions a.own) x) c.in-Failed.is a.says in
    let id = last_of c.close.new.self.session in (
      a.own ++ Add id (map negation core) hints [] ∷ [],
      ends_closed F closing steps a.own q c.args.limit c.close.new.self core hints id s.1 s.2 (c.in_ok-close-in-Failed.ensures.stands F closing (steps ++ a.own) a.stands (rup_of q core hints M c.requires.distinct s.1 s.0)),
    )

pub returns-in-Unknown-clause-searched : goal.returns-in-Unknown-clause-searched
returns-in-Unknown-clause-searched g c = λ F closing steps h.
    let q = c.args.cube.now in
    let a = c.in_ok-answer.ensures.answered F closing steps h in
    let s = subst (λ (x : Answer). AnswerIsRight F q c.args.limit (after_steps (map_of F) (steps ++ a.own)) (additions a.own) x) c.in-Unknown.is a.says in
    (a.own, ends_at_limit F closing steps a.own q c.args.limit c.ask.new.self s a.stands)
