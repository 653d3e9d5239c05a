use Rattle.std.proofs.Common.{ℕ, ◌≡◌, ◌∙◌, ◌++◌, ◌∷◌, [], List, ap, map, refl, sym, subst}
use Rattle.std.specs.FinMap.{insert}
use Rattle.std.specs.List.{All}
use Rattle.std.proofs.lemmas.List.Elements.{All-nil}
use Rattle.cube_solve.specs.Session.{AreGiven, last_of, vars_of}
use Rattle.cube_solve.specs.SessionLog.{IsKnown}
use Rattle.dimacs.specs.logic.Literal.{Clause, IsWithin, negation}
use Rattle.lrat_text.specs.Grammar.{IsGroup}
use Rattle.lrat_text.specs.WrittenLine.{line_of}
use Rattle.lrat_text.specs.declared.step.Step.TheVariants.{Add}
use Rattle.leaves.proofs.SearchSessionLemmas.{stands_closed, within_limit, within_negated}
use Rattle.leaves.proofs.search_session.SearchSession.close.Goals as goal

pub give-requires-clause-within : goal.give-requires-clause-within
give-requires-clause-within g c =
    let vars = vars_of c.args.self.now.session in
    subst (All (IsWithin vars)) (sym (c.deref-2.ensures.value ∙ c.in_ok-clause.ensures ∙ ap (map negation) c.deref.ensures.value)) (within_negated vars c.args.failure.now.core.items c.requires.within)

pub put_lemma-requires-clause-within : goal.put_lemma-requires-clause-within
put_lemma-requires-clause-within g c =
    let vars = vars_of c.args.self.now.session in
    let core = c.args.failure.now.core.items in
    subst (All (IsWithin 199999999)) (sym (c.deref-3.ensures.value ∙ c.in_ok-clause.ensures ∙ ap (map negation) c.deref.ensures.value))
    (within_limit vars (map negation core) c.requires.ready.few (within_negated vars core c.requires.within))

pub returns-clause-stands : goal.returns-clause-stands
returns-clause-stands g c = λ F closing steps h rup.
    let s = c.args.self.now in
    let w = c.give.new.self in
    let vars = vars_of s.session in
    let core = c.args.failure.now.core.items in
    let hints = c.args.failure.now.hints.items in
    let C = map negation core in
    let e = c.in_ok-give.ensures in
    let is : c.in_ok-clause.clause.items ≡ C = c.in_ok-clause.ensures ∙ ap (map negation) c.deref.ensures.value in
    let given_is : c.deref-2.result.now ≡ C = c.deref-2.ensures.value ∙ is in
    let put_is : c.deref-3.result.now ≡ C = c.deref-3.ensures.value ∙ is in
    stands_closed F closing steps s (record { session = w; log = c.put_lemma.new.log }) w C hints c.requires.ready.few e.vars e.last e.number e.log
    (λ G k. subst (λ (D : Clause). AreGiven (G ++ D ∷ []) w) given_is (e.given G k))
    (λ given M k. subst (λ (D : Clause). IsKnown (given ++ last_of w ∷ []) (insert M (last_of w) D) w) given_is (e.known given M k))
    (e.number, within_negated vars core c.requires.within, c.requires.hints, All-nil IsGroup)
    refl
    (c.in_ok-put_lemma.ensures ∙ ap (λ (id : ℕ). s.log ++ line_of id (Add id c.deref-3.result.now c.deref-4.result.now [])) c.last-id.ensures
    ∙ ap (λ (D : Clause). s.log ++ line_of (last_of w) (Add (last_of w) D c.deref-4.result.now [])) put_is ∙ ap (λ (ns : List ℕ). s.log ++ line_of (last_of w) (Add (last_of w) C ns [])) c.deref-4.ensures.value) h rup
