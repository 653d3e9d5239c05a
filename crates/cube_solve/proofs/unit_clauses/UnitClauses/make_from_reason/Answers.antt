use Rattle.std.proofs.Common.{[], ◌∷◌, ◌++◌, ap, sym, ◌∙◌, subst}
use Rattle.std.specs.List.{All}
use Rattle.std.proofs.lemmas.Bool.{OnTrue_at}
use Rattle.clause_arena.specs.Clauses.{live_of}
use Rattle.dimacs.specs.logic.Literal.{Clause, IsWithin}
use Rattle.dimacs.specs.logic.Propagation.{Rup}
use Rattle.cube_solve.specs.inner.UnitClauses.{IsLed}
use Rattle.cube_solve.proofs.UnitClauseLemmas.{led_rup}
use Rattle.cube_solve.proofs.unit_clauses.UnitClauses.make_from_reason.Goals as goal

pub push_hints-requires-clause-within : goal.push_hints-requires-clause-within
push_hints-requires-clause-within c =
    let s = c.requires.live in
    subst (All (IsWithin c.args.trail.now.vars)) (sym (c.clause-clause.ensures.literals s.0 s.1)) (c.requires.inside c.args.at.number s.0 (c.args.at.place, s.1.0))

pub returns : goal.returns
returns c =
    let live = live_of c.args.arena.now in
    let es = c.args.trail.now.entries in
    let l = c.args.literal in
    let s = c.requires.live in
    let hints = c.push_hints.new.hints.items in
    let led = subst (λ (C : Clause). IsLed live es l C hints) (c.clause-clause.ensures.literals s.0 s.1) (OnTrue_at c.if-not-branch.false c.in_ok-push_hints.ensures) in
    let r = led_rup live es l s.0 hints c.args.at.number led (c.args.at.place, s.1.0) in
    record {
      within = c.requires.within;
      fixed = c.requires.fixed;
      lits = c.in_ok-push.ensures.items ∙ ap (λ (C : Clause). C ++ l ∷ []) c.clear.ensures.items;
      rup = subst (Rup live (l ∷ [])) (sym (c.in_ok-push-2.ensures.items ∙ ap (λ n. hints ++ n ∷ []) c.number.ensures)) r;
      unnoted = c.requires.unnoted;
    }
