use Rattle.std.proofs.Common.{[], ◌∷◌, ◌++◌, sym, ◌∙◌, ap, subst}
use Rattle.std.specs.List.{All}
use Rattle.dimacs.specs.logic.Literal.{Literal, Clause, IsWithin, var_of}
use Rattle.dimacs.specs.logic.Propagation.{Rup}
use Rattle.clause_arena.specs.Clauses.{live_of}
use Rattle.lrat_text.specs.WrittenLine.{line_of}
use Rattle.lrat_text.specs.declared.step.Step.TheVariants.{Add}
use Rattle.cube_solve.specs.inner.UnitClauses.{IsUnitOf, IsNoted}
use Rattle.cube_solve.proofs.LogLemmas.{lemma_limits, lemma_line}
use Rattle.cube_solve.proofs.UnitClauseLemmas.{noted_added, one_within, unit_is_new}
use Rattle.cube_solve.proofs.search.Search.learn_unit.Goals as goal

pub write-requires : goal.write-requires
write-requires g c =
    let s = c.args.self.now in
    let f = c.requires.fixing in
    lemma_line (live_of s.state.arena) s.state.trail.vars c.args.id s.lemma.lits.items s.lemma.hints.items c.requires.id c.requires.numbers c.requires.limit
    (subst (All (IsWithin s.state.trail.vars)) (sym f.lits) (one_within s.state.trail.vars c.args.literal f.within))
    (subst (λ (C : Clause). Rup (live_of s.state.arena) C s.lemma.hints.items) (sym f.lits) f.rup)

pub returns-clause-noted : goal.returns-clause-noted
returns-clause-noted g c =
    let s = c.args.self.now in
    let l = c.args.literal in
    noted_added (live_of s.state.arena) (live_of c.add_root_unit.new.self.arena) c.args.id (l ∷ []) s.units.numbers.items c.note.new.self.numbers.items c.note.ensures.kept
    (subst (λ (C : Clause). (k : Literal) → IsUnitOf C k → IsNoted c.note.new.self.numbers.items (var_of k)) (c.deref-2.ensures.value ∙ (c.requires.fixing).lits) c.note.ensures.noted)
    c.in_ok-add_root_unit.ensures.added c.requires.noted

pub returns-clause-learns : goal.returns-clause-learns
returns-clause-learns g c =
    let s = c.args.self.now in
    let live = live_of s.state.arena in
    let vars = s.state.trail.vars in
    let l = c.args.literal in
    let f = c.requires.fixing in
    let hints = s.lemma.hints.items in
    record {
      lits = l ∷ [];
      written = record {
        hints = hints;
        rup = f.rup;
        within = one_within vars l f.within;
        few = c.requires.limit;
        limits = lemma_limits live vars c.args.id (l ∷ []) hints c.requires.id c.requires.numbers (one_within vars l f.within) f.rup;
        text = c.in_ok-write.ensures ∙ ap (λ (C : Clause). s.log ++ line_of c.args.id (Add c.args.id C hints [])) f.lits;
      };
      is_new = unit_is_new live s.state.trail.entries s.units.numbers.items l c.requires.noted f.unnoted ((c.requires.steady).state).quiet c.requires.above;
      added = c.in_ok-add_root_unit.ensures.added;
    }
