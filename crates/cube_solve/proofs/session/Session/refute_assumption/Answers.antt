use Rattle.std.proofs.Common.{◌≡◌, inr, sym, ◌∙◌, ap, subst}
use Rattle.std.specs.List.{Contains}
use Rattle.std.proofs.lemmas.List.Elements.{All-contains}
use Rattle.clause_arena.specs.Clauses.{live_of}
use Rattle.conflict_analysis.proofs.EntryLemmas.{one_entry}
use Rattle.dimacs.specs.logic.Literal.{IsWithin, negation, var_of}
use Rattle.dimacs.proofs.LiteralLemmas.{IsWithin-negation, negation-negation}
use Rattle.watches.specs.declared.trail.Assigned.{Assigned}
use Rattle.cube_solve.proofs.AssumptionLemmas.{assuming_below}
use Rattle.cube_solve.proofs.LogLemmas.{hints_numbers}
use Rattle.cube_solve.proofs.SearchLemmas.{closes_assumption, decision_in_cube, false_beside}
use Rattle.cube_solve.proofs.SessionLemmas.{pair_fails}
use Rattle.cube_solve.proofs.session.Session.refute_assumption.Goals as goal

pub close_cube-requires-clause-closing : goal.close_cube-requires-clause-closing
close_cube-requires-clause-closing g c = (
  c.requires.is_false,
  λ d.
      let es = c.args.self.now.search.state.trail.entries in
      let v = c.entries.ensures.valid in
      let x = c.entry_of-entry in
      let one : d.0 ≡ x.result = one_entry es d.0 x.result v.apart d.1 x.ensures.member (ap var_of (d.2 ∙ sym (x.ensures.literal ∙ c.negate.ensures))) in
      let a = sym d.3 ∙ ap (λ (e : Assigned). e.reason) one in
      let b = c.in-Some.is in
      absurd (cc),
)

pub returns-in_ok-lemma-in-Some : goal.returns-in_ok-lemma-in-Some
returns-in_ok-lemma-in-Some g c = λ q h i.
    let s = c.args.self.now.search.state in
    let e = c.in_ok-lemma-in-Some.ensures in
    record {
      follows = inr e.rup;
      negates = closes_assumption q (live_of s.arena) s.trail.entries s.assumed c.args.literal c.in_ok-lemma-in-Some.lemma.lits.items h (((c.requires.ready).steady).state).built i c.requires.is_false e.negates;
      within = e.within;
      numbers = hints_numbers (live_of s.arena) c.args.self.now.top c.in_ok-lemma-in-Some.lemma.lits.items c.in_ok-lemma-in-Some.lemma.hints.items (c.requires.ready).bounded (c.requires.ready).below e.rup;
    }

pub returns-in_ok-lemma-in-None : goal.returns-in_ok-lemma-in-None
returns-in_ok-lemma-in-None g c = λ q h i.
    let s = c.args.self.now.search.state in
    let es = s.trail.entries in
    let l = c.args.literal in
    let v = c.entries.ensures.valid in
    let x = c.entry_of-entry in
    let built = (((c.requires.ready).steady).state).built in
    let within : IsWithin s.trail.vars l =
    subst (IsWithin s.trail.vars) (ap negation (x.ensures.literal ∙ c.negate.ensures) ∙ negation-negation l) (IsWithin-negation s.trail.vars (x.result).literal (All-contains (λ (e : Assigned). IsWithin s.trail.vars e.literal) es x.result v.within x.ensures.member)) in
    let j : Contains q (negation l) =
    decision_in_cube q es s.assumed (negation l) h (assuming_below q es s.assumed l i (false_beside (live_of s.arena) es l built c.requires.is_false) h) (x.result, x.ensures.member, x.ensures.literal ∙ c.negate.ensures, c.in-None.is) in
    pair_fails (live_of s.arena) s.trail.vars q c.in_ok-lemma-in-None.lemma l c.in_ok-lemma-in-None.ensures.lits c.in_ok-lemma-in-None.ensures.hints within i j
