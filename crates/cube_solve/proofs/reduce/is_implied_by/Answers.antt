use Rattle.std.proofs.Common.{◌≡◌, true, Some, sym, ◌∙◌, ap, subst}
use Rattle.std.specs.List.{Contains}
use Rattle.std.proofs.lemmas.Bool.{both_ways}
use Rattle.dimacs.specs.logic.Literal.{Literal, var_of}
use Rattle.conflict_analysis.proofs.EntryLemmas.{one_entry, holds_from_entry}
use Rattle.watches.specs.declared.trail.Assigned.{Assigned}
use Rattle.watches.specs.Trails.{holds}
use Rattle.cube_solve.proofs.ReductionLemmas.{on_false_weaker}
use Rattle.cube_solve.proofs.reduce.is_implied_by.Goals as goal

pub returns-in-True : goal.returns-in-True
returns-in-True c =
    let v = c.entries.ensures.valid in
    on_false_weaker c.has_reason.result (¬ (c.entry_of.result.reason ≡ Some c.args.number))
    ((e : Assigned) → Contains c.args.trail.now.entries e → e.literal ≡ c.args.literal → ¬ (e.reason ≡ Some c.args.number))
    (λ f e i s r.
    let same : e ≡ c.entry_of.result = one_entry c.args.trail.now.entries e c.entry_of.result v.apart i c.entry_of.ensures.member (ap var_of (s ∙ sym c.entry_of.ensures.literal)) in
    f (subst (λ (x : Assigned). x.reason ≡ Some c.args.number) same r))
    c.has_reason.ensures

pub returns-in-False : goal.returns-in-False
returns-in-False c = λ e i s r. both_ways (holds c.args.trail.now.entries c.args.literal) c.in-False.ensures.0 (subst (λ (l : Literal). holds c.args.trail.now.entries l ≡ true) s (holds_from_entry c.args.trail.now.entries e i))

pub returns-in-Free : goal.returns-in-Free
returns-in-Free c = λ e i s r. both_ways (holds c.args.trail.now.entries c.args.literal) c.in-Free.ensures.0 (subst (λ (l : Literal). holds c.args.trail.now.entries l ≡ true) s (holds_from_entry c.args.trail.now.entries e i))
