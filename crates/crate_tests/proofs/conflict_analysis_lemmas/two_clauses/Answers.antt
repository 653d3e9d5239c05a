use Rattle.std.proofs.Common.{◌≡◌, [], ◌∷◌, ap, sym, ◌∙◌, subst}
use Rattle.std.specs.FinMap.{get, insert, empty, get-empty}
use Rattle.std.specs.Ordering.{nat_cmp}
use Rattle.clause_arena.specs.Clauses.{Clauses, live_of}
use Rattle.dimacs.specs.logic.Literal.{Neg, same}
use Rattle.conflict_analysis.specs.BuiltTrails.{AreInside}
use Rattle.crate_tests.proofs.SmallConflict.{first, second, pair_distinct, small_fresh, small_first, small_second, small_inside}
use Rattle.crate_tests.proofs.conflict_analysis_lemmas.two_clauses.Goals as goal
use Rattle.crate_tests.proofs.conflict_analysis_lemmas.two_clauses.Goals.{In_ok-add, In_ok-add-2}

pub add-requires-clause-distinct : goal.add-requires-clause-distinct
add-requires-clause-distinct c = pair_distinct c.neg.result c.pos.result (ap (λ k. same k c.pos.result) c.neg.ensures ∙ ap (same (Neg 1)) c.pos.ensures)

pub add-requires-clause-fresh : goal.add-requires-clause-fresh
add-requires-clause-fresh c = ap (λ (m : Clauses). get m 1) c.new-arena.ensures ∙ get-empty nat_cmp 1

one : (c : In_ok-add) → c.add.new.self ≡ insert empty 1 (c.in_ok-add.field-0.place, first)
one c = (c.in_ok-add.ensures.ok).2 ∙ ap (λ (m : Clauses). insert m 1 (c.in_ok-add.field-0.place, c.neg.result ∷ c.pos.result ∷ [])) c.new-arena.ensures
    ∙ ap (λ k. insert empty 1 (c.in_ok-add.field-0.place, k ∷ c.pos.result ∷ [])) c.neg.ensures ∙ ap (λ k. insert empty 1 (c.in_ok-add.field-0.place, Neg 1 ∷ k ∷ [])) c.pos.ensures

pub add-requires-2-clause-distinct : goal.add-requires-2-clause-distinct
add-requires-2-clause-distinct c = pair_distinct c.neg-2.result c.neg-3.result (ap (λ k. same k c.neg-3.result) c.neg-2.ensures ∙ ap (same (Neg 1)) c.neg-3.ensures)

pub add-requires-2-clause-fresh : goal.add-requires-2-clause-fresh
add-requires-2-clause-fresh c = ap (λ (m : Clauses). get m 2) (one (goal.at.add-requires-2-clause-fresh c).In_ok-add) ∙ small_fresh c.in_ok-add.field-0.place first

both : (c : In_ok-add-2) → c.add.new.self ≡ insert empty 1 (c.in_ok-add.field-0.place, first) → c.add-2.new.self ≡ insert (insert empty 1 (c.in_ok-add.field-0.place, first)) 2 (c.in_ok-add-2.field-0.place, second)
both c b = (c.in_ok-add-2.ensures.ok).2 ∙ ap (λ (m : Clauses). insert m 2 (c.in_ok-add-2.field-0.place, c.neg-2.result ∷ c.neg-3.result ∷ [])) b
    ∙ ap (λ k. insert (insert empty 1 (c.in_ok-add.field-0.place, first)) 2 (c.in_ok-add-2.field-0.place, k ∷ c.neg-3.result ∷ [])) c.neg-2.ensures
    ∙ ap (λ k. insert (insert empty 1 (c.in_ok-add.field-0.place, first)) 2 (c.in_ok-add-2.field-0.place, Neg 1 ∷ k ∷ [])) c.neg-3.ensures

pub returns-clause-first : goal.returns-clause-first
returns-clause-first c =
    let q = both (goal.at.returns-clause-first c).In_ok-add-2 (one (goal.at.returns-clause-first c).In_ok-add) in
    subst (λ m. live_of m 1 first) (sym q) (small_first c.in_ok-add.field-0.place c.in_ok-add-2.field-0.place)

pub returns-clause-second : goal.returns-clause-second
returns-clause-second c =
    let q = both (goal.at.returns-clause-second c).In_ok-add-2 (one (goal.at.returns-clause-second c).In_ok-add) in
    subst (λ m. live_of m 2 second) (sym q) (small_second c.in_ok-add.field-0.place c.in_ok-add-2.field-0.place)

pub returns-clause-inside : goal.returns-clause-inside
returns-clause-inside c =
    let q = both (goal.at.returns-clause-inside c).In_ok-add-2 (one (goal.at.returns-clause-inside c).In_ok-add) in
    subst (λ m. AreInside (live_of m) 2) (sym q) (small_inside c.in_ok-add.field-0.place c.in_ok-add-2.field-0.place)
