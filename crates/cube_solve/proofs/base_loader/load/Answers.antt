use Rattle.std.proofs.Common.{◌≡◌, ℕ, ◌+◌, ◌*◌, ◌<◌, List, [], length, take, get_or, replicate, sym, ◌∙◌, ap, subst, arith, rules}
use Rattle.std.specs.List.{All}
use Rattle.std.specs.FinMap.{insert}
use Rattle.std.proofs.lemmas.List.{length-take-le, length-replicate}
use Rattle.std.proofs.lemmas.List.Elements.{All-replicate}
use Rattle.dimacs.specs.logic.ClauseMap.{live_in}
use Rattle.dimacs.specs.logic.Literal.{Clause, IsWithin}
use Rattle.clause_arena.specs.Clauses.{Clauses, live_of}
use Rattle.watches.specs.Law.{SameUpToOrder}
use Rattle.cube_solve.specs.inner.Twins.{AreTwins, AreLinked, IsAdded}
use Rattle.cube_solve.proofs.ClauseLemmas.{is_added, added_twin, bound_same, linked_more}
use Rattle.lrat_text.proofs.ClauseMapLemmas.{numbered, numbered_between}
use Rattle.cube_solve.proofs.MapLemmas.{numbered_more, not_live, linked_none}
use Rattle.cube_solve.proofs.StateLemmas.{state_none, state_loaded}
use Rattle.cube_solve.proofs.base_loader.load.Goals as goal

-- nothing is live under the next number
no_clause : (F : List Clause) (i : ℕ) (m : Clauses) → i < length F → AreLinked (live_in (numbered (take i F))) (live_of m) → (C : Clause) → live_of m (i + 1) C → ⊥
no_clause F i m l h C k =
    let d = h.back (i + 1) C k in
    let b = numbered_between (take i F) (i + 1) d.0 d.1 in
    let up = b.1 in
    let long : length (take i F) ≡ i = length-take-le i F (omega arith) in
    omega arith

joined : (F : List Clause) (i place : ℕ) (m k : Clauses) (C given : Clause) → i < length F → AreLinked (live_in (numbered (take i F))) (live_of m) → given ≡ C → SameUpToOrder (insert m (i + 1) (place, given)) k
    → IsAdded (live_of m) (i + 1) C (live_of k)
joined F i place m k C given l h e s = is_added m k (i + 1) place C (not_live m (i + 1) (no_clause F i m l h)) (subst (λ (D : Clause). SameUpToOrder (insert m (i + 1) (place, D)) k) e s)

pub loop-i-init : goal.loop-i-init
loop-i-init g c =
    let zeros : c.in_ok-table.table.items ≡ replicate (2 * c.vars-rows.result + 2) 0 = search rules in
    let stamps : c.as_mut_slice-stamps.result.now ≡ replicate (2 * c.vars-rows.result + 2) 0 = c.as_mut_slice-stamps.ensures.value ∙ zeros in
    record {
      ready = c.requires.ready;
      state = state_none _ c.args.arena.now c.args.trail.now c.requires.none c.requires.empty c.requires.entries;
      linked = linked_none c.args.arena.now c.requires.empty;
      bounded = subst (λ (xs : List ℕ). All (λ s. s < 1) xs) (sym stamps) (All-replicate (λ (s : ℕ). s < 1) (2 * c.vars-rows.result + 2) 0 (omega arith));
      sized = ap length stamps ∙ length-replicate (2 * c.vars-rows.result + 2) 0;
    }

pub add_clause-requires-clause-fresh : goal.add_clause-requires-clause-fresh
add_clause-requires-clause-fresh g c = not_live c.loop-i.arena (c.loop-i.i + 1) (no_clause c.args.base.now.clauses c.loop-i.i c.loop-i.arena (let t = c.loop-i-test.true in let n = c.len-i-end.ensures in omega arith) c.loop-i.invariant.linked)

pub add_clause-requires-clause-apart : goal.add_clause-requires-clause-apart
add_clause-requires-clause-apart g c = λ h.
    let d = (c.loop-i.invariant.state).all_live (c.loop-i.i + 1) h in
    no_clause c.args.base.now.clauses c.loop-i.i c.loop-i.arena (let t = c.loop-i-test.true in let n = c.len-i-end.ensures in omega arith) c.loop-i.invariant.linked d.0 d.1

pub add_clause-requires-clause-within : goal.add_clause-requires-clause-within
add_clause-requires-clause-within g c =
    subst (λ (C : Clause). All (IsWithin c.args.trail.now.vars) C) (sym c.deref.ensures.value)
    (subst (λ v. All (IsWithin v) c.keep_first.new.kept.items) (sym c.requires.vars)
    (bound_same (IsWithin c.args.base.now.vars) c.clause.result.now c.keep_first.new.kept.items c.in_ok-keep_first.ensures.twins c.clause.ensures.within))

pub loop-i-preserved : goal.loop-i-preserved
loop-i-preserved g c =
    let F = c.args.base.now.clauses in
    let i = c.loop-i.i in
    let m = c.loop-i.arena in
    let k = c.add_clause.new.arena in
    let kept = c.keep_first.new.kept.items in
    let l : i < length F = let t = c.loop-i-test.true in let n = c.len-i-end.ensures in omega arith in
    let place = (c.in_ok-add_clause.ensures.clauses).0 in
    let add : IsAdded (live_of m) (i + 1) kept (live_of k) = joined F i place m k kept c.deref.result.now l c.loop-i.invariant.linked c.deref.ensures.value (c.in_ok-add_clause.ensures.clauses).1 in
    record {
      ready = c.in_ok-add_clause.ensures.ready;
      state = state_loaded m k (i + 1) kept add _ _ c.args.trail.now c.in_ok-add_clause.ensures.ok c.loop-i.invariant.state c.requires.entries
          (subst (λ v. All (IsWithin v) kept) (sym c.requires.vars) (bound_same (IsWithin c.args.base.now.vars) c.clause.result.now kept c.in_ok-keep_first.ensures.twins c.clause.ensures.within));
      linked = linked_more (live_in (numbered (take i F))) (live_in (numbered (take (i + 1) F))) (live_of m) (live_of k) (i + 1) (get_or F i []) c.loop-i.invariant.linked (numbered_more F i l)
          (added_twin (live_of m) (live_of k) (i + 1) (get_or F i []) kept (subst (λ (C : Clause). AreTwins C kept) c.clause.ensures.clause c.in_ok-keep_first.ensures.twins) add);
      bounded = c.in_ok-keep_first.ensures.bounded;
      sized = search rules;
    }
