use Rattle.std.proofs.Common.{◌≡◌, ◌<◌, ◌≤◌, ℕ, List, length, set, Some, ap, sym, ◌∙◌, subst, arith}
use Rattle.std.specs.List.{slice_get}
use Rattle.std.proofs.lemmas.Bool.{both_ways}
use Rattle.std.proofs.lemmas.List.{get_or-set_same, get_or_past}
use Rattle.std.proofs.lemmas.List.Elements.{Contains-get_or}
use Rattle.std.proofs.lemmas.Option.{get_or_from_slice_get, slice_get_within}
use Rattle.std.specs.List.{Contains}
use Rattle.dimacs.specs.logic.Literal.{Literal, Clause, var_of}
use Rattle.cube_solve.specs.inner.UnitClauses.{IsUnitOf, IsNoted}
use Rattle.cube_solve.proofs.unit_clauses.UnitClauses.note.Goals as goal
use Rattle.cube_solve.proofs.unit_clauses.UnitClauses.note.Goals.{else-row-len-via-then-row-len+else-are_all, else-row-len-via-else-row-len}

-- the first literal is the only one
first_is : (C : Clause) (x l : Literal) → slice_get C 0 ≡ Some x → IsUnitOf C l → x ≡ l
first_is C x l q a = a.1 x (subst (Contains C) (get_or_from_slice_get C 0 x x q) (Contains-get_or C 0 x (slice_get_within C 0 x q)))

set_noted : (numbers : List ℕ) (row n v : ℕ) → 0 < n → row < length numbers → row ≡ v → IsNoted (set numbers row n) v
set_noted numbers row n v some lt e = subst (IsNoted (set numbers row n)) e (subst (λ k. 0 < k) (sym (get_or-set_same numbers row n 1 lt)) some)

past_noted : (numbers : List ℕ) (row v : ℕ) → length numbers ≤ row → row ≡ v → IsNoted numbers v
past_noted numbers row v le e = subst (IsNoted numbers) e (subst (λ k. 0 < k) (sym (get_or_past numbers row 1 le)) (omega arith))

pub returns-then-are_all-clause-noted : goal.returns-then-are_all-clause-noted
returns-then-are_all-clause-noted c = λ l a.
    let q = first_is c.args.clause.now c.in-Some.field-0.now l (sym c.in-Some.ensures.value) a in
    let e = c.number-row.ensures.value ∙ c.var.ensures ∙ ap var_of q in
    set_noted c.args.self.now.numbers.items c.number-row.result c.args.number (var_of l) c.requires (let n = c.len.ensures in let lt = c.if-row-len.true in omega arith) e

pub returns-else-row-len-clause-noted : goal.returns-else-row-len-clause-noted
returns-else-row-len-clause-noted c = λ l a.
    let q = first_is c.args.clause.now c.in-Some.field-0.now l (sym c.in-Some.ensures.value) a in
    let e = c.number-row.ensures.value ∙ c.var.ensures ∙ ap var_of q in
    elim c.else-row-len.branch [
      | else-row-len-via-then-row-len+else-are_all w ↦ absurd (both_ways w.are_all.result w.if-are_all.false (w.are_all.ensures l a (sym q)))
      | else-row-len-via-else-row-len w ↦ past_noted c.args.self.now.numbers.items c.number-row.result (var_of l) (let n = c.len.ensures in let ge = w.if-row-len.false in omega arith) e
    ]
