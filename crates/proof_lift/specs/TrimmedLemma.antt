-- The trim of a lemma: which literals and hints are kept, namely those used on the way back from the conflict. The law `lifted_texts_close`
-- tests whatever is kept.
use Rattle.std.specs.Prelude.{ℕ, not, ◌||◌, ◌&&◌, List, [], ◌∷◌, ◌++◌, filter, if◌then◌else◌}
use Rattle.dimacs.specs.logic.Literal.{Clause, negation, same, has}
use Rattle.dimacs.specs.logic.Propagation.{Assumed, negations}
use Rattle.lrat_text.specs.Log.{Cube}
use Rattle.proof_lift.specs.HintWalk.{Passed}

-- the literals that are used before a hint: the negations of the literals of its clause except the unit one, and what is used after the
-- hint except the unit literal
abbrev pub used_before : Passed → Assumed → Assumed
used_before p U = λ k. (U k && not (same k p.unit)) || (has p.clause (negation k) && not (same (negation k) p.unit))

-- the literals that are used on the way back from the conflict; a hint is used if its unit literal is
abbrev pub used : List Passed → Clause → Assumed
used [] conflict = negations conflict
used (p ∷ ps) conflict = if used ps conflict p.unit then used_before p (used ps conflict) else used ps conflict

-- the log's numbers of the hints that are used, and then the conflict's number
abbrev pub kept : List Passed → Clause → ℕ → List ℕ
kept [] conflict last = last ∷ []
kept (p ∷ ps) conflict last = if used ps conflict p.unit then p.number ∷ kept ps conflict last else kept ps conflict last

-- the clause, and the negation of each literal of the cube that it does not hold
abbrev pub union : Cube → Clause → Clause
union [] C = C
union (x ∷ q) C = if has C (negation x) then union q C else union q (C ++ negation x ∷ [])

-- the trimmed lemma: of the lemma and the negated cube, the literals whose negations are used
abbrev pub trimmed : Cube → Clause → List Passed → Clause → Clause
trimmed q C ps conflict = filter (λ l. used ps conflict (negation l)) (union q C)
