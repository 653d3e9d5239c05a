-- How the nodes' formulas change: only by added clauses.
use Rattle.std.specs.Prelude.{◌≡◌, ℕ, zero, suc, List, [], ◌∷◌}
use Rattle.dimacs.specs.logic.Cnf.{Cnf}
use Rattle.dimacs.specs.logic.Extension.{extended}
use Rattle.lrat_check.specs.declared.verdict.Reaction.{Reaction}
use Rattle.evidence.specs.KeptVerdict.{formula_after}
use Rattle.cluster.specs.OpenSchedule.{node_of}
use Rattle.cluster.specs.declared.event.OpenEvent.{OpenEvent}
use Rattle.cluster.specs.declared.event.OpenEvent.TheVariants.{Deliver, Work, Poll, Restart, Extend}

-- `formula_after_event event answer F`: the formula of a node after this event at the node, with this reaction, if it was F before:
-- extended if an `Extend` was `Taken`, else the same
abbrev pub formula_after_event : OpenEvent → Reaction → Cnf → Cnf
formula_after_event (Extend node x number) answer F = formula_after x answer F
formula_after_event (Deliver node bytes) answer F = F
formula_after_event (Work node) answer F = F
formula_after_event (Poll node worker) answer F = F
formula_after_event (Restart node number) answer F = F

-- `changed_at k change formulas`: the list with its entry k, counted from 0, changed, if there is one
abbrev pub changed_at : ℕ → (Cnf → Cnf) → List Cnf → List Cnf
changed_at k change [] = []
changed_at zero change (F ∷ rest) = change F ∷ rest
changed_at (suc k) change (F ∷ rest) = F ∷ changed_at k change rest

-- `formulas_after_event event answer formulas`: the formulas of all nodes after this event with this reaction
abbrev pub formulas_after_event : OpenEvent → Reaction → List Cnf → List Cnf
formulas_after_event event answer formulas = changed_at (node_of event) (formula_after_event event answer) formulas

-- `FormulasAlong old events new`: the events, one after the other, each with some reaction, may lead the formulas of all nodes from `old`
-- to `new`
abbrev pub FormulasAlong : List Cnf → List OpenEvent → List Cnf → Type 0
FormulasAlong old [] new = new ≡ old
FormulasAlong old (event ∷ events) new = (answer : Reaction) × FormulasAlong (formulas_after_event event answer old) events new

-- F extended by each of the extensions, one after the other
abbrev pub grown : Cnf → List Cnf → Cnf
grown F [] = F
grown F (x ∷ xs) = grown (extended F x) xs

-- `AreGrown old new`: the lists have one length, and each formula of `new` is the one of `old` with the same index, extended by some
-- extensions
abbrev pub AreGrown : List Cnf → List Cnf → Type 0
AreGrown [] new = new ≡ []
AreGrown (F ∷ old) new = (xs : List Cnf) × (rest : List Cnf) × (new ≡ grown F xs ∷ rest) × AreGrown old rest
