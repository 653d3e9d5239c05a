-- What comes of a tree that was read, or of what is refused.
use Rattle.std.specs.Prelude.{◌≡◌, ◌⊎◌, ℕ, List, Option}
use Rattle.std.proofs.Common.{inl, inr, subst}
use Rattle.commands.specs.FormulaTree.{Begins, OfFormula, RefusesCubes, RefusesInput}
use Rattle.commands.specs.Known.{HoldsOf}
use Rattle.commands.specs.Trees.{OfTree}
use Rattle.commands.specs.declared.formula_tree.Begun.{Begun}
use Rattle.commands.specs.declared.formula_tree.Begun.TheVariants.{With, Refused}
use Rattle.commands.proofs.OfLemmas.{of_map}
use Rattle.dimacs.specs.logic.Cnf.{Cnf}
use Rattle.dimacs.specs.logic.Limits.{Limits}
use Rattle.icnf.specs.Leaves.{Cube}
use Rattle.leaves.specs.declared.split.Split.{Split}
use Rattle.reports.specs.declared.report.Report.{Report}

pub of_both : (P Q : List ℕ → List ℕ → Type 0) (a b : Option (List ℕ)) → ((text lines : List ℕ) → P text lines → Q text lines)
    → HoldsOf a (λ text. HoldsOf b (λ lines. P text lines)) → HoldsOf a (λ text. HoldsOf b (λ lines. Q text lines))
of_both P Q a b f h = of_map (λ text. HoldsOf b (P text)) (λ text. HoldsOf b (Q text)) a (λ text k. of_map (P text) (Q text) b (f text) k) h

refused_is : (L : Limits) (text lines : List ℕ) (P : Cnf → List Cube → Type 0) (r : Report)
    → RefusesInput L text r ⊎ OfFormula L text (λ F. RefusesCubes L F lines r) → OfTree L text lines P r
refused_is L text lines P r (inl h) = inl h
refused_is L text lines P r (inr h) = inr (h.0, h.1, inl h.2)

pub of_tree : (L : Limits) (P : Cnf → List Cube → Type 0) (r : Report) (a b : Option (List ℕ)) (begun : Begun) (s : Split) → begun ≡ With s → P s.formula s.tree
    → HoldsOf a (λ text. HoldsOf b (λ lines. Begins L text lines begun)) → HoldsOf a (λ text. HoldsOf b (λ lines. OfTree L text lines P r))
of_tree L P r a b begun s e p h = of_both (λ text lines. Begins L text lines begun) (λ text lines. OfTree L text lines P r) a b (λ text lines k.
    let Starts : Begun → Type 0 = Begins L text lines in
    let j = subst Starts e k in
    let Told : Cnf → Type 0 = λ F. P F s.tree in
    inr (j.0, j.1, inr (s.tree, j.2.tree, subst Told j.2.formula p))) h

pub of_refused : (L : Limits) (P : Cnf → List Cube → Type 0) (r : Report) (a b : Option (List ℕ)) (begun : Begun) → begun ≡ Refused r
    → HoldsOf a (λ text. HoldsOf b (λ lines. Begins L text lines begun)) → HoldsOf a (λ text. HoldsOf b (λ lines. OfTree L text lines P r))
of_refused L P r a b begun e h = of_both (λ text lines. Begins L text lines begun) (λ text lines. OfTree L text lines P r) a b (λ text lines k.
    let Starts : Begun → Type 0 = Begins L text lines in
    refused_is L text lines P r (subst Starts e k)) h
