-- Agreement: two nodes with the same formula never hold verdicts that differ.
use Rattle.std.specs.Prelude.{◌≡◌, ◌≢◌, ℕ, Bool, List, Contains}
use Rattle.dimacs.specs.logic.Cnf.{Cnf}
use Rattle.lrat_check.specs.Verdicts.{Differ}
use Rattle.lrat_check.specs.declared.verdict.Verdict.TheVariants.{Model, Proof}
use Rattle.cluster.specs.Formulas.{grown}
use Rattle.cluster.specs.Nodes.{formula_of, verdict_of}
use Rattle.cluster.specs.declared.node.Node.{Node}

-- `Agree early late`: for all nodes n of `early` and m of `late`: if their formulas are equal, their verdicts do not differ
abbrev pub Agree : List Node → List Node → Type 0
Agree early late =
    (n m : Node) → Contains early n → Contains late m → formula_of n ≡ formula_of m → ¬ (Differ (verdict_of n) (verdict_of m))

-- `RulesOut n m`: if n holds a proof, and the formula of m is that of n with the clauses of some extensions, m holds no assignment
abbrev pub RulesOut : Node → Node → Type 0
RulesOut n m = (xs : List Cnf) (text : List ℕ) (values : List Bool) → verdict_of n ≡ Proof text → formula_of m ≡ grown (formula_of n) xs → verdict_of m ≢ Model values

-- `AgreeOnMore early late`: for all nodes n of `early` and m of `late`: if one holds a proof, and the formula of the other is that of the
-- one with the clauses of some extensions, the other holds no assignment
abbrev pub AgreeOnMore : List Node → List Node → Type 0
AgreeOnMore early late = (n m : Node) → Contains early n → Contains late m → RulesOut n m × RulesOut m n
