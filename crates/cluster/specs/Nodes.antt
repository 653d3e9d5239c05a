-- The formula and the verdict of a node, which is a worker or a coordinator, and what holds of them.
use Rattle.std.specs.Prelude.{List, All, map}
use Rattle.dimacs.specs.logic.Cnf.{Cnf}
use Rattle.lrat_check.specs.Verdicts.{Right, IsTrueOf}
use Rattle.lrat_check.specs.declared.verdict.Verdict.{Verdict}
use Rattle.coordinator_core.specs.Invariant.{IsCoordinator}
use Rattle.cluster.specs.declared.node.Node.{Node}
use Rattle.cluster.specs.declared.node.Node.TheVariants.{Worker, Coordinator}

-- the formula of a node
abbrev pub formula_of : Node → Cnf
formula_of (Worker w) = w.formula
formula_of (Coordinator c) = c.formula

-- the verdict that a node holds
abbrev pub verdict_of : Node → Verdict
verdict_of (Worker w) = w.verdict
verdict_of (Coordinator c) = c.verdict

-- the invariant of a node: a worker's verdict is right for its formula; a coordinator satisfies `IsCoordinator`, whose field `right` says
-- that its verdict is right for its formula
abbrev pub IsSound : Node → Type 0
IsSound (Worker w) = Right w.formula w.verdict
IsSound (Coordinator c) = IsCoordinator c

-- each node satisfies its invariant
abbrev pub AreSound : List Node → Type 0
AreSound nodes = All IsSound nodes

-- each node's verdict is right for its formula
abbrev pub AreRight : List Node → Type 0
AreRight nodes = All (λ n. Right (formula_of n) (verdict_of n)) nodes

-- each node's verdict is true of its formula
abbrev pub AreTrue : List Node → Type 0
AreTrue nodes = All (λ n. IsTrueOf (formula_of n) (verdict_of n)) nodes

-- the formulas of all nodes, in order
abbrev pub formulas : List Node → List Cnf
formulas nodes = map formula_of nodes
