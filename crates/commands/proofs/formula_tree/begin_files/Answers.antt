use Rattle.std.proofs.Common.{ℕ, List}
use Rattle.commands.specs.FormulaTree.{Begins}
use Rattle.commands.specs.Known.{HoldsOf}
use Rattle.commands.proofs.OfLemmas.{of_ok, of_opened, of_opened_ok}
use Rattle.dimacs.specs.text.Parser.{GivesFormula, parse_within}
use Rattle.commands.proofs.formula_tree.begin_files.Goals as goal

pub returns-clause-begins : goal.returns-clause-begins
returns-clause-begins g c =
    let Reads : List ℕ → Type 0 = λ text. GivesFormula c.in_ok-found.found (parse_within c.args.limits text) in
    let holds : List ℕ → _ = g.D.Disk.holds c.args.disk.now in
    of_ok Reads (λ text b. HoldsOf (holds c.args.cubes.now) (λ tree. Begins c.args.limits text tree b)) _ c.begin_tree.result
    (of_opened Reads _ _ c.in_ok-text.ensures.bytes c.in_ok-found.ensures.found)
    (λ text gives. of_opened_ok (Begins c.args.limits text) _ _ c.begin_tree.result c.in_ok-tree.ensures.bytes (c.begin_tree.ensures.begins text gives))
