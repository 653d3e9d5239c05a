use Rattle.std.proofs.Common.{◌≡◌, rules}
use Rattle.dimacs.specs.logic.Cnf.{Sat, assignment_of}
use Rattle.evidence.specs.KeptVerdict.{lengthened}
use Rattle.evidence.proofs.KeptVerdictLemmas.{values_kept, values_dropped}
use Rattle.evidence.proofs.kept_verdict.keep_values.Goals as goal

pub returns-then-satisfies : goal.returns-then-satisfies
returns-then-satisfies c = λ F x grown.
    let long : c.new-longer.result ≡ lengthened c.args.formula.now.vars c.args.values.now = search rules in
    let sat : Sat (assignment_of c.new-longer.result) c.args.formula.now = search rules in
    values_kept F x c.args.formula.now c.args.values.now c.new-longer.result grown long sat

pub returns-else-satisfies : goal.returns-else-satisfies
returns-else-satisfies c = λ F x grown.
    let long : c.new-longer.result ≡ lengthened c.args.formula.now.vars c.args.values.now = search rules in
    let wrong : Sat (assignment_of c.new-longer.result) c.args.formula.now → ⊥ = search rules in
    values_dropped F x c.args.formula.now c.args.values.now c.new-longer.result grown long wrong
