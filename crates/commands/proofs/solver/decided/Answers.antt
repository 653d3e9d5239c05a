use Rattle.std.proofs.Common.{false, refl}
use Rattle.commands.specs.Solver.{asked_of}
use Rattle.commands.specs.declared.decide.Deciding.{Deciding}
use Rattle.commands.specs.declared.solver.SolverFiles.{SolverFiles}
use Rattle.commands.proofs.SolverLemmas.{answered_so, refused_so}
use Rattle.commands.proofs.solver.decided.Goals as goal

-- what is decided for a solver
abbrev deciding : SolverFiles → Deciding
deciding files = record { input = files.input; proof = files.proof; asked = asked_of files; quiet = false }

pub returns-then-report-eq1-clause-tells : goal.returns-then-report-eq1-clause-tells
returns-then-report-eq1-clause-tells g c =
    refused_so c.args.limits (deciding c.args.files.now) _ _ _ c.in-Ok.report c.unknown.result refl c.if-report-eq1.true refl c.in-Ok.ensures.tells c.unknown.ensures

pub returns-else-report-eq1-clause-tells : goal.returns-else-report-eq1-clause-tells
returns-else-report-eq1-clause-tells g c =
    answered_so c.args.limits (deciding c.args.files.now) _ _ c.in-Ok.report _ c.if-report-eq1.false refl c.new.ensures.items c.in-Ok.ensures.tells
