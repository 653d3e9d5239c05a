-- What a report says of a formula, status by status.
use Rattle.std.specs.Prelude.{◌≡◌, ◌⊎◌, Bool, List, length, None, IsSome, IfSome}
use Rattle.dimacs.specs.text.Answer.{Lines, satisfied_lines}
use Rattle.dimacs.specs.logic.Cnf.{Cnf, Sat, assignment_of}
use Rattle.dimacs.specs.declared.answer.Answer.TheVariants.{Unsatisfiable, Unknown}
use Rattle.lrat_text.specs.Proof.{Accepts}
use Rattle.command_line.specs.declared.options.Options.{Options}
use Rattle.reports.specs.declared.report.Report.{Report}

-- status 10: the report prints an assignment that satisfies the formula
pub record IsSatisfied (F : Cnf) (options : Options) (r : Report) : Type 0 where
  pub status : r.status ≡ 10
  pub values : List Bool
  pub whole : length values ≡ F.vars
  pub satisfies : Sat (assignment_of values) F
  pub text : r.stdout.items ≡ satisfied_lines values options.witness
  pub proof : r.proof ≡ None

-- status 20: the report has a proof of the formula that is accepted
pub record IsRefuted (F : Cnf) (options : Options) (r : Report) : Type 0 where
  pub status : r.status ≡ 20
  pub there : IsSome r.proof
  pub accepted : IfSome r.proof (Accepts F)
  pub text : r.stdout.items ≡ Lines Unsatisfiable options.witness

-- status 0: the report says that nothing is known
pub record IsUndecided (options : Options) (r : Report) : Type 0 where
  pub status : r.status ≡ 0
  pub text : r.stdout.items ≡ Lines Unknown options.witness
  pub proof : r.proof ≡ None

-- `Decides F options report`: the report says that the formula is satisfiable, unsatisfiable or undecided, with the evidence for it
abbrev pub Decides : Cnf → Options → Report → Type 0
Decides F options r = IsSatisfied F options r ⊎ IsRefuted F options r ⊎ IsUndecided options r
