use Rattle.std.proofs.Common.{◌≡◌, Ok, sym, subst}
use Rattle.dimacs.specs.inner.Rows.{Gives}
use Rattle.answers.specs.declared.open_line.Begun.{Begun}
use Rattle.answers.specs.Pieces.{naming_of}
use Rattle.answers.specs.Parse.{no_memory, read_line}
use Rattle.answers.specs.inner.Lines.{begun_text}
use Rattle.answers.proofs.LineLemmas.{blank_ends, passed_ends, values_end}
use Rattle.answers.proofs.open_line.end_line.Goals as goal

pub returns-in-Passed : goal.returns-in-Passed
returns-in-Passed c =
    subst (λ (k : Begun). read_line c.args.number (begun_text k c.args.token.now) (naming_of c.args.values.now) ≡ Ok (naming_of c.args.values.now)) (sym c.in-Passed.is)
    (passed_ends c.args.number (naming_of c.args.values.now))

pub returns-in-Blank : goal.returns-in-Blank
returns-in-Blank c =
    subst (λ (k : Begun). read_line c.args.number (begun_text k c.args.token.now) (naming_of c.args.values.now) ≡ Ok (naming_of c.args.values.now)) (sym c.in-Blank.is)
    (blank_ends c.args.number (naming_of c.args.values.now))

pub returns-in-Values : goal.returns-in-Values
returns-in-Values c =
    subst (λ (k : Begun). Gives no_memory (naming_of c.read.new.self) c.read.result (read_line c.args.number (begun_text k c.args.token.now) (naming_of c.args.values.now))) (sym c.in-Values.is)
    (subst (Gives no_memory (naming_of c.read.new.self) c.read.result) (sym (values_end c.args.number c.args.token.now (naming_of c.args.values.now))) c.read.ensures)
