use Rattle.std.proofs.Common.{◌++◌, sym, subst, MatchResult}
use Rattle.answers.specs.declared.open_line.Begun.{Begun}
use Rattle.answers.specs.inner.Lines.{begun_text, RefusesPart, TakesPart}
use Rattle.answers.proofs.LineLemmas.{blanks_on, passed_on, values_on}
use Rattle.answers.proofs.open_line.go_on.Goals as goal

pub returns-in-Passed-clause-read : goal.returns-in-Passed-clause-read
returns-in-Passed-clause-read c =
    subst (λ (k : Begun). TakesPart c.args.number c.args.values.now (begun_text k c.args.token.now.items ++ c.args.part.now) c.args.values.now (begun_text k c.args.token.now.items)) (sym c.in-Passed.is)
    (passed_on c.args.number c.args.values.now c.args.part.now)

pub returns-in-Blank-clause-read : goal.returns-in-Blank-clause-read
returns-in-Blank-clause-read c =
    subst (λ (k : Begun). MatchResult c.pass_blanks.result
    (λ _. TakesPart c.args.number c.args.values.now (begun_text k c.args.token.now.items ++ c.args.part.now) c.args.values.now (begun_text k c.args.token.now.items))
    (λ f. RefusesPart c.args.number c.args.values.now (begun_text k c.args.token.now.items ++ c.args.part.now) f)) (sym c.in-Blank.is)
    (blanks_on c.args.number c.args.values.now c.args.part.now c.pass_blanks.result c.pass_blanks.ensures)

pub returns-in-Values-clause-read : goal.returns-in-Values-clause-read
returns-in-Values-clause-read c =
    subst (λ (k : Begun). MatchResult c.take_values.result
    (λ _. TakesPart c.args.number c.args.values.now (begun_text k c.args.token.now.items ++ c.args.part.now) c.take_values.new.values (begun_text k c.take_values.new.token.items))
    (λ f. RefusesPart c.args.number c.args.values.now (begun_text k c.args.token.now.items ++ c.args.part.now) f)) (sym c.in-Values.is)
    (values_on c.args.number c.args.values.now c.take_values.new.values c.args.token.now.items c.args.part.now c.take_values.new.token.items c.take_values.result c.take_values.ensures.read)
