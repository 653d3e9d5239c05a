use Rattle.std.proofs.Common.{◌≡◌, List, ℕ, Ok, ap, sym, subst, ◌∙◌}
use Rattle.answers.specs.Pieces.{naming_of}
use Rattle.answers.specs.Parse.{read_line}
use Rattle.answers.specs.inner.Lines.{line_text}
use Rattle.answers.proofs.LineLemmas.{nothing_ends}
use Rattle.answers.proofs.open_line.Line.end.Goals as goal

pub returns-in-None-clause-read : goal.returns-in-None-clause-read
returns-in-None-clause-read c =
    subst (λ (s : List ℕ). read_line c.args.number s (naming_of c.args.values.now) ≡ Ok (naming_of c.args.values.now))
    (sym (ap (λ o. line_text o c.self.inside.token.items) c.in-None.is) ∙ c.self.view_is)
    (nothing_ends c.args.number (naming_of c.args.values.now))
