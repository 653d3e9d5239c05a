use Rattle.std.proofs.Common.{sym, ◌∙◌}
use Rattle.answers.proofs.LineLemmas.{blank_begins, ink_begins, passed_begins}
use Rattle.answers.proofs.open_line.begun_by.Goals as goal

pub returns-then-is_passed : goal.returns-then-is_passed
returns-then-is_passed c = λ rest. passed_begins c.args.byte rest (sym c.is_passed.ensures ∙ c.if-is_passed.true)

pub returns-then-is_white : goal.returns-then-is_white
returns-then-is_white c = λ rest.
    blank_begins c.args.byte rest (sym c.is_passed.ensures ∙ c.if-is_passed.false) c.if-byte-eq118.false (sym c.is_white.ensures ∙ c.if-is_white.true)

pub returns-else-is_white : goal.returns-else-is_white
returns-else-is_white c = (
  λ rest. ink_begins c.args.byte rest (sym c.is_passed.ensures ∙ c.if-is_passed.false) c.if-byte-eq118.false (sym c.is_white.ensures ∙ c.if-is_white.false),
  c.at.ensures,
)
