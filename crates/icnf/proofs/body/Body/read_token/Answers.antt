use Rattle.std.proofs.Common.{◌∙◌, inr, sym}
use Rattle.icnf.proofs.BodyLemmas.{token_mark, token_number, token_bad}
use Rattle.icnf.proofs.body.Body.read_token.Goals as goal

pub returns-then-is_mark : goal.returns-then-is_mark
returns-then-is_mark c = token_mark c.args.line c.args.word.now c.args.self.now _ _ (sym c.is_mark.ensures ∙ c.if-is_mark.true) c.read_mark.ensures

pub returns-in_default : goal.returns-in_default
returns-in_default c = inr (token_bad c.args.line c.args.word.now c.args.self.now (sym c.is_mark.ensures ∙ c.if-is_mark.false) (sym c.in_default.is ∙ c.signed.ensures.value))

pub returns : goal.returns
returns c =
    token_number c.args.line c.args.word.now c.args.self.now _ _ c.in-Some.number (sym c.is_mark.ensures ∙ c.if-is_mark.false) (sym c.in-Some.is ∙ c.signed.ensures.value) c.read_number.ensures
