use Rattle.std.proofs.Common.{◌∙◌, sym}
use Rattle.std.proofs.lemmas.Result.{err_from_is_err_and}
use Rattle.dimacs.specs.text.Words.{words}
use Rattle.sessions.proofs.TokenLemmas.{tokens_more, tokens_end, tokens_fail}
use Rattle.sessions.proofs.line_literals.LineLiterals.read_tokens.Goals as goal

pub loop-number-preserved : goal.loop-number-preserved
loop-number-preserved c =
    sym (tokens_more c.args.most c.args.line (words c.loop-number.rest.now) (words c.in-Some.after.now) c.in-Some.ensures.word.0 c.loop-number.self c.read_token.new.self c.in-Some.ensures.word.1
    (c.in_ok-read_token.ensures c.in-Some.ensures.word.0 c.in-Some.ensures.word.2)) ∙ c.loop-number.invariant

pub returns : goal.returns
returns c = sym c.loop-number.invariant ∙ tokens_end c.args.most c.args.line _ c.loop-number.self c.in_default.ensures.word

pub returns-in_err-read_token : goal.returns-in_err-read_token
returns-in_err-read_token c =
    let p = err_from_is_err_and c.from_residual.result c.from_residual.ensures.1 in
    rw (p.1, p.2) (tokens_fail c.args.most c.args.line (words c.loop-number.rest.now) (words c.in-Some.after.now) c.in-Some.ensures.word.0 c.loop-number.self c.in_err-read_token.field-0.0 _ c.in-Some.ensures.word.1 c.loop-number.invariant
    (c.in_err-read_token.ensures c.in-Some.ensures.word.0 c.in-Some.ensures.word.2))
