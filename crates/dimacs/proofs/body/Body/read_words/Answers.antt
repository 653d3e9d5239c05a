use Rattle.std.proofs.Common.{◌∙◌, sym}
use Rattle.std.proofs.lemmas.Result.{err_from_is_err_and}
use Rattle.dimacs.specs.text.Words.{words}
use Rattle.dimacs.specs.text.Parser.{format, no_memory}
use Rattle.dimacs.proofs.RowLemmas.{words_more, words_end, words_fails}
use Rattle.dimacs.proofs.body.Body.read_words.Goals as goal

pub loop-number-preserved : goal.loop-number-preserved
loop-number-preserved c =
    sym (words_more format c.args.line (words c.loop-number.rest.now) (words c.in-Some.after.now) c.in-Some.ensures.word.0 c.loop-number.self c.read_token.new.self c.in-Some.ensures.word.1 (c.in_ok-read_token.ensures c.in-Some.ensures.word.0 c.in-Some.ensures.word.2)) ∙ c.loop-number.invariant

pub returns : goal.returns
returns c = sym c.loop-number.invariant ∙ words_end format c.args.line _ c.loop-number.self c.in_default.ensures.word

pub returns-in_err-read_token : goal.returns-in_err-read_token
returns-in_err-read_token c =
    let p = err_from_is_err_and c.from_residual.result c.from_residual.ensures.1 in
    rw (p.1, p.2) (words_fails format no_memory c.args.line (words c.loop-number.rest.now) (words c.in-Some.after.now) c.in-Some.ensures.word.0 c.loop-number.self c.in_err-read_token.field-0.0 _ c.in-Some.ensures.word.1 c.loop-number.invariant (c.in_err-read_token.ensures c.in-Some.ensures.word.0 c.in-Some.ensures.word.2))
