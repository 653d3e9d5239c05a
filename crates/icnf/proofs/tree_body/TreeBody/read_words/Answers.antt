use Rattle.std.proofs.Common.{◌∙◌, sym}
use Rattle.std.proofs.lemmas.Result.{err_from_is_err_and}
use Rattle.dimacs.specs.text.Words.{words}
use Rattle.dimacs.proofs.RowLemmas.{words_more, words_end, words_fails}
use Rattle.icnf.specs.Parser.{no_memory}
use Rattle.icnf.specs.inner.TreeBody.{format}
use Rattle.icnf.proofs.tree_body.TreeBody.read_words.Goals as goal

pub loop-found-preserved : goal.loop-found-preserved
loop-found-preserved c =
    let word = c.in-Some.ensures.word in
    sym (words_more (format c.args.formula.now.clauses) c.args.line (words c.loop-found.rest.now) (words c.in-Some.after.now) word.0 c.loop-found.self c.read_found.new.self word.1 (c.in_ok-read_found.ensures word.0 (words c.in-Some.after.now) word.1 word.2)) ∙ c.loop-found.invariant

pub returns : goal.returns
returns c = sym c.loop-found.invariant ∙ words_end (format c.args.formula.now.clauses) c.args.line _ c.loop-found.self c.in_default.ensures.word

pub returns-in_err-read_found : goal.returns-in_err-read_found
returns-in_err-read_found c =
    let p = err_from_is_err_and c.from_residual.result c.from_residual.ensures.1 in
    let word = c.in-Some.ensures.word in
    rw (p.1, p.2) (words_fails (format c.args.formula.now.clauses) no_memory c.args.line (words c.loop-found.rest.now) (words c.in-Some.after.now) word.0 c.loop-found.self c.in_err-read_found.field-0.0 _ word.1 c.loop-found.invariant (c.in_err-read_found.ensures word.0 (words c.in-Some.after.now) word.1 word.2))
