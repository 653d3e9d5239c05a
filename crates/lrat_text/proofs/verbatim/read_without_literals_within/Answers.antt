use Rattle.std.proofs.Common.{arith}
use Rattle.std.proofs.lemmas.Result.{err_from_is_err_and}
use Rattle.lrat_text.proofs.VerbatimLemmas.{around, fails_memory, found_around, none_around}
use Rattle.lrat_text.proofs.verbatim.read_without_literals_within.Goals as goal

pub returns-in_default-clause-found : goal.returns-in_default-clause-found
returns-in_default-clause-found c = λ most step few s. none_around c.args.line.now step (c.in_default.ensures most step few s)

pub cut_out-requires : goal.cut_out-requires
cut_out-requires c =
    let (most, few, step, s) = c.requires.spelled in
    let lies = (around most few c.args.line.now c.in-Some.id step s (c.in-Some.ensures most step few s)).lies in
    (omega (arith, c.word_len.ensures.value, c.zero_at.ensures.value, lies.order), omega (arith, c.zero_at.ensures.value, lies.inside))

pub returns-clause-found : goal.returns-clause-found
returns-clause-found c = λ most step few s.
    found_around c.args.line.now c.in-Some.id step c.word_len.result c.zero_at.result _ _ _ (around most few c.args.line.now c.in-Some.id step s (c.in-Some.ensures most step few s))
    c.word_len.ensures.value c.zero_at.ensures.value c.cut_out.ensures.between c.cut_out.ensures.behind c.in_ok-read_reasons.ensures

pub returns-in_err-read_reasons-clause-memory : goal.returns-in_err-read_reasons-clause-memory
returns-in_err-read_reasons-clause-memory c =
    let p = err_from_is_err_and c.from_residual.result c.from_residual.ensures.1 in
    let (most, few, step, s) = c.requires.spelled in
    rw (p.1, p.2) (fails_memory c.args.line.now c.in-Some.id step c.zero_at.result _ c.in_err-read_reasons.field-0.0 (around most few c.args.line.now c.in-Some.id step s (c.in-Some.ensures most step few s))
    c.zero_at.ensures.value c.cut_out.ensures.behind c.in_err-read_reasons.ensures)
