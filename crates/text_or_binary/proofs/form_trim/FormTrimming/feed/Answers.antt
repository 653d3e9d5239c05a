use Rattle.text_or_binary.specs.declared.form_trim.FormTrimming.{FormTrimming}
use Rattle.text_or_binary.proofs.FormLemmas.{trim_fed}
use Rattle.text_or_binary.proofs.form_trim.FormTrimming.feed.Goals as goal

pub returns-clause-taken : goal.returns-clause-taken
returns-clause-taken c =
    let g : FormTrimming = record { form = c.feed.new.self; trimming = c.feed-answer.new.self } in
    trim_fed c.args.self.now g c.args.piece.now c.given.result.now c.feed.ensures c.given.ensures c.feed-answer.ensures.taken

pub returns-then-is_cut-clause-taken : goal.returns-then-is_cut-clause-taken
returns-then-is_cut-clause-taken c =
    let g : FormTrimming = record { form = c.feed.new.self; trimming = c.feed-answer.new.self } in
    trim_fed c.args.self.now g c.args.piece.now c.given.result.now c.feed.ensures c.given.ensures c.feed-answer.ensures.taken
