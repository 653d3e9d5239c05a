use Rattle.lrat_forms.specs.declared.binary_form.BinaryForm.{BinaryForm}
use Rattle.lrat_forms.proofs.SpellingLemmas.{feeds}
use Rattle.lrat_forms.proofs.binary_form.BinaryForm.feed.Goals as goal

pub returns-in-Ok : goal.returns-in-Ok
returns-in-Ok c = λ most text bytes h.
    let g : BinaryForm = record { begun = c.feed.new.self; writer = c.feed.new.taker } in
    feeds most c.args.self.now g c.args.piece.now text bytes c.in-Ok.ensures.taken.1 h
