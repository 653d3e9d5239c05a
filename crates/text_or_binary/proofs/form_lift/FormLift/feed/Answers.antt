use Rattle.text_or_binary.specs.declared.form_lift.FormLift.{FormLift}
use Rattle.text_or_binary.proofs.FormLemmas.{lift_fed}
use Rattle.text_or_binary.proofs.form_lift.FormLift.feed.Goals as goal

pub returns : goal.returns
returns c =
    let g : FormLift = record { form = c.feed.new.self; lift = c.feed-2.new.self } in
    lift_fed c.args.self.now g c.args.piece.now c.given.result.now c.feed.ensures c.given.ensures c.feed-2.ensures
