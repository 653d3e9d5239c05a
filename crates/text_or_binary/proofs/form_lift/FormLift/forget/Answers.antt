use Rattle.text_or_binary.proofs.form_lift.FormLift.forget.Goals as goal

pub returns-clause-stands : goal.returns-clause-stands
returns-clause-stands c = λ F q bytes handed h. record { text = h.text; given = h.given; lifts = c.forget.ensures.stands F q h.text handed h.lifts }
