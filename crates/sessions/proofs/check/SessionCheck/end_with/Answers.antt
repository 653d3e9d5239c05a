use Rattle.std.proofs.Common.{List, ℕ, ◌∷◌, ◌++◌, [], refl, subst, append_assoc}
use Rattle.sessions.specs.Check.{HasTaken}
use Rattle.sessions.proofs.ReadLemmas.{taken_line, taken_part}
use Rattle.sessions.proofs.check.SessionCheck.end_with.Goals as goal

pub returns-in-Ok-clause-taken : goal.returns-in-Ok-clause-taken
returns-in-Ok-clause-taken c = λ L e p bare h.
    subst (λ (b : List ℕ). HasTaken L b p c.end_row.new.self) (append_assoc e c.args.text.now (10 ∷ []))
    (taken_line (e ++ c.args.text.now) p _ c.end_row.new.self c.requires.fine c.requires.more c.end_row.ensures.flag c.end_row.ensures.row
    (taken_part e p c.args.text.now c.args.self.now _ c.requires.fine c.requires.more refl refl refl refl c.in-Ok.ensures.items bare h))
