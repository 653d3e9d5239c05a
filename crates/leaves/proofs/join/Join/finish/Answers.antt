use Rattle.std.proofs.Common.{refl}
use Rattle.leaves.proofs.LineLemmas.{if_if}
use Rattle.leaves.proofs.JoinLemmas.{concludes_open, concludes_proof, concludes_within}
use Rattle.leaves.proofs.join.Join.finish.Goals as goal

pub returns-in_default : goal.returns-in_default
returns-in_default c = record {
  concludes = if_if c.unknown.result _ _ (λ r told F cubes files bytes written h.
      concludes_within F cubes files bytes written c.args.notes.items c.args.self.now _ r c.in_default.not-Begun h told) c.unknown.ensures;
}

pub returns-in_ok-answer_lines-in-Ok : goal.returns-in_ok-answer_lines-in-Ok
returns-in_ok-answer_lines-in-Ok c = record {
  concludes = λ F cubes files bytes written h.
      concludes_proof F cubes files bytes written c.args.notes.items c.args.self.now _ _ c.in-Begun.is c.in-Ok.ensures.closed c.in-Ok.ensures.proof refl c.in_ok-answer_lines-in-Ok.ensures.ok h;
}

pub returns-in-Err-Open : goal.returns-in-Err-Open
returns-in-Err-Open c = record {
  concludes = if_if c.unknown-in-Err-Open.result _ _ (λ r told F cubes files bytes written h.
      concludes_open F cubes files bytes written c.args.notes.items c.args.self.now _ r (c.in-Err-Open.ensures.open c.in-Err-Open.field-0-is) h told) c.unknown-in-Err-Open.ensures;
}
