use Rattle.std.proofs.Common.{ap, ◌∙◌, ◌∷◌, []}
use Rattle.std.specs.Int.{w32, to_be_bytes}
use Rattle.frames.specs.Answers.{answer_number, answer_of, length_of}
use Rattle.frames.proofs.PutsLemmas.{Puts-first, Puts-then}
use Rattle.frames.proofs.encoder.put_finding.Goals as goal

pub returns : goal.returns
returns c =
    let f = c.args.finding.now in
    let p = Puts-first _ (answer_number (answer_of f) ∷ []) (ap (λ n. n ∷ []) (c.number-answer.ensures ∙ ap answer_number c.answer.ensures)) c.put_bytes-at.ensures in
    Puts-then _ _ (to_be_bytes w32 (length_of f)) p (ap (to_be_bytes w32) c.length.ensures) c.put_u32.ensures
