use Rattle.std.proofs.Common.{◌≡◌, ◌≢◌, ◌∙◌, sym, subst, ap, Ok, Err, rules}
use Rattle.lrat_text.specs.declared.fault.TextFault.TheVariants.{NoMemory}
use Rattle.lrat_text.specs.Pieces.{Within, Failed, TakesPiece, progress_of}
use Rattle.lrat_text.proofs.PieceLemmas.{takes_nothing, takes_within, takes_fault}
use Rattle.lrat_text.proofs.step_reader.StepReader.feed.Goals as goal

pub returns-in-Some-clause-taken : goal.returns-in-Some-clause-taken
returns-in-Some-clause-taken c = λ other.
    let f = c.in-Some.fault in
    let old : Failed f ≡ c.args.self.now = ap (λ o. progress_of o c.self.inside.begun) (sym c.in-Some.is) ∙ c.self.view_is in
    subst (λ p. TakesPiece p c.args.piece.now c.args.steps.now.items c.args.steps.now.items (Err f) p) old (takes_nothing f c.args.piece.now c.args.steps.now.items)

pub returns-in-Ok-clause-taken : goal.returns-in-Ok-clause-taken
returns-in-Ok-clause-taken c = λ other.
    let begun = c.self.inside.begun in
    let after = c.read_piece.new.begun in
    let old : Within begun ≡ c.args.self.now = ap (λ o. progress_of o begun) (sym c.in_default.is) ∙ c.self.view_is in
    let new : Within after ≡ progress_of c.self.inside.fault after = ap (λ o. progress_of o after) (sym c.in_default.is) in
    let read = c.in-Ok.ensures.steps in
    subst (λ p. TakesPiece c.args.self.now c.args.piece.now c.args.steps.now.items c.read_piece.new.steps.items (Ok tt) p) new
    (subst (λ p. TakesPiece p c.args.piece.now c.args.steps.now.items c.read_piece.new.steps.items (Ok tt) (Within after)) old
    (takes_within begun c.args.piece.now after c.args.steps.now.items c.read_piece.new.steps.items read.0 read.1 read.2 c.in-Ok.ensures.open))

pub returns-in-Err-clause-taken : goal.returns-in-Err-clause-taken
returns-in-Err-clause-taken c = λ other.
    let f = c.in-Err.fault in
    let begun = c.self.inside.begun in
    let old : Within begun ≡ c.args.self.now = ap (λ o. progress_of o begun) (sym c.in_default.is) ∙ c.self.view_is in
    let new = c.in-Err.ensures.steps (λ e. other (ap Err e)) in
    subst (λ p. TakesPiece p c.args.piece.now c.args.steps.now.items c.read_piece.new.steps.items (Err f) (Failed f)) old
    (takes_fault begun c.args.piece.now f c.args.steps.now.items c.read_piece.new.steps.items new.0 new.1 new.2)

pub returns-in-Err-clause-failed : goal.returns-in-Err-clause-failed
returns-in-Err-clause-failed c = λ fault failed.
    let begun = c.self.inside.begun in
    let old : Within begun ≡ c.args.self.now = ap (λ o. progress_of o begun) (sym c.in_default.is) ∙ c.self.view_is in
    let never : Within begun ≡ Failed fault = old ∙ failed in
    absurd cc

pub returns-in-Err-clause-no_memory : goal.returns-in-Err-clause-no_memory
returns-in-Err-clause-no_memory c = λ refused.
    let other : c.in-Err.fault ≢ NoMemory = search rules in
    let same : c.in-Err.fault ≡ NoMemory = cc in
    absurd (other same)
