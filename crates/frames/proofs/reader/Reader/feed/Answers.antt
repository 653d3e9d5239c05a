use Rattle.std.proofs.Common.{◌≡◌, ◌≢◌, ◌∙◌, sym, subst, ap, Err, rules}
use Rattle.frames.specs.declared.fault.FrameFault.TheVariants.{NoMemory}
use Rattle.frames.specs.Stream.{Within, Failed, TakesPiece}
use Rattle.frames.specs.Readers.{progress_of}
use Rattle.frames.proofs.ReaderLemmas.{takes_nothing, takes_fault}
use Rattle.frames.proofs.reader.Reader.feed.Goals as goal

pub returns-in-Some-clause-taken : goal.returns-in-Some-clause-taken
returns-in-Some-clause-taken c = λ other.
    let f = c.in-Some.fault in
    let old : Failed f ≡ c.args.self.now = ap (λ o. progress_of o c.self.inside.buffer.items) (sym c.in-Some.is) ∙ c.self.view_is in
    subst (λ p. TakesPiece p c.args.piece.now c.args.frames.now.items c.args.frames.now.items (Err f) p) old (takes_nothing f c.args.piece.now c.args.frames.now.items)

pub returns-in-Err-clause-taken : goal.returns-in-Err-clause-taken
returns-in-Err-clause-taken c = λ other.
    let f = c.in-Err.fault in
    let rest = c.self.inside.buffer.items in
    let old : Within rest ≡ c.args.self.now = ap (λ o. progress_of o rest) (sym c.in_default.is) ∙ c.self.view_is in
    let new = c.in-Err.ensures.frames in
    subst (λ p. TakesPiece p c.args.piece.now c.args.frames.now.items c.read.new.frames.items (Err f) (Failed f)) old
    (takes_fault rest c.args.piece.now f c.args.frames.now.items c.read.new.frames.items new.0 new.1 (new.2 (λ e. other (ap Err e))))

pub returns-in-Err-clause-failed : goal.returns-in-Err-clause-failed
returns-in-Err-clause-failed c = λ fault failed.
    let rest = c.self.inside.buffer.items in
    let old : Within rest ≡ c.args.self.now = ap (λ o. progress_of o rest) (sym c.in_default.is) ∙ c.self.view_is in
    let never : Within rest ≡ Failed fault = old ∙ failed in
    absurd cc

pub returns-in-Err-clause-no_memory : goal.returns-in-Err-clause-no_memory
returns-in-Err-clause-no_memory c = λ refused.
    let other : c.in-Err.fault ≢ NoMemory = search rules in
    let same : c.in-Err.fault ≡ NoMemory = cc in
    absurd (other same)
