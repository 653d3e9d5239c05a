use Rattle.std.proofs.Common.{ℕ, List, ◌*◌, ◌++◌, take, sym, ◌∙◌, ap, append-nil, append_assoc, subst, arith}
use Rattle.commands.specs.inner.Parts.{IsPart}
use Rattle.commands.proofs.WritingLemmas.{front_is_whole, front_more}
use Rattle.commands.proofs.atomic_write.append_packed.Goals as goal

pub loop-i-init : goal.loop-i-init
loop-i-init g c = λ binary path before h.
    let P : List ℕ → Type 0 = λ t. IsPart g.D.Drafts.made binary path t c.args.part.now in
    subst P (sym (append-nil before)) h

pub loop-i-preserved : goal.loop-i-preserved
loop-i-preserved g c = λ binary path before h.
    let P : List ℕ → Type 0 = λ t. IsPart g.D.Drafts.made binary path t c.append.new.part in
    let front = take (65536 * c.loop-i.i) c.args.text.now in
    subst P (append_assoc before front _ ∙ ap (λ (t : List ℕ). before ++ t) (front_more c.loop-i.i c.args.text.now _ (c.as_slice.ensures.value ∙ c.in-Ok.ensures)))
    (c.in_ok-append.ensures.written binary path (before ++ front) (c.loop-i.invariant binary path before h))

pub returns-clause-written : goal.returns-clause-written
returns-clause-written g c = λ binary path before h.
    let P : List ℕ → Type 0 = λ t. IsPart g.D.Drafts.made binary path (before ++ t) c.loop-i.part in
    subst P (front_is_whole c.loop-i.i c.args.text.now (omega arith)) (c.loop-i.invariant binary path before h)
