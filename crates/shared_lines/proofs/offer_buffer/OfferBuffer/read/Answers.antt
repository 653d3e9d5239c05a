use Rattle.std.proofs.Common.{◌∙◌, List, ℕ, [], refl, subst, sym}
use Rattle.std.proofs.lemmas.Result.{err_from_is_err_and}
use Rattle.lrat_text.specs.Grammar.{SpellsStepWithin}
use Rattle.lrat_text.specs.declared.step.Step.TheVariants.{Add}
use Rattle.shared_lines.proofs.OfferLemmas.{offer_read, only_offer}
use Rattle.shared_lines.proofs.offer_buffer.OfferBuffer.read.Goals as goal

pub returns-in_err-read_addition-clause-only : goal.returns-in_err-read_addition-clause-only
returns-in_err-read_addition-clause-only c = λ x s.
    let o = only_offer c.args.most c.args.line.now c.in-Some.rest.now c.in-Some.time c.in-Some.ensures.1 c.in-Some.ensures.0 c.in-Some.ensures.2 c.in-Some.ensures.3 x s in
    let text = c.deref.ensures.value ∙ c.in_ok-spell.ensures in
    let p = err_from_is_err_and c.from_residual-in_err-read_addition.result c.from_residual-in_err-read_addition.ensures.1 in
    rw (p.1, p.2)
    (c.in_err-read_addition.ensures.only (Add x.number x.clause [] []) (refl, refl) (subst (λ (l : List ℕ). SpellsStepWithin c.args.most l (Add x.number x.clause [] [])) (sym text) o.addition))

pub returns-clause-only : goal.returns-clause-only
returns-clause-only c = λ x s.
    let o = only_offer c.args.most c.args.line.now c.in-Some.rest.now c.in-Some.time c.in-Some.ensures.1 c.in-Some.ensures.0 c.in-Some.ensures.2 c.in-Some.ensures.3 x s in
    let text = c.deref.ensures.value ∙ c.in_ok-spell.ensures in
    offer_read x c.in-Some.time c.read_addition.new.step o.same
    (c.in_ok-read_addition.ensures.only (Add x.number x.clause [] []) (refl, refl) (subst (λ (l : List ℕ). SpellsStepWithin c.args.most l (Add x.number x.clause [] [])) (sym text) o.addition))
