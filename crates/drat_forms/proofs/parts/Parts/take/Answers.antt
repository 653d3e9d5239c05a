use Rattle.std.proofs.Common.{◌≡◌, ◌∷◌, sym, ap, ◌∙◌}
use Rattle.std.proofs.lemmas.Result.{err_from_is_err_and}
use Rattle.drat_forms.specs.Parts.{reading_of}
use Rattle.drat_forms.specs.Reading.{takes}
use Rattle.drat_forms.proofs.ReadingLemmas.{takes_on, takes_fault, takes-nil, none_left}
use Rattle.drat_forms.proofs.parts.Parts.take.Goals as goal

pub returns-in_err-take_byte : goal.returns-in_err-take_byte
returns-in_err-take_byte c =
    let r = reading_of c.loop-byte.self in
    let e : c.loop-byte.rest.now ≡ c.in-Some.byte.now ∷ c.in-Some.later.now = c.in-Some.ensures.cases.0 in
    let p = err_from_is_err_and c.from_residual.result c.from_residual.ensures.1 in
    rw (p.1, p.2) (λ some. c.loop-byte.invariant ∙ ap (takes r) e ∙ takes_fault r c.in-Some.byte.now c.in-Some.later.now c.in_err-take_byte.field-0.0 (c.in_err-take_byte.ensures some))

pub loop-byte-preserved : goal.loop-byte-preserved
loop-byte-preserved c =
    let r = reading_of c.loop-byte.self in
    let e : c.loop-byte.rest.now ≡ c.in-Some.byte.now ∷ c.in-Some.later.now = c.in-Some.ensures.cases.0 in
    c.loop-byte.invariant ∙ ap (takes r) e ∙ takes_on r (reading_of c.take_byte.new.self) c.in-Some.byte.now c.in-Some.later.now c.in_ok-take_byte.ensures

pub returns : goal.returns
returns c = let r = reading_of c.loop-byte.self in c.loop-byte.invariant ∙ ap (takes r) (none_left c.loop-byte.rest.now c.in_default.ensures.cases) ∙ takes-nil r
