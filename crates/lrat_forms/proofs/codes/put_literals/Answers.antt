use Rattle.std.proofs.Common.{◌≡◌, ◌+◌, ℕ, List, take, map, subst, ap, ◌∙◌}
use Rattle.std.proofs.lemmas.List.{take_all}
use Rattle.dimacs.specs.logic.Literal.{Literal, index_of}
use Rattle.lrat_forms.specs.inner.Codes.{Adds, AddsNumber}
use Rattle.lrat_forms.proofs.CodeLemmas.{adds_none, longer_by, maps_more}
use Rattle.lrat_forms.proofs.codes.put_literals.Goals as goal

pub loop-lit-init : goal.loop-lit-init
loop-lit-init c = adds_none c.args.out.now.items

pub loop-lit-preserved : goal.loop-lit-preserved
loop-lit-preserved c =
    let x = c.lit-item.result in
    let lits = c.args.lits.now in
    let i = c.loop-lit.lit-index in
    maps_more index_of c.args.out.now.items c.loop-lit.out.items c.put_code.new.out.items (take i lits) (take (i + 1) lits) x (longer_by lits i x c.loop-lit-test.true c.lit-item.is) c.loop-lit.invariant
    (subst (AddsNumber c.loop-lit.out.items c.put_code.new.out.items) c.index.ensures.value c.in_ok-put_code.ensures)

pub returns : goal.returns
returns c = subst (λ (ls : List Literal). Adds c.args.out.now.items c.loop-lit.out.items (map index_of ls)) (take_all c.loop-lit.lit-index c.args.lits.now c.loop-lit-test.false) c.loop-lit.invariant
