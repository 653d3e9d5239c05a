use Rattle.std.proofs.Common.{◌≡◌, ◌<◌, ℕ, take, All, get_or, sym, subst, arith}
use Rattle.std.proofs.lemmas.List.{take_all}
use Rattle.std.proofs.lemmas.Option.{get_or_from_slice_get, slice_get_within}
use Rattle.std.proofs.lemmas.List.Elements.{All-more}
use Rattle.dimacs.specs.logic.Rat.{Group}
use Rattle.lrat_text.specs.Grammar.{IsGroup}
use Rattle.lrat_forms.proofs.limits.groups_fit.Goals as goal

pub loop-i-preserved : goal.loop-i-preserved
loop-i-preserved c =
    let g : Group = (c.get-candidate.result.0, c.get-candidate.result.1.now) in
    let groups = c.args.groups.now in
    let one : IsGroup g = (c.number_fits.ensures (search c.if-not-number_fits.false), c.numbers_fit.ensures (search c.if-not-numbers_fit.false)) in
    All-more IsGroup groups c.loop-i.i g (slice_get_within groups c.loop-i.i g c.get-candidate.ensures) c.loop-i.invariant
    (subst IsGroup (sym (get_or_from_slice_get groups c.loop-i.i g g c.get-candidate.ensures)) one)

pub returns : goal.returns
returns c = λ told. subst (All IsGroup) (take_all c.loop-i.i c.args.groups.now (omega (arith, c.len-i-end.ensures.value, c.loop-i-test.false))) c.loop-i.invariant
