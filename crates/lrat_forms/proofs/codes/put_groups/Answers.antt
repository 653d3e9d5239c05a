use Rattle.std.proofs.Common.{◌≡◌, ◌+◌, ◌<◌, ℕ, List, All, length, get_or, take, sym, subst, arith}
use Rattle.std.specs.List.{flat_map}
use Rattle.std.proofs.lemmas.List.{take_all}
use Rattle.std.proofs.lemmas.List.Elements.{All-get_or}
use Rattle.std.proofs.lemmas.Option.{get_or_from_slice_get, slice_get_within}
use Rattle.dimacs.specs.logic.Rat.{Group}
use Rattle.lrat_text.specs.Grammar.{IsGroup}
use Rattle.lrat_binary.specs.Grammar.{group_codes}
use Rattle.lrat_forms.specs.inner.Codes.{Adds}
use Rattle.lrat_forms.proofs.CodeLemmas.{adds_none, flat_more, longer_by}
use Rattle.lrat_forms.proofs.codes.put_groups.Goals as goal

pub put_group-requires : goal.put_group-requires
put_group-requires c =
    let g : Group = (c.get-candidate.result.0, c.get-candidate.result.1.now) in
    let groups = c.args.groups.now in
    subst IsGroup (get_or_from_slice_get groups c.loop-i.i g g c.get-candidate.ensures) (All-get_or IsGroup groups c.loop-i.i g (slice_get_within groups c.loop-i.i g c.get-candidate.ensures) c.requires)

pub loop-i-init : goal.loop-i-init
loop-i-init c = adds_none c.args.out.now.items

pub loop-i-preserved : goal.loop-i-preserved
loop-i-preserved c =
    let g : Group = (c.get-candidate.result.0, c.get-candidate.result.1.now) in
    let groups = c.args.groups.now in
    let i = c.loop-i.i in
    flat_more group_codes c.args.out.now.items c.loop-i.out.items c.put_group.new.out.items (take i groups) (take (i + 1) groups) g
    (longer_by groups i g (slice_get_within groups i g c.get-candidate.ensures) (sym (get_or_from_slice_get groups i g g c.get-candidate.ensures))) c.loop-i.invariant c.in_ok-put_group.ensures

pub returns : goal.returns
returns c = subst (λ (gs : List Group). Adds c.args.out.now.items c.loop-i.out.items (flat_map group_codes gs)) (take_all c.loop-i.i c.args.groups.now (omega (arith, c.len-i-end.ensures.value, c.loop-i-test.false))) c.loop-i.invariant
