use Rattle.std.proofs.Common.{◌≡◌, ◌∷◌, [], ◌++◌, length, ◌+◌, ◌-◌, ◌<◌, arith, ap}
use Rattle.std.specs.Vec.{vec_len}
use Rattle.lrat_text.specs.declared.groups.Head.{Head}
use Rattle.dimacs.specs.logic.Rat.{Group}
use Rattle.lrat_text.specs.inner.Groups.{AreHeads}
use Rattle.lrat_text.proofs.GroupLemmas.{length_groups, last_more, hint_more}
use Rattle.lrat_text.proofs.groups.Groups.push_hint.Goals as goal

pub invariant_of-self-2 : goal.invariant_of-self-2
invariant_of-self-2 c =
    let f = c.self.inside in
    let some : 0 < length f.heads.items = omega (arith, length_groups 0 f.heads.items f.hints.items, ap (length {A = Group}) c.self.view_is, c.requires) in
    let len : vec_len c.push.new.self ≡ vec_len f.hints + 1 = c.in_ok-push.ensures.len in
    let at : c.len-last.result - 1 + 1 ≡ length f.heads.items = omega (arith, c.len-last.ensures, f.heads.ok.0, some) in
    rw len (last_more 0 f.heads.items (vec_len f.hints) (c.len-last.result - 1) _ c.self.invariant at (omega (arith, c.len-end.ensures, len)))

pub returns-clause-ok : goal.returns-clause-ok
returns-clause-ok c =
    let f = c.self.inside in
    let some : 0 < length f.heads.items = omega (arith, length_groups 0 f.heads.items f.hints.items, ap (length {A = Group}) c.self.view_is, c.requires) in
    let len : vec_len c.push.new.self ≡ vec_len f.hints + 1 = c.in_ok-push.ensures.len in
    let items : c.push.new.self.items ≡ f.hints.items ++ c.args.hint ∷ [] = c.in_ok-push.ensures.items in
    let at : c.len-last.result - 1 + 1 ≡ length f.heads.items = omega (arith, c.len-last.ensures, f.heads.ok.0, some) in
    let inv : AreHeads 0 f.heads.items (length f.hints.items) = rw f.hints.ok.0 at c.self.invariant in
    let same = ap (λ (h : Head). h.candidate) c.index_mut.ensures.value in
    let end : c.len-end.result ≡ length f.hints.items + 1 = omega (arith, c.len-end.ensures, len, f.hints.ok.0) in
    rw (items, ← c.self.view_is) (hint_more 0 f.heads.items f.hints.items c.args.hint (c.len-last.result - 1) (record { candidate = c.index_mut.result.now.candidate; end = c.len-end.result }) c.index_mut.result.now inv at same end)
