use Rattle.std.proofs.Common.{◌≡◌, ◌∷◌, [], ◌++◌, length, ◌+◌, arith}
use Rattle.std.specs.Vec.{vec_len}
use Rattle.lrat_text.specs.Groups.{groups_from}
use Rattle.lrat_text.specs.inner.Groups.{AreHeads}
use Rattle.lrat_text.proofs.GroupLemmas.{more_heads, more_groups}
use Rattle.lrat_text.proofs.groups.Groups.push.Goals as goal

pub invariant_of-self-2 : goal.invariant_of-self-2
invariant_of-self-2 c =
    let f = c.self.inside in
    let e : vec_len c.extend_from_slice.new.self ≡ vec_len f.hints + length c.args.hints.now = c.in_ok-extend_from_slice.ensures.len in
    let end : c.len-end.result ≡ vec_len f.hints + length c.args.hints.now = omega (arith, c.len-end.ensures, e) in
    let h : c.push.new.self.items ≡ f.heads.items ++ record { candidate = c.args.candidate; end = c.len-end.result } ∷ [] = cc (c.in_ok-push.ensures.items, c.in_ok-reserve.ensures.items) in
    rw (h, e) (more_heads 0 f.heads.items (vec_len f.hints) (length c.args.hints.now) _ c.self.invariant end)

pub returns-clause-ok : goal.returns-clause-ok
returns-clause-ok c =
    let f = c.self.inside in
    let g : c.extend_from_slice.new.self.items ≡ f.hints.items ++ c.args.hints.now = c.in_ok-extend_from_slice.ensures.items in
    let e : vec_len c.extend_from_slice.new.self ≡ vec_len f.hints + length c.args.hints.now = c.in_ok-extend_from_slice.ensures.len in
    let end : c.len-end.result ≡ length f.hints.items + length c.args.hints.now = omega (arith, c.len-end.ensures, e, f.hints.ok.0) in
    let h : c.push.new.self.items ≡ f.heads.items ++ record { candidate = c.args.candidate; end = c.len-end.result } ∷ [] = cc (c.in_ok-push.ensures.items, c.in_ok-reserve.ensures.items) in
    let inv : AreHeads 0 f.heads.items (length f.hints.items) = rw f.hints.ok.0 at c.self.invariant in
    let v : groups_from 0 f.heads.items f.hints.items ≡ c.args.self.now = c.self.view_is in
    rw (h, g, ← v) (more_groups 0 f.heads.items f.hints.items c.args.hints.now (record { candidate = c.args.candidate; end = c.len-end.result }) inv end)
