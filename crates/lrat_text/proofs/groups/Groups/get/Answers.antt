use Rattle.std.proofs.Common.{◌≡◌, ◌<◌, length, arith, ap}
use Rattle.std.specs.Vec.{vec_len}
use Rattle.dimacs.specs.logic.Rat.{Group}
use Rattle.lrat_text.specs.inner.Groups.{start_at}
use Rattle.lrat_text.proofs.GroupLemmas.{length_groups, read_ends, read_within, read_group}
use Rattle.lrat_text.proofs.groups.Groups.get.Goals as goal

pub start_of-start-requires : goal.start_of-start-requires
start_of-start-requires c =
    omega (arith, length_groups 0 c.self.inside.heads.items c.self.inside.hints.items, ap (length {A = Group}) c.self.view_is, c.self.inside.heads.ok.0, c.deref.ensures.len, c.requires)

pub index-head-requires : goal.index-head-requires
index-head-requires c =
    omega (arith, length_groups 0 c.self.inside.heads.items c.self.inside.hints.items, ap (length {A = Group}) c.self.view_is, c.self.inside.heads.ok.0, c.requires)

pub slice_bounds-result-count : goal.slice_bounds-result-count
slice_bounds-result-count c =
    let f = c.self.inside in
    let lt : c.args.i < vec_len f.heads = omega (arith, length_groups 0 f.heads.items f.hints.items, ap (length {A = Group}) c.self.view_is, f.heads.ok.0, c.requires) in
    let at : c.start_of-start.result ≡ start_at 0 f.heads.items c.args.i = cc in
    read_ends f.heads.items _ c.args.i (vec_len f.heads) _ c.index-head.result.now c.self.invariant f.heads.ok.0 lt c.index-head.ensures at

pub slice_bounds-result-start : goal.slice_bounds-result-start
slice_bounds-result-start c =
    let f = c.self.inside in
    let lt : c.args.i < vec_len f.heads = omega (arith, length_groups 0 f.heads.items f.hints.items, ap (length {A = Group}) c.self.view_is, f.heads.ok.0, c.requires) in
    let at : c.start_of-start.result ≡ start_at 0 f.heads.items c.args.i = cc in
    read_ends f.heads.items _ c.args.i (vec_len f.heads) _ c.index-head.result.now c.self.invariant f.heads.ok.0 lt c.index-head.ensures at

pub slice_bounds-result-end : goal.slice_bounds-result-end
slice_bounds-result-end c =
    let f = c.self.inside in
    let lt : c.args.i < vec_len f.heads = omega (arith, length_groups 0 f.heads.items f.hints.items, ap (length {A = Group}) c.self.view_is, f.heads.ok.0, c.requires) in
    let within = read_within f.heads.items _ c.args.i (vec_len f.heads) c.index-head.result.now c.self.invariant f.heads.ok.0 lt c.index-head.ensures in
    omega (arith, within, c.deref-2.ensures.len)

pub offset_bounds-deref-start : goal.offset_bounds-deref-start
offset_bounds-deref-start c =
    let f = c.self.inside in
    let lt : c.args.i < vec_len f.heads = omega (arith, length_groups 0 f.heads.items f.hints.items, ap (length {A = Group}) c.self.view_is, f.heads.ok.0, c.requires) in
    let at : c.start_of-start.result ≡ start_at 0 f.heads.items c.args.i = cc in
    let within = read_within f.heads.items _ c.args.i (vec_len f.heads) c.index-head.result.now c.self.invariant f.heads.ok.0 lt c.index-head.ensures in
    let below = read_ends f.heads.items _ c.args.i (vec_len f.heads) _ c.index-head.result.now c.self.invariant f.heads.ok.0 lt c.index-head.ensures at in
    omega (arith, within, below, c.deref-2.ensures.len, c.deref-2.type_inv)

pub returns : goal.returns
returns c =
    let f = c.self.inside in
    let lt : c.args.i < vec_len f.heads = omega (arith, length_groups 0 f.heads.items f.hints.items, ap (length {A = Group}) c.self.view_is, f.heads.ok.0, c.requires) in
    let at : c.start_of-start.result ≡ start_at 0 f.heads.items c.args.i = cc in
    rw (← c.self.view_is, c.deref-2.ensures.value) (read_group f.heads.items f.hints.items c.args.i (vec_len f.heads) _ c.index-head.result.now f.heads.ok.0 lt c.index-head.ensures at)
