use Rattle.std.proofs.Common.{◌∙◌, ap, subst, sym, arith, length-append, None, [], ◌∷◌, length, IsSome}
use Rattle.std.specs.Ordering.{nat_cmp}
use Rattle.std.specs.BTreeMap as tree
use Rattle.clause_arena.specs.inner.Slots.{slots_of, IsApart}
use Rattle.clause_arena.proofs.SlotLemmas.{with_near, slots_of-push, apart-push}
use Rattle.clause_arena.proofs.slot_map.SlotMap.make_place.Goals as goal

pub loop-self-preserved : goal.loop-self-preserved
loop-self-preserved c =
    let l = c.loop-self in
    let t = l.self in
    let i = l.invariant in
    let more = c.in_ok-push_free_cell.ensures.ok in
    record {
      same = ap (λ xs. slots_of (with_near t xs)) more ∙ slots_of-push t ∙ i.same;
      apart = subst (λ xs. IsApart (with_near t xs)) (sym more)
          (apart-push t c.args.place (omega arith) (λ q s. c.requires.below q (subst (λ f. IsSome (tree.get nat_cmp f q)) i.far s)) i.apart);
      far = i.far;
      few = omega (arith, i.few, ap length more, length-append t.near (None ∷ []));
    }
