use Rattle.std.proofs.Common.{◌+◌, ◌-◌, ◌++◌, ◌∷◌, [], Some, refl, sym, ◌∙◌, arith, get_or, length-append}
use Rattle.lrat_check.specs.inner.Store.{near_entries}
use Rattle.lrat_check.specs.declared.slot.Slot.{Slot}
use Rattle.lrat_check.proofs.Parts.{slots_more, slots_all}
use Rattle.lrat_check.proofs.Slots.{ArePlaced-push}
use Rattle.lrat_check.proofs.BlocksLemmas.{none_filled, pushed_same}
use Rattle.lrat_check.proofs.loader.slots_of.Goals as goal

pub loop-i-init : goal.loop-i-init
loop-i-init c = record { next = omega arith; filled = none_filled c.args.literals.now c.args.places.now c.new-near.result c.new-near.ensures }

pub loop-i-preserved : goal.loop-i-preserved
loop-i-preserved c =
    let L = c.args.literals.now in
    let P = c.args.places.now in
    let i = c.loop-i.i in
    let was = c.loop-i.invariant.filled in
    let s : Slot = record { place = get_or P i 0; len = get_or P (i + 1) 0 - get_or P i 0 } in
    record {
      next = omega (arith, c.in_ok-put_next.ensures.longer);
      filled = record {
        slots = was.slots ++ Some s ∷ [];
        many = omega (arith, was.many, length-append was.slots (Some s ∷ []));
        entries = slots_more L P was.slots i s was.many (omega (arith, c.loop-i-test.true)) refl refl ∙ was.entries;
        placed = ArePlaced-push L was.slots (Some s) was.placed (omega (arith, c.requires.rise i (omega (arith, c.loop-i-test.true)), c.requires.inside (i + 1) (omega (arith, c.loop-i-test.true))));
        same = pushed_same was.slots c.loop-i.near c.put_next.new.blocks (i + 1) (Some s) was.many was.same c.in_ok-put_next.ensures.here c.in_ok-put_next.ensures.others;
      };
    }

pub returns : goal.returns
returns c =
    let was = c.loop-i.invariant.filled in
    record {
      slots = was.slots;
      entries = sym (slots_all c.args.literals.now c.args.places.now (near_entries c.args.literals.now was.slots) c.loop-i.i (omega (arith, c.loop-i-test.false)) (omega (arith, c.requires.some, c.loop-i.auto.i-end))) ∙ was.entries;
      placed = was.placed;
      same = was.same;
    }
