use Rattle.std.proofs.Common.{◌++◌, ◌∙◌, List, ℕ, ap, flat_map, get_or, refl}
use Rattle.std.proofs.lemmas.List.{take_all}
use Rattle.dimacs.proofs.WritingLemmas.{item_more}
use Rattle.commands.specs.Weave.{shown_byte}
use Rattle.commands.proofs.weave_notes.put_name.Goals as goal

pub loop-byte-preserved : goal.loop-byte-preserved
loop-byte-preserved c = record {
  out = c.in_ok-put_byte.ensures ∙ item_more shown_byte c.args.out.now.items c.loop-byte.out.items c.args.name.now c.loop-byte.byte-index (get_or c.args.name.now c.loop-byte.byte-index 0) 0 c.loop-byte-test.true refl c.loop-byte.invariant.out;
}

pub returns : goal.returns
returns c = c.loop-byte.invariant.out ∙ ap (λ (xs : List ℕ). c.args.out.now.items ++ flat_map shown_byte xs) (take_all c.loop-byte.byte-index c.args.name.now c.loop-byte-test.false)
