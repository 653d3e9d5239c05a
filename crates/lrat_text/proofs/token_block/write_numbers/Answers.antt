use Rattle.std.proofs.Common.{◌-◌, length, ap, sym, ◌∙◌, arith}
use Rattle.std.specs.List.{flat_map}
use Rattle.std.proofs.lemmas.List.{drop_all}
use Rattle.lrat_text.specs.inner.LineParts.{number_text}
use Rattle.lrat_text.proofs.token_block.write_numbers.Goals as goal

pub loop-i-init : goal.loop-i-init
loop-i-init c =
    let xs = c.args.numbers.now in
    record {
      room = omega arith;
      top = omega arith;
      text = drop_all 352 c.args.room.now (omega (arith, c.fits-room, c.told-room)) ∙ sym (ap (flat_map number_text) (drop_all (length xs - 0) xs (omega arith)));
    }
