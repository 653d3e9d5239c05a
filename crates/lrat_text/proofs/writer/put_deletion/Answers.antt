use Rattle.std.proofs.Common.{◌++◌, codes, decimal}
use Rattle.std.specs.List.{flat_map}
use Rattle.std.proofs.lemmas.Result.{on_ok_weaker}
use Rattle.lrat_text.specs.inner.LineParts.{number_text}
use Rattle.lrat_text.proofs.WrittenLineLemmas.{piece_more, begins_more}
use Rattle.lrat_text.proofs.writer.put_deletion.Goals as goal

pub returns-clause-ok : goal.returns-clause-ok
returns-clause-ok c =
    let old = c.args.out.now.items in
    let number = c.put_number.new.out.items in
    let letter = c.put_text.new.out.items in
    let ids = c.put_numbers.new.out.items in
    let kind = piece_more old (decimal c.args.top) number letter (codes " d") c.in_ok-put_number.ensures.ok c.in_ok-put_text.ensures.ok in
    let all = piece_more old (decimal c.args.top ++ codes " d") letter ids (flat_map number_text c.args.ids.now) kind c.in_ok-put_numbers.ensures.ok in
    on_ok_weaker c.put_text-2.result (piece_more old (decimal c.args.top ++ codes " d" ++ flat_map number_text c.args.ids.now) ids c.put_text-2.new.out.items (codes " 0\n") all) c.put_text-2.ensures.ok

pub returns-clause-begins : goal.returns-clause-begins
returns-clause-begins c =
    let old = c.args.out.now.items in
    let number = c.put_number.new.out.items in
    let letter = c.put_text.new.out.items in
    let ids = c.put_numbers.new.out.items in
    begins_more old ids c.put_text-2.new.out.items (begins_more old letter ids (begins_more old number letter c.put_number.ensures.begins c.put_text.ensures.begins) c.put_numbers.ensures.begins) c.put_text-2.ensures.begins

pub returns-in_err-put_text-clause-begins : goal.returns-in_err-put_text-clause-begins
returns-in_err-put_text-clause-begins c = begins_more c.args.out.now.items c.put_number.new.out.items c.put_text.new.out.items c.put_number.ensures.begins c.put_text.ensures.begins

pub returns-in_err-put_numbers-clause-begins : goal.returns-in_err-put_numbers-clause-begins
returns-in_err-put_numbers-clause-begins c =
    let old = c.args.out.now.items in
    let letter = c.put_text.new.out.items in
    begins_more old letter c.put_numbers.new.out.items (begins_more old c.put_number.new.out.items letter c.put_number.ensures.begins c.put_text.ensures.begins) c.put_numbers.ensures.begins
