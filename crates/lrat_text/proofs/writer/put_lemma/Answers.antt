use Rattle.std.proofs.Common.{◌++◌, codes, decimal}
use Rattle.std.specs.List.{flat_map}
use Rattle.std.proofs.lemmas.Result.{on_ok_weaker}
use Rattle.lrat_text.specs.inner.LineParts.{literal_text}
use Rattle.lrat_text.proofs.WrittenLineLemmas.{piece_more, begins_more}
use Rattle.lrat_text.proofs.writer.put_lemma.Goals as goal

pub returns-clause-ok : goal.returns-clause-ok
returns-clause-ok c =
    let old = c.args.out.now.items in
    let number = c.put_number.new.out.items in
    let literals = c.put_literals.new.out.items in
    let all = piece_more old (decimal c.args.id) number literals (flat_map literal_text c.args.lits.now) c.in_ok-put_number.ensures.ok c.in_ok-put_literals.ensures.ok in
    on_ok_weaker c.put_text.result (piece_more old (decimal c.args.id ++ flat_map literal_text c.args.lits.now) literals c.put_text.new.out.items (codes " 0") all) c.put_text.ensures.ok

pub returns-clause-begins : goal.returns-clause-begins
returns-clause-begins c =
    let old = c.args.out.now.items in
    let number = c.put_number.new.out.items in
    let literals = c.put_literals.new.out.items in
    begins_more old literals c.put_text.new.out.items (begins_more old number literals c.put_number.ensures.begins c.put_literals.ensures.begins) c.put_text.ensures.begins

pub returns-in_err-put_literals-clause-begins : goal.returns-in_err-put_literals-clause-begins
returns-in_err-put_literals-clause-begins c = begins_more c.args.out.now.items c.put_number.new.out.items c.put_literals.new.out.items c.put_number.ensures.begins c.put_literals.ensures.begins
