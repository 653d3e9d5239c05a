use Rattle.std.proofs.Common.{◌<◌, arith, sym}
use Rattle.weaving.proofs.TextLemmas.{has_closing}
use Rattle.weaving.proofs.checked_text.CheckedText.has_closing.Goals as goal

pub returns-in-Some : goal.returns-in-Some
returns-in-Some c =
    let s = c.args.self.now.checker in
    let own : s.base < c.args.number = omega arith in
    has_closing s c.args.number c.args.cube.now c.in-Some.clause.now c.is_negated.result own (sym c.in-Some.ensures) c.is_negated.ensures
