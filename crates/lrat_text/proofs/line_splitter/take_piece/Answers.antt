use Rattle.std.proofs.Common.{◌≡◌, sym, subst, [], ◌++◌, length, vec_len, arith}
use Rattle.std.proofs.lemmas.Bool.{eqb-true}
use Rattle.std.specs.Prelude.{MatchResult}
use Rattle.std.proofs.lemmas.Result.{MatchResult-weaker}
use Rattle.lrat_text.specs.Lines.{IsOpen, IsCut}
use Rattle.lrat_text.specs.LineSink.{HandsOn, PieceStops}
use Rattle.lrat_text.proofs.PieceLemmas.{none_of}
use Rattle.lrat_text.proofs.LineSinkLemmas.{hands_line, hands_on, stops_on, refuses_line}
use Rattle.lrat_text.proofs.line_splitter.take_piece.Goals as goal

pub returns-then-is_empty-clause-taken : goal.returns-then-is_empty-clause-taken
returns-then-is_empty-clause-taken g c =
    let zero : vec_len c.args.begun.now ≡ 0 = eqb-true (vec_len c.args.begun.now) 0 (sym c.if-is_empty.ensures) in
    let len : length c.args.begun.now.items ≡ 0 = omega (arith, zero, c.args.begun.now.ok) in
    let none : c.args.begun.now.items ≡ [] = none_of c.args.begun.now.items len in
    subst (λ b. MatchResult c.take_apart.result
    (λ _. g.T.TakesLines.may_take c.take_apart.new.taker × IsOpen c.take_apart.new.begun.items × HandsOn g.T.TakesLines.takes c.args.taker.now (b ++ c.args.piece.now) c.take_apart.new.taker c.take_apart.new.begun.items)
    (λ fault. PieceStops g.T.TakesLines.takes g.T.TakesLines.refuses c.args.taker.now (b ++ c.args.piece.now) c.take_apart.new.taker fault)) (sym none) c.take_apart.ensures.taken

pub returns-in-Ok-clause-taken : goal.returns-in-Ok-clause-taken
returns-in-Ok-clause-taken g c =
    let takes = g.T.TakesLines.takes in
    let refuses = g.T.TakesLines.refuses in
    let s = c.args.taker.now in
    let m = c.take_line.new.self in
    let all = c.args.begun.now.items ++ c.args.piece.now in
    let rest = c.in-Ok-Some.rest.now in
    let cut : IsCut all c.deref.result.now rest = subst (λ line. IsCut all line rest) (sym c.deref.ensures.value) (rw c.in-Ok-Some.field-0-is at c.in-Ok-Some.ensures.ended) in
    let first : HandsOn takes s all m rest = hands_line takes s all c.deref.result.now rest m cut c.in-Ok.ensures.1 in
    MatchResult-weaker c.take_apart-in-Ok.result c.take_apart-in-Ok.ensures.taken
    (λ x h. (h.0, h.1, hands_on takes s all m rest c.take_apart-in-Ok.new.taker c.take_apart-in-Ok.new.begun.items first h.2))
    (λ fault h. stops_on takes refuses s all m rest c.take_apart-in-Ok.new.taker fault first h)

pub returns-in-Err-take_line-clause-taken : goal.returns-in-Err-take_line-clause-taken
returns-in-Err-take_line-clause-taken g c =
    let all = c.args.begun.now.items ++ c.args.piece.now in
    let rest = c.in-Ok-Some.rest.now in
    let cut : IsCut all c.deref.result.now rest = subst (λ line. IsCut all line rest) (sym c.deref.ensures.value) (rw c.in-Ok-Some.field-0-is at c.in-Ok-Some.ensures.ended) in
    refuses_line g.T.TakesLines.takes g.T.TakesLines.refuses c.args.taker.now all c.deref.result.now rest c.take_line.new.self c.in-Err-take_line.fault cut c.in-Err-take_line.ensures
