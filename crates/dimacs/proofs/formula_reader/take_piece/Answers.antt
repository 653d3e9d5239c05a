use Rattle.std.proofs.Common.{◌≡◌, ◌++◌, ◌==◌, [], false, sym, subst}
use Rattle.std.proofs.lemmas.Bool.{MatchBool-at_true, MatchBool-at_false}
use Rattle.std.proofs.lemmas.List.Elements.{All-nil}
use Rattle.dimacs.specs.inner.Pieces.{IsOpen, LeadsTo}
use Rattle.dimacs.proofs.PieceLemmas.{leads_on, line_leads, line_refuses, refuses_on}
use Rattle.dimacs.proofs.formula_reader.take_piece.Goals as goal

pub returns-then-not-end_line : goal.returns-then-not-end_line
returns-then-not-end_line c =
    let s = c.loop-end.lines in
    let begun = c.loop-end.begun.items in
    let rest = c.loop-end.rest.now in
    refuses_on c.args.lines.now s (c.args.begun.now.items ++ c.args.piece.now) (begun ++ rest) c.end_line.new.fault c.loop-end.invariant.1
    (line_refuses s begun c.in-Some.end.now c.in-Some.later.now rest c.end_line.new.fault c.loop-end.invariant.0 c.in-Some.ensures (MatchBool-at_false _ _ c.if-not-end_line.true c.end_line.ensures))

pub loop-end-preserved : goal.loop-end-preserved
loop-end-preserved c =
    let s = c.loop-end.lines in
    let t = c.end_line.new.lines in
    let begun = c.loop-end.begun.items in
    let rest = c.loop-end.rest.now in
    let later = c.in-Some.later.now in
    let all = c.args.begun.now.items ++ c.args.piece.now in
    let took = MatchBool-at_true _ _ c.if-not-end_line.false c.end_line.ensures in
    let none : c.end_line.new.begun.items ≡ [] = took.0 in
    subst (λ b. IsOpen b × LeadsTo c.args.lines.now all t (b ++ later)) (sym none)
    (All-nil (λ b. (b == 10) ≡ false), leads_on c.args.lines.now s t all (begun ++ rest) later c.loop-end.invariant.1 (line_leads s t begun c.in-Some.end.now later rest c.loop-end.invariant.0 c.in-Some.ensures took.1))
