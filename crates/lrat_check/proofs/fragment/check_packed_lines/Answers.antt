use Rattle.std.proofs.Common.{List, ℕ, ap, subst, sym, ◌∙◌, Err}
use Rattle.std.proofs.lemmas.Bool.{MatchBool-at_true, MatchBool-at_false}
use Rattle.std.proofs.lemmas.Result.{err_from_is_err_and}
use Rattle.lrat_text.specs.Lines.{IsCut}
use Rattle.lrat_check.specs.Fragments.{fragment_end}
use Rattle.lrat_check.specs.Logs.{text_from}
use Rattle.lrat_check.proofs.LogTexts.{passed_line, passed_rest, refused_line, found_before}
use Rattle.lrat_check.proofs.Passing.{gives}
use Rattle.lrat_check.proofs.fragment.check_packed_lines.Goals as goal

pub loop-line-preserved : goal.loop-line-preserved
loop-line-preserved c =
    let cut = subst (λ (l : List ℕ). IsCut c.loop-line.left l c.next.new.self) (sym c.deref.ensures.value) (MatchBool-at_true _ _ c.if-branch.true c.in_ok-next.ensures) in
    c.loop-line.invariant ∙ passed_line (fragment_end c.args.cube.now) c.loop-line.log c.loop-line.left c.deref.result.now c.next.new.self c.take.new.self cut c.in_ok-take.ensures.took

pub returns-in_err-take : goal.returns-in_err-take
returns-in_err-take c =
    let at_end = fragment_end c.args.cube.now in
    let cut = subst (λ (l : List ℕ). IsCut c.loop-line.left l c.next.new.self) (sym c.deref.ensures.value) (MatchBool-at_true _ _ c.if-branch.true c.in_ok-next.ensures) in
    let p = err_from_is_err_and c.from_residual-in_err-take.result c.from_residual-in_err-take.ensures.1 in
    rw (p.1, p.2) (found_before (Err c.in_err-take.field-0.0) (text_from at_end c.loop-line.log c.loop-line.left) (text_from at_end c.args.log.now c.args.fragment.now) c.loop-line.invariant
    (refused_line at_end c.loop-line.log c.loop-line.left c.deref.result.now c.next.new.self c.in_err-take.field-0.0 cut c.in_err-take.ensures.refused))

pub returns : goal.returns
returns c =
    let at_end = fragment_end c.args.cube.now in
    let s = c.loop-line.log in
    let open_end = MatchBool-at_false _ _ c.if-branch.false c.in_ok-next.ensures in
    found_before c.end.result (text_from at_end s c.loop-line.left) (text_from at_end c.args.log.now c.args.fragment.now) c.loop-line.invariant
    (gives c.end.result (text_from at_end s c.loop-line.left)
    (passed_rest at_end s c.loop-line.left c.end.result open_end.0 (c.end.ensures ∙ ap (λ (t : List ℕ). at_end s t) (c.deref-2.ensures.value ∙ open_end.1))))
