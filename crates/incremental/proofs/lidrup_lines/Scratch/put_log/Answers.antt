use Rattle.std.proofs.Common.{ℕ, ◌<◌, ◌^◌, List, sym, subst, arith}
use Rattle.std.proofs.lemmas.Bool.{MatchBool-at_false, MatchBool-at_true}
use Rattle.lrat_text.specs.Lines.{IsCut}
use Rattle.incremental.proofs.LogLemmas.{has_ended, has_more}
use Rattle.incremental.proofs.lidrup_lines.Scratch.put_log.Goals as goal

pub lines-preserved : goal.lines-preserved
lines-preserved c = λ most top steps le e plain.
    let few : most < 2 ^ 48 = omega arith in
    let cut = MatchBool-at_true _ _ c.if-branch.true c.in_ok-next.ensures in
    has_more most few top steps c.args.out.now.items c.lines.out.items c.lines.lines c.deref.result.now c.next.new.self c.put_step.new.out.items
    (subst (λ (xs : List ℕ). IsCut c.lines.lines xs c.next.new.self) (sym c.deref.ensures.value) cut) (λ step is bare. c.in_ok-put_step.ensures most step le is bare) (c.lines.invariant most top steps le e plain)

pub returns : goal.returns
returns c = λ most top steps le e plain.
    let few : most < 2 ^ 48 = omega arith in
    let left = MatchBool-at_false _ _ c.if-branch.false c.in_ok-next.ensures in
    has_ended most few top steps c.args.out.now.items c.lines.out.items c.lines.lines left.0 (c.lines.invariant most top steps le e plain)
