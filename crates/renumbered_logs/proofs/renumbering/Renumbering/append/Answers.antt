use Rattle.std.proofs.Common.{◌≡◌, ◌∙◌, ◌==◌, ℕ, List, length, vec_len, ap, sym, subst, arith}
use Rattle.std.proofs.lemmas.Bool.{MatchBool-at_true, MatchBool-at_false}
use Rattle.lrat_text.specs.Grammar.{SpellsStepWithin}
use Rattle.lrat_text.specs.Lines.{IsCut}
use Rattle.lrat_text.specs.Steps.{step_of}
use Rattle.renumbered_logs.proofs.RenumberingLemmas.{ends, goes_on, not_put, not_read}
use Rattle.renumbered_logs.proofs.renumbering.Renumbering.append.Goals as goal

pub returns-then-not-branch : goal.returns-then-not-branch
returns-then-not-branch c =
    let cut : IsCut c.loop-line.lines c.deref.result.now c.next.new.self = subst (λ (l : List ℕ). IsCut c.loop-line.lines l c.next.new.self) (sym c.deref.ensures.value) (MatchBool-at_true _ _ c.if-branch.true c.in_ok-next.ensures) in
    not_read c.args.self.numbers.now c.args.self.all c.args.self.eliminated.now c.args.log.now c.args.text.now c.loop-line.rewriter.top c.loop-line.lines c.deref.result.now c.next.new.self c.loop-line.text
    c.loop-line.invariant cut (MatchBool-at_false _ _ c.if-not-branch.true c.in_ok-read.ensures)

pub returns-then-not-branch-2 : goal.returns-then-not-branch-2
returns-then-not-branch-2 c =
    let cut : IsCut c.loop-line.lines c.deref.result.now c.next.new.self = subst (λ (l : List ℕ). IsCut c.loop-line.lines l c.next.new.self) (sym c.deref.ensures.value) (MatchBool-at_true _ _ c.if-branch.true c.in_ok-next.ensures) in
    let spells : SpellsStepWithin 199999999 c.deref.result.now (step_of c.as_ref.result) = subst (SpellsStepWithin 199999999 c.deref.result.now) (sym c.as_ref.ensures) (MatchBool-at_true _ _ c.if-not-branch.false c.in_ok-read.ensures) in
    not_put c.args.self.numbers.now c.args.self.all c.args.self.eliminated.now c.args.log.now c.args.text.now c.loop-line.rewriter.top c.loop-line.lines c.deref.result.now c.next.new.self c.loop-line.text
    c.loop-line.invariant cut (step_of c.as_ref.result) spells (MatchBool-at_false _ _ c.if-not-branch-2.true c.in_ok-put.ensures)

pub loop-line-preserved : goal.loop-line-preserved
loop-line-preserved c =
    let cut : IsCut c.loop-line.lines c.deref.result.now c.next.new.self = subst (λ (l : List ℕ). IsCut c.loop-line.lines l c.next.new.self) (sym c.deref.ensures.value) (MatchBool-at_true _ _ c.if-branch.true c.in_ok-next.ensures) in
    let spells : SpellsStepWithin 199999999 c.deref.result.now (step_of c.as_ref.result) = subst (SpellsStepWithin 199999999 c.deref.result.now) (sym c.as_ref.ensures) (MatchBool-at_true _ _ c.if-not-branch.false c.in_ok-read.ensures) in
    goes_on c.args.self.numbers.now c.args.self.all c.args.self.eliminated.now c.args.log.now c.args.text.now c.loop-line.rewriter.top c.put.new.rewriter.top c.loop-line.lines c.deref.result.now c.next.new.self
    c.loop-line.text c.put.new.text (step_of c.as_ref.result) cut spells (MatchBool-at_true _ _ c.if-not-branch-2.false c.in_ok-put.ensures) c.loop-line.invariant

pub returns : goal.returns
returns c =
    let long : vec_len c.next.new.line ≡ length c.next.new.line.items = omega (arith, c.next.new.line.ok) in
    let end = MatchBool-at_false _ _ c.if-branch.false c.in_ok-next.ensures in
    ends c.args.self.numbers.now c.args.self.all c.args.self.eliminated.now c.args.log.now c.args.text.now c.is_empty.result c.loop-line.rewriter.top c.loop-line.lines c.next.new.line.items c.loop-line.text
    c.loop-line.invariant end.0 end.1 (c.is_empty.ensures ∙ ap (λ (n : ℕ). n == 0) long)
