use Rattle.std.proofs.Common.{◌≡◌, ◌+◌, ◌-◌, ◌++◌, ◌∷◌, ◌∙◌, map, length, List, Vec, Global, MatchBool, [], ℕ, ap, sym, subst, arith}
use Rattle.std.proofs.lemmas.Bool.{MatchBool-at_true, MatchBool-at_false}
use Rattle.std.proofs.lemmas.List.{append-nil}
use Rattle.std.proofs.lemmas.Result.{err_from_is_err_and}
use Rattle.lrat_text.specs.Grammar.{SpellsStepWithin}
use Rattle.lrat_text.specs.Lines.{IsCut}
use Rattle.lrat_text.specs.Log.{top_after}
use Rattle.lrat_text.specs.WrittenLine.{line_of}
use Rattle.lrat_text.specs.declared.step.Step.{Step}
use Rattle.proof_join.specs.RenumberedSteps.{behind, renumbered}
use Rattle.lrat_text.specs.Runs.{text_of, top_of}
use Rattle.proof_join.specs.Steps.{steps_in}
use Rattle.proof_join.specs.inner.Steps.{IsLow, AreLow, last_of}
use Rattle.proof_join.proofs.StepLemmas.{next_line, read_same, no_line, writes_longer, longer, top_on, text_on, last_at, last_read, top_of_on, line_some}
use Rattle.proof_join.proofs.lines.put_fragment.Goals as goal

pub put_fragment_line-requires-clause-spelled : goal.put_fragment_line-requires-clause-spelled
put_fragment_line-requires-clause-spelled c =
    let n = next_line 199999999 (omega arith) c.loop-last.lines c.deref.result.now c.next.new.self (subst (λ (l : List ℕ). IsCut c.loop-last.lines l c.next.new.self) (sym c.deref.ensures.value) (MatchBool-at_true _ _ c.if-branch.true c.in_ok-next.ensures)) c.loop-last.invariant.spelled in
    (n.step, n.spells)

pub put_fragment_line-requires-clause-low : goal.put_fragment_line-requires-clause-low
put_fragment_line-requires-clause-low c = λ step s.
    let i = c.loop-last.invariant in
    let k : ℕ = c.args.shift.base + (c.loop-last.top - c.args.shift.begun) in
    let n = next_line 199999999 (omega arith) c.loop-last.lines c.deref.result.now c.next.new.self (subst (λ (l : List ℕ). IsCut c.loop-last.lines l c.next.new.self) (sym c.deref.ensures.value) (MatchBool-at_true _ _ c.if-branch.true c.in_ok-next.ensures)) i.spelled in
    subst (IsLow k) (read_same 199999999 (omega arith) c.deref.result.now n.step step n.spells s) (subst (AreLow k) n.steps i.low).0

pub returns-in_err-top-clause-text : goal.returns-in_err-top-clause-text
returns-in_err-top-clause-text c =
    let i = c.loop-last.invariant in
    let n = next_line 199999999 (omega arith) c.loop-last.lines c.deref.result.now c.next.new.self (subst (λ (l : List ℕ). IsCut c.loop-last.lines l c.next.new.self) (sym c.deref.ensures.value) (MatchBool-at_true _ _ c.if-branch.true c.in_ok-next.ensures)) i.spelled in
    let r : Step → Step = renumbered (behind c.args.shift.base c.args.shift.begun) in
    let whole : List ℕ = c.args.out.now ++ text_of c.args.shift.begun (map r (steps_in c.args.fragment.now)) in
    let p = err_from_is_err_and c.from_residual-in_err-top.result c.from_residual-in_err-top.ensures.1 in
    rw (p.1, p.2) (writes_longer ℕ c.in_err-top.field-0.0 c.put_fragment_line.new.out (c.loop-last.out ++ line_of c.loop-last.top (r n.step)) whole (c.in_err-top.ensures.text n.step n.spells)
    (longer c.args.shift.base c.args.shift.begun c.loop-last.top 0 c.loop-last.out [] whole n.step (steps_in c.loop-last.lines) (steps_in c.next.new.self) n.steps i.text))

pub loop-last-preserved : goal.loop-last-preserved
loop-last-preserved c =
    let i = c.loop-last.invariant in
    let n = next_line 199999999 (omega arith) c.loop-last.lines c.deref.result.now c.next.new.self (subst (λ (l : List ℕ). IsCut c.loop-last.lines l c.next.new.self) (sym c.deref.ensures.value) (MatchBool-at_true _ _ c.if-branch.true c.in_ok-next.ensures)) i.spelled in
    let b : ℕ = c.args.shift.base in
    let t : ℕ = c.args.shift.begun in
    let r : Step → Step = renumbered (behind b t) in
    let top : ℕ = c.loop-last.top in
    let number : ℕ = c.in_ok-top.top in
    let out : List ℕ = c.loop-last.out in
    let after : List ℕ = c.put_fragment_line.new.out in
    let rest : List Step = steps_in c.loop-last.lines in
    let later : List Step = steps_in c.next.new.self in
    let whole : List ℕ = c.args.out.now ++ text_of t (map r (steps_in c.args.fragment.now)) in
    let is : number ≡ top_after top (r n.step) = c.in_ok-top.ensures.top n.step n.spells in
    let wrote = c.in_ok-top.ensures.text n.step n.spells in
    let same : length after ≡ length (out ++ line_of top (r n.step)) = ap length wrote.0 in
    let below = wrote.1 in
    let some = line_some out top (r n.step) in
    let low : AreLow (b + (top - t)) (n.step ∷ later) = subst (AreLow (b + (top - t))) n.steps i.low in
    let up = top_on b t top number n.step c.requires.begun.1 i.begun low.0 is in
    let up2 = up.2 in
    let few = i.few in
    record {
      text = text_on b t top number out after whole n.step rest later n.steps wrote.0 is i.text;
      last = (n.step, subst (λ (l : Vec ℕ Global). SpellsStepWithin 199999999 l.items n.step) (sym c.swap.ensures.y_after) (subst (λ (l : List ℕ). SpellsStepWithin 199999999 l n.step) c.deref.ensures.value n.spells), last_at c.loop-last.some c.loop-last.last.items c.loop-last.scratch.buffer c.args.scratch.now.buffer (last_of c.args.scratch.now.buffer (steps_in c.args.fragment.now)) n.step rest later n.steps i.last);
      top = top_of_on b t top number out after whole n.step rest later n.steps is (top_of t (map r (steps_in c.args.fragment.now))) i.top;
      spelled = n.spelled;
      low = subst (λ (k : ℕ). AreLow k later) up.0 low.1;
      begun = up.1;
      few = omega arith;
      short = omega arith;
    }

pub returns-in-Ok-clause-text : goal.returns-in-Ok-clause-text
returns-in-Ok-clause-text c =
    let i = c.loop-last.invariant in
    let e = no_line 199999999 c.loop-last.lines (MatchBool-at_false _ _ c.if-branch.false c.in_ok-next.ensures).0 i.spelled in
    let r : Step → Step = renumbered (behind c.args.shift.base c.args.shift.begun) in
    let whole : List ℕ = c.args.out.now ++ text_of c.args.shift.begun (map r (steps_in c.args.fragment.now)) in
    let f : c.loop-last.out ≡ whole =
    sym (append-nil c.loop-last.out) ∙ ap (λ (ss : List Step). c.loop-last.out ++ text_of c.loop-last.top (map r ss)) (sym e) ∙ i.text in
    let g : length c.loop-last.out ≡ length whole = ap length f in
    let h = i.short in
    (f, omega arith)

pub returns-in-Ok-clause-top : goal.returns-in-Ok-clause-top
returns-in-Ok-clause-top c =
    let i = c.loop-last.invariant in
    let e = no_line 199999999 c.loop-last.lines (MatchBool-at_false _ _ c.if-branch.false c.in_ok-next.ensures).0 i.spelled in
    ap (λ (ss : List Step). top_of c.loop-last.top (map (renumbered (behind c.args.shift.base c.args.shift.begun)) ss)) (sym e) ∙ i.top

pub returns-in-Ok-clause-last : goal.returns-in-Ok-clause-last
returns-in-Ok-clause-last c =
    let i = c.loop-last.invariant in
    let e = no_line 199999999 c.loop-last.lines (MatchBool-at_false _ _ c.if-branch.false c.in_ok-next.ensures).0 i.spelled in
    last_read c.loop-last.some c.loop-last.last.items c.loop-last.scratch.buffer c.args.scratch.now.buffer c.read_last.new.buffer (last_of c.args.scratch.now.buffer (steps_in c.args.fragment.now))
    (steps_in c.loop-last.lines) e (subst (λ (l : List ℕ). MatchBool c.loop-last.some (SpellsStepWithin 199999999 l c.read_last.new.buffer) (c.read_last.new.buffer ≡ c.loop-last.scratch.buffer)) c.deref-2.ensures.value c.in-Ok.ensures) i.last
