-- Steps in binary form that are written for lines.
use Rattle.std.proofs.Common.{◌≡◌, ◌==◌, ℕ, false, List, [], ◌∷◌, ◌++◌, Contains, refl, sym, ap, subst, ◌∙◌, append_assoc}
use Rattle.std.specs.List.{All}
use Rattle.std.proofs.lemmas.Bool.{true≢false, eq-eqb}
use Rattle.std.proofs.lemmas.List.{append-nil}
use Rattle.std.proofs.lemmas.List.Elements.{All-contains, All-head, All-tail}
use Rattle.lrat_text.specs.Grammar.{LineSpellsWithin, SpellsStepWithin}
use Rattle.lrat_text.specs.Lines.{IsOpen}
use Rattle.lrat_text.specs.LineSink.{TakesAll, HandsOn, ended_lines}
use Rattle.lrat_text.specs.declared.step.Step.{Step}
use Rattle.lrat_text.proofs.RunLemmas.{spells_append_within}
use Rattle.lrat_binary.specs.Grammar.{SpellsWithin, SpellsStepWithin as SpellsBytesWithin}
use Rattle.lrat_forms.specs.SameSteps.{HasWrittenWithin}
use Rattle.lrat_forms.specs.declared.binary_form.BinaryForm.{BinaryForm}
use Rattle.lrat_forms.specs.declared.binary_form.StepWriter.{StepWriter}
use Rattle.lrat_forms.specs.inner.WrittenSteps.{Writes}

no_lf_to : (line : List ℕ) → IsOpen line → Contains line 10 → ⊥
no_lf_to line none m = true≢false (sym (eq-eqb 10 10 refl) ∙ All-contains (λ b. (b == 10) ≡ false) line 10 none m)

steps_append : (most : ℕ) (a b : List ℕ) (ss ts : List Step) → SpellsWithin most a ss → SpellsWithin most b ts → SpellsWithin most (a ++ b) (ss ++ ts)
steps_append most a b [] ts none h = subst (λ (xs : List ℕ). SpellsWithin most (xs ++ b) ts) (sym none) h
steps_append most a b (step ∷ ss) ts (front, rest, splits, first, later) h =
    (front, rest ++ b, ap (λ (xs : List ℕ). xs ++ b) splits ∙ append_assoc front rest b, first, steps_append most rest b ss ts later h)

record Written (most : ℕ) (s : StepWriter) (text : List ℕ) (t : StepWriter) : Type 0 where
  steps : List Step
  bytes : List ℕ
  out : t.out.items ≡ s.out.items ++ bytes
  lines : LineSpellsWithin most text steps
  same : SpellsWithin most bytes steps
  limit : t.limit.most ≡ most

written : (most : ℕ) (lines : List (List ℕ)) (s t : StepWriter) → s.limit.most ≡ most → All IsOpen lines → TakesAll Writes s lines t → Written most s (ended_lines lines) t
written most [] s t at each e = record {
  steps = [];
  bytes = [];
  out = ap (λ (w : StepWriter). w.out.items) (sym e) ∙ sym (append-nil s.out.items);
  lines = refl;
  same = refl;
  limit = ap (λ (w : StepWriter). w.limit.most) (sym e) ∙ at;
}
written most (line ∷ lines) s t at each (m, (step, spells, (bytes, out, spelled), stays), later) =
    let w : Written most m (ended_lines lines) t = written most lines m t (stays ∙ at) (All-tail IsOpen line lines each) later in
    record {
      steps = step ∷ w.steps;
      bytes = bytes ++ w.bytes;
      out = w.out ∙ ap (λ (xs : List ℕ). xs ++ w.bytes) out ∙ append_assoc s.out.items bytes w.bytes;
      lines = (line, ended_lines lines, refl, no_lf_to line (All-head IsOpen line lines each), subst (λ (n : ℕ). SpellsStepWithin n line step) at spells, w.lines);
      same = (bytes, w.bytes, refl, subst (λ (n : ℕ). SpellsBytesWithin n bytes step) at spelled, w.same);
      limit = w.limit;
    }

pub feeds : (most : ℕ) (f g : BinaryForm) (piece text bytes : List ℕ) → HandsOn Writes f.writer (f.begun ++ piece) g.writer g.begun → HasWrittenWithin most f text bytes → HasWrittenWithin most g (text ++ piece) bytes
feeds most f g piece text bytes h before =
    let w : Written most f.writer (ended_lines h.lines) g.writer = written most h.lines f.writer g.writer before.limit h.one_by_one h.taken in
    record {
      lines = before.lines ++ ended_lines h.lines;
      whole = ap (λ (xs : List ℕ). xs ++ piece) before.whole ∙ append_assoc before.lines f.begun piece ∙ ap (λ (xs : List ℕ). before.lines ++ xs) h.whole ∙ sym (append_assoc before.lines (ended_lines h.lines) g.begun);
      same = (
        before.same.0 ++ w.steps,
        spells_append_within most before.lines (ended_lines h.lines) before.same.0 w.steps before.same.1 w.lines,
        subst (λ (xs : List ℕ). SpellsWithin most xs (before.same.0 ++ w.steps)) (append_assoc bytes f.writer.out.items w.bytes ∙ ap (λ (xs : List ℕ). bytes ++ xs) (sym w.out))
            (steps_append most (bytes ++ f.writer.out.items) w.bytes before.same.0 w.steps before.same.2 w.same),
      );
      limit = w.limit;
    }
