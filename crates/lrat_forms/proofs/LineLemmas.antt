-- The lines of steps, one after the other.
use Rattle.std.proofs.Common.{◌≡◌, ◌≢◌, ℕ, List, [], ◌∷◌, ◌++◌, Option, Some, None, refl, sym, ap, ◌∙◌, append_assoc}
use Rattle.std.proofs.lemmas.List.{append-nil}
use Rattle.lrat_text.specs.Log.{top_after}
use Rattle.lrat_text.specs.Runs.{text_of, top_of}
use Rattle.lrat_text.proofs.RunLemmas.{text_append}
use Rattle.lrat_text.specs.WrittenLine.{line_of}
use Rattle.lrat_text.specs.declared.fault.TextFault.{TextFault}
use Rattle.lrat_text.specs.declared.fault.TextFault.TheVariants.{NoMemory}
use Rattle.lrat_text.specs.declared.step.Step.{Step}
use Rattle.lrat_binary.specs.Parser.{ReaderState, ReadResult, with_steps, read}
use Rattle.lrat_binary.specs.StepSink.{Breaks, HandsOn, TakesAll}
use Rattle.lrat_forms.specs.Forms.{fault_line, fault_text, reading_text}
use Rattle.lrat_forms.specs.declared.line_writer.LineWriter.{LineWriter}
use Rattle.lrat_forms.specs.declared.text_form.Stage.TheVariants.{Binary, Faulty}
use Rattle.lrat_forms.specs.inner.WrittenLines.{Writes}
use Rattle.lrat_forms.specs.inner.BinaryPiece.{Appends}

reading_behind : (top : ℕ) (steps : List Step) (r : ReadResult) → reading_text top (with_steps steps r) ≡ text_of top steps ++ reading_text (top_of top steps) r
reading_behind top steps r =
    ap (λ (xs : List ℕ). xs ++ fault_text r.1) (text_append top steps r.0) ∙ append_assoc (text_of top steps) (text_of (top_of top steps) r.0) (fault_text r.1)

record Written (old : LineWriter) (steps : List Step) (new : LineWriter) : Type 0 where
  out : new.out.items ≡ old.out.items ++ text_of old.top steps
  top : new.top ≡ top_of old.top steps

written : (steps : List Step) (s t : LineWriter) → TakesAll Writes s steps t → Written s steps t
written [] s t e = record { out = ap (λ (w : LineWriter). w.out.items) (sym e) ∙ sym (append-nil s.out.items); top = ap (λ (w : LineWriter). w.top) (sym e) }
written (step ∷ steps) s t (m, (out, top), later) =
    let w : Written m steps t = written steps m t later in
    record {
      out = w.out ∙ ap (λ (xs : List ℕ). xs ++ text_of m.top steps) out ∙ append_assoc s.out.items (line_of s.top step) (text_of m.top steps)
          ∙ ap (λ (n : ℕ). s.out.items ++ (line_of s.top step ++ text_of n steps)) top;
      top = w.top ∙ ap (λ (n : ℕ). top_of n steps) top;
    }

module _ (s : LineWriter) (begun : ReaderState) (piece : List ℕ) (t : LineWriter) where
  pub hands_lines : (next : ReaderState) → HandsOn Writes s begun piece t next [] → Appends begun s piece Binary next t
  hands_lines next h =
      let w : Written s h.steps t = written h.steps s t h.taken in (
        text_of s.top h.steps,
        w.out,
        λ more. ap (reading_text s.top) (h.reads more) ∙ reading_behind s.top h.steps (read next more) ∙ ap (λ (n : ℕ). text_of s.top h.steps ++ reading_text n (read next more)) (sym w.top),
      )

  pub breaks_lines : (fault : TextFault) (next : ReaderState) (u : LineWriter) → fault ≢ NoMemory → Breaks Writes s begun piece t fault → u.out.items ≡ t.out.items ++ fault_line fault → Appends begun s piece Faulty next u
  breaks_lines fault next u other h put =
      let w : Written s h.steps t = written h.steps s t h.taken in (
        text_of s.top h.steps ++ fault_line fault,
        put ∙ ap (λ (xs : List ℕ). xs ++ fault_line fault) w.out ∙ append_assoc s.out.items (text_of s.top h.steps) (fault_line fault),
        λ more. ap (reading_text s.top) (h.reads other more) ∙ sym (append-nil (text_of s.top h.steps ++ fault_line fault)),
      )
