use Rattle.std.proofs.Common.{ℕ, List, [], map, subst}
use Rattle.std.proofs.lemmas.Result.{on_ok_weaker}
use Rattle.lrat_forms.specs.Forms.{text_form_within}
use Rattle.lrat_forms.specs.Pieces.{HasGivenWithin}
use Rattle.lrat_text.specs.Log.{log_top}
use Rattle.text_or_binary.proofs.form_join.FormJoin.abandon.Goals as goal

pub returns : goal.returns
returns c =
    record {
      holds = on_ok_weaker c.abandon.result (λ keeps F cubes files bytes written h.
          let form : List ℕ → List ℕ = text_form_within (log_top F) in
          record {
            text = [];
            given = subst (λ (n : ℕ). HasGivenWithin n c.within.result [] []) (c.most.ensures.value F cubes (map form files) h.text written h.holds) c.within.ensures;
            holds = keeps F cubes (map form files) h.text written h.holds;
          }) c.abandon.ensures.holds;
    }
