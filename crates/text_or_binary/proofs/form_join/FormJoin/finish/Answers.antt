use Rattle.std.proofs.Common.{◌≡◌, ◌∙◌, [], false, List, ℕ, map, sym, subst}
use Rattle.std.proofs.lemmas.Result.{IfOk-weaker}
use Rattle.dimacs.specs.logic.Cnf.{Cnf}
use Rattle.icnf.specs.Leaves.{Cube}
use Rattle.leaves.specs.Join as joins
use Rattle.lrat_forms.specs.Forms.{text_form_within}
use Rattle.lrat_forms.specs.Pieces.{is_cut}
use Rattle.lrat_text.specs.Log.{log_top}
use Rattle.reports.specs.declared.report.Report.{Report}
use Rattle.text_or_binary.specs.FormJoin.{HasReadFormFiles}
use Rattle.text_or_binary.proofs.FormLemmas.{no_text}
use Rattle.text_or_binary.proofs.form_join.FormJoin.finish.Goals as goal

pub returns : goal.returns
returns c =
    let f = c.args.self.now in
    let m = c.finish.new.self in
    let notes = c.args.notes.items in
    let uncut : is_cut f.form.stage ≡ false = sym c.is_cut.ensures ∙ c.if-is_cut.false in
    IfOk-weaker c.finish.result
    (λ (r : Report). (F : Cnf) (cubes : List Cube) (files : List (List ℕ)) (bytes written : List ℕ) → joins.HasReadFiles F cubes files bytes written f.join → joins.Concludes F cubes files bytes written notes m r)
    (λ (r : Report). (F : Cnf) (cubes : List Cube) (files : List (List ℕ)) (written : List ℕ) → HasReadFormFiles F cubes files [] written f → joins.Concludes F cubes (map (text_form_within (log_top F)) files) [] written notes m r)
    (λ r concludes F cubes files written h. concludes F cubes (map (text_form_within (log_top F)) files) [] written
    (subst (λ (xs : List ℕ). joins.HasReadFiles F cubes (map (text_form_within (log_top F)) files) xs written f.join) (no_text (log_top F) f.form h.text h.given uncut) h.holds))
    c.finish.ensures.concludes
