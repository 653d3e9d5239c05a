-- A join of logs in text or binary form: what it has read.
use Rattle.std.specs.Prelude.{ℕ, List, map}
use Rattle.dimacs.specs.logic.Cnf.{Cnf}
use Rattle.icnf.specs.Leaves.{Cube}
use Rattle.leaves.specs.Join as of_text
use Rattle.lrat_forms.specs.Forms.{text_form_within}
use Rattle.lrat_forms.specs.Pieces.{HasGivenWithin}
use Rattle.lrat_text.specs.Log.{log_top}
use Rattle.text_or_binary.specs.declared.form_join.FormJoin.{FormJoin}

-- The join has read the text forms of these files to their ends, in this order, and of the next file the bytes `bytes`; the bytes `written`
-- of the proof were handed out.
pub record HasReadFormFiles (F : Cnf) (cubes : List Cube) (files : List (List ℕ)) (bytes written : List ℕ) (j : FormJoin) : Type 0 where
  pub text : List ℕ
  pub given : HasGivenWithin (log_top F) j.form bytes text
  pub holds : of_text.HasReadFiles F cubes (map (text_form_within (log_top F)) files) text written j.join
