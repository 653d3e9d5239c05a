-- Joins, lifts and trims that are fed the text form of bytes.
use Rattle.std.proofs.Common.{◌≡◌, ◌∷◌, ◌++◌, ℕ, false, List, [], map, Option, Some, None, refl, sym, ap, subst, ◌∙◌}
use Rattle.std.proofs.lemmas.List.{map-append}
use Rattle.dimacs.specs.logic.Cnf.{Cnf}
use Rattle.icnf.specs.Leaves.{Cube}
use Rattle.leaves.specs.Join as joins
use Rattle.leaves.specs.LeafLift as of_text
use Rattle.leaves.specs.LeafLift.{TakesProofPiece, HasTakenProof}
use Rattle.leaves.specs.declared.join.Join.{Join}
use Rattle.leaves.specs.declared.leaf_lift.Lift.{Lift}
use Rattle.lrat_forms.specs.Forms.{text_form_within, text_in}
use Rattle.lrat_forms.specs.Pieces.{HasGivenWithin, given_of, is_cut, text_behind}
use Rattle.lrat_forms.specs.declared.text_form.TextForm.{TextForm}
use Rattle.lrat_text.specs.Log.{log_top}
use Rattle.lrat_text.specs.Proof.{proof_top}
use Rattle.lrat_trim.specs.TrimmedProof as trims
use Rattle.text_or_binary.specs.FormJoin.{HasReadFormFiles}
use Rattle.text_or_binary.specs.FormLift.{BeginsFormCube, HasTakenFormProof}
use Rattle.text_or_binary.specs.FormTrim.{HasTakenForm}
use Rattle.text_or_binary.specs.declared.form_join.FormJoin.{FormJoin}
use Rattle.text_or_binary.specs.declared.form_lift.FormLift.{FormLift}
use Rattle.text_or_binary.specs.declared.form_trim.FormTrimming.{FormTrimming}

-- a form takes a piece
abbrev pub Feeds : TextForm → List ℕ → TextForm → Type 0
Feeds old piece new = (most : ℕ) (bytes text : List ℕ) → HasGivenWithin most old bytes text → HasGivenWithin most new (bytes ++ piece) (text ++ given_of new piece)

-- no further byte comes
abbrev pub Ends : TextForm → List ℕ → Type 0
Ends form rest = (most : ℕ) (bytes text : List ℕ) → HasGivenWithin most form bytes text → is_cut form.stage ≡ false → text_form_within most bytes ≡ text ++ rest

pub lift_fed : (f g : FormLift) (piece given : List ℕ) → Feeds f.form piece g.form → given ≡ given_of g.form piece → TakesProofPiece given f.lift g.lift
    → (F : Cnf) (q : Cube) (bytes handed : List ℕ) → HasTakenFormProof F q bytes handed f → HasTakenFormProof F q (bytes ++ piece) handed g
lift_fed f g piece given feeds is keeps F q bytes handed h = record {
  text = h.text ++ given_of g.form piece;
  given = feeds (log_top F) bytes h.text h.given;
  lifts = subst (λ (xs : List ℕ). HasTakenProof F q (h.text ++ xs) handed g.lift) is (keeps F q h.text handed h.lifts);
}

pub lift_ended : (l : FormLift) (rest : List ℕ) (m : Lift) → Ends l.form rest → is_cut l.form.stage ≡ false → TakesProofPiece rest l.lift m
    → (F : Cnf) (q : Cube) (bytes handed : List ℕ) → HasTakenFormProof F q bytes handed l → HasTakenProof F q (text_form_within (log_top F) bytes) handed m
lift_ended l rest m ends uncut keeps F q bytes handed h =
    subst (λ (xs : List ℕ). HasTakenProof F q xs handed m) (sym (ends (log_top F) bytes h.text h.given uncut)) (keeps F q h.text handed h.lifts)

pub trim_ended : (t : FormTrimming) (rest : List ℕ) (m : trims.TrimProgress) → Ends t.form rest → is_cut t.form.stage ≡ false
    → ((F : Cnf) (bytes : List ℕ) → trims.HasTaken F t.trimming bytes → trims.HasTaken F m (bytes ++ rest))
    → (F : Cnf) (bytes : List ℕ) → HasTakenForm F t bytes → trims.HasTaken F m (text_form_within (proof_top F) bytes)
trim_ended t rest m ends uncut keeps F bytes h = subst (trims.HasTaken F m) (sym (ends (proof_top F) bytes h.text h.given uncut)) (keeps F h.text h.taken)

pub trim_fed : (f g : FormTrimming) (piece given : List ℕ) → Feeds f.form piece g.form → given ≡ given_of g.form piece
    → ((F : Cnf) (bytes : List ℕ) → trims.HasTaken F f.trimming bytes → trims.HasTaken F g.trimming (bytes ++ given))
    → (F : Cnf) (bytes : List ℕ) → HasTakenForm F f bytes → HasTakenForm F g (bytes ++ piece)
trim_fed f g piece given feeds is keeps F bytes h = record {
  text = h.text ++ given_of g.form piece;
  given = feeds (proof_top F) bytes h.text h.given;
  taken = subst (λ (xs : List ℕ). trims.HasTaken F g.trimming (h.text ++ xs)) is (keeps F h.text h.taken);
}

-- the join of texts takes a piece
abbrev pub KeepsJoin : List ℕ → Join → Join → Type 0
KeepsJoin piece old new = (F : Cnf) (cubes : List Cube) (files : List (List ℕ)) (bytes written : List ℕ) → joins.HasReadFiles F cubes files bytes written old → joins.HasReadFiles F cubes files (bytes ++ piece) written new

pub join_fed : (f g : FormJoin) (piece given : List ℕ) → Feeds f.form piece g.form → given ≡ given_of g.form piece → KeepsJoin given f.join g.join
    → (F : Cnf) (cubes : List Cube) (files : List (List ℕ)) (bytes written : List ℕ) → HasReadFormFiles F cubes files bytes written f → HasReadFormFiles F cubes files (bytes ++ piece) written g
join_fed f g piece given feeds is keeps F cubes files bytes written h = record {
  text = h.text ++ given_of g.form piece;
  given = feeds (log_top F) bytes h.text h.given;
  holds = subst (λ (xs : List ℕ). joins.HasReadFiles F cubes (map (text_form_within (log_top F)) files) (h.text ++ xs) written g.join) is (keeps F cubes (map (text_form_within (log_top F)) files) h.text written h.holds);
}

-- the join of texts has read the rest of a file
pub join_whole : (f : FormJoin) (rest : List ℕ) (m : Join) → Ends f.form rest → is_cut f.form.stage ≡ false → KeepsJoin rest f.join m
    → (F : Cnf) (cubes : List Cube) (files : List (List ℕ)) (bytes written : List ℕ) → HasReadFormFiles F cubes files bytes written f → joins.HasReadFiles F cubes (map (text_form_within (log_top F)) files) (text_form_within (log_top F) bytes) written m
join_whole f rest m ends uncut keeps F cubes files bytes written h =
    subst (λ (xs : List ℕ). joins.HasReadFiles F cubes (map (text_form_within (log_top F)) files) xs written m) (sym (ends (log_top F) bytes h.text h.given uncut)) (keeps F cubes (map (text_form_within (log_top F)) files) h.text written h.holds)

-- and has ended the file
pub join_ended : (g : FormJoin) (F : Cnf) (cubes : List Cube) (files : List (List ℕ)) (bytes written : List ℕ) → HasGivenWithin (log_top F) g.form [] []
    → joins.HasReadFiles F cubes (map (text_form_within (log_top F)) files ++ text_form_within (log_top F) bytes ∷ []) [] written g.join → HasReadFormFiles F cubes (files ++ bytes ∷ []) [] written g
join_ended g F cubes files bytes written fresh h = record {
  text = [];
  given = fresh;
  holds = subst (λ (all : List (List ℕ)). joins.HasReadFiles F cubes all [] written g.join) (sym (map-append (text_form_within (log_top F)) files (bytes ∷ []))) h;
}

none_of : (text rest : List ℕ) → [] ≡ text ++ rest → text ≡ []
none_of [] rest e = refl
none_of (b ∷ bs) rest e = absurd cc

text_of_none : (most : ℕ) → [] ≡ text_form_within most []
unfolding text_in
text_of_none most = refl

-- of a file without bytes there is no text
pub no_text : (most : ℕ) (f : TextForm) (text : List ℕ) → HasGivenWithin most f [] text → is_cut f.stage ≡ false → text ≡ []
no_text most f text h uncut = none_of text (text_behind f.stage f.reader f.writer.top []) (text_of_none most ∙ h.gives uncut [])

-- ---- the beginning of a lift

pub begins_some : (F : Cnf) (q : Option Cube) (form : TextForm) (l : Lift) → of_text.BeginsCube F q (Some l) → HasGivenWithin (log_top F) form [] [] → BeginsFormCube F q (Some (record { form = form; lift = l }))
begins_some F None form l h fresh = absurd (let e : Some l ≡ None = h in cc)
begins_some F (Some q) form l h fresh = record { text = []; given = fresh; lifts = h }

pub begins_none : (F : Cnf) (q : Option Cube) → of_text.BeginsCube F q None → BeginsFormCube F q None
begins_none F None h = refl
begins_none F (Some q) h = absurd h
