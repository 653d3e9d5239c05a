-- What is written to a part goes together step by step.
use Rattle.std.specs.Prelude.{◌≡◌, ◌++◌, ◌∷◌, ℕ, Bool, true, false, List, [], Option, Some, None, refl}
use Rattle.std.proofs.Common.{sym, ◌∙◌, ap, subst, append-nil}
use Rattle.commands.specs.declared.part_file.Part.{Part}
use Rattle.commands.specs.Written.{IsIn, Keeps}
use Rattle.commands.specs.inner.Parts.{IsPart, IsEnded}
use Rattle.lrat_binary.specs.Grammar.{SpellsWithin}
use Rattle.lrat_forms.specs.SameSteps.{HasWrittenWithin, SpellTheSameWithin}
use Rattle.lrat_forms.specs.declared.binary_form.BinaryForm.{BinaryForm}
use Rattle.lrat_text.specs.Grammar.{LineSpellsWithin, lf}
use Rattle.lrat_text.specs.declared.step.Step.{Step}

pub ended_none : IsEnded None
ended_none false text bytes h = h
ended_none true text bytes h = absurd h

pub ended_some : (f : BinaryForm) → ((text bytes : List ℕ) → HasWrittenWithin 199999999 f text bytes → SpellTheSameWithin 199999999 text (bytes ++ f.writer.out.items)) → IsEnded (Some f)
ended_some f h false text bytes k = absurd k
ended_some f h true text bytes k =
    let Behind : List ℕ → Type 0 = λ rest. SpellTheSameWithin 199999999 text (bytes ++ rest) in
    let Whole : List ℕ → Type 0 = SpellTheSameWithin 199999999 text in
    subst Whole (append-nil bytes) (subst Behind k.1 (h text bytes k.0))

pub plain_begins : {F : Type 0} (made : F → List ℕ → List ℕ → Type 0) (path : List ℕ) (draft : F)
    → made draft path [] → IsPart made false path [] (record { draft = draft; form = None })
plain_begins made path draft h = record { bytes = []; draft = h; form = refl }

pub binary_begins : {F : Type 0} (made : F → List ℕ → List ℕ → Type 0) (path : List ℕ) (draft : F) (f : BinaryForm)
    → HasWrittenWithin 199999999 f [] [] → f.writer.out.items ≡ [] → made draft path [] → IsPart made true path [] (record { draft = draft; form = Some f })
binary_begins made path draft f w e h = record { bytes = []; draft = h; form = (w, e) }

pub plain_more : {F : Type 0} (made : F → List ℕ → List ℕ → Type 0) (binary : Bool) (path before text : List ℕ) (old new : F)
    → ((path before : List ℕ) → made old path before → made new path (before ++ text))
    → IsPart made binary path before (record { draft = old; form = None }) → IsPart made binary path (before ++ text) (record { draft = new; form = None })
plain_more made false path before text old new k h = record { bytes = h.bytes ++ text; draft = k path h.bytes h.draft; form = ap (λ l. l ++ text) h.form }
plain_more made true path before text old new k h = absurd h.form

pub binary_more : {F : Type 0} (made : F → List ℕ → List ℕ → Type 0) (binary : Bool) (path before text out : List ℕ) (old new : F) (f g k : BinaryForm)
    → ((text_so bytes : List ℕ) → HasWrittenWithin 199999999 f text_so bytes → HasWrittenWithin 199999999 g (text_so ++ text) bytes)
    → ((path before : List ℕ) → made old path before → made new path (before ++ out))
    → out ≡ g.writer.out.items
    → ((text bytes : List ℕ) → HasWrittenWithin 199999999 g text bytes → HasWrittenWithin 199999999 k text (bytes ++ g.writer.out.items))
    → k.writer.out.items ≡ []
    → IsPart made binary path before (record { draft = old; form = Some f }) → IsPart made binary path (before ++ text) (record { draft = new; form = Some k })
binary_more made false path before text out old new f g k fed put e stands none h = absurd h.form
binary_more made true path before text out old new f g k fed put e stands none h =
    let Written : List ℕ → Type 0 = λ more. HasWrittenWithin 199999999 k (before ++ text) (h.bytes ++ more) in
    record {
      bytes = h.bytes ++ out;
      draft = put path h.bytes h.draft;
      form = (subst Written (sym e) (stands (before ++ text) h.bytes (fed before h.bytes h.form.0)), none);
    }

pub kept_of : {D F : Type 0} (made : F → List ℕ → List ℕ → Type 0) (kept : D → D → List ℕ → List ℕ → Type 0) (old new : D) (binary : Bool) (path text : List ℕ) (part : Part F)
    → IsEnded part.form → ((path bytes : List ℕ) → made part.draft path bytes → kept old new path bytes)
    → IsPart made binary path text part → Keeps kept old new binary path text
kept_of made kept old new binary path text part ended k h = record {
  bytes = h.bytes;
  form = ended binary text h.bytes h.form;
  stands = k path h.bytes h.draft;
}

-- a text that has not begun has no step in binary form
none_behind : (xs ys : List ℕ) → [] ≡ xs ++ ys → xs ≡ []
none_behind [] ys e = refl
none_behind (x ∷ xs) ys e = absurd (cc)

no_line : (line rest : List ℕ) → [] ≡ line ++ lf ∷ rest → ⊥
no_line [] rest e = cc
no_line (x ∷ line) rest e = cc

no_steps : (bytes : List ℕ) (steps : List Step) → LineSpellsWithin 199999999 [] steps → SpellsWithin 199999999 bytes steps → bytes ≡ []
no_steps bytes [] h k = k
no_steps bytes (step ∷ steps) h k = absurd (no_line h.0 h.1 h.2)

pub nothing_waits : (f : BinaryForm) → HasWrittenWithin 199999999 f [] [] → f.writer.out.items ≡ []
nothing_waits f h =
    let Lines : List ℕ → Type 0 = λ text. LineSpellsWithin 199999999 text h.same.0 in
    no_steps f.writer.out.items h.same.0 (subst Lines (none_behind h.lines f.begun h.whole) h.same.1) h.same.2
