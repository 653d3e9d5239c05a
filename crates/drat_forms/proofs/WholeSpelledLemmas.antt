-- A whole proof that is spelled is read so, and so spells one list of steps.
use Rattle.std.proofs.Common.{◌≡◌, ℕ, ◌≤◌, List, [], ◌∷◌, ◌++◌, Option, Some, None, Result, Ok, Err, refl, sym, ap, subst, ◌∙◌}
use Rattle.drat_forms.specs.Form.{form_of}
use Rattle.drat_forms.specs.Grammar.{DratStep, SpellsIn, Spells, words_of}
use Rattle.drat_forms.specs.Reading.{Reading, reads, reads_byte, then, ends, ends_at}
use Rattle.drat_forms.specs.Whole.{GivesWords}
use Rattle.drat_forms.specs.declared.fault.DratFault.{DratFault}
use Rattle.drat_forms.specs.declared.form.Form.{Form}
use Rattle.drat_forms.specs.declared.form.Form.TheVariants.{Text, Binary}
use Rattle.drat_forms.proofs.FormLemmas.{reads-append, reads_form, first_reading, takes_told}
use Rattle.drat_forms.proofs.ReadingLemmas.{reads-byte, reads-nil}
use Rattle.drat_forms.proofs.SpelledBinaryLemmas.{binary_passes}
use Rattle.drat_forms.proofs.SpelledTextLemmas.{text_passes}

-- what was read before the last byte
record BeforeLast (r : Reading) (bytes : List ℕ) (b : ℕ) (last : Reading) : Type 0 where
  next : Reading
  reads_first : reads r bytes ≡ Ok next
  reads_last : reads_byte next b ≡ Ok last

one_byte : (next : Reading) (b : ℕ) (last : Reading) → reads next (b ∷ []) ≡ Ok last → reads_byte next b ≡ Ok last
one_byte next b last e = at (reads_byte next b) (sym (reads-byte next b []) ∙ e)
  where
    at : (o : Result Reading DratFault) → then o (λ n. reads n []) ≡ Ok last → o ≡ Ok last
    at (Ok n) k = sym (reads-nil n) ∙ k
    at (Err fault) k = absurd cc

before_last : (r : Reading) (bytes : List ℕ) (b : ℕ) (last : Reading) → reads r (bytes ++ b ∷ []) ≡ Ok last → BeforeLast r bytes b last
before_last r bytes b last e = at (reads r bytes) refl (sym (reads-append bytes (b ∷ []) r) ∙ e)
  where
    at : (o : Result Reading DratFault) → reads r bytes ≡ o → then o (λ n. reads n (b ∷ [])) ≡ Ok last → BeforeLast r bytes b last
    at (Ok n) is k = record { next = n; reads_first = is; reads_last = one_byte n b last k }
    at (Err fault) is k = absurd cc

-- a proof whose form is told
whole_gives : (most : ℕ) (bytes words : List ℕ) (form : Form) (taken ended : Reading) → form_of bytes ≡ Some form → reads (first_reading most form) bytes ≡ Ok taken → ends (Some form) taken ≡ Ok ended → ended.words ≡ words → GivesWords most bytes words
whole_gives most bytes words form taken ended is e k gives = record {
  taken = taken;
  ended = ended;
  takes_all = takes_told most bytes [] form refl is ∙ e;
  ends_there = subst (λ (x : Option Form). ends x taken ≡ Ok ended) (sym (reads_form bytes (first_reading most form) taken e)) k;
  gives = gives;
}

pub spelled_whole : (most : ℕ) (bytes : List ℕ) (steps : List DratStep) → most ≤ 199999999 → Spells most bytes steps → GivesWords most bytes (words_of steps)
spelled_whole most bytes steps bounded h = at (form_of bytes) refl h
  where
    at : (o : Option Form) → form_of bytes ≡ o → SpellsIn o most bytes steps → GivesWords most bytes (words_of steps)
    at None is s = absurd s
    at (Some Text) is s =
        let p = text_passes most Text steps [] (bytes ++ 10 ∷ []) s in
        let q = before_last (first_reading most Text) bytes 10 p.last p.reads_all in
        whole_gives most bytes (words_of steps) Text q.next p.last is q.reads_first (ap (λ (x : Result Reading DratFault). then x (λ last. ends_at last last.begun last.place)) q.reads_last ∙ p.ends_there) p.gives
    at (Some Binary) is s =
        let p = binary_passes most Binary bounded steps [] bytes s in
        whole_gives most bytes (words_of steps) Binary p.last p.last is p.reads_all p.ends_there p.gives
