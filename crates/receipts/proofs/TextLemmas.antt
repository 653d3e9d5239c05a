-- The text of a receipt, as it is read line by line.
use Rattle.std.proofs.Common.{◌≡◌, ◌≢◌, ◌==◌, ◌⊎◌, inl, inr, ℕ, false, List, [], ◌∷◌, ◌++◌, length, codes, Result, Ok, refl, sym, ◌∙◌, ap, subst, append_assoc, arith}
use Rattle.std.proofs.lemmas.List.{append-nil}
use Rattle.std.specs.List.{All, flat_map}
use Rattle.std.proofs.lemmas.List.Elements.{All-nil, All-cons, All-head, All-tail, All-append}
use Rattle.std.proofs.lemmas.Grind.{flat_map-append}
use Rattle.log_join.specs.ClosedLeaves.{Numbered}
use Rattle.lrat_check.proofs.Lines.{no_lf_to}
use Rattle.lrat_text.specs.Grammar.{IsStep, SpellsStep}
use Rattle.lrat_text.specs.Lines.{IsCut, IsOpen}
use Rattle.lrat_text.specs.Parser.{step_in, step_within, first_within, line_tokens, token_of}
use Rattle.lrat_text.specs.WrittenLine.{line_text}
use Rattle.lrat_text.specs.declared.fault.TextFault.{TextFault}
use Rattle.lrat_text.specs.declared.step.Step.{Step}
use Rattle.lrat_text.specs.declared.step.Step.TheVariants.{Add, Delete}
use Rattle.lrat_text.proofs.CutLemmas.{cut_same, none_cut}
use Rattle.lrat_text.proofs.LineLemmas.{written_spells, written_one_line}
use Rattle.lrat_text.proofs.SpellingLemmas.{spelled_found}
use Rattle.receipts.specs.Receipts.{closing_text, lemma_line, unhinted}
use Rattle.receipts.specs.inner.LemmaLines.{HasReadLemmas}

abbrev pub IsLine : Numbered → Type 0
IsLine l = IsStep (unhinted l)

abbrev pub AreSteps : List Numbered → Type 0
AreSteps = All (λ l. IsStep (unhinted l))

abbrev not_lf : ℕ → Type 0
not_lf b = (b == 10) ≡ false

end_open : IsOpen (codes "end")
end_open = All-cons not_lf 101 (110 ∷ 100 ∷ []) refl (All-cons not_lf 110 (100 ∷ []) refl (All-cons not_lf 100 [] refl (All-nil not_lf)))

closing_cons : (l : Numbered) (left : List Numbered) → closing_text (l ∷ left) ≡ line_text l.id (unhinted l) ++ 10 ∷ closing_text left
closing_cons l left =
    append_assoc (lemma_line l) (flat_map lemma_line left) (codes "end\n")
    ∙ append_assoc (line_text l.id (unhinted l)) (10 ∷ []) (closing_text left)

pub spelled : (l : Numbered) → IsStep (unhinted l) → SpellsStep (line_text l.id (unhinted l)) (unhinted l)
spelled l h = written_spells l.id (unhinted l) h.0 h

-- a line of the lines of lemmas is that of the first one, or the last line
pub first_line : (rest line later : List ℕ) (left : List Numbered) → AreSteps left → IsCut rest line later → rest ≡ closing_text left
    → ((left ≡ []) × (line ≡ codes "end") × (later ≡ [])) ⊎ ((l : Numbered) × (more : List Numbered) × (left ≡ l ∷ more) × (line ≡ line_text l.id (unhinted l)) × (later ≡ closing_text more))
first_line rest line later [] steps cut e = let s = cut_same line (codes "end") later [] cut.1 (no_lf_to (codes "end") end_open) (sym cut.0 ∙ e) in inl (refl, s.0, s.1)
first_line rest line later (l ∷ left) steps cut e =
    let h : IsStep (unhinted l) = All-head (λ (k : Numbered). IsStep (unhinted k)) l left steps in
    let s = cut_same line (line_text l.id (unhinted l)) later (closing_text left) cut.1 (written_one_line l.id (unhinted l) h.0 h) (sym cut.0 ∙ e ∙ closing_cons l left) in
    inr (l, left, refl, s.0, s.1)

pub no_line : (rest : List ℕ) (left : List Numbered) → IsOpen rest → rest ≡ closing_text left → ⊥
no_line rest [] bare e = none_cut rest (codes "end") [] bare e
no_line rest (l ∷ left) bare e = none_cut rest (line_text l.id (unhinted l)) (closing_text left) bare (e ∙ closing_cons l left)

-- a line is that of one lemma
pub one_lemma : (line : List ℕ) (a b : Numbered) → IsStep (unhinted a) → IsStep (unhinted b) → line ≡ line_text a.id (unhinted a) → line ≡ line_text b.id (unhinted b) → a ≡ b
one_lemma line a b h k e f = same_lemma (same_step (step_in line) (unhinted a) (unhinted b) (found a h e) (found b k f))
  where
    found : (l : Numbered) → IsStep (unhinted l) → line ≡ line_text l.id (unhinted l) → step_in line ≡ Ok (unhinted l)
    found l s is = ap step_in is ∙ spelled_found (line_text l.id (unhinted l)) (unhinted l) (spelled l s)

    same_step : (r : Result Step TextFault) (x y : Step) → r ≡ Ok x → r ≡ Ok y → x ≡ y
    same_step r x y p q = cc

    lemma_in_step : Step → Numbered
    lemma_in_step (Add id C hints groups) = record { id = id; clause = C }
    lemma_in_step (Delete ids) = a

    same_lemma : unhinted a ≡ unhinted b → a ≡ b
    same_lemma s = ap lemma_in_step s

end_is_no_lemma : (l : Numbered) → IsStep (unhinted l) → codes "end" ≡ line_text l.id (unhinted l) → ⊥
unfolding step_within first_within line_tokens token_of
end_is_no_lemma l h e = at (step_in (codes "end")) refl (ap step_in e ∙ spelled_found (line_text l.id (unhinted l)) (unhinted l) (spelled l h))
  where
    at : (r : Result Step TextFault) → step_in (codes "end") ≡ r → step_in (codes "end") ≡ Ok (unhinted l) → ⊥
    at r is f = absurd cc

-- ---- the loop
pub begin_within : (text : List ℕ) → HasReadLemmas text [] text
begin_within text = record { whole = refl; limits = All-nil _; only = λ lemmas steps e. (lemmas, refl, e) }

left_steps : (read left lemmas : List Numbered) → lemmas ≡ read ++ left → AreSteps lemmas → AreSteps left
left_steps [] left lemmas e h = subst AreSteps e h
left_steps (x ∷ read) left [] e h = absurd cc
left_steps (x ∷ read) left (y ∷ lemmas) e h = left_steps read left lemmas (let t : lemmas ≡ read ++ left = cc in t) (All-tail (λ (l : Numbered). IsStep (unhinted l)) y lemmas h)

pub lemma_within : (text : List ℕ) (read : List Numbered) (rest line later : List ℕ) (l : Numbered) → HasReadLemmas text read rest → IsCut rest line later → line ≡ line_text l.id (unhinted l) → IsStep (unhinted l)
    → HasReadLemmas text (read ++ l ∷ []) later
lemma_within text read rest line later l w cut is h = record {
  whole = w.whole ∙ ap (λ (x : List ℕ). flat_map lemma_line read ++ x) (cut.0 ∙ ap (λ (x : List ℕ). x ++ 10 ∷ later) is ∙ sym (append_assoc (line_text l.id (unhinted l)) (10 ∷ []) later))
      ∙ sym (append_assoc (flat_map lemma_line read) (lemma_line l) later)
      ∙ ap (λ (x : List ℕ). x ++ later) (ap (λ (x : List ℕ). flat_map lemma_line read ++ x) (sym (append-nil (lemma_line l))) ∙ sym (flat_map-append lemma_line read (l ∷ [])));
  limits = All-append IsLine read (l ∷ []) w.limits (All-cons IsLine l [] h (All-nil IsLine));
  only = λ lemmas steps e.
      let o = w.only lemmas steps e in
      elim (first_line rest line later o.0 (left_steps read o.0 lemmas o.1 steps) cut o.2) [
        | inl none ↦ absurd (end_is_no_lemma l h (sym none.1 ∙ is))
        | inr (k, more, parts, k_is, later_is) ↦
            let k_step = All-head (λ (z : Numbered). IsStep (unhinted z)) k more (subst AreSteps parts (left_steps read o.0 lemmas o.1 steps)) in
            let same : k ≡ l = one_lemma line k l k_step h k_is is in (
              more,
              o.1 ∙ ap (λ (x : List Numbered). read ++ x) (parts ∙ ap (λ (z : Numbered). z ∷ more) same) ∙ sym (append_assoc read (l ∷ []) more),
              later_is,
            )
      ];
}

pub ends_within : (text : List ℕ) (read : List Numbered) (rest line later : List ℕ) → HasReadLemmas text read rest → IsCut rest line later → line ≡ codes "end" → later ≡ [] → text ≡ closing_text read
ends_within text read rest line later w cut is none =
    w.whole ∙ ap (λ (x : List ℕ). flat_map lemma_line read ++ x) (cut.0 ∙ ap (λ (x : List ℕ). x ++ 10 ∷ later) is ∙ ap (λ (x : List ℕ). codes "end" ++ 10 ∷ x) none)

pub only_these : (text : List ℕ) (read : List Numbered) (rest line later : List ℕ) → HasReadLemmas text read rest → IsCut rest line later → line ≡ codes "end"
    → (lemmas : List Numbered) → AreSteps lemmas → text ≡ closing_text lemmas → (later ≡ []) × (read ≡ lemmas)
only_these text read rest line later w cut is lemmas steps e =
    let o = w.only lemmas steps e in
    elim (first_line rest line later o.0 (left_steps read o.0 lemmas o.1 steps) cut o.2) [
      | inl none ↦ (none.2, sym (o.1 ∙ ap (λ (x : List Numbered). read ++ x) none.0 ∙ append-nil read))
      | inr (k, more, parts, k_is, later_is) ↦ absurd (end_is_no_lemma k (All-head (λ (z : Numbered). IsStep (unhinted z)) k more (subst AreSteps parts (left_steps read o.0 lemmas o.1 steps))) (sym is ∙ k_is))
    ]

-- a line that is neither
pub no_lemma : (text : List ℕ) (read : List Numbered) (rest line later : List ℕ) → HasReadLemmas text read rest → IsCut rest line later → line ≢ codes "end"
    → ((l : Numbered) → IsStep (unhinted l) → line ≢ line_text l.id (unhinted l)) → (lemmas : List Numbered) → AreSteps lemmas → text ≡ closing_text lemmas → ⊥
no_lemma text read rest line later w cut other none lemmas steps e =
    let o = w.only lemmas steps e in
    elim (first_line rest line later o.0 (left_steps read o.0 lemmas o.1 steps) cut o.2) [
      | inl last ↦ other last.1
      | inr (k, more, parts, k_is, later_is) ↦ none k (All-head (λ (z : Numbered). IsStep (unhinted z)) k more (subst AreSteps parts (left_steps read o.0 lemmas o.1 steps))) k_is
    ]

pub no_end : (text : List ℕ) (read : List Numbered) (rest : List ℕ) → HasReadLemmas text read rest → IsOpen rest → (lemmas : List Numbered) → AreSteps lemmas → text ≡ closing_text lemmas → ⊥
no_end text read rest w bare lemmas steps e = let o = w.only lemmas steps e in no_line rest o.0 bare o.2

-- ---- prefixes
pub same_front : (a b x y : List ℕ) → length a ≡ length b → a ++ x ≡ b ++ y → (a ≡ b) × (x ≡ y)
same_front [] [] x y l e = (refl, e)
same_front [] (k ∷ b) x y l e = absurd (omega arith)
same_front (k ∷ a) [] x y l e = absurd (omega arith)
same_front (k ∷ a) (j ∷ b) x y l e =
    let head : k ≡ j = cc in
    let tail : a ++ x ≡ b ++ y = cc in
    let r = same_front a b x y (omega arith) tail in
    (ap (λ (n : ℕ). n ∷ a) head ∙ ap (λ (ns : List ℕ). j ∷ ns) r.0, r.1)
