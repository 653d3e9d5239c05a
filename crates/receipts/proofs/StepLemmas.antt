-- Lines, and the lemmas that they spell.
use Rattle.std.proofs.Common.{◌≡◌, ◌≢◌, ◌==◌, ◌≤◌, ◌<◌, ℕ, length, arith, Bool, true, false, List, [], ◌∷◌, bytes_eq, cond, Option, Some, None, Result, Ok, refl, sym, ◌∙◌, ap, subst}
use Rattle.std.specs.Prelude.{MatchOption, is_none, is_some, not}
use Rattle.std.proofs.lemmas.Bool.{true≢false}
use Rattle.std.proofs.lemmas.Bool.Decides.{nat_tests}
use Rattle.std.proofs.lemmas.Slice.Eq.{bytes_eq-Decides}
use Rattle.dimacs.specs.logic.Literal.{Clause}
use Rattle.dimacs.specs.logic.Rat.{Group}
use Rattle.log_join.specs.ClosedLeaves.{Numbered}
use Rattle.lrat_text.specs.Grammar.{IsStep, SpellsStep}
use Rattle.lrat_text.specs.Parser.{step_in}
use Rattle.lrat_text.specs.WrittenLine.{line_text, canonical_id}
use Rattle.lrat_text.specs.declared.fault.TextFault.{TextFault}
use Rattle.lrat_text.specs.declared.step.Step.{Step}
use Rattle.lrat_text.specs.declared.step.Step.TheVariants.{Add, Delete}
use Rattle.lrat_text.proofs.SpellingLemmas.{spelled_found}
use Rattle.receipts.specs.Receipts.{unhinted}
use Rattle.receipts.proofs.TextLemmas.{spelled}

abbrev pub NoLine : List ℕ → Type 0
NoLine line = (l : Numbered) → IsStep (unhinted l) → line ≢ line_text l.id (unhinted l)

-- the step of a lemma's line
its_step : (line : List ℕ) (step : Step) (l : Numbered) → SpellsStep line step → IsStep (unhinted l) → line ≡ line_text l.id (unhinted l) → step ≡ unhinted l
its_step line step l h small e =
    same (step_in line) step (unhinted l) (spelled_found line step h) (ap step_in e ∙ spelled_found (line_text l.id (unhinted l)) (unhinted l) (spelled l small))
  where
    same : (r : Result Step TextFault) (x y : Step) → r ≡ Ok x → r ≡ Ok y → x ≡ y
    same r x y p q = cc

pub deletion_is_none : (line : List ℕ) (ids : List ℕ) → SpellsStep line (Delete ids) → NoLine line
deletion_is_none line ids h l small e = at (its_step line (Delete ids) l h small e)
  where
    at : Delete ids ≡ unhinted l → ⊥
    at s = absurd cc

abbrev pub hints_in_step : Step → List ℕ
hints_in_step (Add id C hints groups) = hints
hints_in_step (Delete ids) = []

abbrev pub groups_in_step : Step → List Group
groups_in_step (Add id C hints groups) = groups
groups_in_step (Delete ids) = []

pub hinted_is_none : (line : List ℕ) (id : ℕ) (C : Clause) (hints : List ℕ) (groups : List Group) → SpellsStep line (Add id C hints groups) → hints ≢ [] → NoLine line
hinted_is_none line id C hints groups h some l small e = some (ap hints_in_step (its_step line (Add id C hints groups) l h small e))

pub grouped_is_none : (line : List ℕ) (id : ℕ) (C : Clause) (hints : List ℕ) (groups : List Group) → SpellsStep line (Add id C hints groups) → groups ≢ [] → NoLine line
grouped_is_none line id C hints groups h some l small e = some (ap groups_in_step (its_step line (Add id C hints groups) l h small e))

pub unwritten_is_none : (line : List ℕ) (step : Step) (o : Option ℕ) → SpellsStep line step → o ≡ canonical_id line step → is_none o ≡ true → NoLine line
unwritten_is_none line step o h is none l small e =
    let s : step ≡ unhinted l = its_step line step l h small e in
    let same : bytes_eq line (line_text l.id (unhinted l)) ≡ true = (bytes_eq-Decides line (line_text l.id (unhinted l))).1 e in
    let some : o ≡ Some l.id = is ∙ ap (canonical_id line) s ∙ ap (λ (b : Bool). cond b (Some l.id) None) same in
    true≢false (sym none ∙ ap is_none some)

-- and a line that is written
pub written_is : (line : List ℕ) (id : ℕ) (C : Clause) (hints : List ℕ) (groups : List Group) (o : Option ℕ) → SpellsStep line (Add id C hints groups) → hints ≡ [] → groups ≡ []
    → o ≡ canonical_id line (Add id C hints groups) → is_none o ≡ false → (line ≡ line_text id (Add id C [] [])) × IsStep (Add id C [] [])
written_is line id C hints groups o h no_hints no_groups is some =
    let s : Add id C hints groups ≡ Add id C [] [] = ap (λ (hs : List ℕ). Add id C hs groups) no_hints ∙ ap (λ (gs : List Group). Add id C [] gs) no_groups in
    (at (bytes_eq line (line_text id (Add id C [] []))) refl (is ∙ ap (canonical_id line) s), subst IsStep s h.limits)
  where
    at : (b : Bool) → bytes_eq line (line_text id (Add id C [] [])) ≡ b → o ≡ cond b (Some id) None → line ≡ line_text id (Add id C [] [])
    at true e f = (bytes_eq-Decides line (line_text id (Add id C [] []))).0 e
    at false e f = absurd (true≢false (ap is_none (sym f) ∙ some))

-- ---- lists that are empty
pub empty_is_nil : {X : Type 0} (xs : List X) (b : Bool) → b ≡ (length xs == 0) → b ≡ true → xs ≡ []
empty_is_nil [] b e t = refl
empty_is_nil (x ∷ xs) b e t = absurd (grind (arith, nat_tests))

pub none_long : {X : Type 0} (xs : List X) (n : ℕ) → n ≡ length xs → n ≤ 0 → xs ≡ []
none_long [] n e low = refl
none_long (x ∷ xs) n e low = absurd (omega arith)

pub some_long : {X : Type 0} (xs : List X) (n : ℕ) → n ≡ length xs → 0 < n → xs ≢ []
some_long xs n e low none = let z : length xs ≡ 0 = ap length none in absurd (omega arith)

pub none_of : {X : Type 0} (o : Option X) (b t : Bool) → is_some o ≡ not b → b ≡ t → is_none o ≡ t
none_of None true t h e = e
none_of None false t h e = absurd (true≢false (sym h))
none_of (Some x) true t h e = absurd (true≢false h)
none_of (Some x) false t h e = e

-- ---- what is found
pub at_none : {A P : Type 0} (o : Option A) (Q : A → Type 0) → o ≡ None → MatchOption o P Q → P
at_none None Q e h = h
at_none (Some x) Q e h = absurd cc

pub at_some : {A : Type 0} (P : Type 0) (o : Option A) (Q : A → Type 0) (x : A) → o ≡ Some x → MatchOption o P Q → Q x
at_some {A} P o Q x e h = subst (λ (y : Option A). MatchOption y P Q) e h

pub of_none : {A P : Type 0} (o : Option A) (Q : A → Type 0) → o ≡ None → P → MatchOption o P Q
of_none {A} {P} o Q e h = subst (λ (y : Option A). MatchOption y P Q) (sym e) h
