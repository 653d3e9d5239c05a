-- A step that is held without its literals, with their text.
use Rattle.std.proofs.Common.{◌≡◌, ℕ, Bool, true, false, cond, Option, Some, None, List, [], bytes_eq, sym, ap, subst}
use Rattle.std.specs.Borrow.{Bor}
use Rattle.std.proofs.lemmas.List.Elements.{All-nil}
use Rattle.dimacs.specs.logic.Literal.{Literal, IsWithin}
use Rattle.dimacs.specs.logic.Rat.{Group}
use Rattle.lrat_text.specs.Grammar.{IsStepWithin}
use Rattle.lrat_text.specs.WrittenLine.{line_text, literals_text, canonical_parts}
use Rattle.lrat_text.specs.declared.step.Step.{Step}
use Rattle.lrat_text.specs.declared.step.Step.TheVariants.{Add, Delete}
use Rattle.proof_join.specs.inner.Steps.{IsLow, IsApart, IsHeld}

chosen : (t : Bool) (own held : Step) (lits text : List ℕ) → ◌≡◌ {A = Option (Step × List ℕ)} (Some (held, text)) (cond t (Some (own, lits)) None) → (held ≡ own) × (text ≡ lits)
chosen true own held lits text h = let same : ◌≡◌ {A = Step × List ℕ} (held, text) (own, lits) = cc in (ap (λ (p : Step × List ℕ). p.0) same, ap (λ (p : Step × List ℕ). p.1) same)
chosen false own held lits text h = absurd (cc)

-- what is read of a line around its literals
pub read_is_apart : (line text : List ℕ) (held step : Step) → ◌≡◌ {A = Option (Step × List ℕ)} (Some (held, text)) (canonical_parts line step) → IsApart text held step
read_is_apart line text held (Add id lits hints groups) h = chosen (bytes_eq line (line_text id (Add id lits hints groups))) (Add id [] hints groups) held (literals_text lits) text h
read_is_apart line text held (Delete ids) h = absurd (cc)

-- an addition that is held so
pub apart_addition : (text : List ℕ) (id : ℕ) (lits : List Literal) (hints : List ℕ) (groups : List Group) (step : Step) → IsApart text (Add id lits hints groups) step
    → (own : List Literal) × (step ≡ Add id own hints groups) × (text ≡ literals_text own)
apart_addition text id lits hints groups (Add n ls hs gs) h = (ls, parts h.0, h.1)
  where
    parts : Add id lits hints groups ≡ Add n [] hs gs → Add n ls hs gs ≡ Add id ls hints groups
    parts e = cc
apart_addition text id lits hints groups (Delete ids) h = absurd h

-- what is so of a step is so of it without its literals
pub held_limits : (most : ℕ) (found : Option (Bor (List ℕ))) (held step : Step) → IsHeld found held step → IsStepWithin most step → IsStepWithin most held
held_limits most None held step h limits = subst (IsStepWithin most) (sym h) limits
held_limits most (Some text) held (Add id lits hints groups) h limits = subst (IsStepWithin most) (sym h.0) (limits.0, All-nil (IsWithin most), limits.2, limits.3)
held_limits most (Some text) held (Delete ids) h limits = absurd h

pub held_low : (k : ℕ) (found : Option (Bor (List ℕ))) (held step : Step) → IsHeld found held step → IsLow k step → IsLow k held
held_low k None held step h low = subst (IsLow k) (sym h) low
held_low k (Some text) held (Add id lits hints groups) h low = subst (IsLow k) (sym h.0) low
held_low k (Some text) held (Delete ids) h low = absurd h
