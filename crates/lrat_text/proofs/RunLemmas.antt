-- Steps after other steps.
use Rattle.std.proofs.Common.{◌≡◌, ℕ, List, [], ◌∷◌, ◌++◌, refl, sym, ◌∙◌, ap, subst, append_assoc}
use Rattle.dimacs.specs.logic.ClauseMap.{ClauseMap}
use Rattle.lrat_text.specs.Grammar.{LineSpells, LineSpellsWithin}
use Rattle.lrat_text.specs.Log.{after_step, top_after, AreLogSteps}
use Rattle.lrat_text.specs.Runs.{after_steps, top_of, text_of}
use Rattle.lrat_text.specs.WrittenLine.{line_of}
use Rattle.lrat_text.specs.declared.step.Step.{Step}

pub after_append : (M : ClauseMap) (xs ys : List Step) → after_steps M (xs ++ ys) ≡ after_steps (after_steps M xs) ys
after_append M [] ys = refl
after_append M (x ∷ xs) ys = after_append (after_step M x) xs ys

pub top_append : (top : ℕ) (xs ys : List Step) → top_of top (xs ++ ys) ≡ top_of (top_of top xs) ys
top_append top [] ys = refl
top_append top (x ∷ xs) ys = top_append (top_after top x) xs ys

pub text_append : (top : ℕ) (xs ys : List Step) → text_of top (xs ++ ys) ≡ text_of top xs ++ text_of (top_of top xs) ys
text_append top [] ys = refl
text_append top (x ∷ xs) ys =
    ap (λ (t : List ℕ). line_of top x ++ t) (text_append (top_after top x) xs ys)
    ∙ sym (append_assoc (line_of top x) (text_of (top_after top x) xs) (text_of (top_of (top_after top x) xs) ys))

pub log_append : (m : ℕ) (M : ClauseMap) (top : ℕ) (xs ys : List Step) → AreLogSteps m M top xs → AreLogSteps m (after_steps M xs) (top_of top xs) ys → AreLogSteps m M top (xs ++ ys)
log_append m M top [] ys h g = g
log_append m M top (x ∷ xs) ys h g = (h.0, log_append m (after_step M x) (top_after top x) xs ys h.1 g)

pub spells_append_within : (most : ℕ) (a b : List ℕ) (xs ys : List Step) → LineSpellsWithin most a xs → LineSpellsWithin most b ys → LineSpellsWithin most (a ++ b) (xs ++ ys)
spells_append_within most a b [] ys e h = subst (λ (t : List ℕ). LineSpellsWithin most (t ++ b) ys) (sym e) h
spells_append_within most a b (x ∷ xs) ys (line, rest, e, one, first, more) h =
    (line, rest ++ b, ap (λ t. t ++ b) e ∙ append_assoc line (10 ∷ rest) b, one, first, spells_append_within most rest b xs ys more h)

pub spells_append : (a b : List ℕ) (xs ys : List Step) → LineSpells a xs → LineSpells b ys → LineSpells (a ++ b) (xs ++ ys)
spells_append a b xs ys g h = spells_append_within 2000000 a b xs ys g h
