-- A line that is written for a step whose numbers stay.
use Rattle.std.proofs.Common.{◌≡◌, ℕ, Bool, true, false, cond, Some, None, List, [], ◌∷◌, ◌++◌, map, codes, bytes_eq, refl, sym, ◌∙◌, ap, arith, inl, inr}
use Rattle.std.proofs.lemmas.Bool.{cases_lt}
use Rattle.std.proofs.lemmas.Slice.Eq.{bytes_eq-Decides}
use Rattle.dimacs.specs.logic.Rat.{Group}
use Rattle.lrat_text.specs.Log.{top_after}
use Rattle.lrat_text.specs.WrittenLine.{line_of, line_text, canonical_id}
use Rattle.lrat_text.specs.declared.step.Step.{Step}
use Rattle.lrat_text.specs.declared.step.Step.TheVariants.{Add, Delete}
use Rattle.proof_join.specs.RenumberedSteps.{behind, renumbered, renumbered_group}
use Rattle.proof_join.proofs.NumberLemmas.{behind_low, behind_high}

behind_itself : (b n : ℕ) → behind b b n ≡ n
behind_itself b n = elim (cases_lt b n) [
  | inr x ↦ behind_low b b n x
  | inl x ↦ behind_high b b n x ∙ omega arith
]

all_behind_itself : (b : ℕ) (ns : List ℕ) → map (behind b b) ns ≡ ns
all_behind_itself b [] = refl
all_behind_itself b (n ∷ ns) = ap (λ x. x ∷ map (behind b b) ns) (behind_itself b n) ∙ ap (λ (xs : List ℕ). n ∷ xs) (all_behind_itself b ns)

groups_behind_itself : (b : ℕ) (gs : List Group) → map (renumbered_group (behind b b)) gs ≡ gs
groups_behind_itself b [] = refl
groups_behind_itself b (g ∷ gs) =
    ap (λ n. (n, map (behind b b) g.1) ∷ map (renumbered_group (behind b b)) gs) (behind_itself b g.0)
    ∙ ap (λ (ns : List ℕ). (g.0, ns) ∷ map (renumbered_group (behind b b)) gs) (all_behind_itself b g.1)
    ∙ ap (λ (xs : List Group). g ∷ xs) (groups_behind_itself b gs)

-- after as many as there were, every number stays
step_itself : (b : ℕ) (step : Step) → renumbered (behind b b) step ≡ step
step_itself b (Add id lits hints groups) = rw (behind_itself b id, all_behind_itself b hints, groups_behind_itself b groups) refl
step_itself b (Delete ids) = rw (all_behind_itself b ids) refl

chosen : (t : Bool) (id number : ℕ) → cond t (Some id) None ≡ Some number → (t ≡ true) × (id ≡ number)
chosen true id number h = (refl, (cc))
chosen false id number h = absurd (cc)

written_line : (line : List ℕ) (top number : ℕ) (step : Step) → canonical_id line step ≡ Some number → (line ++ codes "\n" ≡ line_of top step) × (number ≡ top_after top step)
written_line line top number (Add id lits hints groups) h =
    let c = chosen (bytes_eq line (line_text id (Add id lits hints groups))) id number h in
    let same : line ≡ line_text id (Add id lits hints groups) = (bytes_eq-Decides line (line_text id (Add id lits hints groups))).0 c.0 in
    (ap (λ (l : List ℕ). l ++ codes "\n") same, sym c.1)
written_line line top number (Delete ids) h = absurd (cc)

-- so such a line is copied, and tells its number
pub copied : (b begun top number : ℕ) (line : List ℕ) (step : Step) → begun ≡ b → canonical_id line step ≡ Some number
    → (line ++ codes "\n" ≡ line_of top (renumbered (behind b begun) step)) × (number ≡ top_after top (renumbered (behind b begun) step))
copied b begun top number line step e h =
    let w = written_line line top number step h in
    let same : step ≡ renumbered (behind b begun) step = sym (step_itself b step) ∙ ap (λ n. renumbered (behind b n) step) (sym e) in
    (w.0 ∙ ap (line_of top) same, w.1 ∙ ap (top_after top) same)
