-- The right steps of a session, as steps of a log over its first clauses.
use Rattle.std.proofs.Common.{ℕ, zero, suc, ◌<◌, ◌≤◌, ◌^◌, inl, inr, List, [], ◌∷◌, codes, refl, sym, ◌∙◌, subst, arith, append_assoc}
use Rattle.std.specs.FinMap.{insert}
use Rattle.std.specs.List.{All, Contains}
use Rattle.std.proofs.lemmas.Bool.{cases_eq, cases_lt}
use Rattle.std.proofs.lemmas.List.Elements.{All-cons, All-contains, All-nil}
use Rattle.dimacs.specs.logic.ClauseMap.{ClauseMap, live_in}
use Rattle.dimacs.specs.logic.Literal.{Clause}
use Rattle.dimacs.proofs.Members.{Contains-cons, Contains-cons_cases, Contains-head, Contains-nil}
use Rattle.cube_solve.specs.SessionLog.{AreRightSteps, IsRightStep}
use Rattle.cube_solve.proofs.DeletionLemmas.{map_less}
use Rattle.lrat_text.specs.Grammar.{IsClauseNumber, IsStepWithin, LineSpellsWithin, SpellsStepWithin}
use Rattle.lrat_text.specs.Log.{AreLogSteps, after_step, top_after}
use Rattle.lrat_text.specs.Proof.{without}
use Rattle.lrat_text.specs.Runs.{after_steps, text_of}
use Rattle.lrat_text.specs.WrittenLine.{line_text}
use Rattle.lrat_text.specs.declared.step.Step.{Step}
use Rattle.lrat_text.specs.declared.step.Step.TheVariants.{Add, Delete}
use Rattle.lrat_text.proofs.ClauseMapLemmas.{get_other}
use Rattle.lrat_text.proofs.LineLemmas.{written_one_line_within, written_spells_within}

pub all_of : {X : Type 0} (P : X → Type 0) (ids : List X) → ((k : X) → Contains ids k → P k) → All P ids
all_of P [] h = All-nil P
all_of P (id ∷ ids) h = All-cons P id ids (h id (Contains-head id ids)) (all_of P ids (λ k i. h k (Contains-cons id k ids i)))

-- if the first m clauses were given, a clause that is deleted comes after them
pub right_logged : (most : ℕ) (given : List ℕ) (m : ℕ) (M : ClauseMap) (top : ℕ) (steps : List Step) → ((n : ℕ) → 0 < n → n ≤ m → Contains given n) → AreRightSteps most given M top steps → AreLogSteps m M top steps
right_logged most given m M top [] first h = tt
right_logged most given m M top (Add id lits hints groups ∷ steps) first h = (h.1, right_logged most given m (after_step M (Add id lits hints groups)) id steps first h.2)
right_logged most given m M top (Delete ids ∷ steps) first h =
    let r = h.1 in (
      (all_of (λ id. m < id) ids (λ id i. behind id (All-contains (λ n. ¬ (Contains given n)) ids id r.1 i) (All-contains IsClauseNumber ids id h.0 i)), r.2, r.3),
      right_logged most given m (after_step M (Delete ids)) top steps first h.2,
    )
  where
    behind : (id : ℕ) → ¬ (Contains given id) → IsClauseNumber id → m < id
    behind id out number = elim (cases_lt m id) [ inl low ↦ low | inr high ↦ absurd (out (first id number.0 high)) ]

-- the numbers from 1 to m
pub numbers_to : ℕ → List ℕ
numbers_to zero = []
numbers_to (suc m) = suc m ∷ numbers_to m

pub in_numbers : (m n : ℕ) → 0 < n → n ≤ m → Contains (numbers_to m) n
unfolding numbers_to
in_numbers zero n low up = absurd (omega arith)
in_numbers (suc m) n low up = elim (cases_eq n (suc m)) [
  | inl e ↦ subst (Contains (suc m ∷ numbers_to m)) (sym e) (Contains-head (suc m) (numbers_to m))
  | inr apart ↦ Contains-cons (suc m) n (numbers_to m) (in_numbers m n low (omega arith))
]

pub numbers_low : (m n : ℕ) → Contains (numbers_to m) n → n ≤ m
unfolding numbers_to
numbers_low zero n i = absurd (Contains-nil n i)
numbers_low (suc m) n i = elim (Contains-cons_cases (suc m) n (numbers_to m) i) [ inl e ↦ omega arith | inr j ↦ (let l = numbers_low m n j in omega arith) ]

-- ---- their lines
line_bare : (most : ℕ) → most < 2 ^ 48 → (given : List ℕ) (M : ClauseMap) (top : ℕ) (s : Step) → IsStepWithin most s → IsRightStep given M top s → ¬ (Contains (line_text top s) 10)
line_bare most few given M top (Add id lits hints groups) h r = written_one_line_within most few id (Add id lits hints groups) h.0 h
line_bare most few given M top (Delete ids) h r = written_one_line_within most few top (Delete ids) r.0 h

line_spells : (most : ℕ) → most < 2 ^ 48 → (given : List ℕ) (M : ClauseMap) (top : ℕ) (s : Step) → IsStepWithin most s → IsRightStep given M top s → SpellsStepWithin most (line_text top s) s
line_spells most few given M top (Add id lits hints groups) h r = written_spells_within most few id (Add id lits hints groups) h.0 h
line_spells most few given M top (Delete ids) h r = written_spells_within most few top (Delete ids) r.0 h

pub right_spelled : (most : ℕ) → most < 2 ^ 48 → (given : List ℕ) (M : ClauseMap) (top : ℕ) (steps : List Step) → AreRightSteps most given M top steps → LineSpellsWithin most (text_of top steps) steps
right_spelled most few given M top [] h = refl
right_spelled most few given M top (step ∷ steps) h = (
  line_text top step,
  text_of (top_after top step) steps,
  append_assoc (line_text top step) (codes "\n") (text_of (top_after top step) steps),
  line_bare most few given M top step h.0 h.1,
  line_spells most few given M top step h.0 h.1,
  right_spelled most few given (after_step M step) (top_after top step) steps h.2,
)

-- what was given stays live
pub stays : (most : ℕ) (given : List ℕ) (M : ClauseMap) (top : ℕ) (steps : List Step) → AreRightSteps most given M top steps → (n : ℕ) → Contains given n → n ≤ top → (C : Clause) → live_in M n C → live_in (after_steps M steps) n C
stays most given M top [] h n i low C l = l
stays most given M top (Add id lits hints groups ∷ steps) h n i low C l =
    let next = (h.1).0 in
    stays most given (insert M id lits) id steps h.2 n i (omega arith) C (get_other M id n lits (λ e. omega arith) ∙ l)
stays most given M top (Delete ids ∷ steps) h n i low C l =
    stays most given (without M ids) top steps h.2 n i low C ((map_less M ids).stays n C l (λ j. All-contains (λ id. ¬ (Contains given id)) ids n (h.1).1 j i))
