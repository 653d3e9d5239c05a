-- The fragments of a tree's leaves, and the whole text.
use Rattle.std.proofs.Common.{◌≡◌, ℕ, max, zero, suc, ◌+◌, ◌^◌, ◌<◌, ◌≤◌, List, [], ◌∷◌, ◌++◌, length, take, get_or, drop, Err, refl, sym, ◌∙◌, ap, subst, arith, append_assoc, length-append}
use Rattle.std.specs.Prelude.{IsSome}
use Rattle.std.specs.List.{All, Contains}
use Rattle.std.specs.FinMap.{get}
use Rattle.std.proofs.lemmas.List.{append-nil, take_more, length-take-le, take-append-drop}
use Rattle.std.proofs.lemmas.List.Elements.{All-nil, All-cons, All-weaker, All-contains_itself}
use Rattle.dimacs.specs.logic.Base.{pure_literals}
use Rattle.dimacs.specs.logic.ClauseMap.{ClauseMap, map_of, live_in}
use Rattle.dimacs.specs.logic.Cnf.{Cnf, IsFormula}
use Rattle.dimacs.specs.logic.Literal.{Literal, IsWithin}
use Rattle.icnf.specs.Leaves.{Cube, Leaves}
use Rattle.lrat_text.specs.Grammar.{LineSpellsWithin}
use Rattle.lrat_text.specs.Log.{after_step, top_after, IsLogStep, AreLogSteps, Closes, log_top}
use Rattle.lrat_text.specs.WrittenLine.{line_of}
use Rattle.lrat_text.specs.declared.step.Step.{Step}
use Rattle.lrat_text.specs.declared.step.Step.TheVariants.{Add, Delete}
use Rattle.lrat_text.specs.Runs.{text_of, top_of}
use Rattle.proof_join.specs.JoinedProof.{leaf, part, AreSpelled, Joined, AllClose, IsPreamble, unit_steps}
use Rattle.proof_join.specs.Steps.{steps_in, steps_each}
use Rattle.proof_join.specs.inner.Steps.{Writes, IsLow, AreLow, IsFragment}
use Rattle.proof_join.proofs.JoinLemmas.{spelled_limits, some_clause, tree_closed, joined_accepts}
use Rattle.lrat_text.specs.Proof.{Accepts}
use Rattle.cube_split.proofs.PureLemmas.{pure_within}
use Rattle.proof_join.specs.declared.fault.JoinFault.{JoinFault}
use Rattle.proof_join.specs.declared.fault.JoinFault.TheVariants.{TooLong, NoMemory}
use Rattle.proof_join.proofs.MapLemmas.{AreBetween, between_formula, some_live}
use Rattle.proof_join.proofs.PreambleLemmas.{rat_top}
use Rattle.proof_join.proofs.RupLemmas.{hint_live}
use Rattle.proof_join.proofs.ShapeLemmas.{joined_some, joined_once}
use Rattle.proof_join.proofs.StepLemmas.{spelled_in}
use Rattle.proof_join.proofs.TextLemmas.{step_between}
use Rattle.lrat_text.proofs.LineLemmas.{spells_more}
use Rattle.lrat_text.proofs.RunLemmas.{text_append}
use Rattle.proof_join.proofs.TreeLemmas.{ends}

-- ---- fragments that close may be copied
step_low : (m : ℕ) (M : ClauseMap) (top : ℕ) (step : Step) → IsLogStep m M top step → AreBetween top M → IsLow top step
step_low m M top (Add id lits hints groups) (next, none, rup) between = (
  next,
  All-weaker (Contains hints) (λ h. h ≤ top) (λ h i. let d = hint_live (live_in M) lits hints rup h i in (between h d.0 d.1).1) hints (All-contains_itself hints),
  none,
)
step_low m M top (Delete ids) (own, live, distinct) between =
    All-weaker (λ id. IsSome (get M id)) (λ id. id ≤ top) (λ id some. let d = some_live M id some in (between id d.0 d.1).1) ids live

steps_low : (m : ℕ) (M : ClauseMap) (top : ℕ) (steps : List Step) → AreLogSteps m M top steps → AreBetween top M → AreLow top steps
steps_low m M top [] h between = tt
steps_low m M top (step ∷ steps) h between = (step_low m M top step h.0 between, steps_low m (after_step M step) (top_after top step) steps h.1 (step_between m M top step h.0 between))

pub closes_fragment : (B : Cnf) (q : Cube) (text : List ℕ) → B.vars ≤ 199999999 → Closes B q text → IsFragment (length B.clauses) text
closes_fragment B q text low (steps, spelled, log, (front, last, splits, n)) =
    let most : max 2000000 B.vars ≤ 199999999 = omega arith in
    let e : steps_in text ≡ steps = spelled_in (log_top B) most text steps spelled in
    let z = ends q last n in
    record {
      own = record {
        spelled = subst (LineSpellsWithin 199999999 text) (sym e) (spells_more (log_top B) 199999999 most text steps spelled);
        low = subst (AreLow (length B.clauses)) (sym e) (steps_low (length B.clauses) (map_of B) (length B.clauses) steps log (between_formula B));
      };
      ends = record { front = front; id = z.0; clause = z.1; hints = z.2; groups = z.3; splits = e ∙ splits ∙ ap (λ (s : Step). front ++ s ∷ []) z.4 };
    }

pub all_fragments : (B : Cnf) → B.vars ≤ 199999999 → (leaves : List Cube) (texts : List (List ℕ)) → AllClose B leaves texts → All (IsFragment (length B.clauses)) texts
all_fragments B low [] [] h = All-nil (IsFragment (length B.clauses))
all_fragments B low [] (text ∷ texts) h = absurd h
all_fragments B low (q ∷ leaves) [] h = absurd h
all_fragments B low (q ∷ leaves) (text ∷ texts) h = All-cons (IsFragment (length B.clauses)) text texts (closes_fragment B q text low h.0) (all_fragments B low leaves texts h.1)

-- a base over which something closes has a clause
pub closes_some : (B : Cnf) (q : Cube) (text : List ℕ) → Closes B q text → 1 ≤ length B.clauses
closes_some B q text (steps, spelled, log, ends_at) = some_clause B q (leaf steps) (log, ends_at, spelled_limits (log_top B) text steps spelled)

-- each fragment closes the cube at its place
pub close_at : (B : Cnf) (leaves : List Cube) (texts : List (List ℕ)) → AllClose B leaves texts → (i : ℕ) → i < length leaves → Closes B (get_or leaves i []) (get_or texts i [])
close_at B [] texts h i below = absurd (omega arith)
close_at B (q ∷ leaves) [] h i below = absurd h
close_at B (q ∷ leaves) (text ∷ texts) h zero below = h.0
close_at B (q ∷ leaves) (text ∷ texts) h (suc i) below = close_at B leaves texts h.1 i (omega arith)

pub close_length : (B : Cnf) (leaves : List Cube) (texts : List (List ℕ)) → AllClose B leaves texts → length texts ≡ length leaves
close_length B [] [] h = refl
close_length B [] (text ∷ texts) h = absurd h
close_length B (q ∷ leaves) [] h = absurd h
close_length B (q ∷ leaves) (text ∷ texts) h = let e = close_length B leaves texts h.1 in omega arith

pub each_spelled : (texts : List (List ℕ)) (steps : List (List Step)) → AreSpelled texts steps → steps_each texts ≡ steps
each_spelled [] [] h = refl
each_spelled [] (s ∷ steps) h = absurd h
each_spelled (text ∷ texts) [] h = absurd h
each_spelled (text ∷ texts) (s ∷ steps) h = ap (λ (x : List Step). x ∷ steps_each texts) (spelled_in 199999999 (omega arith) text s h.0) ∙ ap (λ (xs : List (List Step)). s ∷ xs) (each_spelled texts steps h.1)

-- ---- one unit more
pub units_push : (top : ℕ) (units : List Literal) (l : Literal) → unit_steps top (units ++ l ∷ []) ≡ unit_steps top units ++ Add (top + length units + 1) (l ∷ []) [] [] ∷ []
units_push top [] l = ap (λ (n : ℕ). Add (n + 1) (l ∷ []) [] [] ∷ []) (let e : top ≡ top + 0 = omega arith in e)
units_push top (k ∷ units) l =
    ap (λ (ss : List Step). Add (top + 1) (k ∷ []) [] [] ∷ ss) (units_push (top + 1) units l
    ∙ ap (λ (n : ℕ). unit_steps (top + 1) units ++ Add (n + 1) (l ∷ []) [] [] ∷ []) (let e : (top + 1) + length units ≡ top + length (k ∷ units) = omega arith in e))

pub units_top : (top : ℕ) (units : List Literal) → top_of top (unit_steps top units) ≡ top + length units
units_top top [] = (let e : top ≡ top + 0 = omega arith in e)
units_top top (l ∷ units) = units_top (top + 1) units ∙ (let e : (top + 1) + length units ≡ top + length (l ∷ units) = omega arith in e)

pub unit_more : (out : List ℕ) (top : ℕ) (units : List Literal) (i id : ℕ) (l : Literal) (old : List ℕ) → i < length units → l ≡ get_or units i l → id ≡ top + i + 1 → old ≡ out ++ text_of top (unit_steps top (take i units))
    → old ++ line_of id (Add id (l ∷ []) [] []) ≡ out ++ text_of top (unit_steps top (take (i + 1) units))
unit_more out top units i id l old below is number e =
    let long : length (take i units) ≡ i = length-take-le i units (omega arith) in
    let step : Step = Add (top + length (take i units) + 1) (l ∷ []) [] [] in
    ap (λ (o : List ℕ). o ++ line_of id (Add id (l ∷ []) [] [])) e
    ∙ ap (λ (n : ℕ). (out ++ text_of top (unit_steps top (take i units))) ++ line_of n (Add n (l ∷ []) [] [])) (number ∙ ap (λ (n : ℕ). top + n + 1) (sym long))
    ∙ append_assoc out (text_of top (unit_steps top (take i units))) (line_of 0 step)
    ∙ ap (λ (xs : List ℕ). out ++ xs) (
    ap (λ (xs : List ℕ). text_of top (unit_steps top (take i units)) ++ xs) (sym (append-nil (line_of 0 step)))
    ∙ sym (text_append top (unit_steps top (take i units)) (step ∷ []))
    ∙ ap (text_of top) (sym (units_push top (take i units) l) ∙ ap (λ (k : Literal). unit_steps top (take i units ++ k ∷ [])) is ∙ ap (unit_steps top) (sym (take_more units i l below))))

unit_steps_append : (top : ℕ) (xs ys : List Literal) → unit_steps top (xs ++ ys) ≡ unit_steps top xs ++ unit_steps (top + length xs) ys
unit_steps_append top [] ys = ap (λ (n : ℕ). unit_steps n ys) (let e : top ≡ top + 0 = omega arith in e)
unit_steps_append top (x ∷ xs) ys =
    ap (λ (ss : List Step). Add (top + 1) (x ∷ []) [] [] ∷ ss) (unit_steps_append (top + 1) xs ys
    ∙ ap (λ (n : ℕ). unit_steps (top + 1) xs ++ unit_steps n ys) (let e : (top + 1) + length xs ≡ top + length (x ∷ xs) = omega arith in e))

-- the lines of a front of the units begin those of all
pub units_front : (out : List ℕ) (top n : ℕ) (units : List Literal)
    → (out ++ text_of top (unit_steps top (take n units))) ++ text_of (top_of top (unit_steps top (take n units))) (unit_steps (top + length (take n units)) (drop n units)) ≡ out ++ text_of top (unit_steps top units)
units_front out top n units =
    append_assoc out (text_of top (unit_steps top (take n units))) (text_of (top_of top (unit_steps top (take n units))) (unit_steps (top + length (take n units)) (drop n units)))
    ∙ ap (λ (xs : List ℕ). out ++ xs) (sym (text_append top (unit_steps top (take n units)) (unit_steps (top + length (take n units)) (drop n units)))
    ∙ ap (text_of top) (sym (unit_steps_append top (take n units) (drop n units)) ∙ ap (unit_steps top) (take-append-drop n units)))

pub pure_small : (F : Cnf) → F.vars ≤ 99999999 → All (IsWithin 199999999) (pure_literals F)
pure_small F few = All-weaker (IsWithin F.vars) (IsWithin 199999999) (λ l h. let b = h.1 in (h.0, omega arith)) (pure_literals F) (pure_within F)

pub too_long : (A : Type 0) (fault : JoinFault) (new text : List ℕ) → fault ≡ TooLong → Writes {A = A} (Err fault) new text → 2 ^ 32 ≤ length text
too_long A TooLong new text e h = h
too_long A NoMemory new text e h = absurd cc

-- ---- all together
module _ (F B : Cnf) (lines : List Step) (leaves : List Cube) (texts : List (List ℕ)) (tree : Leaves [] leaves) (close : AllClose B leaves texts) (low : B.vars ≤ 199999999) where
  abbrev pub whole : (text : List ℕ) × Joined F lines leaves texts text
  whole = joined_some F B lines leaves texts low tree close

  pub base_some : 1 ≤ length B.clauses
  base_some = some_clause B [] whole.1.tree (tree_closed B low whole.1.tree leaves texts whole.1.free whole.1.leaves_are close whole.1.spelled)

  pub whole_is : IsPreamble F B lines → (base : ℕ) → base ≡ length B.clauses
      → text_of (length F.clauses) lines ++ text_of base (part base [] base whole.1.tree).steps ≡ whole.0
  whole_is lead base e =
      let m : ℕ = length F.clauses in
      let b : ℕ = m + length lines in
      let same : base ≡ b = e ∙ lead.count in
      ap (λ (n : ℕ). text_of m lines ++ text_of n (part n [] n whole.1.tree).steps) same
      ∙ ap (λ (n : ℕ). text_of m lines ++ text_of n (part b [] b whole.1.tree).steps) (sym (rat_top (map_of F) m lines lead.rat))
      ∙ sym (text_append m lines (part b [] b whole.1.tree).steps)
      ∙ sym whole.1.is

  pub whole_once : (text : List ℕ) → Joined F lines leaves texts text → text ≡ whole.0
  whole_once text j = joined_once F lines leaves texts text whole.0 j whole.1

  pub whole_joined : (text : List ℕ) → text ≡ whole.0 → Joined F lines leaves texts text
  whole_joined text e = subst (Joined F lines leaves texts) (sym e) whole.1

  pub whole_accepts : IsPreamble F B lines → (text : List ℕ) → IsFormula F → text ≡ whole.0 → length text < 2 ^ 32 → Accepts F text
  whole_accepts lead text limits e short = joined_accepts F B lines leaves texts text limits.vars limits.clauses lead close (whole_joined text e) short

  -- what is too long before the end is too long at the end
  pub whole_long : (short more text : List ℕ) → short ++ more ≡ whole.0 → 2 ^ 32 ≤ length short → Joined F lines leaves texts text → 2 ^ 32 ≤ length text
  whole_long short more text e long j =
      let a : length (short ++ more) ≡ length text = ap length (e ∙ sym (whole_once text j)) in
      let b = length-append short more in
      omega arith
