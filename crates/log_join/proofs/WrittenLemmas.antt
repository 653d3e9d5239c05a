-- A joiner from one call to the next: its lines, and the end of a log.
use Rattle.std.proofs.Common.{◌≡◌, ℕ, ◌≤◌, true, List, [], ◌∷◌, ◌++◌, length, map, drop, max, refl, sym, ◌∙◌, ap, subst, arith, append_assoc}
use Rattle.std.specs.List.{All}
use Rattle.std.proofs.lemmas.List.{map-append, append-nil}
use Rattle.std.proofs.lemmas.List.Elements.{All-nil, All-cons, All-append}
use Rattle.dimacs.specs.logic.ClauseMap.{map_of}
use Rattle.dimacs.specs.logic.Cnf.{Cnf}
use Rattle.icnf.specs.Leaves.{Cube, Leaves}
use Rattle.lrat_text.specs.Grammar.{IsStepWithin}
use Rattle.lrat_text.specs.Log.{IsLog, IsLogStep, log_top, top_after}
use Rattle.lrat_text.specs.Runs.{after_steps, top_of, text_of}
use Rattle.lrat_text.specs.WrittenLine.{line_of}
use Rattle.lrat_text.specs.declared.step.Step.{Step}
use Rattle.lrat_text.proofs.RunLemmas.{log_append, text_append, top_append}
use Rattle.proof_join.specs.RenumberedSteps.{behind, renumbered}
use Rattle.log_join.specs.JoinedLogs.{Handed, JoinState, joined_so_far}
use Rattle.log_join.specs.Written.{BetweenLogs, WithinLog, steps_within}
use Rattle.log_join.specs.Trees.{IsSubtree, IsIndexed, leaves_in}
use Rattle.log_join.specs.inner.Trees.{IsPart, IsMadeOf}
use Rattle.log_join.specs.inner.JoinerSteps.{MovesTop}
use Rattle.log_join.specs.declared.log_joiner.LogJoiner.{LogJoiner}
use Rattle.log_join.specs.declared.tree.Node.{Node}
use Rattle.log_join.proofs.SettlingLemmas.{same_indexed}
use Rattle.log_join.proofs.PlacedLemmas.{IsSound, gathered_sound, sound_low, within_top}

-- ---- nothing is written yet
pub zero_drop : (xs : List Cube) → drop 0 xs ≡ xs
zero_drop [] = refl
zero_drop (x ∷ xs) = refl

abbrev pub whole_part : (cubes : List Cube) → Leaves [] cubes → IsPart cubes 0 0
whole_part cubes h = record { path = []; here = cubes; later = []; long = refl; leaves = h; are = zero_drop cubes ∙ sym (append-nil cubes) }

pub nothing_written : (F : Cnf) (cubes : List Cube) (g : LogJoiner) → F.vars ≤ 199999999 → IsMadeOf [] cubes g.tree → IsIndexed g.index g.unclosed.items g.tree → g.base ≡ length F.clauses → g.top ≡ length F.clauses → g.spent.items ≡ [] → BetweenLogs F cubes [] g []
nothing_written F cubes g vars made indexed base top none = record {
  are = All-nil (λ (h : Handed). IsLog F h.steps);
  limits = All-nil (λ (h : Handed). All (IsStepWithin (log_top F)) h.steps);
  stands = record { base = base; top = top; tree = made.tree; indexed = indexed; leaves = made.leaves; text = λ some. refl };
  none_spent = none;
  vars = vars;
}

-- ---- one step more
module _ (F : Cnf) (cubes : List Cube) (logs : List Handed) (log : List Step) (written : List ℕ) (old new : LogJoiner) (step : Step)
    (way : WithinLog F cubes logs log old written) (next : IsLogStep (length F.clauses) (after_steps (map_of F) log) (top_of (length F.clauses) log) step) (limits : IsStepWithin (log_top F) step) where
  abbrev g : JoinState
  g = joined_so_far F cubes logs

  abbrev x : Step
  x = renumbered (behind (length F.clauses) (joined_so_far F cubes logs).top) step

  sound : IsSound F (joined_so_far F cubes logs)
  sound = gathered_sound F cubes logs way.are

  longer : IsLog F (log ++ step ∷ [])
  longer = log_append (length F.clauses) (map_of F) (length F.clauses) log (step ∷ []) way.is_log (next, tt)

  steps_longer : steps_within F cubes logs (log ++ step ∷ []) ≡ steps_within F cubes logs log ++ x ∷ []
  steps_longer =
      let f : Step → Step = renumbered (behind (length F.clauses) (joined_so_far F cubes logs).top) in
      ap (λ (ys : List Step). (joined_so_far F cubes logs).steps ++ ys) (map-append f log (step ∷ [])) ∙ sym (append_assoc (joined_so_far F cubes logs).steps (map f log) (x ∷ []))

  top_before : top_of (length F.clauses) (steps_within F cubes logs log) ≡ old.top
  top_before = within_top F (joined_so_far F cubes logs) sound (record { steps = log; accepted = true }) way.is_log ∙ sym way.stands.top

  same_numbers : renumbered (behind old.base old.begun) step ≡ x
  same_numbers = ap (λ (b : ℕ). renumbered (behind b old.begun) step) way.stands.base ∙ ap (λ (t : ℕ). renumbered (behind (length F.clauses) t) step) way.begun

  text_longer : 1 ≤ length F.clauses → written ++ line_of (max 1 old.top) x ≡ text_of (length F.clauses) (steps_within F cubes logs log ++ x ∷ [])
  text_longer some =
      let low : length F.clauses ≤ (joined_so_far F cubes logs).top = sound_low F (joined_so_far F cubes logs) sound in
      let high : max 1 old.top ≡ old.top = (let t = way.stands.top in omega arith) in
      ap (λ (t : List ℕ). t ++ line_of (max 1 old.top) x) (way.stands.text some)
      ∙ ap (λ (n : ℕ). text_of (length F.clauses) (steps_within F cubes logs log) ++ line_of n x) (high ∙ sym top_before)
      ∙ ap (λ (t : List ℕ). text_of (length F.clauses) (steps_within F cubes logs log) ++ t) (sym (append-nil (line_of (top_of (length F.clauses) (steps_within F cubes logs log)) x)))
      ∙ sym (text_append (length F.clauses) (steps_within F cubes logs log) (x ∷ []))

  pub line_within : MovesTop old new (top_after old.top (renumbered (behind old.base old.begun) step))
      → WithinLog F cubes logs (log ++ step ∷ []) new (written ++ line_of (max 1 old.top) (renumbered (behind old.base old.begun) step))
  line_within moves = record {
    are = way.are;
    before = way.before;
    is_log = longer;
    limits = All-append (IsStepWithin (log_top F)) log (step ∷ []) way.limits (All-cons (IsStepWithin (log_top F)) step [] limits (All-nil (IsStepWithin (log_top F))));
    begun = moves.begun ∙ way.begun;
    stands = record {
      base = moves.base ∙ way.stands.base;
      top = moves.top ∙ ap (λ (s : Step). top_after old.top s) same_numbers ∙ ap (λ (t : ℕ). top_after t x) (sym top_before)
          ∙ sym (top_append (length F.clauses) (steps_within F cubes logs log) (x ∷ [])) ∙ ap (top_of (length F.clauses)) (sym steps_longer)
          ∙ within_top F (joined_so_far F cubes logs) sound (record { steps = log ++ step ∷ []; accepted = true }) longer;
      tree = subst (IsSubtree []) (sym moves.tree) way.stands.tree;
      indexed = same_indexed old new moves.index moves.unclosed moves.tree way.stands.indexed;
      leaves = ap (λ (n : Node). leaves_in n) moves.tree ∙ way.stands.leaves;
      text = λ some. ap (λ (s : Step). written ++ line_of (max 1 old.top) s) same_numbers ∙ text_longer some ∙ ap (text_of (length F.clauses)) (sym steps_longer);
    };
    spent_are = moves.spent ∙ way.spent_are;
    vars = way.vars;
  }

-- where a line is refused, the log can go on
pub within_same : (F : Cnf) (cubes : List Cube) (logs : List Handed) (log : List Step) (written : List ℕ) (old new : LogJoiner) → WithinLog F cubes logs log old written → MovesTop old new old.top → WithinLog F cubes logs log new written
within_same F cubes logs log written old new way moves = record {
  are = way.are;
  before = way.before;
  is_log = way.is_log;
  limits = way.limits;
  begun = moves.begun ∙ way.begun;
  stands = record {
    base = moves.base ∙ way.stands.base;
    top = moves.top ∙ way.stands.top;
    tree = subst (IsSubtree []) (sym moves.tree) way.stands.tree;
    indexed = same_indexed old new moves.index moves.unclosed moves.tree way.stands.indexed;
    leaves = ap (λ (n : Node). leaves_in n) moves.tree ∙ way.stands.leaves;
    text = way.stands.text;
  };
  spent_are = moves.spent ∙ way.spent_are;
  vars = way.vars;
}
