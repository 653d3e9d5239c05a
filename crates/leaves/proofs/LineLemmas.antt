-- The lines of logs, as they are checked and written.
use Rattle.std.proofs.Common.{◌≡◌, inl, inr, ℕ, ◌+◌, ◌<◌, ◌≤◌, Result, Ok, Err, IfOk, OnOk, List, [], ◌∷◌, ◌++◌, length, Option, Some, None, take, sym, ◌∙◌, refl, min, zero, suc, ap, subst, append_assoc, arith}
use Rattle.std.specs.Global.{Vec}
use Rattle.std.proofs.lemmas.Bool.{cases_lt}
use Rattle.std.proofs.lemmas.List.{take_all}
use Rattle.std.proofs.Math.Seq.{take-length}
use Rattle.std.specs.FinMap.{get}
use Rattle.std.specs.List.{All}
use Rattle.dimacs.specs.logic.ClauseMap.{ClauseMap, map_of}
use Rattle.dimacs.specs.logic.Cnf.{Cnf}
use Rattle.icnf.specs.Leaves.{Cube}
use Rattle.lrat_check.specs.Logs.{IsBegun, LogState, HoldsFormula, DeletesPrefix, ids_of}
use Rattle.lrat_text.specs.Grammar.{IsClauseNumber, IsStepWithin}
use Rattle.lrat_text.specs.Log.{IsLogStep, after_step, log_top, top_after}
use Rattle.lrat_text.specs.Runs.{after_steps, top_of}
use Rattle.lrat_check.proofs.Taken.{removed-without}
use Rattle.lrat_text.proofs.RunLemmas.{after_append, top_append}
use Rattle.lrat_text.specs.declared.step.Step.{Step}
use Rattle.log_join.specs.JoinedLogs.{Handed}
use Rattle.log_join.specs.Written.{Appends, AtLogEnd, NoneLive, WithinLog}
use Rattle.lrat_text.specs.declared.step.Step.TheVariants.{Delete}
use Rattle.log_join.specs.declared.log_joiner.LogJoiner.{LogJoiner}
use Rattle.leaves.specs.CheckedLines.{IsWithinLog, IsAfterSteps}
use Rattle.leaves.specs.inner.CheckedLines.{HasPartialDeletion, AreHandedOver, IsWithinSomeLog}
use Rattle.leaves.specs.declared.checked_lines.CheckedLines.{CheckedLines}

pub begun_behind : (F : Cnf) (s : LogState) → IsBegun F s → HoldsFormula F s → IsAfterSteps F [] s
begun_behind F s b stands = record { base = b.base; live = b.live; top = b.top; stands = stands }

-- a step that the checker takes is one of the log
pub step_follows : (F : Cnf) (log : List Step) (old : LogState) (step : Step) → IsAfterSteps F log old → IsLogStep old.base old.live old.top step
    → IsLogStep (length F.clauses) (after_steps (map_of F) log) (top_of (length F.clauses) log) step
step_follows F log old step b h =
    subst (λ (n : ℕ). IsLogStep (length F.clauses) (after_steps (map_of F) log) n step) b.top
    (subst (λ (M : ClauseMap). IsLogStep (length F.clauses) M old.top step) b.live
    (subst (λ (n : ℕ). IsLogStep n old.live old.top step) b.base h))

-- and is within the limits of its lines
pub step_small : (F : Cnf) (log : List Step) (old : LogState) (step : Step) → IsAfterSteps F log old → IsStepWithin old.most step → IsStepWithin (log_top F) step
step_small F log old step b h = subst (λ (n : ℕ). IsStepWithin n step) b.stands.most h

-- and the checker is after it
pub one_behind : (F : Cnf) (log : List Step) (old new : LogState) (step : Step) → IsAfterSteps F log old → new.base ≡ old.base → new.live ≡ after_step old.live step
    → new.top ≡ top_after old.top step → HoldsFormula F new → IsAfterSteps F (log ++ step ∷ []) new
one_behind F log old new step b base live top stands = record {
  base = base ∙ b.base;
  live = live ∙ ap (λ (M : ClauseMap). after_step M step) b.live ∙ sym (after_append (map_of F) log (step ∷ []));
  top = top ∙ ap (λ (n : ℕ). top_after n step) b.top ∙ sym (top_append (length F.clauses) log (step ∷ []));
  stands = stands;
}

-- bytes that are appended to those not yet handed out are appended to all that are written
pub appended : (P : List ℕ → Type 0) (written old new more : List ℕ) → new ≡ old ++ more → P ((written ++ old) ++ more) → P (written ++ new)
appended P written old new more is h = subst P (append_assoc written old more ∙ ap (λ (x : List ℕ). written ++ x) (sym is)) h

-- ---- lemmas that are handed over
none_more : (M : ClauseMap) (low number : ℕ) → NoneLive M low number → get M number ≡ None → NoneLive M low (number + 1)
none_more M low number none here k from below = elim (cases_lt k number) [
  | inl less ↦ none k from less
  | inr more ↦ let e : k ≡ number = omega arith in rw e here
]

-- the lemma of a number is not live
pub passed_over : (F : Cnf) (cubes : List Cube) (logs : List Handed) (h : Handed) (written : List ℕ) (number : ℕ) (g : LogJoiner)
    → AreHandedOver F cubes logs h written number g → get (after_steps (map_of F) h.steps) number ≡ None → AreHandedOver F cubes logs h written (number + 1) g
passed_over F cubes logs h written number g a here = record {
  low = a.low;
  ending = a.ending;
  up = (let u = a.up in omega arith);
  none = none_more (after_steps (map_of F) h.steps) a.low number a.none here;
}

-- the lemma of a number was handed over
pub one_over : (F : Cnf) (cubes : List Cube) (logs : List Handed) (h : Handed) (written : List ℕ) (number : ℕ) (g : LogJoiner)
    → AtLogEnd F cubes logs h (number + 1) g written → AreHandedOver F cubes logs h written (number + 1) g
one_over F cubes logs h written number g e = record { low = number + 1; ending = e; up = omega arith; none = λ k from below. absurd (omega arith) }

-- before the first
pub none_over : (F : Cnf) (cubes : List Cube) (logs : List Handed) (h : Handed) (written : List ℕ) (number : ℕ) (g : LogJoiner) → number ≡ length F.clauses + 1
    → AtLogEnd F cubes logs h (length F.clauses + 1) g written → AreHandedOver F cubes logs h written number g
none_over F cubes logs h written number g is e = record { low = length F.clauses + 1; ending = e; up = omega arith; none = λ k from below. absurd (omega arith) }

-- after the last
pub none_left : (F : Cnf) (s : LogState) (log : List Step) (low number : ℕ) → IsAfterSteps F log s → s.top < number → NoneLive (after_steps (map_of F) log) low number
    → (k : ℕ) → low ≤ k → get (after_steps (map_of F) log) k ≡ None
none_left F s log low number b above none k from = elim (cases_lt k number) [
  | inl less ↦ none k from less
  | inr more ↦ subst (λ (M : ClauseMap). get M k ≡ None) b.live (b.stands.behind.none_above k (omega arith))
]

-- what a fact of what an Ok leaves leads to
pub on_ok : {A E : Type 0} (r : Result A E) (P Q : Type 0) → (P → Q) → OnOk r P → OnOk r Q
on_ok (Ok x) P Q f h = f h
on_ok (Err e) P Q f h = h

-- and what that and a fact of the Ok lead to
pub if_on : {A E : Type 0} (r : Result A E) (P : A → Type 0) (Q : Type 0) (R : A → Type 0) → ((x : A) → P x → Q → R x) → IfOk r P → OnOk r Q → IfOk r R
if_on (Ok x) P Q R f p q = f x p q
if_on (Err e) P Q R f p q = tt

some_is_no_none : {A : Type 0} (x : A) → Some x ≡ None → ⊥
some_is_no_none x e = cc

-- a clause that is live under a number
pub some_not_none : {A : Type 0} {o : Option A} (x : A) → o ≡ Some x → o ≡ None → ⊥
some_not_none x e n = some_is_no_none x (sym e ∙ n)

-- ---- a refused deletion
pub take_none : (n : ℕ) → take {A = ℕ} n [] ≡ []
take_none zero = refl
take_none (suc n) = refl

-- no part of the deletion was carried out
pub cut_is_empty : (F : Cnf) (cubes : List Cube) (logs : List Handed) (log : List Step) (written : List ℕ) (l : CheckedLines) → HasPartialDeletion F cubes logs log written l
    → take l.checker.cut (ids_of l.checker.step) ≡ [] → IsWithinSomeLog F cubes logs written l
cut_is_empty F cubes logs log written l h none = (
  log,
  record {
    within = h.within;
    after = record {
      base = h.base;
      live = subst (λ (ids : List ℕ). l.checker.live ≡ after_step (after_steps (map_of F) log) (Delete ids)) none h.live ∙ sym (removed-without (after_steps (map_of F) log) []);
      top = h.top;
      stands = h.stands;
    };
  },
)

-- the part that was carried out is written
pub cut_is_written : (F : Cnf) (cubes : List Cube) (logs : List Handed) (log : List Step) (written : List ℕ) (l : CheckedLines) (h : HasPartialDeletion F cubes logs log written l) (g : LogJoiner) (out : Vec ℕ) (ids : List ℕ)
    → take l.checker.cut (ids_of l.checker.step) ≡ ids → All IsClauseNumber ids
    → Appends l.out.items out.items (λ more. (G : Cnf) (qs : List Cube) (hs : List Handed) (steps : List Step) (before : List ℕ)
    → WithinLog G qs hs steps l.joiner before → IsLogStep (length G.clauses) (after_steps (map_of G) steps) (top_of (length G.clauses) steps) (Delete ids)
    → IsStepWithin (log_top G) (Delete ids) → WithinLog G qs hs (steps ++ Delete ids ∷ []) g (before ++ more))
    → IsWithinSomeLog F cubes logs written (record { checker = l.checker; joiner = g; out = out })
cut_is_written F cubes logs log written l h g out ids are numbered put =
    let follows : IsLogStep (length F.clauses) (after_steps (map_of F) log) (top_of (length F.clauses) log) (Delete ids) =
    subst (λ (xs : List ℕ). IsLogStep (length F.clauses) (after_steps (map_of F) log) (top_of (length F.clauses) log) (Delete xs)) are h.follows in
    let live : l.checker.live ≡ after_step (after_steps (map_of F) log) (Delete ids) =
    subst (λ (xs : List ℕ). l.checker.live ≡ after_step (after_steps (map_of F) log) (Delete xs)) are h.live in (
      log ++ Delete ids ∷ [],
      record {
        within = appended (λ (w : List ℕ). WithinLog F cubes logs (log ++ Delete ids ∷ []) g w) written l.out.items out.items put.0 put.1
            (put.2 F cubes logs log (written ++ l.out.items) h.within follows numbered);
        after = record {
          base = h.base;
          live = live ∙ sym (after_append (map_of F) log (Delete ids ∷ []));
          top = h.top ∙ sym (top_append (length F.clauses) log (Delete ids ∷ []));
          stands = h.stands;
        };
      },
    )

-- a line is refused
pub refused_within : (F : Cnf) (cubes : List Cube) (logs : List Handed) (log : List Step) (written : List ℕ) (l : CheckedLines) (s : LogState) → IsWithinLog F cubes logs log written l → DeletesPrefix l.checker s → HoldsFormula F s
    → HasPartialDeletion F cubes logs log written (record { checker = s; joiner = l.joiner; out = l.out })
refused_within F cubes logs log written l s h cut stands = record {
  within = h.within;
  base = cut.base ∙ h.after.base;
  follows = step_follows F log l.checker (Delete (take s.cut (ids_of s.step))) h.after cut.follows;
  live = cut.live ∙ ap (λ (M : ClauseMap). after_step M (Delete (take s.cut (ids_of s.step)))) h.after.live;
  top = cut.top ∙ h.after.top;
  stands = stands;
}

-- numbers past the end are none
pub take_least : (n m : ℕ) (xs : List ℕ) → m ≡ min n (length xs) → take n xs ≡ take m xs
take_least n m xs is = elim (cases_lt n (length xs)) [
  | inl less ↦ ap (λ (k : ℕ). take k xs) (omega (arith, is))
  | inr more ↦ take_all n xs more ∙ sym (take-length xs) ∙ ap (λ (k : ℕ). take k xs) (omega (arith, is))
]

-- a fact of what is Ok leads to one of what an Ok leaves
pub on_if : {A E : Type 0} (r : Result A E) (P : A → Type 0) (Q : Type 0) → ((x : A) → P x → Q) → IfOk r P → OnOk r Q
on_if (Ok x) P Q f p = f x p
on_if (Err e) P Q f p = tt

-- and to another one of it
pub if_if : {A E : Type 0} (r : Result A E) (P Q : A → Type 0) → ((x : A) → P x → Q x) → IfOk r P → IfOk r Q
if_if (Ok x) P Q f p = f x p
if_if (Err e) P Q f p = tt
