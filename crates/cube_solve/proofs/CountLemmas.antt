-- The counts of a search are those of its log.
use Rattle.std.proofs.Common.{◌≡◌, ℕ, ◌+◌, Bool, List, [], length, Some, refl, sym, ◌∙◌, subst, arith}
use Rattle.dimacs.specs.logic.Cnf.{Cnf}
use Rattle.dimacs.specs.logic.ClauseMap.{Live}
use Rattle.dimacs.specs.logic.Literal.{Clause}
use Rattle.clause_arena.specs.Clauses.{Clauses, live_of}
use Rattle.watches.specs.Trails.{TrailValue}
use Rattle.lrat_text.specs.declared.step.Step.TheVariants.{Add}
use Rattle.lrat_text.proofs.LineLemmas.{step_more}
use Rattle.cube_solve.specs.Counts.{AreCounts, HasLog, IsCounted}
use Rattle.cube_solve.specs.Outcome.{allowed}
use Rattle.cube_solve.specs.declared.observer.Counts.{Counts}
use Rattle.cube_solve.specs.declared.outcome.Outcome.{Outcome}
use Rattle.cube_solve.specs.declared.outcome.Outcome.TheVariants as outcome
use Rattle.cube_solve.specs.inner.LearntLog.{IsSearch, IsWritten}
use Rattle.cube_solve.specs.inner.Reduction.{AreLemmas}

pub counted : (B : Cnf) (n : ℕ) (m : Clauses) (t : TrailValue) (text numbers : List ℕ) (c : Counts) → IsSearch B n m t text
    → AreLemmas (length B.clauses + 1) (live_of m) numbers → c.conflicts ≡ n → c.lemmas ≡ length numbers → IsCounted B c text
counted B n m t text numbers c h lemmas conflicts live =
    let l = h.learnt in
    record {
      steps = l.steps;
      spells = l.spells;
      log = l.log;
      conflicts = l.count ∙ sym conflicts;
      numbers = numbers;
      live = record {
        rising = lemmas.rising;
        above = λ i d b. (let up = lemmas.behind i d b in omega arith);
        lives = λ i d b. let c = lemmas.lives i d b in let e = (l.linked).back _ c.0 c.1 in (e.0, e.1);
      };
      lemmas = sym live;
    }

pub counts_of_model : (B : Cnf) (most : ℕ) (c : Counts) (values : List Bool) (text : List ℕ) → IsCounted B c text → c.bytes ≡ length text
    → AreCounts B most c (outcome.Model values)
counts_of_model B most c values text h is = (text, h, sym is)

pub log_of_model : (B : Cnf) (c : Counts) (values : List Bool) (log text : List ℕ) → IsCounted B c text → c.bytes ≡ length text → log ≡ text
    → HasLog B c (outcome.Model values) (Some log)
log_of_model B c values log text h is same = subst (λ x. IsCounted B c x × (length x ≡ c.bytes)) (sym same) (h, sym is)

pub counts_at_limit : (B : Cnf) (most : ℕ) (c : Counts) (text : List ℕ) → IsCounted B c text → c.bytes ≡ length text → c.conflicts ≡ allowed most
    → AreCounts B most c (outcome.Limit text)
counts_at_limit B most c text h is full = (h, sym is, full)

pub counts_refuted : (B : Cnf) (most : ℕ) (c d : Counts) (o : Outcome) (live : Live) (vars id : ℕ) (lits : Clause) (before text : List ℕ) → IsCounted B c before
    → IsWritten live vars id lits before text → o ≡ outcome.Refuted text → d ≡ record c { bytes = length text } → AreCounts B most d o
counts_refuted B most c d o live vars id lits before text h w is same =
    subst (λ x. AreCounts B most d x) (sym is) (subst (λ e. AreCounts B most e (outcome.Refuted text)) (sym same) (
      record {
        before = before;
        counted = record { steps = h.steps; spells = h.spells; log = h.log; conflicts = h.conflicts; numbers = h.numbers; live = h.live; lemmas = h.lemmas };
        id = id;
        lits = lits;
        hints = w.hints;
        limits = step_more vars 199999999 w.few (Add id lits w.hints []) w.limits;
        whole = w.text;
      },
      refl,
    ))
