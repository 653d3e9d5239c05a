-- One more log: what was joined stays a log over the formula, and the lemmas that close leaves stay live.
use Rattle.std.proofs.Common.{◌≡◌, ℕ, ◌+◌, ◌<◌, ◌≤◌, inl, inr, ◌⊎◌, Bool, true, false, List, [], ◌∷◌, ◌++◌, length, map, Option, Some, None, refl, sym, ◌∙◌, ap, subst, arith}
use Rattle.std.specs.Prelude.{fold, nat_eq}
use Rattle.std.specs.List.{Contains, list_any}
use Rattle.std.specs.FinMap.{get, insert}
use Rattle.std.proofs.lemmas.List.Elements.{All-head, All-tail}
use Rattle.dimacs.specs.logic.ClauseMap.{ClauseMap, map_of}
use Rattle.dimacs.specs.logic.Cnf.{Cnf}
use Rattle.dimacs.specs.logic.Literal.{Clause}
use Rattle.icnf.specs.Leaves.{Cube}
use Rattle.lrat_text.specs.Log.{after_step, top_after, AreLogSteps, IsLog, additions}
use Rattle.lrat_text.specs.Proof.{without}
use Rattle.lrat_text.specs.Runs.{after_steps, top_of}
use Rattle.lrat_text.specs.declared.step.Step.{Step}
use Rattle.lrat_text.specs.declared.step.Step.TheVariants.{Add, Delete}
use Rattle.lrat_text.proofs.RunLemmas.{log_append, after_append, top_append}
use Rattle.proof_join.specs.RenumberedSteps.{behind, renumbered}
use Rattle.proof_join.proofs.FragmentLemmas.{Mirrors, mirrors_insert, mirrors_without, steps_mirrored}
use Rattle.proof_join.proofs.LogLemmas.{log_weaker, log_keeps, log_up}
use Rattle.proof_join.proofs.MapLemmas.{AreBetween, between_formula}
use Rattle.proof_join.proofs.NumberLemmas.{behind_low}
use Rattle.proof_join.proofs.TextLemmas.{step_between}
use Rattle.proof_join.proofs.TreeLemmas.{Bears}
use Rattle.log_join.specs.ClosedLeaves.{Numbered, Leaf, closes}
use Rattle.log_join.specs.JoinedLogs.{Handed, lemmas_of, deletions, deleted, left_by, JoinState, nothing, with_log, joined_so_far, AreLogs}
use Rattle.log_join.proofs.SettleLemmas.{AreRising, AreRisingNumbers, spent_rising, from_all_settled, from_map, not_in_rising}
use Rattle.log_join.proofs.DeletionLemmas.{deletions_log, deletions_keep, deletions_top}
use Rattle.log_join.proofs.LiveLemmas.{live_rising}

-- ---- the greatest number
pub counted_top : (m : ℕ) (M : ClauseMap) (top : ℕ) (steps : List Step) → AreLogSteps m M top steps → top_of top steps ≡ top + additions steps
counted_top m M top [] h = omega arith
counted_top m M top (Add id lits hints groups ∷ steps) h =
    let e = h.0.0 in
    let r = counted_top m (after_step M (Add id lits hints groups)) id steps h.1 in
    r ∙ omega arith
counted_top m M top (Delete ids ∷ steps) h = counted_top m (after_step M (Delete ids)) top steps h.1

additions_renumbered : (f : ℕ → ℕ) (steps : List Step) → additions (map (renumbered f) steps) ≡ additions steps
additions_renumbered f [] = refl
additions_renumbered f (Add id lits hints groups ∷ steps) = ap (λ (n : ℕ). 1 + n) (additions_renumbered f steps)
additions_renumbered f (Delete ids ∷ steps) = additions_renumbered f steps

pub log_between : (m : ℕ) (M : ClauseMap) (top : ℕ) (steps : List Step) → AreLogSteps m M top steps → AreBetween top M → AreBetween (top_of top steps) (after_steps M steps)
log_between m M top [] h between = between
log_between m M top (step ∷ steps) h between = log_between m (after_step M step) (top_after top step) steps h.1 (step_between m M top step h.0 between)

-- ---- one log under other numbers
bears_mirrors : (F : Cnf) (M : ClauseMap) (t : ℕ) → Bears F M → Mirrors (length F.clauses) t (map_of F) M
bears_mirrors F M t bears n C e = ap (get M) (behind_low (length F.clauses) t n (between_formula F n C e).1) ∙ bears n C e

after_mirrored : (b t : ℕ) (low : b ≤ t) (steps : List Step) (N M : ClauseMap) → Mirrors b t N M → Mirrors b t (after_steps N steps) (after_steps M (map (renumbered (behind b t)) steps))
after_mirrored b t low [] N M h = h
after_mirrored b t low (Add id lits hints groups ∷ steps) N M h = after_mirrored b t low steps (insert N id lits) (insert M (behind b t id) lits) (mirrors_insert b t low N M id lits h)
after_mirrored b t low (Delete ids ∷ steps) N M h = after_mirrored b t low steps (without N ids) (without M (map (behind b t) ids)) (mirrors_without b t low N M ids h)

-- ---- what was joined is a log, and the lemmas that close leaves are live
-- the clause under this number closes the leaf
pub record ClosesLive (m : ℕ) (M : ClauseMap) (q : Cube) (l : Numbered) : Type 0 where
  pub own : m < l.id
  pub lives : get M l.id ≡ Some l.clause
  pub ends : closes q l.clause ≡ true

pub record IsSound (F : Cnf) (g : JoinState) : Type 0 where
  pub log : AreLogSteps (length F.clauses) (map_of F) (length F.clauses) g.steps
  pub top : top_of (length F.clauses) g.steps ≡ g.top
  pub closings : (k : Leaf) (l : Numbered) → Contains g.leaves k → k.closing ≡ Some l → ClosesLive (length F.clauses) (after_steps (map_of F) g.steps) k.cube l

pub sound_low : (F : Cnf) (g : JoinState) → IsSound F g → length F.clauses ≤ g.top
sound_low F g s = let u = (log_up (length F.clauses) (map_of F) (length F.clauses) g.steps s.log).0 in let e = s.top in omega arith

pub sound_between : (F : Cnf) (g : JoinState) → IsSound F g → AreBetween g.top (after_steps (map_of F) g.steps)
sound_between F g s = subst (λ (t : ℕ). AreBetween t (after_steps (map_of F) g.steps)) s.top (log_between (length F.clauses) (map_of F) (length F.clauses) g.steps s.log (between_formula F))

deleted_rising : (M : ClauseMap) (t : ℕ) (accepted : Bool) (leaves : List Leaf) (lemmas : List Numbered) → AreRising M t lemmas → AreRisingNumbers M t (deleted accepted leaves lemmas)
deleted_rising M t true leaves lemmas h = spent_rising M t leaves lemmas h
deleted_rising M t false leaves lemmas h = spent_rising M t [] lemmas h

-- a leaf after a log is as it was before, or one of the log's lemmas closes it, which stays
pub record ClosedByLog (M : ClauseMap) (t : ℕ) (accepted : Bool) (leaves : List Leaf) (lemmas : List Numbered) (k : Leaf) : Type 0 where
  pub was : accepted ≡ true
  pub lemma : Numbered
  pub is : k.closing ≡ Some lemma
  pub above : t < lemma.id
  pub lives : get M lemma.id ≡ Some lemma.clause
  pub ends : closes k.cube lemma.clause ≡ true
  pub kept : list_any (nat_eq lemma.id) (deleted accepted leaves lemmas) ≡ false
  pub among : Contains lemmas lemma

pub from_left : (M : ClauseMap) (t : ℕ) (accepted : Bool) (leaves : List Leaf) (lemmas : List Numbered) (k : Leaf) → AreRising M t lemmas → Contains (left_by accepted leaves lemmas) k
    → Contains leaves k ⊎ ClosedByLog M t accepted leaves lemmas k
from_left M t false leaves lemmas k h i = inl i
from_left M t true leaves lemmas k h i = elim (from_all_settled M t leaves lemmas k h i) [
  | inl old ↦ inl old
  | inr c ↦ inr (record { was = refl; lemma = c.lemma; is = c.is; above = c.above; lives = c.lives; ends = c.ends; kept = c.kept; among = c.among })
]

module _ (F : Cnf) (g : JoinState) (s : IsSound F g) (h : Handed) (is_log : IsLog F h.steps) where
  abbrev m : ℕ
  m = length F.clauses

  -- the clauses before the log
  abbrev pub before : ClauseMap
  before = after_steps (map_of F) g.steps

  abbrev pub moved : List Step
  moved = map (renumbered (behind (length F.clauses) g.top)) h.steps

  abbrev lemmas : List Numbered
  lemmas = lemmas_of F g.top h.steps

  abbrev ids : List ℕ
  ids = deleted h.accepted g.leaves (lemmas_of F g.top h.steps)

  low : length F.clauses ≤ g.top
  low = sound_low F g s

  bears : Bears F (after_steps (map_of F) g.steps)
  bears n C e = log_keeps (length F.clauses) (map_of F) (length F.clauses) g.steps (omega arith) s.log n C (between_formula F n C e).1 e

  mirrors : Mirrors (length F.clauses) g.top (map_of F) before
  mirrors = bears_mirrors F before g.top bears

  moved_own : AreLogSteps g.top before g.top moved
  moved_own = steps_mirrored (length F.clauses) g.top low h.steps (map_of F) before (length F.clauses) g.top (omega arith) (omega arith) mirrors is_log

  pub moved_top : top_of g.top moved ≡ g.top + additions h.steps
  moved_top = counted_top g.top before g.top moved moved_own ∙ ap (λ (n : ℕ). g.top + n) (additions_renumbered (behind (length F.clauses) g.top) h.steps)

  -- the steps of the log so far, after what was gathered
  pub within_log : AreLogSteps (length F.clauses) (map_of F) (length F.clauses) (g.steps ++ moved)
  within_log = log_append (length F.clauses) (map_of F) (length F.clauses) g.steps moved s.log
      (subst (λ (t : ℕ). AreLogSteps (length F.clauses) before t moved) (sym s.top) (log_weaker (length F.clauses) g.top before g.top moved low moved_own))

  pub within_top : top_of (length F.clauses) (g.steps ++ moved) ≡ g.top + additions h.steps
  within_top = top_append (length F.clauses) g.steps moved ∙ ap (λ (t : ℕ). top_of t moved) s.top ∙ moved_top

  pub within_mirrors : Mirrors (length F.clauses) g.top (after_steps (map_of F) h.steps) (after_steps (map_of F) (g.steps ++ moved))
  within_mirrors = subst (Mirrors (length F.clauses) g.top (after_steps (map_of F) h.steps)) (sym (after_append (map_of F) g.steps moved))
      (after_mirrored (length F.clauses) g.top low h.steps (map_of F) before mirrors)

  pub within_rising : AreRising (after_steps (map_of F) (g.steps ++ moved)) g.top (lemmas_of F g.top h.steps)
  within_rising = live_rising (length F.clauses) g.top (after_steps (map_of F) h.steps) (after_steps (map_of F) (g.steps ++ moved)) within_mirrors (length F.clauses + 1) (additions h.steps) g.top (omega arith) (omega arith)

  ids_rising : AreRisingNumbers (after_steps (map_of F) (g.steps ++ moved)) g.top ids
  ids_rising = deleted_rising (after_steps (map_of F) (g.steps ++ moved)) g.top h.accepted g.leaves lemmas within_rising

  stays : (n : ℕ) (C : Clause) → n ≤ g.top → get before n ≡ Some C → get (after_steps (map_of F) (g.steps ++ moved)) n ≡ Some C
  stays n C up e = ap (λ (N : ClauseMap). get N n) (after_append (map_of F) g.steps moved) ∙ log_keeps g.top before g.top moved (omega arith) moved_own n C up e

  behind_deletions : (n : ℕ) (C : Clause) → list_any (nat_eq n) ids ≡ false → get (after_steps (map_of F) (g.steps ++ moved)) n ≡ Some C
      → get (after_steps (map_of F) ((g.steps ++ moved) ++ deletions ids)) n ≡ Some C
  behind_deletions n C none e =
      ap (λ (N : ClauseMap). get N n) (after_append (map_of F) (g.steps ++ moved) (deletions ids)) ∙ deletions_keep (after_steps (map_of F) (g.steps ++ moved)) ids n none ∙ e

  pub log_more : IsSound F (with_log F g h)
  log_more = record {
    log = log_append (length F.clauses) (map_of F) (length F.clauses) (g.steps ++ moved) (deletions ids) within_log
        (deletions_log (length F.clauses) (after_steps (map_of F) (g.steps ++ moved)) (top_of (length F.clauses) (g.steps ++ moved)) g.top ids low ids_rising);
    top = top_append (length F.clauses) (g.steps ++ moved) (deletions ids) ∙ deletions_top (top_of (length F.clauses) (g.steps ++ moved)) ids ∙ within_top;
    closings = λ k l i e. elim (from_left (after_steps (map_of F) (g.steps ++ moved)) g.top h.accepted g.leaves lemmas k within_rising i) [
      | inl old ↦
          let c = s.closings k l old e in
          let up = (sound_between F g s l.id l.clause c.lives).1 in
          record {
            own = c.own;
            lives = behind_deletions l.id l.clause (not_in_rising (after_steps (map_of F) (g.steps ++ moved)) l.id g.top ids up ids_rising) (stays l.id l.clause up c.lives);
            ends = c.ends;
          }
      | inr c ↦
          let same_lemma : c.lemma ≡ l = some_same c.lemma l (sym c.is ∙ e) in
          subst (λ (z : Numbered). ClosesLive (length F.clauses) (after_steps (map_of F) ((g.steps ++ moved) ++ deletions ids)) k.cube z) same_lemma (record {
            own = (let a = c.above in let b = low in omega arith);
            lives = behind_deletions c.lemma.id c.lemma.clause c.kept c.lives;
            ends = c.ends;
          })
    ];
  }
    where
      some_same : (x y : Numbered) → ◌≡◌ {A = Option Numbered} (Some x) (Some y) → x ≡ y
      some_same x y f = cc

-- ---- all logs
nothing_sound : (F : Cnf) (cubes : List Cube) → IsSound F (nothing F cubes)
nothing_sound F cubes = record {
  log = tt;
  top = refl;
  closings = λ k l i e.
      let r = from_map (λ (q : Cube). record { cube = q; closing = None }) cubes k i in
      let none : ◌≡◌ {A = Option Numbered} None (Some l) = ap (λ (z : Leaf). z.closing) r.2 ∙ e in
      absurd cc;
}

logs_sound : (F : Cnf) (g : JoinState) (logs : List Handed) → AreLogs F logs → IsSound F g → IsSound F (fold (with_log F) g logs)
logs_sound F g [] are s = s
logs_sound F g (h ∷ logs) are s =
    logs_sound F (with_log F g h) logs (All-tail (λ (x : Handed). IsLog F x.steps) h logs are) (log_more F g s h (All-head (λ (x : Handed). IsLog F x.steps) h logs are))

pub gathered_sound : (F : Cnf) (cubes : List Cube) (logs : List Handed) → AreLogs F logs → IsSound F (joined_so_far F cubes logs)
gathered_sound F cubes logs are = logs_sound F (nothing F cubes) logs are (nothing_sound F cubes)
