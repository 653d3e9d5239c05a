-- Lemmas and imports of a cell are true wherever the formula is: by induction over the clock, and within that along the lines of a log.
use Rattle.std.proofs.Common.{◌≡◌, ℕ, zero, suc, ◌+◌, ◌<◌, ◌≤◌, Bool, true, false, not, cond, List, [], ◌∷◌, ◌++◌, length, fold, Some, None, refl, sym, ◌∙◌, ap, subst, arith}
use Rattle.std.specs.Prelude.{nat_eq}
use Rattle.std.specs.List.{Contains, All, enumerate_from, list_any}
use Rattle.std.specs.FinMap.{get, insert, find, get-insert, get-retain_keys, get-from_entries, nat_cmp-IsAntisymmetric}
use Rattle.std.specs.Ordering.{nat_cmp, eq_by_cmp}
use Rattle.std.specs.Cmp.{nat_cmp_total}
use Rattle.std.proofs.lemmas.List.Elements.{All-head, All-tail}
use Rattle.dimacs.specs.logic.ClauseMap.{ClauseMap, map_of, live_in}
use Rattle.dimacs.specs.logic.Cnf.{Cnf, Sat}
use Rattle.dimacs.specs.logic.Literal.{Clause, IsTrueIn}
use Rattle.lrat_text.specs.Proof.{without}
use Rattle.lrat_check.proofs.Truth.{Satisfies, rup_true}
use Rattle.shared_logs.specs.SharedLogs.{SharedStep, Lemma, Import, Deletion, Clock, SharedLogState, initial_state, after_line, clock_after, IsSharedStep, AreSharedSteps, HasLine, SharedLog, Cell, IsSupported, AreImportsSupported, IsCell, clock_of, SharedLemmasFollow, ImportsFollow}
use Rattle.shared_logs.proofs.LineLemmas.{AllLines, all_lines, clocks_rise}

-- ---- live clauses
with_clause : (a : ℕ → Bool) (M : ClauseMap) (id : ℕ) (C : Clause) → Satisfies a (live_in M) → IsTrueIn a C → Satisfies a (live_in (insert M id C))
with_clause a M id C sat t q D live = at (eq_by_cmp nat_cmp q id) (sym (get-insert nat_cmp_total M id C q) ∙ live)
  where
    at : (b : Bool) → cond b (Some C) (get M q) ≡ Some D → IsTrueIn a D
    at true e = let is : C ≡ D = cc in subst (IsTrueIn a) is t
    at false e = sat q D e

without_clauses : (a : ℕ → Bool) (M : ClauseMap) (ids : List ℕ) → Satisfies a (live_in M) → Satisfies a (live_in (without M ids))
without_clauses a M ids sat q D live = at (not (list_any (nat_eq q) ids)) (sym is ∙ live)
  where
    is : get (without M ids) q ≡ cond (not (list_any (nat_eq q) ids)) (get M q) None
    is = get-retain_keys M (λ id. not (list_any (nat_eq id) ids)) q (λ x e. ap (λ (y : ℕ). not (list_any (nat_eq y) ids)) (sym (nat_cmp-IsAntisymmetric q x e)))

    at : (b : Bool) → cond b (get M q) None ≡ Some D → IsTrueIn a D
    at true e = sat q D e
    at false e = cc

found_true : (a : ℕ → Bool) (F : List Clause) (n q : ℕ) (C : Clause) → All (IsTrueIn a) F → find nat_cmp q (enumerate_from n F) ≡ Some C → IsTrueIn a C
found_true a [] n q C sat e = absurd (no_clause e)
  where
    no_clause : None ≡ Some C → ⊥
    no_clause e = cc
found_true a (D ∷ F) n q C sat e =
    at (eq_by_cmp nat_cmp q n) (λ is. found_true a F (n + 1) q C (All-tail (IsTrueIn a) D F sat) is) e
  where
    at : (b : Bool) → (find nat_cmp q (enumerate_from (n + 1) F) ≡ Some C → IsTrueIn a C)
        → cond b (Some D) (find nat_cmp q (enumerate_from (n + 1) F)) ≡ Some C → IsTrueIn a C
    at true rest is = let same : D ≡ C = cc in subst (IsTrueIn a) same (All-head (IsTrueIn a) D F sat)
    at false rest is = rest is

formula_true : (a : ℕ → Bool) (F : Cnf) → Sat a F → Satisfies a (live_in (map_of F))
formula_true a F sat q C live = found_true a F.clauses 1 q C sat (sym (get-from_entries nat_cmp_total (enumerate_from 1 F.clauses) q) ∙ live)

-- ---- along a log
-- the clause of a lemma or an import is true
abbrev pub IsTrueLine : (ℕ → Bool) → SharedStep → Type 0
IsTrueLine a (Lemma number C hints) = IsTrueIn a C
IsTrueLine a (Import number C name there) = IsTrueIn a C
IsTrueLine a (Deletion numbers) = Unit {0}
IsTrueLine a (Clock time) = Unit {0}

-- the line is no import, or the time is after t, or its clause is true
abbrev IsTrueImport : (ℕ → Bool) → ℕ → SharedStep → ℕ → Type 0
IsTrueImport a t (Lemma number C hints) time = Unit {0}
IsTrueImport a t (Import number C name there) time = time ≤ t → IsTrueIn a C
IsTrueImport a t (Deletion numbers) time = Unit {0}
IsTrueImport a t (Clock later) time = Unit {0}

line_true : (a : ℕ → Bool) (t m : ℕ) (s : SharedLogState) (line : SharedStep) → Satisfies a (live_in s.live) → IsSharedStep m s line → IsTrueImport a t line s.clock → s.clock ≤ t → IsTrueLine a line
line_true a t m s (Lemma number C hints) sat step import low = rup_true a (live_in s.live) C hints sat step.1
line_true a t m s (Import number C name there) sat step import low = import low
line_true a t m s (Deletion numbers) sat step import low = tt
line_true a t m s (Clock time) sat step import low = tt

line_keeps : (a : ℕ → Bool) (s : SharedLogState) (line : SharedStep) → Satisfies a (live_in s.live) → IsTrueLine a line → Satisfies a (live_in ((after_line s line).live))
line_keeps a s (Lemma number C hints) sat t = with_clause a s.live number C sat t
line_keeps a s (Import number C name there) sat t = with_clause a s.live number C sat t
line_keeps a s (Deletion numbers) sat t = without_clauses a s.live numbers sat
line_keeps a s (Clock time) sat t = sat

-- along the lines before it all live clauses are true, since clocks rise and so all imports there are at a time up to t
lines_true : (a : ℕ → Bool) (t m : ℕ) (s : SharedLogState) (before after : List SharedStep) (line : SharedStep) → Satisfies a (live_in s.live)
    → AreSharedSteps m s (before ++ line ∷ after) → AllLines (IsTrueImport a t) s.clock (before ++ line ∷ after) → fold clock_after s.clock before ≤ t → IsTrueLine a line
lines_true a t m s [] after line sat steps imports low = line_true a t m s line sat steps.0 imports.0 low
lines_true a t m s (x ∷ before) after line sat steps imports low =
    let rising = clocks_rise m s (x ∷ before) (line ∷ after) steps in
    let soon : s.clock ≤ t = omega (arith, rising, low) in
    lines_true a t m (after_line s x) before after line (line_keeps a s x sat (line_true a t m s x sat steps.0 imports.0 soon)) steps.1 imports.1 low

-- ---- over the clock
-- earlier: the lemmas and imports at times below t are true
import_true : (a : ℕ → Bool) (cell : Cell) (t : ℕ)
    → ((log : SharedLog) → Contains cell log → (line : SharedStep) (time : ℕ) → time < t → HasLine log.steps line time → IsTrueLine a line)
    → (C : Clause) (name : List ℕ) (number time : ℕ) → IsSupported cell time C name number → time ≤ t → IsTrueIn a C
import_true a cell t earlier C name number time s low =
    let lower = s.earlier in
    let soon : s.written < t = omega arith in
    earlier s.log s.within (Lemma number C s.writes.0) s.written soon s.writes.1

imported : (a : ℕ → Bool) (cell : Cell) (t : ℕ)
    → ((log : SharedLog) → Contains cell log → (line : SharedStep) (time : ℕ) → time < t → HasLine log.steps line time → IsTrueLine a line)
    → (steps : List SharedStep) → AreImportsSupported cell steps
    → (before after : List SharedStep) (line : SharedStep) → steps ≡ before ++ line ∷ after → IsTrueImport a t line (clock_of before)
imported a cell t earlier steps supported before after (Lemma number C hints) e = tt
imported a cell t earlier steps supported before after (Import number C name there) e =
    import_true a cell t earlier C name there (clock_of before)
    (supported C name there (clock_of before) (number, record { before = before; after = after; splits = e; clock = refl }))
imported a cell t earlier steps supported before after (Deletion numbers) e = tt
imported a cell t earlier steps supported before after (Clock later) e = tt

-- lemmas and imports at times below t are true
before_true : (a : ℕ → Bool) (F : Cnf) (cell : Cell) → Sat a F → IsCell F cell
    → (t : ℕ) (log : SharedLog) → Contains cell log → (line : SharedStep) (time : ℕ) → time < t → HasLine log.steps line time → IsTrueLine a line
before_true a F cell sat is zero log within line time low has = absurd (omega arith)
before_true a F cell sat is (suc t) log within line time low has =
    let clock = has.clock in
    let soon : clock_of has.before ≤ t = omega arith in
    lines_true a t (length F.clauses) (initial_state F) has.before has.after line (formula_true a F sat)
    (subst (AreSharedSteps (length F.clauses) (initial_state F)) has.splits (is.logs log within))
    (subst (AllLines (IsTrueImport a t) 0) has.splits (all_lines (IsTrueImport a t) 0 log.steps
    (imported a cell t (before_true a F cell sat is t) log.steps (is.imports log within))))
    soon

pub lemmas_follow : SharedLemmasFollow
lemmas_follow F cell is log within number C time writes a sat =
    before_true a F cell sat is (suc time) log within (Lemma number C writes.0) time (omega arith) writes.1

pub imports_follow : ImportsFollow
imports_follow F cell is log within C name there time imports a sat =
    before_true a F cell sat is (suc time) log within (Import imports.0 C name there) time (omega arith) imports.1
