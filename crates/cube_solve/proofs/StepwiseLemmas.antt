-- A search that is run in steps: what each call keeps, and what the end says of the whole log.
use Rattle.std.proofs.Common.{◌≡◌, ℕ, ◌+◌, ◌^◌, ◌≤◌, inl, inr, List, [], ◌++◌, length, Option, Some, None, append_assoc, sym, ◌∙◌, ap, subst, arith}
use Rattle.std.specs.List.{Contains}
use Rattle.std.proofs.lemmas.List.{append-nil, length-append}
use Rattle.dimacs.specs.logic.Cnf.{Cnf}
use Rattle.dimacs.specs.logic.ClauseMap.{Live}
use Rattle.dimacs.specs.logic.Literal.{Literal, Clause, negation}
use Rattle.clause_arena.specs.Clauses.{Clauses, live_of}
use Rattle.conflict_analysis.specs.declared.final_analysis.Closing.{Closing}
use Rattle.lrat_text.specs.Grammar.{IsClauseNumber}
use Rattle.lrat_text.specs.Log.{Cube}
use Rattle.lrat_text.specs.WrittenLine.{line_of}
use Rattle.lrat_text.specs.declared.step.Step.TheVariants.{Add, Delete}
use Rattle.lrat_text.proofs.LineLemmas.{step_more}
use Rattle.watches.specs.Law.{SameUpToOrder}
use Rattle.watches.specs.Trails.{TrailValue}
use Rattle.cube_solve.specs.Counts.{IsCounted}
use Rattle.cube_solve.specs.Outcome.{allowed}
use Rattle.cube_solve.specs.Stepwise.{IsUnderWay, Reaches}
use Rattle.cube_solve.specs.declared.observer.Counts.{Counts}
use Rattle.cube_solve.specs.declared.search.Search.{Search}
use Rattle.cube_solve.specs.declared.state.State.{State}
use Rattle.cube_solve.specs.declared.stepwise.End.{End}
use Rattle.cube_solve.specs.declared.stepwise.End.TheVariants as end
use Rattle.cube_solve.specs.declared.stepwise.Stepwise.{Stepwise}
use Rattle.cube_solve.specs.inner.LearntLog.{AreBelow, IsSearch, IsWritten, Learns}
use Rattle.cube_solve.specs.inner.Reduction.{MayReduce}
use Rattle.cube_solve.specs.inner.SearchInvariants.{IsSteady}
use Rattle.cube_solve.specs.inner.State.{IsAssuming}
use Rattle.cube_solve.specs.inner.Turns.{HasClosed, IsClosedAt, IsTurned}
use Rattle.cube_solve.proofs.CountLemmas.{counted}
use Rattle.cube_solve.proofs.ReductionLemmas.{lemmas_same}
use Rattle.cube_solve.proofs.SearchLemmas.{closed, next_below, next_number, search_same}
use Rattle.cube_solve.proofs.UnitClauseLemmas.{noted_same}

-- ---- behind the text that was handed out
pub written_behind : (before : List ℕ) (live : Live) (vars id : ℕ) (lits : Clause) (a b : List ℕ) → IsWritten live vars id lits a b → IsWritten live vars id lits (before ++ a) (before ++ b)
written_behind before live vars id lits a b w = record {
  hints = w.hints;
  rup = w.rup;
  within = w.within;
  few = w.few;
  limits = w.limits;
  text = ap (λ (t : List ℕ). before ++ t) w.text ∙ sym (append_assoc before a (line_of id (Add id lits w.hints [])));
}

pub learns_behind : (before : List ℕ) (vars id : ℕ) (old new : Live) (a b : List ℕ) → Learns vars id old new a b → Learns vars id old new (before ++ a) (before ++ b)
learns_behind before vars id old new a b l =
    record { lits = l.lits; written = written_behind before old vars id l.lits a b l.written; is_new = l.is_new; added = l.added }

pub reduces_behind : (before : List ℕ) (first : ℕ) (old new : Live) (a b : List ℕ) → MayReduce first old new a b → MayReduce first old new (before ++ a) (before ++ b)
reduces_behind before first old new a b h = elim h [
  | inl same ↦ inl (same.0, ap (λ (t : List ℕ). before ++ t) same.1)
  | inr f ↦ inr (record {
    ids = f.ids;
    some = f.some;
    top = f.top;
    numbered = f.numbered;
    limits = f.limits;
    lemmas = f.lemmas;
    many = f.many;
    written = ap (λ (t : List ℕ). before ++ t) f.written ∙ sym (append_assoc before a (line_of f.top (Delete f.ids)));
    less = f.less;
  })
]

module _ {P : Type 0} (is_ready : P → Clauses → TrailValue → Type 0) (attached : P → List ℕ) (B : Cnf) (q : Cube) (limit : ℕ) (before : List ℕ) (s : Stepwise P)
    (h : IsUnderWay is_ready attached B q limit before s) where
  -- ---- what the invariant says of numbers
  pub few_vars : s.search.state.trail.vars ≤ 199999999
  few_vars = let v = (h.learnt).vars in let f = (h.base).vars in omega arith

  pub few_lemmas : s.learnt ≤ 2 ^ 47
  few_lemmas = let f = h.few in let m = h.most in omega arith

  pub number : IsClauseNumber (s.clauses + 1 + s.learnt)
  number = next_number B s.clauses s.learnt h.base h.clauses few_lemmas

  pub below : AreBelow (s.clauses + 1 + s.learnt) (live_of s.search.state.arena)
  below = next_below B s.clauses s.learnt s.search.state.arena s.search.state.trail (before ++ s.search.log) h.clauses h.learnt

  -- ---- a descent
  pub descended : (t : State P) → IsSteady is_ready attached t → SameUpToOrder s.search.state.arena t.arena → t.trail.vars ≡ s.search.state.trail.vars → IsAssuming q t.trail.entries t.assumed
      → IsUnderWay is_ready attached B q limit before (record s { search = record s.search { state = t } })
  descended t steady same vars assuming = record {
    steady = steady;
    learnt = search_same B s.learnt s.search.state.arena t.arena s.search.state.trail t.trail (before ++ s.search.log) h.learnt same vars;
    lemmas = lemmas_same (length B.clauses + 1) s.search.state.arena t.arena s.search.lemmas.items same h.lemmas;
    noted = noted_same s.search.state.arena t.arena s.search.units.numbers.items same h.noted;
    assuming = assuming;
    distinct = h.distinct;
    within = h.within;
    base = h.base;
    clauses = h.clauses;
    most = h.most;
    few = h.few;
    taken = h.taken;
  }

  -- ---- the counts of the log so far
  pub counts_tell : (c : Counts) → c.conflicts ≡ s.learnt → c.lemmas ≡ length s.search.lemmas.items → IsCounted B c (before ++ s.search.log)
  counts_tell c conflicts lemmas =
      counted B s.learnt s.search.state.arena s.search.state.trail (before ++ s.search.log) s.search.lemmas.items c h.learnt h.lemmas conflicts lemmas

  -- ---- the end
  module _ (closing : Closing) (u : Stepwise P) (e : HasClosed closing s u) (negates : (l : Literal) → Contains e.lits l → Contains q (negation l)) where
    pub closed_at : IsClosedAt B q limit before u
    closed_at =
        let w = written_behind before (live_of s.search.state.arena) s.search.state.trail.vars (s.clauses + 1 + s.learnt) e.lits s.search.log u.search.log e.written in
        let is : s.clauses + 1 + s.learnt ≡ length B.clauses + 1 + s.learnt = (let n = h.clauses in omega arith) in
        let few : s.learnt ≤ allowed limit = (let f = h.few in let m = h.most in omega arith) in
        let ends = closed B s.search.state.trail.vars s.learnt (s.clauses + 1 + s.learnt) (live_of s.search.state.arena) e.lits (before ++ s.search.log) (before ++ u.search.log) (h.learnt).vars is number
        (h.learnt).learnt w q (allowed limit) few negates in
        record {
          closes = ends.0;
          brief = ends.1;
          counted = λ c conflicts lemmas. record {
            before = before ++ s.search.log;
            counted = counts_tell c (conflicts ∙ ap (λ (x : Stepwise P). x.learnt) e.same) (lemmas ∙ ap (λ (x : Stepwise P). length x.search.lemmas.items) e.same);
            id = s.clauses + 1 + s.learnt;
            lits = e.lits;
            hints = w.hints;
            limits = step_more s.search.state.trail.vars 199999999 w.few (Add (s.clauses + 1 + s.learnt) e.lits w.hints []) w.limits;
            whole = w.text;
          };
          taken = h.taken ∙ sym (ap (λ (x : Stepwise P). x.taken) e.same);
        }

-- ---- what a call hands out
module _ {P : Type 0} (is_ready : P → Clauses → TrailValue → Type 0) (attached : P → List ℕ) (B : Cnf) (q : Cube) (limit : ℕ) (before : List ℕ) (s u : Stepwise P)
    (c : Counts) (conflicts : c.conflicts ≡ s.learnt) (lemmas : c.lemmas ≡ length s.search.lemmas.items) (bytes : c.bytes ≡ s.taken + length s.search.log) where
  abbrev whole : List ℕ
  whole = before ++ s.search.log

  long : length before ≡ s.taken → length whole ≡ c.bytes
  long taken = length-append before s.search.log ∙ ap (λ n. n + length s.search.log) taken ∙ sym bytes

  handed_on : (x : Search P) → x ≡ record s.search { log = [] } → IsUnderWay is_ready attached B q limit before s → u ≡ record s { search = x; taken = c.bytes }
      → IsUnderWay is_ready attached B q limit whole u
  handed_on x rest h is = subst (IsUnderWay is_ready attached B q limit whole) (sym (is ∙ ap (λ (y : Search P). record s { search = y; taken = c.bytes }) rest)) (record {
    steady = h.steady;
    learnt = subst (λ (t : List ℕ). IsSearch B s.learnt s.search.state.arena s.search.state.trail t) (sym (append-nil whole)) h.learnt;
    lemmas = h.lemmas;
    noted = h.noted;
    assuming = h.assuming;
    distinct = h.distinct;
    within = h.within;
    base = h.base;
    clauses = h.clauses;
    most = h.most;
    few = h.few;
    taken = long h.taken;
  })

  pub reached : (x : Search P) → x ≡ record s.search { log = [] } → u ≡ record s { search = x; taken = c.bytes } → (e : Option End) → IsTurned is_ready attached B q limit before e s
      → Reaches is_ready attached B q limit c whole e u × (length whole ≡ c.bytes)
  reached x rest is None h = ((handed_on x rest h is, counts_tell is_ready attached B q limit before s h c conflicts lemmas), long h.taken)
  reached x rest is (Some (end.Model values)) (h, model) = ((model, counts_tell is_ready attached B q limit before s h c conflicts lemmas), long h.taken)
  reached x rest is (Some end.Refuted) h = ((h.closes, h.brief, h.counted c conflicts lemmas), long h.taken)
  reached x rest is (Some end.Limit) (h, ends, full) =
      ((ends.honest, ends.fresh, ends.conflict, counts_tell is_ready attached B q limit before s h c conflicts lemmas, conflicts ∙ full), long h.taken)
