-- A search whose log is handed on step by step.
use Rattle.std.proofs.Common.{◌≡◌, ℕ, ◌+◌, ◌^◌, ◌≤◌, inl, inr, Bool, List, [], ◌∷◌, ◌++◌, length, map, Option, Some, None, IfSome, append_assoc, refl, sym, ◌∙◌, ap, subst, arith}
use Rattle.std.specs.List.{All}
use Rattle.std.proofs.lemmas.List.{length-append, map-append}
use Rattle.std.proofs.lemmas.List.Elements.{All-append, All-head, All-nil, All-tail}
use Rattle.clause_arena.specs.Clauses.{Clauses}
use Rattle.cube_solve.specs.Outcome.{allowed}
use Rattle.cube_solve.specs.Stepwise.{IsAdvanced, Reaches}
use Rattle.cube_solve.specs.declared.observer.Counts.{Counts}
use Rattle.cube_solve.specs.declared.stepwise.Advance.{Advance}
use Rattle.cube_solve.specs.declared.stepwise.End.{End}
use Rattle.cube_solve.specs.declared.stepwise.End.TheVariants as finish
use Rattle.cube_solve.specs.declared.stepwise.Stepwise.{Stepwise}
use Rattle.dimacs.specs.logic.Cnf.{Cnf}
use Rattle.formula_search.specs.Decisions.{Decides, DecidesTo}
use Rattle.formula_search.specs.declared.decision.Asked.{Asked}
use Rattle.formula_search.specs.declared.streaming.Ending.{Ending}
use Rattle.formula_search.specs.inner.Streams.{AreLines, HasEnded, HasStreamed, IsEndedBy, IsMoved, IsMovedBy, IsStreaming}
use Rattle.lrat_text.specs.Grammar.{IsClauseNumber, IsStepWithin}
use Rattle.lrat_text.specs.Log.{top_after}
use Rattle.lrat_text.specs.Runs.{text_of}
use Rattle.lrat_text.specs.WrittenLine.{line_of}
use Rattle.lrat_text.specs.declared.step.Step.{Step}
use Rattle.lrat_text.specs.declared.step.Step.TheVariants.{Add, Delete}
use Rattle.lrat_text.proofs.RunLemmas.{spells_append_within}
use Rattle.proof_join.specs.RenumberedSteps.{renumbered}
use Rattle.renumbered_logs.specs.Renumbered.{Avoids, GoesOn, behind_all, steps_behind}
use Rattle.renumbered_logs.specs.declared.renumbering.Renumbering.{Renumbering}
use Rattle.reports.specs.declared.report.Report.{Report}
use Rattle.watches.specs.Trails.{TrailValue}

pub if_some : {X : Type 0} (o : Option X) (x : X) (Q : X → Type 0) → o ≡ Some x → IfSome o Q → Q x
if_some o x Q e h = subst (λ y. IfSome y Q) e h

pub some_weaker : {X : Type 0} (o : Option X) (Q R : X → Type 0) → ((x : X) → Q x → R x) → IfSome o Q → IfSome o R
some_weaker None Q R f h = tt
some_weaker (Some x) Q R f h = f x h

-- ---- lines
pub lines_append : (a b : List ℕ) (xs ys : List Step) → AreLines a xs → AreLines b ys → AreLines (a ++ b) (xs ++ ys)
lines_append a b [] ys e h = subst (λ (t : List ℕ). AreLines (t ++ b) ys) (sym e) h
lines_append a b (x ∷ xs) ys (top, rest, number, e, more) h =
    (top, rest ++ b, number, ap (λ (t : List ℕ). t ++ b) e ∙ append_assoc (line_of top x) rest b, lines_append rest b xs ys more h)

-- the number of the last addition stays a clause number
numbered : (most top : ℕ) (x : Step) → IsClauseNumber top → IsStepWithin most x → IsClauseNumber (top_after top x)
numbered most top (Add id lits hints groups) number h = h.0
numbered most top (Delete ids) number h = number

lines_of : (most top : ℕ) (steps : List Step) → IsClauseNumber top → All (IsStepWithin most) steps → AreLines (text_of top steps) steps
lines_of most top [] number h = refl
lines_of most top (x ∷ xs) number h =
    let first : IsStepWithin most x = All-head (IsStepWithin most) x xs h in
    (top, text_of (top_after top x) xs, number, refl, lines_of most (top_after top x) xs (numbered most top x number first) (All-tail (IsStepWithin most) x xs h))

-- ---- lines that are handed on
pub goes_moved : (numbers : List ℕ) (all : ℕ) (gone : List Bool) (log new : List ℕ) → IsClauseNumber all → GoesOn numbers all gone log [] new → IsMoved numbers all gone log new
goes_moved numbers all gone log new number g = record {
  steps = g.steps;
  spelled = g.spelled;
  avoid = g.avoid;
  limits = g.limits;
  lines = subst (λ (t : List ℕ). AreLines t (steps_behind numbers all g.steps)) (sym g.text) (lines_of 199999999 all (steps_behind numbers all g.steps) number g.limits);
}

pub moved_none : (places : Option Renumbering) → IsMovedBy places [] []
moved_none None = refl
moved_none (Some p) = record { steps = []; spelled = refl; avoid = All-nil (Avoids p.eliminated.now); limits = All-nil (IsStepWithin 199999999); lines = refl }

pub moved_more : (places : Option Renumbering) (log file text more : List ℕ) → IsMovedBy places log file → IsMovedBy places text more → IsMovedBy places (log ++ text) (file ++ more)
moved_more None log file text more h g = ap (λ (t : List ℕ). t ++ more) h ∙ ap (λ (t : List ℕ). log ++ t) g
moved_more (Some p) log file text more h g =
    let place : ℕ → ℕ = behind_all p.numbers.now p.all in
    let is : steps_behind p.numbers.now p.all (h.steps ++ g.steps) ≡ steps_behind p.numbers.now p.all h.steps ++ steps_behind p.numbers.now p.all g.steps = map-append (renumbered place) h.steps g.steps in
    record {
      steps = h.steps ++ g.steps;
      spelled = spells_append_within 199999999 log text h.steps g.steps h.spelled g.spelled;
      avoid = All-append (Avoids p.eliminated.now) h.steps g.steps h.avoid g.avoid;
      limits = subst (λ (xs : List Step). All (IsStepWithin 199999999) xs) (sym is)
          (All-append (IsStepWithin 199999999) (steps_behind p.numbers.now p.all h.steps) (steps_behind p.numbers.now p.all g.steps) h.limits g.limits);
      lines = subst (λ (xs : List Step). AreLines (file ++ more) xs) (sym is)
          (lines_append file more (steps_behind p.numbers.now p.all h.steps) (steps_behind p.numbers.now p.all g.steps) h.lines g.lines);
    }

-- ---- one step
module _ {P : Type 0} (is_ready : P → Clauses → TrailValue → Type 0) (attached : P → List ℕ) (B : Cnf) (limit : ℕ) (places : Option Renumbering) where
  reaches_end : (c : Counts) (text : List ℕ) (e : End) (s : Stepwise P) → Reaches is_ready attached B [] limit c text (Some e) s → IsEndedBy B limit c text e
  reaches_end c text (finish.Model values) s h = h
  reaches_end c text finish.Refuted s h = h
  reaches_end c text finish.Limit s h = (h.0, h.2, h.3, h.4)

  module _ (old now new : List ℕ → Type 0) (bytes all : ℕ) (s u : Stepwise P) (h : IsStreaming is_ready attached B limit places old now bytes s) (a : Advance)
      (done : IsAdvanced is_ready attached B [] limit h.log a u) (file : List ℕ) (moved : IsMovedBy places a.text file) (long : all ≡ bytes + length file)
      (handed : (before : List ℕ) → now before → new (before ++ file)) where
    long_all : length (h.file ++ file) ≡ all
    long_all = length-append h.file file ∙ ap (λ n. n + length file) h.long ∙ sym long

    handed_all : (before : List ℕ) → old before → new (before ++ (h.file ++ file))
    handed_all before i = subst new (append_assoc before h.file file) (handed (before ++ h.file) (h.handed before i))

    pub goes_on : a.end ≡ None → IsStreaming is_ready attached B limit places old new all u
    goes_on none =
        let r = subst (λ (e : Option End). Reaches is_ready attached B [] limit a.counts (h.log ++ a.text) e u) none done.reaches in
        record { log = h.log ++ a.text; file = h.file ++ file; under = r.0; moved = moved_more places h.log h.file a.text file h.moved moved; long = long_all; handed = handed_all }

    pub has_ended : (e : End) → a.end ≡ Some e → HasStreamed B limit places old new (record { end = e; counts = a.counts; bytes = all })
    has_ended e some = record {
      log = h.log ++ a.text;
      file = h.file ++ file;
      moved = moved_more places h.log h.file a.text file h.moved moved;
      long = long_all;
      counted = done.bytes;
      ends = reaches_end a.counts (h.log ++ a.text) e u (subst (λ (x : Option End). Reaches is_ready attached B [] limit a.counts (h.log ++ a.text) x u) some done.reaches);
      handed = handed_all;
    }

-- ---- the end
pub whole_ended : (B : Cnf) (limit : ℕ) (old new : List ℕ → Type 0) (e : Ending) → HasStreamed B limit None old new e → old [] → HasEnded B limit new e
whole_ended B limit old new e h begins = record { log = h.log; there = subst new h.moved (h.handed [] begins); ends = h.ends; bytes = h.counted }

-- an end within a limit is one within a greater limit, if it is not at the limit
pub ended_longer : (B : Cnf) (few most : ℕ) → few ≤ most → (c : Counts) (text : List ℕ) (e : End) → ¬ (e ≡ finish.Limit) → IsEndedBy B few c text e → IsEndedBy B most c text e
ended_longer B few most more c text (finish.Model values) other h = h
ended_longer B few most more c text finish.Refuted other h =
    let b = h.1 in
    (h.0, record { front = b.front; last = b.last; spells = b.spells; count = (let n = b.count in omega arith); fresh = b.fresh }, h.2)
ended_longer B few most more c text finish.Limit other h = absurd (other refl)

pub to_sink : (F : Cnf) (asked : Asked) (log : List ℕ) (has : List ℕ → Type 0) (r : Report) → DecidesTo F asked (λ proof. proof ≡ log) r → has log → DecidesTo F asked has r
to_sink F asked log has r (inl h) there = inl h
to_sink F asked log has r (inr (inl h)) there = inr (inl (record {
  status = h.status;
  proof = h.proof;
  proves = h.proves;
  there = (subst has (sym (h.there).0) there, (h.there).1);
  counts = h.counts;
  counted = h.counted;
  bytes = h.bytes;
  text = h.text;
}))
to_sink F asked log has r (inr (inr h)) there = inr (inr h)

-- ---- a proof that is kept in memory
pub proof_put : (F : Cnf) (asked : Asked) (text : List ℕ) (r : Report) → r.status ≡ 20 → DecidesTo F asked (λ proof. text ≡ proof) r → Decides F asked (record r { proof = Some text })
proof_put F asked text r is (inl h) = let e = h.status in absurd (omega arith)
proof_put F asked text r is (inr (inl h)) = inr (inl (record {
  status = h.status;
  proof = h.proof;
  proves = h.proves;
  there = ap (λ (t : List ℕ). Some t) (h.there).0;
  counts = h.counts;
  counted = h.counted;
  bytes = h.bytes;
  text = h.text;
}))
proof_put F asked text r is (inr (inr h)) = let e = h.status in absurd (omega arith)

pub proof_left : (F : Cnf) (asked : Asked) (text : List ℕ) (r : Report) → ¬ (r.status ≡ 20) → DecidesTo F asked (λ proof. text ≡ proof) r → Decides F asked r
proof_left F asked text r other (inl h) = inl h
proof_left F asked text r other (inr (inl h)) = absurd (other h.status)
proof_left F asked text r other (inr (inr h)) = inr (inr h)
