use Rattle.std.proofs.Common.{List, [], ◌∷◌, ◌++◌, map, append_assoc, refl, sym, ◌∙◌, ap, subst}
use Rattle.std.specs.List.{All}
use Rattle.std.specs.Option.{IfSome}
use Rattle.std.proofs.lemmas.List.Elements.{All-append, All-cons, All-nil}
use Rattle.dimacs.specs.logic.ClauseMap.{ClauseMap}
use Rattle.dimacs.specs.logic.Cnf.{Cnf}
use Rattle.dimacs.specs.logic.Literal.{IsWithin, negation}
use Rattle.lrat_text.specs.Runs.{after_steps}
use Rattle.cube_solve.specs.Session.{IsSolution}
use Rattle.cube_solve.specs.SessionLog.{FitsQuery, HasFailed, IsFailure, IsOver}
use Rattle.cube_solve.specs.declared.answer.Answer.{Answer}
use Rattle.cube_solve.proofs.SessionLemmas.{from_map}
use Rattle.shared_logs.specs.SharedLogs.{SharedStep, Lemma}
use Rattle.cell_worker.specs.WorkerLog.{HasWritten, IsOwn, formula_in, log_state, vars_in}
use Rattle.cell_worker.specs.declared.turn.Turn.TheVariants as turn
use Rattle.cell_worker.proofs.PartLemmas.{failure_part, part_steps}
use Rattle.cell_worker.proofs.RestoredLemmas.{turned_so}
use Rattle.cell_worker.proofs.TextLemmas.{all_own, own}
use Rattle.cell_worker.proofs.WrittenLemmas.{own_live, part_plain, part_within, written_lines}
use Rattle.cell_worker.proofs.worker.CellWorker.turn.Goals as goal

pub settle-requires-clause-whole : goal.settle-requires-clause-whole
settle-requires-clause-whole g c =
    subst (IsOver (vars_in c.args.self.now)) c.in-Satisfied.is c.in_ok-answer.ensures.over ∙ (c.requires.ready).whole ∙ ap (λ (f : Cnf). f.vars) (sym c.in_ok-take_lines.ensures.formula)

pub settle-requires-clause-within : goal.settle-requires-clause-within
settle-requires-clause-within g c = subst (λ n. All (IsWithin n) c.args.query.now) (sym (c.in_ok-take_lines.ensures.vars ∙ c.in_ok-answer.ensures.vars)) c.requires.within

pub returns-in_ok-number-in-Failed-clause-stands : goal.returns-in_ok-number-in-Failed-clause-stands
returns-in_ok-number-in-Failed-clause-stands g c = λ F names steps text h.
    let s = c.args.self.now in
    let asked = c.ask.new.self in
    let u = c.take_lines.new.self in
    let query = c.args.query.now in
    let e = c.in_ok-answer.ensures in
    let t = c.in_ok-take_lines.ensures in
    let st = log_state F steps in
    let x = e.tells h.given h.knows h.known in
    let w = written_lines F names steps text s u asked h x ((c.requires.ready).session).few t.log t.empty t.formula t.vars t.last t.clock t.names t.known in
    let is = c.in-Failed.is in
    let core = c.in-Failed.failure.core.items in
    let hints = c.in-Failed.failure.hints.items in
    let part = subst (FitsQuery query) is e.fits in
    let failed = subst (λ (a : Answer). HasFailed a asked) is e.failed in
    let knows = after_steps h.knows x.steps in
    let live = after_steps st.live x.steps in
    let fails = subst (λ (M : ClauseMap). IsFailure M core hints) (sym (own_live F names steps text s u asked h x))
    (failure_part knows live core hints (part_steps h.knows st.live x.steps h.part) (failed h.given knows x.known)) in
    let mine = map own x.steps in
    let number = c.in_ok-number-in-Failed.number in
    let last = Lemma number (map negation core) hints ∷ [] in
    let closed = c.in_ok-number-in-Failed.ensures.stands F names (steps ++ mine) text w (part_plain core query part c.requires.consistent) fails in
    record {
      lines = mine ++ last;
      own = All-append IsOwn mine last (all_own x.steps) (All-cons IsOwn (Lemma number (map negation core) hints) [] tt (All-nil IsOwn));
      right = record {
        front = mine;
        clause = map negation core;
        hints = hints;
        ends = refl;
        negates = λ l i. part_within core query (negation l) part (from_map core l i);
      };
      written = subst (λ (ls : List SharedStep). HasWritten F names ls text c.close.new.self) (append_assoc steps mine last) closed;
    }

pub returns-in-Unknown-clause-stands : goal.returns-in-Unknown-clause-stands
returns-in-Unknown-clause-stands g c = λ F names steps text h.
    let s = c.args.self.now in
    let asked = c.ask.new.self in
    let t = c.in_ok-take_lines.ensures in
    let x = c.in_ok-answer.ensures.tells h.given h.knows h.known in
    record {
      lines = map own x.steps;
      own = all_own x.steps;
      right = tt;
      written = written_lines F names steps text s c.take_lines.new.self asked h x ((c.requires.ready).session).few t.log t.empty t.formula t.vars t.last t.clock t.names t.known;
    }

pub returns-in-Some-clause-stands : goal.returns-in-Some-clause-stands
returns-in-Some-clause-stands g c = λ F names steps text h.
    let s = c.args.self.now in
    let u = c.take_lines.new.self in
    let query = c.args.query.now in
    let values = c.in-Some.values in
    let t = c.in_ok-take_lines.ensures in
    let x = c.in_ok-answer.ensures.tells h.given h.knows h.known in
    let w = written_lines F names steps text s u c.ask.new.self h x ((c.requires.ready).session).few t.log t.empty t.formula t.vars t.last t.clock t.names t.known in
    let e = c.in_ok-values-in-Satisfied.ensures in
    let solves : IsSolution (formula_in u).vars (formula_in u).clauses query values = subst (λ o. IfSome o (IsSolution (formula_in u).vars (formula_in u).clauses query)) c.in-Some.is e.solution in
    turned_so F names steps (map own x.steps) text query (turn.Satisfied values) u c.settle.new.self (all_own x.steps) w e.stands
    (λ lines. subst (λ (f : Cnf). IsSolution f.vars f.clauses query values) w.over solves)

pub returns-in-None-clause-stands : goal.returns-in-None-clause-stands
returns-in-None-clause-stands g c = λ F names steps text h.
    let s = c.args.self.now in
    let u = c.take_lines.new.self in
    let t = c.in_ok-take_lines.ensures in
    let x = c.in_ok-answer.ensures.tells h.given h.knows h.known in
    let w = written_lines F names steps text s u c.ask.new.self h x ((c.requires.ready).session).few t.log t.empty t.formula t.vars t.last t.clock t.names t.known in
    turned_so F names steps (map own x.steps) text c.args.query.now turn.Restored u c.settle.new.self (all_own x.steps) w c.in_ok-values-in-Satisfied.ensures.stands (λ lines. tt)
