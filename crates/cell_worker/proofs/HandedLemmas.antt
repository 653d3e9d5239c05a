-- What a worker has written when bytes or offers were handed out.
use Rattle.std.proofs.Common.{◌≡◌, ℕ, ◌≤◌, List, ◌++◌, sym, ◌∙◌, ap, subst}
use Rattle.std.specs.List.{All}
use Rattle.dimacs.specs.logic.Cnf.{Cnf}
use Rattle.cube_solve.specs.Session.{last_of, log_of, vars_of}
use Rattle.cube_solve.specs.SessionLog.{IsKnown}
use Rattle.cube_solve.specs.declared.session.Session.{Session}
use Rattle.shared_logs.specs.SharedLogs.{SharedStep}
use Rattle.shared_logs.specs.SharedText.{Names}
use Rattle.cell_worker.specs.WorkerLog.{HasWritten, IsSharedText, clock_in, formula_in, names_in}
use Rattle.cell_worker.specs.declared.worker.CellWorker.{CellWorker}

module _ {P : Type 0} (F : Cnf) (names : Names) (steps : List SharedStep) (text : List ℕ) (s u : CellWorker P) where
  pub written_same : (more : List ℕ) → more ++ u.log.items ≡ text ++ s.log.items → u.search ≡ s.search → formula_in u ≡ formula_in s → clock_in u ≡ clock_in s → names_in u ≡ names_in s
      → HasWritten F names steps text s → HasWritten F names steps more u
  written_same more bytes same over clock used h = record {
    is_text = subst (IsSharedText F names steps) (sym bytes) h.is_text;
    over = over ∙ h.over;
    vars = ap (λ (x : Session P). vars_of x) same ∙ h.vars;
    last = h.last ∙ ap (λ (x : Session P). last_of x) (sym same);
    clock = h.clock ∙ sym clock;
    used = subst (λ n. All (λ x. x.0 ≤ n) names) (sym used) h.used;
    told = ap (λ (x : Session P). log_of x) same ∙ h.told;
    given = h.given;
    first = h.first;
    knows = h.knows;
    part = h.part;
    known = subst (λ (x : Session P). IsKnown h.given h.knows x) (sym same) h.known;
  }
