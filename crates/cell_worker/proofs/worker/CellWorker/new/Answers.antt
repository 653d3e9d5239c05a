use Rattle.std.proofs.Common.{◌≤◌, [], length, refl, sym, ◌∙◌, ap, subst, arith}
use Rattle.std.proofs.lemmas.List.Elements.{All-nil}
use Rattle.dimacs.specs.logic.Cnf.{Cnf}
use Rattle.dimacs.specs.logic.ClauseMap.{map_of}
use Rattle.cube_solve.specs.SessionLog.{IsKnown}
use Rattle.cell_worker.specs.WorkerLog.{IsSharedText}
use Rattle.cell_worker.proofs.PartLemmas.{part_all}
use Rattle.cell_worker.proofs.TextLemmas.{text_begins}
use Rattle.cell_worker.proofs.WrittenLemmas.{first_all, first_low, first_numbers}
use Rattle.cell_worker.proofs.worker.CellWorker.new.Goals as goal

pub returns-clause-stands : goal.returns-clause-stands
returns-clause-stands g c =
    let F = c.args.formula.now in
    let e = c.in_ok-search.ensures in
    let d = c.diversify.ensures in
    let is = c.as_base.ensures in
    let m = length F.clauses in
    let same = ap (λ (f : Cnf). length f.clauses) is in
    record {
      is_text = subst (IsSharedText F [] []) (sym c.new-3.ensures.items) (text_begins F);
      over = refl;
      vars = d.vars ∙ e.vars ∙ ap (λ (f : Cnf). f.vars) is;
      last = sym (d.last ∙ e.last ∙ same);
      clock = refl;
      used = All-nil (λ x. x.0 ≤ 0);
      told = d.log ∙ e.log;
      given = first_numbers m;
      first = first_all m;
      knows = map_of F;
      part = part_all (map_of F);
      known = d.known (first_numbers m) (map_of F)
          (subst (λ (f : Cnf). IsKnown (first_numbers m) (map_of f) c.in_ok-search.search) is (e.known (first_numbers m) (λ n i. let l = first_low m n i in omega arith)));
    }
