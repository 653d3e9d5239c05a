use Rattle.std.proofs.Common.{ℕ, List, ◌++◌, ◌∙◌, sym, ap, map}
use Rattle.command_line.specs.SolverTable.{have_some}
use Rattle.command_line.proofs.SolverLemmas.{behind_none, behind_some}
use Rattle.command_line.proofs.solver_words.table.is_behind.Goals as goal

pub returns-in-Some : goal.returns-in-Some
returns-in-Some c =
    let front = c.args.front.now in
    let h = c.in-Some.ensures.cases in
    c.is_in_lines.ensures
    ∙ sym (ap (have_some (map (λ line. line.now) c.args.lines.now)) (behind_some front c.args.word.now c.in-Some.rest.now (h.1.1 ∙ ap (λ (t : List ℕ). front ++ t) (sym h.2))))

pub returns-in-None : goal.returns-in-None
returns-in-None c =
    sym (ap (have_some (map (λ line. line.now) c.args.lines.now)) (behind_none c.args.front.now c.args.word.now c.in-None.ensures.cases))
