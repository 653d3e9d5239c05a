use Rattle.std.proofs.Common.{◌≡◌, ◌++◌, List, ℕ, OnOk, subst}
use Rattle.lrat_text.proofs.VerbatimLemmas.{line_around}
use Rattle.lrat_text.proofs.verbatim.put_with_literal_text.Goals as goal

pub returns-else-is_err-clause-ok : goal.returns-else-is_err-clause-ok
returns-else-is_err-clause-ok c = λ top lits e.
    subst (λ (l : List ℕ). OnOk c.put_parts-written.result (c.put_parts-written.new.out.items ≡ c.args.out.now.items ++ l))
    (line_around top c.args.id lits c.args.hints.now c.args.groups.now c.args.literals.now e) c.put_parts-written.ensures.ok
