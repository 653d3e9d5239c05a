use Rattle.std.proofs.Common.{subst, sym}
use Rattle.commands.specs.inner.Elaborate.{IsOf}
use Rattle.commands.specs.declared.elaborate.DratText.{DratText}
use Rattle.commands.proofs.ElaborateLemmas.{of_same}
use Rattle.commands.proofs.elaborate.read_text.Goals as goal
use Rattle.dimacs.specs.logic.Cnf.{Cnf}

pub returns-clause-of : goal.returns-clause-of
returns-clause-of g c =
    let P : DratText → Type 0 = λ t. (G : Cnf) → IsOf G c.args.text → IsOf G t in
    subst P (sym c.into_text.ensures) (of_same {P = P c.feed_all.new.taker.text} _ c.in_ok-feed_all.ensures.fed)
