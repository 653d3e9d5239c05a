use Rattle.std.proofs.Common.{List, ℕ, subst, sym}
use Rattle.dimacs.specs.logic.Cnf.{Cnf}
use Rattle.lrat_trim.specs.TrimmedProof.{TrimProgress, HasTaken}
use Rattle.lrat_trim.proofs.FeedLemmas.{trims}
use Rattle.lrat_trim.proofs.trimmer.Trimmer.finish.Goals as goal

pub returns : goal.returns
returns c = λ F proof h.
    let P : TrimProgress → Type 0 = λ t. HasTaken F t proof in
    trims c.self.inside.formula c.self.inside.text c.self.inside.is_cut c.self.inside.checker c.in_ok-trim_accepted.field-0 c.if-self.false c.in_ok-finish.ensures c.proof_fault_is_exact.ensures.accepted
    c.in_ok-trim_accepted.ensures F proof (subst P (sym c.self.view_is) h)
