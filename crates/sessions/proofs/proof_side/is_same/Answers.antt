use Rattle.std.proofs.Common.{rules}
use Rattle.std.proofs.lemmas.Bool.Decides.{same_from_decides}
use Rattle.std.proofs.lemmas.Slice.Eq.{slice_eq-Decides}
use Rattle.icnf.specs.Comparison.{is_clause}
use Rattle.sessions.proofs.EventLemmas.{is_clause-Decides}
use Rattle.sessions.proofs.proof_side.is_same.Goals as goal

pub returns : goal.returns
returns c =
    same_from_decides c.eq.result (is_clause c.args.a.now c.args.b.now) (slice_eq-Decides (λ a b. search rules) c.args.a.now c.args.b.now c.eq.result c.eq.ensures) (is_clause-Decides c.args.a.now c.args.b.now)
