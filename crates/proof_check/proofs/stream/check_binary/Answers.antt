use Rattle.std.proofs.Common.{arith}
use Rattle.lrat_check.proofs.Passing.{given_ok, given_complete}
use Rattle.proof_check.specs.BinaryProof.{AcceptsBinary}
use Rattle.proof_check.specs.FirstFault.{check_binary_of}
use Rattle.proof_check.proofs.CheckedLemmas.{checked_accepted, accepted_checked}
use Rattle.proof_check.proofs.stream.check_binary.Goals as goal

pub returns-clause-accepted : goal.returns-clause-accepted
returns-clause-accepted c =
    given_ok c.check_all.result (check_binary_of c.args.formula.now c.args.proof.now) (AcceptsBinary c.args.formula.now c.args.proof.now) c.check_all.ensures
    (checked_accepted c.reading_within_is_spelling.ensures.found c.reading_within_is_spelling.ensures.only c.args.formula.now c.args.proof.now)

pub returns-clause-complete : goal.returns-clause-complete
returns-clause-complete c = λ accepts.
    given_complete c.check_all.result (check_binary_of c.args.formula.now c.args.proof.now) c.check_all.ensures
    (accepted_checked c.reading_within_is_spelling.ensures.found c.reading_within_is_spelling.ensures.only c.args.formula.now c.args.proof.now (omega (arith, c.vars.ensures.valid.vars)) accepts)
