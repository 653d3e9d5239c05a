use Rattle.std.proofs.Common.{◌++◌, ℕ, List, subst}
use Rattle.incremental.specs.SessionHistory.{IsAccepted}
use Rattle.commands.proofs.session_loop.hand_out.Goals as goal

pub returns-clause-written : goal.returns-clause-written
returns-clause-written g c = λ L E told text moments h out.
    let P : List ℕ → Type 0 = λ bytes. g.O.Outputs.has c.prove.new.self (text ++ bytes) moments in
    let Q : List ℕ → Type 0 = λ bytes. IsAccepted L E told (text ++ bytes) in
    record {
      stands = c.forget.ensures.stands L E told text h;
      accepted = subst Q c.written.ensures.bytes (c.written.ensures.accepted L E told text h);
      out = subst P c.written.ensures.bytes (c.in_ok-prove.ensures.proved text moments out);
    }
