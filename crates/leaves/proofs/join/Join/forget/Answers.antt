use Rattle.leaves.proofs.JoinLemmas.{forgets}
use Rattle.leaves.proofs.join.Join.forget.Goals as goal

pub returns-clause-holds : goal.returns-clause-holds
returns-clause-holds c = λ F cubes files bytes written h.
    let old = c.args.self.now in
    record {
      stands = record {
        formula = h.stands.formula;
        few = h.stands.few;
        logs = h.stands.logs;
        closing = h.stands.closing;
        read = forgets old.reading F cubes h.stands.logs bytes old.begun written old.lines c.clear.new.self c.clear.ensures.items h.stands.read;
      };
      read_as = h.read_as;
    }
