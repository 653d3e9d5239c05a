use Rattle.leaves.specs.declared.join.FileState.TheVariants.{Begun}
use Rattle.leaves.proofs.JoinLemmas.{opens_answer, opens_log, read_as}
use Rattle.leaves.proofs.join.Join.open.Goals as goal

pub returns-then-is_answer-clause-stands : goal.returns-then-is_answer-clause-stands
returns-then-is_answer-clause-stands c = λ F cubes files bytes written h.
    let old = c.args.self.now in
    record {
      formula = h.formula;
      few = h.few;
      logs = h.logs;
      closing = h.closing;
      read = opens_answer F cubes h.logs bytes old.begun written old.lines _ c.new.ensures (read_as old.reading Begun F cubes h.logs bytes old.begun written old.lines c.in-Begun.is h.read);
    }

pub returns-clause-stands : goal.returns-clause-stands
returns-clause-stands c = λ F cubes files bytes written h.
    let old = c.args.self.now in
    record {
      formula = h.formula;
      few = h.few;
      logs = h.logs;
      closing = h.closing;
      read = opens_log F cubes h.logs bytes old.begun written old.lines c.begin.new.self c.begin.ensures (read_as old.reading Begun F cubes h.logs bytes old.begun written old.lines c.in-Begun.is h.read);
    }
