use Rattle.commands.specs.Weave.{AreNotes}
use Rattle.commands.proofs.weave_notes.put_outcomes.Given as goal

abbrev pub invariant-loop-log : goal.invariant-loop-log
invariant-loop-log g l = AreNotes l.fn.out.items → AreNotes l.out.items
