use Rattle.std.proofs.Common.{◌≡◌, List, Option, ℕ}
use Rattle.incremental.specs.SessionHistory.{IsSessionReady, vars_in}
use Rattle.sessions.specs.Rows.{event_of}
use Rattle.commands.specs.inner.SessionLoop.{IsRunning}
use Rattle.commands.specs.inner.EventSource.{IsWaiting}
use Rattle.commands.proofs.session_loop.Run.take_lines.Given as goal

-- the event of the last line waits, and those before it were answered
abbrev pub invariant-lines : goal.invariant-lines
invariant-lines g l = record {
  fit : IsSessionReady g.P.Propagator.is_ready g.P.Propagator.attached l.session;
  vars : vars_in l.session ≡ l.vars;
  waits : IsWaiting l.sent l.self.events.greatest l.self.events.lines.read.literals;
  asking : l.self.asking ≡ l.initial.self.asking;
  goes : (all : Option (List ℕ)) → IsRunning all g.B.Read.remaining (g.O.Outputs.has l.initial.outputs) (event_of l.initial.sent l.initial.self.events.lines.read.literals) l.initial.self l.initial.session
      → IsRunning all g.B.Read.remaining (g.O.Outputs.has l.outputs) (event_of l.sent l.self.events.lines.read.literals) l.self l.session;
}
