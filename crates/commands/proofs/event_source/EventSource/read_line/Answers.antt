use Rattle.std.proofs.Common.{sym, ap, subst, List, ℕ, Option}
use Rattle.commands.specs.declared.event_source.EventSource.{EventSource}
use Rattle.commands.specs.inner.EventSource.{TakesLine}
use Rattle.commands.proofs.LineLemmas.{takes_line}
use Rattle.commands.proofs.event_source.EventSource.read_line.Goals as goal

pub returns-in-Ok-clause-line : goal.returns-in-Ok-clause-line
returns-in-Ok-clause-line g c =
    let same = ap (λ (z : EventSource g.row.B.Denot). g.B.Read.remaining z.source) c.end_line.ensures.same in
    subst (λ (o : Option (List ℕ)). TakesLine (g.B.Read.remaining c.args.self.now.source) o c.end_line.new.self.has_ended c.end_line.new.self.line.items) (sym same)
    (takes_line (g.B.Read.remaining c.args.self.now.source) (g.B.Read.remaining c.read_until.new.self) c.clear.new.self.items c.read_until.new.buf.items c.end_line.new.self.line.items c.args.self.now.has_ended c.end_line.new.self.has_ended
    c.clear.ensures.items c.requires.more c.read_until.ensures.stops c.in-Ok.ensures.bytes c.in-Ok.ensures.rest c.end_line.ensures.line c.end_line.ensures.ended)
