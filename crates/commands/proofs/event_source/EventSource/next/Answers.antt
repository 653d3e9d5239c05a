use Rattle.std.proofs.Common.{ℕ, ◌+◌, ◌≤◌, List, refl, sym, ◌∙◌, ap, subst}
use Rattle.commands.specs.declared.event_source.EventSource.{EventSource}
use Rattle.commands.specs.inner.EventSource.{AreWithin, IsWaiting}
use Rattle.commands.specs.inner.Greatest.{counted}
use Rattle.dimacs.specs.logic.Limits.{Limits}
use Rattle.dimacs.specs.logic.Literal.{Literal}
use Rattle.sessions.specs.Rows.{Held}
use Rattle.commands.proofs.EventLemmas.{fault_by, greatest_few, hears_end, hears_fault, hears_line, line_waits, line_within, row_from}
use Rattle.commands.proofs.event_source.EventSource.next.Goals as goal

pub returns-then-self-clause-heard : goal.returns-then-self-clause-heard
returns-then-self-clause-heard g c = λ L all E h. hears_end L all g.B.Read.remaining E c.args.self.now c.if-self.true h c.close.result c.close.ensures

-- the greatest variable so far is still within the limits, which a line does not change
pub invariant_of-self : goal.invariant_of-self
invariant_of-self g c =
    let z : EventSource g.row.B.Denot = c.read_line.new.self in
    let held : Held = c.read.new.self in
    let is = c.greatest_after-self.ensures ∙ ap (λ (ls : List Literal). counted c.in-Ok.sent ls z.greatest) c.literals.ensures in
    let within : AreWithin z.lines.progress.limits.vars c.in-Ok.sent held.read.literals = line_within _ _ _ _ _ _ c.in-Ok.ensures.row in
    record { few = subst (λ (M : Limits). c.greatest_after-self.result ≤ M.vars) (sym c.read.ensures.limits) (greatest_few z.lines.progress.limits.vars c.in-Ok.sent held.read.literals z.greatest c.greatest_after-self.result within is z.few) }

pub invariant_of-self-in-Err-1 : goal.invariant_of-self-in-Err-1
invariant_of-self-in-Err-1 g c =
    let z : EventSource g.row.B.Denot = c.read_line.new.self in
    record { few = subst (λ (M : Limits). z.greatest ≤ M.vars) (sym c.read.ensures.limits) z.few }

pub returns-in-Ok-clause-heard : goal.returns-in-Ok-clause-heard
returns-in-Ok-clause-heard g c = λ L all E h.
    let x : EventSource g.row.B.Denot = c.args.self.now in
    let z : EventSource g.row.B.Denot = c.read_line.new.self in
    let held : Held = c.read.new.self in
    let before = c.read_line.ensures.same in
    let number = c.in-Some.ensures.1 ∙ ap (λ (u : EventSource g.row.B.Denot). u.read + 1) before in
    let is = c.greatest_after-self.ensures ∙ ap (λ (ls : List Literal). counted c.in-Ok.sent ls z.greatest) c.literals.ensures in
    let row = row_from x.read c.in-Some.number z.line.items c.deref.result.now x.lines.progress z.lines.progress _ number c.deref.ensures.value (ap (λ (u : EventSource g.row.B.Denot). u.lines.progress) before) c.in-Ok.ensures.row in
    hears_line L all g.B.Read.remaining E x (g.B.Read.remaining z.source) z.has_ended z.line.items c.if-self.false c.in_ok-read_line.ensures.line h
    _ c.in-Ok.sent held
    refl refl number refl
    (c.read.ensures.limits ∙ ap (λ (u : EventSource g.row.B.Denot). u.lines.progress.limits) before)
    (is ∙ ap (λ (u : EventSource g.row.B.Denot). counted c.in-Ok.sent held.read.literals u.greatest) before) row

pub returns-in-Ok-clause-waits : goal.returns-in-Ok-clause-waits
returns-in-Ok-clause-waits g c =
    let z : EventSource g.row.B.Denot = c.read_line.new.self in
    let held : Held = c.read.new.self in
    let is = c.greatest_after-self.ensures ∙ ap (λ (ls : List Literal). counted c.in-Ok.sent ls z.greatest) c.literals.ensures in
    line_waits z.lines.progress.limits.vars c.in-Ok.sent held.read.literals z.greatest c.greatest_after-self.result (line_within _ _ _ _ _ _ c.in-Ok.ensures.row) is

pub returns-in-Err-clause-heard : goal.returns-in-Err-clause-heard
returns-in-Err-clause-heard g c = λ L all E h.
    let x : EventSource g.row.B.Denot = c.args.self.now in
    let z : EventSource g.row.B.Denot = c.read_line.new.self in
    let before = c.read_line.ensures.same in
    let number = c.in-Some.ensures.1 ∙ ap (λ (u : EventSource g.row.B.Denot). u.read + 1) before in
    let lines = ap (λ (u : EventSource g.row.B.Denot). u.lines.progress) before in
    fault_by L all g.B.Read.remaining E _ c.in-Err.fault _ c.faulty.result c.faulty.ensures c.in-Err.ensures.row
    (λ row. hears_fault L all g.B.Read.remaining E x (g.B.Read.remaining z.source) z.has_ended z.line.items c.if-self.false c.in_ok-read_line.ensures.line h c.in-Err.fault
    (row_from x.read c.in-Some.number z.line.items c.deref.result.now x.lines.progress z.lines.progress _ number c.deref.ensures.value lines row))
