use Rattle.std.proofs.Common.{◌-◌, arith, sym, subst}
use Rattle.clause_arena.specs.Clauses.{live_of}
use Rattle.conflict_analysis.specs.inner.FinalAnalysis.{IsTraceable, IsTracing}
use Rattle.conflict_analysis.proofs.MetLemmas.{met_further, met_in_front, met_none}
use Rattle.conflict_analysis.proofs.TraceLemmas.{tracing_begins}
use Rattle.conflict_analysis.proofs.final_analysis.trace.Goals as goal

pub loop-i-init : goal.loop-i-init
loop-i-init c = (
  omega arith,
  met_none c.args.entries.now c.args.seen.now,
  tracing_begins (live_of c.args.arena.now) c.args.entries.now c.args.seen.now c.args.lemma.now c.requires.hints c.requires.level,
)

pub trace_entry-requires-clause-front : goal.trace_entry-requires-clause-front
trace_entry-requires-clause-front c = subst (IsTraceable (live_of c.args.arena.now) c.args.entries.now) (sym (c.loop-i.invariant).1.sized) c.requires.front

pub loop-i-preserved : goal.loop-i-preserved
loop-i-preserved c =
    let i = c.loop-i.invariant in
    let e = c.in_ok-trace_entry.ensures in (
      (let b = i.0 in omega (arith, b)),
      met_further c.args.entries.now c.args.seen.now c.loop-i.seen c.trace_entry.new.seen i.1 (met_in_front c.args.entries.now (c.loop-i.i - 1) c.loop-i.seen c.trace_entry.new.seen e.seen),
      e.way c.args.lemma.now.lits.items (subst (λ n. IsTracing (live_of c.args.arena.now) c.args.entries.now c.args.lemma.now.lits.items n c.loop-i.seen c.loop-i.lemma) (omega (arith, c.loop-i-test.true)) i.2),
    )
