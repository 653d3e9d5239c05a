use Rattle.std.proofs.Common.{◌≡◌, ◌+◌, ◌<◌, ℕ, Bool, true, List, length, get_or, take, sym, ap, subst, ◌∙◌, arith}
use Rattle.std.proofs.Common.{Vec, Global}
use Rattle.std.specs.Vec.{with_item}
use Rattle.clause_arena.specs.declared.reference.Ref.{Ref}
use Rattle.std.proofs.lemmas.List.{get_or-take, get_or_default, length-take-le}
use Rattle.watches.proofs.DetachLemmas.{Sweeps, sweeps_over, sweeps_up, swept}
use Rattle.watches.proofs.watched.detached.remove_detached.Goals as goal
use Rattle.watches.proofs.watched.detached.remove_detached.Goals.{then-index, else-index}

pub loop-i-preserved : goal.loop-i-preserved
loop-i-preserved c =
    let s = c.loop-i.invariant in
    let l : c.loop-i.i < length c.args.clauses.now.items = omega (arith, c.loop-i-test.true, c.len-i-end.ensures) in
    let cs = c.args.clauses.now.items in
    let ls = c.args.live.now.items in
    let xs = c.loop-i.clauses.items in
    let bs = c.loop-i.live.items in
    elim c.if-index.branch [
      | then-index w ↦
          let up = sweeps_up cs ls xs bs c.loop-i.count c.loop-i.i s c.requires l c.index.result.now c.index.ensures w.if-index.true w.index-then-index.result.now w.index-then-index.ensures in
          subst (λ (v : Vec Ref Global). Sweeps cs ls v.items c.if-index.live.items c.if-index.count (c.loop-i.i + 1)) (sym w.clauses-is)
          (subst (λ (v : Vec Bool Global). Sweeps cs ls (with_item c.loop-i.clauses c.loop-i.count w.index-then-index.result.now).items v.items c.if-index.count (c.loop-i.i + 1)) (sym w.live-is)
          (subst (λ (n : ℕ). Sweeps cs ls (with_item c.loop-i.clauses c.loop-i.count w.index-then-index.result.now).items (with_item c.loop-i.live c.loop-i.count true).items n (c.loop-i.i + 1)) (sym w.count-is) up))
      | else-index w ↦
          let over = sweeps_over cs ls xs bs c.loop-i.count c.loop-i.i s c.requires l c.index.result.now c.index.ensures w.if-index.false in
          subst (λ (v : Vec Ref Global). Sweeps cs ls v.items c.if-index.live.items c.if-index.count (c.loop-i.i + 1)) (sym w.clauses-is)
          (subst (λ (v : Vec Bool Global). Sweeps cs ls xs v.items c.if-index.count (c.loop-i.i + 1)) (sym w.live-is)
          (subst (λ (n : ℕ). Sweeps cs ls xs bs n (c.loop-i.i + 1)) (sym w.count-is) over))
    ]

pub returns-clause-live : goal.returns-clause-live
returns-clause-live c = λ k d l.
    let s = c.loop-i.invariant in
    let e = c.truncate-2.ensures.items in
    let bs = c.loop-i.live.items in
    let n : length (take c.loop-i.count bs) ≡ c.loop-i.count = length-take-le c.loop-i.count bs (omega (arith, s.short, s.live_long, c.requires, c.loop-i.auto.i-end, c.len-i-end.ensures)) in
    let b : k < c.loop-i.count = omega (arith, l, n, ap length e) in
    ap (λ (ms : List Bool). get_or ms k d) e ∙ get_or-take c.loop-i.count bs k d b ∙ get_or_default bs k d true (omega (arith, s.short, s.live_long, c.requires, c.loop-i.auto.i-end, c.len-i-end.ensures)) ∙ s.live k b

pub returns-clause-clauses : goal.returns-clause-clauses
returns-clause-clauses c =
    let e : c.loop-i.i ≡ length c.args.clauses.now.items = omega (arith, c.loop-i-test.false, c.loop-i.auto.i-end, c.len-i-end.ensures) in
    c.truncate.ensures.items
    ∙ swept c.args.clauses.now.items c.args.live.now.items c.loop-i.clauses.items c.loop-i.live.items c.loop-i.count
    (subst (λ (n : ℕ). Sweeps c.args.clauses.now.items c.args.live.now.items c.loop-i.clauses.items c.loop-i.live.items c.loop-i.count n) e c.loop-i.invariant) c.requires
