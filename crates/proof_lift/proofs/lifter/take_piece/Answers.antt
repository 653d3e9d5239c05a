use Rattle.proof_lift.specs.View.{held_of}
use Rattle.std.proofs.Common.{◌≡◌, ◌⊎◌, ℕ, List, sym, subst}
use Rattle.lrat_check.specs.ProofFaults.{no_memory}
use Rattle.lrat_check.specs.declared.line_checker.CheckFault.{CheckFault}
use Rattle.lrat_check.specs.Refusals.{piece_refusal}
use Rattle.proof_lift.specs.Stream.{Within, Failed}
use Rattle.proof_lift.specs.inner.Stream.{LeadsTo, Appends}
use Rattle.proof_lift.proofs.StreamLemmas.{hands_write, stops_write}
use Rattle.proof_lift.proofs.lifter.take_piece.Goals as goal

pub returns-in-Ok-clause-passed : goal.returns-in-Ok-clause-passed
returns-in-Ok-clause-passed c =
    let t = c.feed-taken.new.taker in
    let old = c.args.lines.now in
    let P = λ (appended : List ℕ). LeadsTo (Within (held_of old.lifting) old.line c.args.begun.now) c.args.piece.now appended (Within (held_of t.lifting) t.line c.feed-taken.new.self) in
    subst (λ v. Appends v.items c.swap-2.new.y.items P) c.swap.ensures.x_after
    (subst (λ v. Appends c.swap.new.x.items v.items P) (sym c.swap-2.ensures.y_after)
    (hands_write (record old { out = c.swap.new.x }) c.args.begun.now c.args.piece.now t c.feed-taken.new.self c.in-Ok.ensures.taken.1))

pub returns-in-Err-clause-stopped : goal.returns-in-Err-clause-stopped
returns-in-Err-clause-stopped c =
    let t = c.feed-taken.new.taker in
    let old = c.args.lines.now in
    let P = λ (fault : CheckFault) (appended : List ℕ). (fault ≡ no_memory) ⊎ LeadsTo (Within (held_of old.lifting) old.line c.args.begun.now) c.args.piece.now appended (Failed fault) in
    subst (λ f. Appends c.args.out.now.items c.swap-2.new.y.items (P f)) (sym c.of_piece.ensures)
    (subst (λ v. Appends v.items c.swap-2.new.y.items (P (piece_refusal c.in-Err.fault))) c.swap.ensures.x_after
    (subst (λ v. Appends c.swap.new.x.items v.items (P (piece_refusal c.in-Err.fault))) (sym c.swap-2.ensures.y_after)
    (stops_write (record old { out = c.swap.new.x }) c.args.begun.now c.args.piece.now t c.in-Err.fault c.in-Err.ensures.taken)))
