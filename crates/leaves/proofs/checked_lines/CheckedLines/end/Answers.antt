use Rattle.std.proofs.Common.{◌≡◌, ℕ, List, true, [], ◌∷◌, ◌++◌, ap, subst, Bool}
use Rattle.log_join.specs.JoinedLogs.{AreLogs, Handed, joined_so_far}
use Rattle.log_join.specs.Written.{BetweenLogs, leaves_of}
use Rattle.leaves.proofs.ClosingLemmas.{ending_leaves, told_newly}
use Rattle.leaves.proofs.LineLemmas.{appended}
use Rattle.leaves.proofs.checked_lines.CheckedLines.end.Goals as goal

pub returns : goal.returns
returns c = λ F cubes logs log written h.
    let s = c.in_ok-closes.ensures F cubes logs log written h in
    let put = c.in_ok-end.ensures.ended in
    let handed : Handed = record { steps = log; accepted = c.args.accepted } in
    let between : BetweenLogs F cubes (logs ++ handed ∷ []) c.end.new.self (written ++ c.end.new.out.items) =
    appended (λ (w : List ℕ). BetweenLogs F cubes (logs ++ handed ∷ []) c.end.new.self w) written c.settle.new.self.out.items c.end.new.out.items put.0 put.1
    (put.2 F cubes logs handed s.0.low (written ++ c.settle.new.self.out.items) s.0.ending s.0.none_left) in (
      record { between = between; stands = s.0.stands },
      λ accepted.
          let right : Handed = record { steps = log; accepted = true } in
          let same : handed ≡ right = ap (λ (b : Bool). record { steps = log; accepted = b }) accepted in
          told_newly F cubes logs log c.settle.new.self.joiner c.in_ok-closes.closes h.within.are
          (subst (λ (x : Handed). AreLogs F (logs ++ x ∷ [])) same between.are)
          (subst (λ (x : Handed). leaves_of c.settle.new.self.joiner ≡ (joined_so_far F cubes (logs ++ x ∷ [])).leaves) same
          (ending_leaves F cubes logs handed s.0.low c.settle.new.self.joiner (written ++ c.settle.new.self.out.items) s.0.ending s.0.none_left))
          (s.1 accepted),
    )
