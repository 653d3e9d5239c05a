use Rattle.std.proofs.Common.{◌≡◌, ℕ, List, [], ◌∷◌, ◌++◌, Contains, rules, refl, subst, ap, inl, inr}
use Rattle.std.proofs.lemmas.Bool.Decides.{nat_tests}
use Rattle.honest_cluster.specs.ClosedSchedule.{ClosedState, HappensRestart}
use Rattle.cluster.specs.Members.{closed_of}
use Rattle.cluster.proofs.MemberLemmas.{is_used, is_unused}
use Rattle.cluster.proofs.schedule.Schedule.restart.Goals as goal
use Rattle.cluster.proofs.schedule.Schedule.restart.Goals.{then-not-has-via-then-not-has, then-not-has-via-else-not-has+then-contains}

pub returns-then-not-has : goal.returns-then-not-has
returns-then-not-has c = elim c.then-not-has.branch [
  | then-not-has-via-then-not-has w ↦ HappensRestart.is_ignored (inl (search (rules, nat_tests))) (refl, refl)
  | then-not-has-via-else-not-has+then-contains w ↦ HappensRestart.is_ignored
      (inr (subst (λ (ns : List ℕ). Contains ns c.args.number) w.deref.ensures.value (is_used w.deref.result.now c.args.number w.if-contains.ensures.cases))) (refl, refl)
]

pub returns-in-Ok : goal.returns-in-Ok
returns-in-Ok c =
    let frames = c.args.self.now.frames.items in
    let after : ClosedState = closed_of c.restart.new.self frames c.args.self.now.used.items in
    let used : c.push.new.self.items ≡ c.args.self.now.used.items ++ c.args.number ∷ [] = search rules in
    HappensRestart.anew after (subst (λ (ns : List ℕ). ¬ (Contains ns c.args.number)) c.deref.ensures.value (is_unused c.deref.result.now c.args.number c.if-contains.ensures.cases))
    (c.in-Ok.ensures.ok frames c.args.self.now.used.items) refl (ap (λ (ns : List ℕ). closed_of c.restart.new.self frames ns) used)
