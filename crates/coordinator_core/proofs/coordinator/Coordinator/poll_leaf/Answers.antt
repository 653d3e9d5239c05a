use Rattle.std.proofs.Common.{◌≡◌, ℕ, ◌+◌, ◌-◌, ◌<◌, ◌^◌, Bool, true, false, Option, None, Some, slice_set, refl, sym, ap, ◌∙◌}
use Rattle.std.specs.Prelude.{position}
use Rattle.std.proofs.lemmas.Bool.{lt-ltb}
use Rattle.frames.specs.declared.frame.Frame.{Frame}
use Rattle.frames.specs.declared.frame.Frame.TheVariants.{Task}
use Rattle.coordinator_core.specs.Coordinator.{CoordinatorState, cube_at, is_open, leaf_poll}
use Rattle.coordinator_core.specs.inner.LeafTable.{LeafRows}
use Rattle.coordinator_core.specs.NextJob.{next_of}
use Rattle.coordinator_core.proofs.PollLemmas.{given_is, next_after}
use Rattle.coordinator_core.specs.declared.job_state.LeafState.TheVariants.{GivenTo}
use Rattle.coordinator_core.proofs.FrontLemmas.{rows_given}
use Rattle.coordinator_core.proofs.coordinator.Coordinator.poll_leaf.Goals as goal

-- a leaf is given and its Task sent, if a leaf is open and job numbers are left
is_leaf_given : (c s : CoordinatorState) (w n leaf number next : ℕ) (left : Bool) (o : Option ℕ) (rows : LeafRows) (task : Frame) → c ≡ s → n ≡ w → c.next ≡ number → left ≡ true → o ≡ Some leaf
    → rows ≡ record { states = slice_set c.leaves leaf (GivenTo w); fragments = c.fragments } → next ≡ number + 1 → task ≡ Task s.session number s.limit (cube_at s leaf)
    → (task ≡ (leaf_poll s w left o).frame) × (record c { leaves = rows.states; fragments = rows.fragments; jobs = slice_set c.jobs (n - 1) (Some (record { number = number; leaf = leaf; fixed = None })); next = next } ≡ (leaf_poll s w left o).after)
is_leaf_given c s w n leaf number next false o rows task same worker next_is is_left some given more told = absurd (cc)
is_leaf_given c s w n leaf number next true None rows task same worker next_is is_left some given more told = absurd (cc)
is_leaf_given c s w n leaf number next true (Some first) rows task same worker next_is is_left some given more told =
    let there : first ≡ leaf = cc in
    (rw (told, there, ← next_is, same) refl, rw (given, worker, more, there, ← next_is, same) refl)

pub invariant_of-self : goal.invariant_of-self
invariant_of-self c =
    let left : c.in-Some.number < 2 ^ 64 = c.task.ensures.fits in (
      c.self.invariant.0,
      c.self.invariant.1,
      given_is _ c.args.worker c.number.result c.in-Some-first_open.leaf c.in-Some.number _ c.give.new.self c.number.ensures.above c.number.ensures.value c.self.invariant.2
          (ap next_of c.in-Some.is) left (sym c.first_open.ensures ∙ c.in-Some-first_open.is) c.give.ensures (next_after c.checked_add-self-inside.result c.in-Some.number left c.checked_add-self-inside.ensures),
      c.self.invariant.3,
      rows_given _ _ _ c.self.inside.leaves c.give.new.self c.self.inside.front c.in-Some-first_open.leaf (GivenTo c.args.worker) c.give.ensures (sym c.first_open.ensures ∙ c.in-Some-first_open.is) c.self.invariant.4,
    )

pub returns : goal.returns
returns c =
    let number = ap next_of c.in-Some.is in
    let fits : c.in-Some.number < 2 ^ 64 = c.task.ensures.fits in
    let next = sym (ap (λ (d : CoordinatorState). d.next) c.self.view_is) ∙ number in
    is_leaf_given _ c.args.self.now c.args.worker c.number.result c.in-Some-first_open.leaf c.in-Some.number _ _ _ c.give.new.self c.in_ok-task.task c.self.view_is c.number.ensures.value number
    (lt-ltb _ _ (rw next fits)) (ap (λ (d : CoordinatorState). position is_open d.leaves) (sym c.self.view_is) ∙ (sym c.first_open.ensures ∙ c.in-Some-first_open.is)) c.give.ensures
    (next_after c.checked_add-self-inside.result c.in-Some.number fits c.checked_add-self-inside.ensures) c.in_ok-task.ensures.given
