-- Every step of a coordinator keeps its invariant.
use Rattle.std.proofs.Common.{◌≡◌, ℕ, ◌+◌, ◌<◌, ◌≤◌, ◌^◌, nat_lt, Bool, true, false, List, length, map, Option, Some, None, refl, subst, sym, ap, ◌∙◌, inl, inr, arith, length-append}
use Rattle.std.specs.Prelude.{All, position}
use Rattle.std.proofs.lemmas.Bool.{ltb-true}
use Rattle.std.proofs.lemmas.List.{length-map}
use Rattle.std.proofs.lemmas.List.Quantifiers.{position-Some}
use Rattle.std.proofs.lemmas.Option.{slice_get-get_or}
use Rattle.dimacs.specs.logic.Cnf.{Cnf, IsFormula}
use Rattle.icnf.specs.Leaves.{Cube}
use Rattle.lrat_text.specs.Proof.{Accepts}
use Rattle.lrat_check.specs.Judgement.{value_byte}
use Rattle.lrat_check.specs.declared.verdict.Reaction.{Reaction}
use Rattle.lrat_check.specs.declared.verdict.Verdict.{Verdict}
use Rattle.lrat_check.specs.declared.verdict.Verdict.TheVariants.{Nothing, Model, Proof}
use Rattle.frames.specs.Answers.{length_of}
use Rattle.frames.specs.declared.answer.Answer.TheVariants as answers
use Rattle.frames.specs.declared.answer.Ending.{Ending}
use Rattle.frames.specs.declared.frame.Attempt.{Attempt}
use Rattle.frames.specs.declared.frame.Frame.{Frame}
use Rattle.frames.specs.declared.frame.Frame.TheVariants.{Task, Done, Fetch, Piece, Verdict as VerdictFrame, Want, Part, Idle, Rest}
use Rattle.cube_split.specs.Definitions.{IsPairOf, base_with}
use Rattle.cube_split.specs.declared.pair.Pair.{Pair}
use Rattle.proof_join.specs.Definitions.{JoinedOver}
use Rattle.proof_join.specs.JoinedProof.{AllClose}
use Rattle.evidence.specs.Evidence.{bytes_in, with_bytes, IsRightEvidence}
use Rattle.evidence.specs.Events.{Event, Delivered, Worked, Polled, Lost, Given, Reacted, Sent, Silent}
use Rattle.coordinator_core.specs.Coordinator.{CoordinatorState, IsDeciding, CompletesFragment, CompletesAssignment, ReceivesJobEvidence, DeliversLimit, DeliversFirstDone, DeliversDone, DeliversPiece, DeliversIdle, DeliversWant, CoordinatorDelivers, CoordinatorPolls, CoordinatorStep, coordinator_base, with_job, with_fixed, job_at, want_at, is_open, verdict_poll, leaf_poll, fixed_poll, job_poll, stuck_poll, poll_by, lost_by}
use Rattle.coordinator_core.specs.Invariant.{IsCoordinator, IsNote}
use Rattle.coordinator_core.specs.declared.job_state.Fixed.{Fixed}
use Rattle.coordinator_core.specs.declared.job_state.Job.{Job}
use Rattle.coordinator_core.specs.declared.job_state.LeafState.{LeafState}
use Rattle.coordinator_core.specs.declared.job_state.LeafState.TheVariants.{Open, GivenTo, Closed}
use Rattle.coordinator_core.proofs.SplitStates.{is_split}
use Rattle.coordinator_core.proofs.InvariantLemmas.{pairs_few, pairs_inside, with_fixed_is, is_reopened, is_given, is_stuck, is_decided, closed_all, is_closed, is_noted}

-- fragments that close the cubes of all leaves are joined into an accepted proof
abbrev pub JoiningLaw : Type 0
JoiningLaw = (F : Cnf) (pairs : List Pair) (leaves : List Cube) (texts : List (List ℕ)) (text : List ℕ)
    → IsFormula F → All (IsPairOf F.vars) pairs → length pairs ≤ 64 → AllClose (base_with F pairs) leaves texts → JoinedOver F pairs leaves texts text → length text < 2 ^ 32 → Accepts F text

-- the number of a formula's variables is below 2^32
values_short : (F : Cnf) (bytes : List ℕ) (v : Verdict) → IsFormula F → IsRightEvidence F answers.Assignment bytes v → length (bytes_in v) < 2 ^ 32
values_short F bytes v formula e =
    let a = e.bears.0 in
    let count : length (map value_byte a) ≡ F.vars = simp length-map e.bears.3 in
    subst (λ (w : Verdict). length (bytes_in w) < 2 ^ 32) (sym e.bears.1) (omega (arith, count, formula.vars))

fits_some : (x y : Fixed) → length x.evidence.bytes ≤ length_of x.evidence.finding → Some x ≡ Some y → length y.evidence.bytes ≤ length_of y.evidence.finding
fits_some x y h e = subst (λ (z : Fixed). length z.evidence.bytes ≤ length_of z.evidence.finding) (same e) h
  where
    same : Some x ≡ Some y → x ≡ y
    same p = cc

module _ (law : JoiningLaw) where
  -- the same for the fragments of a coordinator
  joined_accepts : (c : CoordinatorState) (texts : List (List ℕ)) (text : List ℕ) → IsCoordinator c → AllClose (coordinator_base c) c.tree texts
      → JoinedOver c.formula c.definitions.pairs c.tree texts text → length text < 2 ^ 32 → Accepts c.formula text
  joined_accepts c texts text is closes joined short =
      law c.formula c.definitions.pairs c.tree texts text is.grounds.formula (pairs_inside c is) (pairs_few c is) closes joined short

  fragment_keeps : (c : CoordinatorState) (worker : ℕ) (j : Job) (text : List ℕ) (answer : Reaction) (new : CoordinatorState)
      → IsCoordinator c → job_at c worker ≡ Some j → IsDeciding c → CompletesFragment c worker j text answer new → IsCoordinator new
  fragment_keeps c worker j text answer new is at deciding (CompletesFragment.wrong never a now) = subst IsCoordinator (sym now) (is_reopened c worker j at is)
  fragment_keeps c worker j text answer new is at deciding (CompletesFragment.closes closes some a now) =
      subst IsCoordinator (sym now) (is_closed c worker j text c.verdict c.stuck at is deciding.undecided closes is.right is.short is.stuck (λ all. absurd (some all)))
  fragment_keeps c worker j text answer new is at deciding (CompletesFragment.joins closes all proof joined short a now) =
      subst IsCoordinator (sym now) (is_closed c worker j text (Proof proof) c.stuck at is deciding.undecided closes
      (joined_accepts c _ proof is (closed_all c worker j text is closes all) joined short) short (λ stuck. not_both stuck)
      (λ _. record { text = proof; joined = joined; end = inl refl }))
    where
      not_both : c.stuck ≡ true → Proof proof ≡ Nothing
      not_both stuck = let e : false ≡ true = sym deciding.going ∙ stuck in cc
  fragment_keeps c worker j text answer new is at deciding (CompletesFragment.too_long closes all proof joined long a now) =
      subst IsCoordinator (sym now) (is_closed c worker j text c.verdict true at is deciding.undecided closes is.right is.short (λ _. deciding.undecided)
      (λ _. record { text = proof; joined = joined; end = inr (refl, long) }))

  assignment_keeps : (c : CoordinatorState) (worker : ℕ) (j : Job) (x : Fixed) (answer : Reaction) (new : CoordinatorState)
      → IsCoordinator c → job_at c worker ≡ Some j → IsDeciding c → length x.evidence.bytes ≤ length_of x.evidence.finding → CompletesAssignment c worker j x answer new → IsCoordinator new
  assignment_keeps c worker j x answer new is at deciding fits (CompletesAssignment.holds v right a now) =
      let kept : IsCoordinator (with_job c worker (Some (with_fixed j x))) = with_fixed_is c worker j (with_fixed j x) at refl (λ y e. fits_some x y fits e) is in
      let still : IsDeciding (with_job c worker (Some (with_fixed j x))) = record { undecided = deciding.undecided; going = deciding.going } in
      subst IsCoordinator (sym now) (is_decided (with_job c worker (Some (with_fixed j x))) v still right.right (values_short c.formula _ v is.grounds.formula right) kept)
  assignment_keeps c worker j x answer new is at deciding fits (CompletesAssignment.wrong never a now) = subst IsCoordinator (sym now) (is_reopened c worker j at is)

  gathers_keeps : (c : CoordinatorState) (worker : ℕ) (j : Job) (x : Fixed) (answer : Reaction) (new : CoordinatorState)
      → IsCoordinator c → job_at c worker ≡ Some j → IsDeciding c → length x.evidence.bytes ≤ length_of x.evidence.finding → ReceivesJobEvidence c worker j x answer new → IsCoordinator new
  gathers_keeps c worker j x answer new is at deciding fits (ReceivesJobEvidence.waits more a now) =
      subst IsCoordinator (sym now) (with_fixed_is c worker j (with_fixed j x) at refl (λ y e. fits_some x y fits e) is)
  gathers_keeps c worker j x answer new is at deciding fits (ReceivesJobEvidence.fragment complete refuted ends) = fragment_keeps c worker j x.evidence.bytes answer new is at deciding ends
  gathers_keeps c worker j x answer new is at deciding fits (ReceivesJobEvidence.assignment complete assigned ends) = assignment_keeps c worker j x answer new is at deciding fits ends
  gathers_keeps c worker j x answer new is at deciding fits (ReceivesJobEvidence.no_memory grows a now) = subst IsCoordinator (sym now) is

  limit_keeps : (c : CoordinatorState) (worker : ℕ) (j : Job) (answer : Reaction) (new : CoordinatorState)
      → IsCoordinator c → job_at c worker ≡ Some j → IsDeciding c → DeliversLimit c worker j answer new → IsCoordinator new
  limit_keeps c worker j answer new is at deciding (DeliversLimit.splits v can a now) = subst IsCoordinator (sym now) (is_split c worker j v at can is)
  limit_keeps c worker j answer new is at deciding (DeliversLimit.stops whole a now) = subst IsCoordinator (sym now) (is_stuck c deciding is)
  limit_keeps c worker j answer new is at deciding (DeliversLimit.no_memory may a now) = subst IsCoordinator (sym now) is

  first_keeps : (c : CoordinatorState) (attempt : Attempt) (j : Job) (ending : Ending) (answer : Reaction) (new : CoordinatorState)
      → IsCoordinator c → job_at c attempt.worker ≡ Some j → IsDeciding c → DeliversFirstDone c attempt j ending answer new → IsCoordinator new
  first_keeps c attempt j ending answer new is at deciding (DeliversFirstDone.limited end meets) = limit_keeps c attempt.worker j answer new is at deciding meets
  first_keeps c attempt j ending answer new is at deciding (DeliversFirstDone.wrong_length finding end wrong a now) = subst IsCoordinator (sym now) (is_reopened c attempt.worker j at is)
  first_keeps c attempt j ending answer new is at deciding (DeliversFirstDone.fixes finding end right gathers) = gathers_keeps c attempt.worker j _ answer new is at deciding (omega arith) gathers

  done_keeps : (c : CoordinatorState) (attempt : Attempt) (ending : Ending) (answer : Reaction) (new : CoordinatorState) → IsCoordinator c → DeliversDone c attempt ending answer new → IsCoordinator new
  done_keeps c attempt ending answer new is (DeliversDone.is_ignored none a now) = subst IsCoordinator (sym now) is
  done_keeps c attempt ending answer new is (DeliversDone.first j awaited free answers) = first_keeps c attempt j ending answer new is awaited.job awaited.deciding answers
  done_keeps c attempt ending answer new is (DeliversDone.again j x fetched a now) = subst IsCoordinator (sym now) is
  done_keeps c attempt ending answer new is (DeliversDone.anew j x awaited fixed other a now) = subst IsCoordinator (sym now) (is_reopened c attempt.worker j awaited.job is)

  piece_keeps : (c : CoordinatorState) (attempt : Attempt) (offset : ℕ) (bytes : List ℕ) (answer : Reaction) (new : CoordinatorState) → IsCoordinator c → DeliversPiece c attempt offset bytes answer new → IsCoordinator new
  piece_keeps c attempt offset bytes answer new is (DeliversPiece.is_ignored none a now) = subst IsCoordinator (sym now) is
  piece_keeps c attempt offset bytes answer new is (DeliversPiece.appends j x fits gathers) =
      let long : length x.evidence.bytes + length bytes ≤ length_of x.evidence.finding = fits.comes.within in
      gathers_keeps c attempt.worker j (record x { evidence = with_bytes x.evidence bytes }) answer new is fits.fetched.awaited.job fits.fetched.awaited.deciding
      (omega (arith, long, length-append x.evidence.bytes bytes)) gathers

  idle_keeps : (c : CoordinatorState) (worker incarnation : ℕ) (answer : Reaction) (new : CoordinatorState) → IsCoordinator c → DeliversIdle c worker incarnation answer new → IsCoordinator new
  idle_keeps c worker incarnation answer new is (DeliversIdle.is_ignored none a now) = subst IsCoordinator (sym now) is
  idle_keeps c worker incarnation answer new is (DeliversIdle.anew j stale a now) = subst IsCoordinator (sym now) (is_reopened c worker j stale.job is)

  want_keeps : (c : CoordinatorState) (session worker offset : ℕ) (answer : Reaction) (new : CoordinatorState) → IsCoordinator c → DeliversWant c session worker offset answer new → IsCoordinator new
  want_keeps c session worker offset answer new is (DeliversWant.is_ignored none a now) = subst IsCoordinator (sym now) is
  want_keeps c session worker offset answer new is (DeliversWant.notes wanted a now) =
      subst IsCoordinator (sym now) (is_noted c worker (Some offset) wanted.known.0 (λ o e. subst (λ (k : ℕ). k < length (bytes_in c.verdict)) (same offset o e) wanted.within) is)
    where
      same : (p q : ℕ) → Some p ≡ Some q → p ≡ q
      same p q e = cc

  delivery_keeps : (c : CoordinatorState) (frame : Frame) (answer : Reaction) (new : CoordinatorState) → IsCoordinator c → CoordinatorDelivers c frame answer new → IsCoordinator new
  delivery_keeps c (Done attempt ending) answer new is step = done_keeps c attempt ending answer new is step
  delivery_keeps c (Piece attempt offset bytes) answer new is step = piece_keeps c attempt offset bytes answer new is step
  delivery_keeps c (Idle worker incarnation) answer new is step = idle_keeps c worker incarnation answer new is step
  delivery_keeps c (Want session worker offset) answer new is step = want_keeps c session worker offset answer new is step
  delivery_keeps c (Task session job bound cube) answer new is step = subst IsCoordinator (sym step.1) is
  delivery_keeps c (Fetch attempt offset) answer new is step = subst IsCoordinator (sym step.1) is
  delivery_keeps c (VerdictFrame session finding) answer new is step = subst IsCoordinator (sym step.1) is
  delivery_keeps c (Part session part offset bytes) answer new is step = subst IsCoordinator (sym step.1) is
  delivery_keeps c Rest answer new is step = subst IsCoordinator (sym step.1) is

-- a poll
none_noted : (bytes : List ℕ) → IsNote None bytes
none_noted bytes o e = cc

verdict_poll_keeps : (c : CoordinatorState) (worker : ℕ) (o : Option ℕ) → 1 ≤ worker → IsCoordinator c → IsCoordinator (verdict_poll c worker o).after
verdict_poll_keeps c worker (Some offset) from_1 is = is_noted c worker None from_1 (none_noted (bytes_in c.verdict)) is
verdict_poll_keeps c worker None from_1 is = is

open_leaf : (l : LeafState) → is_open l ≡ true → l ≡ Open
open_leaf Open e = refl
open_leaf (GivenTo worker) e = cc
open_leaf Closed e = cc

leaf_poll_keeps : (c : CoordinatorState) (worker : ℕ) (more : Bool) (o : Option ℕ) → 1 ≤ worker → nat_lt c.next (2 ^ 64) ≡ more → position is_open c.leaves ≡ o → IsCoordinator c → IsCoordinator (leaf_poll c worker more o).after
leaf_poll_keeps c worker true (Some leaf) from_1 below at is =
    let p = position-Some is_open c.leaves leaf Closed at in
    let inside : leaf < length c.leaves = p.0 in
    is_given c worker leaf from_1 (ltb-true c.next (2 ^ 64) below) (slice_get-get_or c.leaves leaf Closed inside ∙ ap (λ (l : LeafState). Some l) (open_leaf _ p.1)) inside is
leaf_poll_keeps c worker true None from_1 below at is = is
leaf_poll_keeps c worker false o from_1 below at is = is

fixed_poll_keeps : (c : CoordinatorState) (worker : ℕ) (j : Job) (o : Option Fixed) → IsCoordinator c → IsCoordinator (fixed_poll c worker j o).after
fixed_poll_keeps c worker j (Some x) is = is
fixed_poll_keeps c worker j None is = is

job_poll_keeps : (c : CoordinatorState) (worker : ℕ) (o : Option Job) → 1 ≤ worker → IsCoordinator c → IsCoordinator (job_poll c worker o).after
job_poll_keeps c worker (Some j) from_1 is = fixed_poll_keeps c worker j j.fixed is
job_poll_keeps c worker None from_1 is = leaf_poll_keeps c worker _ _ from_1 refl refl is

stuck_poll_keeps : (c : CoordinatorState) (worker : ℕ) (stuck : Bool) → 1 ≤ worker → IsCoordinator c → IsCoordinator (stuck_poll c worker stuck).after
stuck_poll_keeps c worker true from_1 is = is
stuck_poll_keeps c worker false from_1 is = job_poll_keeps c worker (job_at c worker) from_1 is

poll_by_keeps : (c : CoordinatorState) (worker : ℕ) (v : Verdict) → 1 ≤ worker → IsCoordinator c → IsCoordinator (poll_by c worker v).after
poll_by_keeps c worker Nothing from_1 is = stuck_poll_keeps c worker c.stuck from_1 is
poll_by_keeps c worker (Model values) from_1 is = verdict_poll_keeps c worker (want_at c worker) from_1 is
poll_by_keeps c worker (Proof text) from_1 is = verdict_poll_keeps c worker (want_at c worker) from_1 is

polls_keeps : (c : CoordinatorState) (worker : ℕ) (given : Given) (new : CoordinatorState) → 1 ≤ worker → IsCoordinator c → CoordinatorPolls c worker given new → IsCoordinator new
polls_keeps c worker given new from_1 is (CoordinatorPolls.sends a now) = subst IsCoordinator (sym now) (poll_by_keeps c worker c.verdict from_1 is)
polls_keeps c worker given new from_1 is (CoordinatorPolls.no_memory grows a now) = subst IsCoordinator (sym now) is

-- the loss of a link
lost_keeps : (c : CoordinatorState) (worker : ℕ) (o : Option Job) → job_at c worker ≡ o → IsCoordinator c → IsCoordinator (lost_by c worker o)
lost_keeps c worker None at is = is
lost_keeps c worker (Some j) at is = is_reopened c worker j at is

pub step_keeps : JoiningLaw → (c : CoordinatorState) (event : Event) (given : Given) (new : CoordinatorState) → CoordinatorStep c event given new → IsCoordinator c → IsCoordinator new
step_keeps law c (Delivered frame) (Reacted answer) new step is = delivery_keeps law c frame answer new is step
step_keeps law c (Polled worker) given new step is = polls_keeps c worker given new step.0.0 is step.1
step_keeps law c (Lost worker) Silent new step is = subst IsCoordinator (sym step) (lost_keeps c worker (job_at c worker) refl is)
step_keeps law c (Delivered frame) (Sent sent) new step is = absurd step
step_keeps law c (Delivered frame) Silent new step is = absurd step
step_keeps law c (Lost worker) (Reacted answer) new step is = absurd step
step_keeps law c (Lost worker) (Sent sent) new step is = absurd step
step_keeps law c Worked given new step is = absurd step
