use Rattle.std.proofs.Common.{◌≡◌, ◌∙◌, ℕ, zero, suc, ◌-◌, ◌<◌, ◌≤◌, Option, get_or, None, Some, List, length, take, drop, ap, refl, sym, arith, slice_index_or, slice_set}
use Rattle.std.proofs.lemmas.List.{get_or_read}
use Rattle.frames.specs.declared.answer.Answer.{Answer}
use Rattle.frames.specs.declared.answer.Finding.{Finding}
use Rattle.frames.specs.declared.frame.Frame.TheVariants.{Part, Verdict as VerdictFrame}
use Rattle.evidence.specs.Events.{chunk}
use Rattle.evidence.specs.Evidence.{answer_in, bytes_in, finding_in}
use Rattle.coordinator_core.specs.Coordinator.{CoordinatorState, verdict_poll, want_at}
use Rattle.coordinator_core.specs.Invariant.{IsCoordinator}
use Rattle.coordinator_core.proofs.PollLemmas.{held_bytes, wanted_here}
use Rattle.coordinator_core.proofs.InvariantLemmas.{unnoted_is}
use Rattle.coordinator_core.proofs.coordinator.Coordinator.poll_verdict.Goals as goal

-- a worker's noted offset, as the code reads it
note_here : (c s : CoordinatorState) (worker n : ℕ) (o : Option ℕ) → c ≡ s → n ≡ worker → 1 ≤ n → worker ≤ length s.jobs → IsCoordinator c → o ≡ get_or c.wants (n - 1) o → want_at s worker ≡ o
note_here c s worker zero o same number from_1 known is here = absurd (omega (arith, from_1))
note_here c s worker (suc k) o same number from_1 known is here =
    let slot : suc k - 1 ≡ k = omega arith in
    let jobs : length c.jobs ≡ length s.jobs = ap (λ (d : CoordinatorState). length d.jobs) same in
    let inside : suc k - 1 < length c.wants = omega (arith, jobs, known, number, is.tables.each_want) in
    let read : o ≡ slice_index_or c.wants k None = get_or_read c.wants _ o inside here None ∙ ap (λ (i : ℕ). slice_index_or c.wants i None) slot in
    rw (← same, ← number) (sym read)

-- without a noted offset the worker gets Verdict
is_told : (c s : CoordinatorState) (worker : ℕ) (o : Option ℕ) (finding : Finding) → c ≡ s → o ≡ None → finding ≡ finding_in c.verdict
    → (VerdictFrame c.session finding ≡ (verdict_poll s worker o).frame) × (s ≡ (verdict_poll s worker o).after)
is_told c s worker None finding same none is = (rw (is, same) refl, refl)
is_told c s worker (Some offset) finding same none is = absurd (cc)

-- with a noted offset the worker gets Part, and the offset is cleared
is_given : (c s : CoordinatorState) (worker n offset : ℕ) (o : Option ℕ) (answer : Answer) (bytes : List ℕ) → c ≡ s → n ≡ worker → o ≡ Some offset
    → answer ≡ answer_in c.verdict → bytes ≡ take chunk (drop offset (bytes_in c.verdict))
    → (Part c.session answer offset bytes ≡ (verdict_poll s worker o).frame) × (record c { wants = slice_set c.wants (n - 1) None } ≡ (verdict_poll s worker o).after)
is_given c s worker n offset None answer bytes same number some is part = absurd (cc)
is_given c s worker n offset (Some wanted) answer bytes same number some is part =
    let there : wanted ≡ offset = cc in
    (rw (is, part, there, same) refl, rw (number, same) refl)

pub finding-requires-clause-some : goal.finding-requires-clause-some
finding-requires-clause-some c = held_bytes _ c.args.self.now c.self.view_is c.self.invariant.2 c.requires.decided

pub part-requires : goal.part-requires
part-requires c = wanted_here _ c.args.self.now c.args.worker c.number.result c.in-Some.offset c.index.result.now c.self.view_is c.number.ensures.value c.number.ensures.above c.requires.worker.1 c.self.invariant.2 c.index.ensures c.in-Some.is

pub invariant_of-self : goal.invariant_of-self
invariant_of-self c = (c.self.invariant.0, c.self.invariant.1, unnoted_is _ c.number.result c.number.ensures.above c.self.invariant.2, c.self.invariant.3, c.self.invariant.4)

pub returns-in-None : goal.returns-in-None
returns-in-None c =
    let noted = note_here _ c.args.self.now c.args.worker c.number.result c.index.result.now c.self.view_is c.number.ensures.value c.number.ensures.above c.requires.worker.1 c.self.invariant.2 c.index.ensures in
    is_told _ c.args.self.now c.args.worker _ c.finding.result c.self.view_is (noted ∙ c.in-None.is) c.finding.ensures

pub returns-in_ok-bytes-in-Some : goal.returns-in_ok-bytes-in-Some
returns-in_ok-bytes-in-Some c =
    let noted = note_here _ c.args.self.now c.args.worker c.number.result c.index.result.now c.self.view_is c.number.ensures.value c.number.ensures.above c.requires.worker.1 c.self.invariant.2 c.index.ensures in
    is_given _ c.args.self.now c.args.worker c.number.result c.in-Some.offset _ c.answer.result c.in_ok-bytes-in-Some.bytes c.self.view_is c.number.ensures.value (noted ∙ c.in-Some.is) c.answer.ensures c.in_ok-bytes-in-Some.ensures
