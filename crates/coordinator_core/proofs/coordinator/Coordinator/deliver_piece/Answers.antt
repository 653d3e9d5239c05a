use Rattle.std.proofs.Common.{◌≡◌, refl, sym, ◌∙◌, Some}
use Rattle.evidence.specs.Evidence.{with_bytes}
use Rattle.coordinator_core.specs.inner.PrivateCalls.{fixed_cut_to, fixed_with_more}
use Rattle.coordinator_core.specs.Coordinator.{DeliversPiece, ReceivesJobEvidence, with_fixed, job_at, with_job}
use Rattle.coordinator_core.specs.declared.job_state.Fixed.{Fixed}
use Rattle.coordinator_core.specs.declared.job_state.Job.{Job}
use Rattle.coordinator_core.proofs.JobEvidenceLemmas.{fixed_now, settled, unsettled, piece_put, cut_back, from_ok, from_err}
use Rattle.std.proofs.Common.{arith, inl, length-append}
use Rattle.coordinator_core.proofs.coordinator.Coordinator.deliver_piece.Goals as goal

pub check_if_complete-requires : goal.check_if_complete-requires
check_if_complete-requires c =
    let q = (c.comes_next.ensures c.args.bytes.now (sym c.len.ensures.value)).0 c.if-not-comes_next.false in
    let x : Fixed = record q.1 { evidence = with_bytes q.1.evidence c.args.bytes.now } in
    let ok = from_ok ((j : Job) → job_at c.args.self.now c.args.attempt.now.worker ≡ Some j → c.append_bytes.new.self ≡ with_job c.args.self.now c.args.attempt.now.worker (Some (record j { fixed = fixed_with_more j.fixed c.as_slice.result.now }))) c.append_bytes.result (sym c.is_err.ensures.value ∙ c.if-is_err.false) c.append_bytes.ensures.ok in
    let put : c.append_bytes.new.self ≡ with_job c.args.self.now c.args.attempt.now.worker (Some (with_fixed q.0 x)) = piece_put c.args.self.now c.append_bytes.new.self c.args.attempt.now.worker q.0 q.1 c.as_slice.result.now c.args.bytes.now (ok q.0 q.2.fetched.awaited.job) q.2.fetched.fixed c.as_slice.ensures in
    let deciding = q.2.fetched.awaited.deciding in
    (with_fixed q.0 x, x, fixed_now c.args.self.now c.append_bytes.new.self c.args.attempt.now.worker q.0 x deciding q.2.fetched.awaited.job put)

pub returns-then-is_err : goal.returns-then-is_err
returns-then-is_err c =
    let q = (c.comes_next.ensures c.args.bytes.now (sym c.len.ensures.value)).0 c.if-not-comes_next.false in
    let x : Fixed = record q.1 { evidence = with_bytes q.1.evidence c.args.bytes.now } in
    let same = from_err (c.append_bytes.new.self ≡ c.args.self.now) c.append_bytes.result (sym c.is_err.ensures.value ∙ c.if-is_err.true) c.append_bytes.ensures.err in
    DeliversPiece.appends q.0 q.1 q.2 (ReceivesJobEvidence.no_memory (inl (omega (arith, c.len.ensures.above, c.len.ensures.value, length-append q.1.evidence.bytes c.args.bytes.now))) refl same)

pub returns-in-NoMemory : goal.returns-in-NoMemory
returns-in-NoMemory c =
    let q = (c.comes_next.ensures c.args.bytes.now (sym c.len.ensures.value)).0 c.if-not-comes_next.false in
    let x : Fixed = record q.1 { evidence = with_bytes q.1.evidence c.args.bytes.now } in
    let ok = from_ok ((j : Job) → job_at c.args.self.now c.args.attempt.now.worker ≡ Some j → c.append_bytes.new.self ≡ with_job c.args.self.now c.args.attempt.now.worker (Some (record j { fixed = fixed_with_more j.fixed c.as_slice.result.now }))) c.append_bytes.result (sym c.is_err.ensures.value ∙ c.if-is_err.false) c.append_bytes.ensures.ok in
    let put : c.append_bytes.new.self ≡ with_job c.args.self.now c.args.attempt.now.worker (Some (with_fixed q.0 x)) = piece_put c.args.self.now c.append_bytes.new.self c.args.attempt.now.worker q.0 q.1 c.as_slice.result.now c.args.bytes.now (ok q.0 q.2.fetched.awaited.job) q.2.fetched.fixed c.as_slice.ensures in
    let deciding = q.2.fetched.awaited.deciding in
    DeliversPiece.appends q.0 q.1 q.2
    (unsettled c.args.self.now c.append_bytes.new.self c.check_if_complete.new.self c.shorten.new.self c.args.attempt.now.worker q.0 x c.check_if_complete.result (fixed_cut_to c.args.offset) deciding q.2.fetched.awaited.job put c.check_if_complete.ensures c.in-NoMemory.is c.shorten.ensures
    (cut_back q.1 q.0.fixed c.args.offset c.args.bytes.now q.2.comes.next q.2.fetched.fixed))

pub returns-in_default : goal.returns-in_default
returns-in_default c =
    let q = (c.comes_next.ensures c.args.bytes.now (sym c.len.ensures.value)).0 c.if-not-comes_next.false in
    let x : Fixed = record q.1 { evidence = with_bytes q.1.evidence c.args.bytes.now } in
    let ok = from_ok ((j : Job) → job_at c.args.self.now c.args.attempt.now.worker ≡ Some j → c.append_bytes.new.self ≡ with_job c.args.self.now c.args.attempt.now.worker (Some (record j { fixed = fixed_with_more j.fixed c.as_slice.result.now }))) c.append_bytes.result (sym c.is_err.ensures.value ∙ c.if-is_err.false) c.append_bytes.ensures.ok in
    let put : c.append_bytes.new.self ≡ with_job c.args.self.now c.args.attempt.now.worker (Some (with_fixed q.0 x)) = piece_put c.args.self.now c.append_bytes.new.self c.args.attempt.now.worker q.0 q.1 c.as_slice.result.now c.args.bytes.now (ok q.0 q.2.fetched.awaited.job) q.2.fetched.fixed c.as_slice.ensures in
    let deciding = q.2.fetched.awaited.deciding in
    DeliversPiece.appends q.0 q.1 q.2
    (settled c.args.self.now c.append_bytes.new.self c.check_if_complete.new.self c.args.attempt.now.worker q.0 x c.check_if_complete.result deciding q.2.fetched.awaited.job put c.check_if_complete.ensures c.in_default.not-NoMemory)
