-- The search and the polls of a worker under closed schedules.
use Rattle.std.proofs.Common.{◌≡◌, ℕ, ◌^◌, nat_lt, Bool, true, false, List, length, map, take, Contains, Option, Some, None, refl, subst, sym, ap, ◌∙◌, ◌⊎◌, inl, inr}
use Rattle.std.specs.Prelude.{if◌then◌else◌}
use Rattle.std.proofs.lemmas.List.Elements.{Contains-push, Contains-push_cases}
use Rattle.dimacs.specs.logic.Cnf.{Cnf, IsFormula}
use Rattle.cube_solve.specs.Outcome.{IsModel}
use Rattle.cube_solve.specs.declared.outcome.Outcome.{Outcome}
use Rattle.cube_solve.specs.declared.outcome.Outcome.TheVariants as outcome
use Rattle.icnf.specs.Leaves.{Cube}
use Rattle.lrat_check.specs.declared.verdict.Verdict.TheVariants.{Model}
use Rattle.lrat_check.specs.declared.verdict.Reaction.{Reaction}
use Rattle.frames.specs.declared.answer.Answer.TheVariants as answers
use Rattle.frames.specs.declared.frame.Attempt.{Attempt}
use Rattle.lrat_check.specs.Judgement.{value_byte}
use Rattle.cube_split.specs.Definitions.{base_with}
use Rattle.cube_split.specs.declared.pair.Pair.{Pair}
use Rattle.proof_join.proofs.CutLemmas.{cut_back}
use Rattle.evidence.specs.Evidence.{IsRightEvidence}
use Rattle.evidence.specs.Jobs.{name_of}
use Rattle.evidence.specs.Events.{chunk}
use Rattle.evidence.specs.declared.job.JobName.{JobName}
use Rattle.worker_core.specs.Worker.{WorkerState, WorkerWorks, MayEnd, kept, own_attempt, work_frame, candidate_frame, noted_frame, worker_frame, without_note, worker_after}
use Rattle.worker_core.specs.declared.work.Work.{Work}
use Rattle.worker_core.specs.declared.work.Work.TheVariants.{Free, Pending, Limited, Found}
use Rattle.worker_core.specs.declared.candidate.Candidate.{Candidate}
use Rattle.honest_cluster.proofs.History.{History, Asked, Answered, Decision, Reply, Met, Shown, IsTrueFrame, IsTrueReply, IsSettled, IsHonestWork, IsHonestWorker, IsEarlierJob, IsPassed, IsNote, asks, answers_so}
use Rattle.evidence.proofs.EvidenceLemmas.{bears_out}
use Rattle.honest_cluster.proofs.Prefixes.{chunk_stands}
use Rattle.honest_cluster.proofs.HistoryLemmas.{plain_by, IsMore, as_much, answering, answering_more, not_before_itself}
use Rattle.honest_cluster.proofs.WorkerLemmas.{IsFine, stays}

-- what is added to the history is a reply of this worker
pub record OwnReplies (T : History) (w : WorkerState) (U : History) : Type 0 where
  pub more : IsMore T U
  pub asked : (a : Asked) → Contains U.asked a → Contains T.asked a
  pub decided : (d : Decision) → Contains U.decided d → Contains T.decided d
  pub own : (attempt : Attempt) (r : Reply) → Contains U.answered (answers_so attempt r)
      → Contains T.answered (answers_so attempt r) ⊎ ((attempt.worker ≡ w.number) × (attempt.incarnation ≡ w.incarnation))

-- what is kept of an outcome, as a reply
abbrev reply_of : ℕ → Outcome → Reply
reply_of vars (outcome.Model values) = Shown answers.Assignment (map value_byte (take vars values))
reply_of vars (outcome.Refuted text) = if nat_lt (length text) (2 ^ 32) then Shown answers.Refuted text else Met
reply_of vars (outcome.Limit text) = Met

abbrev work_for : JobName → Reply → Work
work_for name Met = Limited name
work_for name (Shown answer bytes) = Found name answer bytes None

kept_is : (name : JobName) (vars : ℕ) (end : Outcome) → kept name vars end ≡ work_for name (reply_of vars end)
kept_is name vars (outcome.Model values) = refl
kept_is name vars (outcome.Refuted text) = go (nat_lt (length text) (2 ^ 32))
  where
    go : (b : Bool) → (if b then Found name answers.Refuted text None else Limited name) ≡ work_for name (if b then Shown answers.Refuted text else Met)
    go true = refl
    go false = refl
kept_is name vars (outcome.Limit text) = refl

-- a base with definitions
pub record IsDefinedBase (F B : Cnf) : Type 0 where
  pub limits : IsFormula F
  pub pairs : List Pair
  pub is : B ≡ base_with F pairs

-- an assignment that satisfies the base, cut to the formula's variables, satisfies the formula
model_true : (F B : Cnf) (cube : Cube) (values : List Bool) → IsDefinedBase F B → IsModel B cube values
    → IsRightEvidence F answers.Assignment (map value_byte (take F.vars values)) (Model (take F.vars values))
model_true F B cube values base model =
    let there : IsModel (base_with F base.pairs) cube values = subst (λ (k : Cnf). IsModel k cube values) base.is model in
    bears_out F answers.Assignment (map value_byte (take F.vars values)) (Model (take F.vars values))
    (record { some = λ e. cc; answer_is = refl; bytes_are = refl })
    (cut_back F base.pairs values base.limits there.whole there.base)

reply_true : (F B : Cnf) (asked : List Asked) (name : JobName) (cube : Cube) (limit : ℕ) (end : Outcome) → IsDefinedBase F B → Contains asked (asks name cube) → MayEnd B cube limit end
    → IsTrueReply F B asked name (reply_of F.vars end)
reply_true F B asked name cube limit (outcome.Model values) base known ends = (Model (take F.vars values), model_true F B cube values base ends)
reply_true F B asked name cube limit (outcome.Refuted text) base known ends = go (nat_lt (length text) (2 ^ 32))
  where
    go : (b : Bool) → IsTrueReply F B asked name (if b then Shown answers.Refuted text else Met)
    go true = (cube, known, ends.0)
    go false = tt
reply_true F B asked name cube limit (outcome.Limit text) base known ends = tt

same_answered : (a b : Attempt) (r s : Reply) → answers_so a r ≡ answers_so b s → (a ≡ b) × (r ≡ s)
same_answered a b r s e = (ap (λ k. k.attempt) e, ap (λ k. k.reply) e)

-- a worker with a pending task has not replied to it yet
not_told : (T : History) (w : WorkerState) (name : JobName) (cube : Cube) (limit : ℕ) (attempt : Attempt) (r : Reply) → IsHonestWorker T w → w.work ≡ Pending name cube limit
    → Contains T.answered (answers_so attempt r) → own_attempt w name ≡ attempt → ⊥
not_told T w name cube limit attempt r honest waits told same =
    let own : Contains T.answered (answers_so (own_attempt w name) r) = subst (λ (a : Attempt). Contains T.answered (answers_so a r)) (sym same) told in
    not_before_itself name (subst (λ (k : Work). IsEarlierJob w k name) waits (honest.behind name r own))

settled_answering : (T : History) (w : WorkerState) (name : JobName) (cube : Cube) (limit : ℕ) (reply : Reply) → IsSettled w.formula w.base T → IsHonestWorker T w → w.work ≡ Pending name cube limit
    → IsTrueReply w.formula w.base T.asked name reply → IsSettled w.formula w.base (answering T (answers_so (own_attempt w name) reply))
settled_answering T w name cube limit reply settled honest waits is_true = record {
  one_cube = settled.one_cube;
  inside = settled.inside;
  one_reply = λ attempt r s hr hs. one attempt r s (Contains-push_cases T.answered _ _ hr) (Contains-push_cases T.answered _ _ hs);
  true_reply = λ attempt r h. all_true attempt r (Contains-push_cases T.answered _ _ h);
  one_verdict = settled.one_verdict;
  decision = settled.decision;
  right = settled.right;
}
  where
    one : (attempt : Attempt) (r s : Reply)
        → Contains T.answered (answers_so attempt r) ⊎ (answers_so (own_attempt w name) reply ≡ answers_so attempt r)
        → Contains T.answered (answers_so attempt s) ⊎ (answers_so (own_attempt w name) reply ≡ answers_so attempt s) → r ≡ s
    one attempt r s (inl p) (inl q) = settled.one_reply attempt r s p q
    one attempt r s (inl p) (inr q) = absurd (not_told T w name cube limit attempt r honest waits p (same_answered _ _ _ _ q).0)
    one attempt r s (inr p) (inl q) = absurd (not_told T w name cube limit attempt s honest waits q (same_answered _ _ _ _ p).0)
    one attempt r s (inr p) (inr q) = sym (same_answered _ _ _ _ p).1 ∙ (same_answered _ _ _ _ q).1

    all_true : (attempt : Attempt) (r : Reply)
        → Contains T.answered (answers_so attempt r) ⊎ (answers_so (own_attempt w name) reply ≡ answers_so attempt r) → IsTrueReply w.formula w.base T.asked (name_of attempt) r
    all_true attempt r (inl p) = settled.true_reply attempt r p
    all_true attempt r (inr p) =
        let at : own_attempt w name ≡ attempt = (same_answered _ _ _ _ p).0 in
        let same : reply ≡ r = (same_answered _ _ _ _ p).1 in
        let named : IsTrueReply w.formula w.base T.asked (name_of attempt) reply = subst (λ (a : Attempt). IsTrueReply w.formula w.base T.asked (name_of a) reply) at is_true in
        subst (IsTrueReply w.formula w.base T.asked (name_of attempt)) same named

none_noted : (bytes : List ℕ) → IsNote None bytes
none_noted bytes = λ o e. cc

-- the worker has replied to its task, and keeps the reply
honest_answering : (T : History) (w : WorkerState) (name : JobName) (cube : Cube) (limit : ℕ) (reply : Reply) → IsHonestWorker T w → w.work ≡ Pending name cube limit
    → IsHonestWorker (answering T (answers_so (own_attempt w name) reply)) (record w { work = work_for name reply })
honest_answering T w name cube limit reply honest waits = record {
  work = keeps reply;
  behind = λ n r h. is_behind reply n (reached n r (Contains-push_cases T.answered _ _ h));
  candidate = honest.candidate;
  right = honest.right;
}
  where
    was : (w.last ≡ Some name) × Contains T.asked (asks name cube)
    was = subst (IsHonestWork T w) waits honest.work

    keeps : (r : Reply) → IsHonestWork (answering T (answers_so (own_attempt w name) r)) (record w { work = work_for name r }) (work_for name r)
    keeps Met = (was.0, Contains-push T.answered (answers_so (own_attempt w name) Met))
    keeps (Shown answer bytes) = (was.0, Contains-push T.answered (answers_so (own_attempt w name) (Shown answer bytes)), none_noted bytes)

    reached : (n : JobName) (r : Reply)
        → Contains T.answered (answers_so (own_attempt w n) r) ⊎ (answers_so (own_attempt w name) reply ≡ answers_so (own_attempt w n) r) → IsPassed w.last n
    reached n r (inl p) = (name, was.0, inl (subst (λ (k : Work). IsEarlierJob w k n) waits (honest.behind n r p)))
    reached n r (inr p) = (name, was.0, inr (sym (ap name_of (same_answered _ _ _ _ p).0)))

    is_behind : (r : Reply) (n : JobName) → IsPassed w.last n → IsEarlierJob (record w { work = work_for name r }) (work_for name r) n
    is_behind Met n h = h
    is_behind (Shown answer bytes) n h = h

-- a search leaves a worker honest, and adds at most one reply, its own
pub work_fine : (T : History) (w : WorkerState) (answer : Reaction) (new : WorkerState) → IsDefinedBase w.formula w.base → IsSettled w.formula w.base T → IsHonestWorker T w → WorkerWorks w answer new
    → (U : History) × OwnReplies T w U × IsSettled w.formula w.base U × IsFine U w answer new
work_fine T w answer new base settled honest (WorkerWorks.rests none is same) = (T, nothing_told T w, settled, stays T w answer _ new honest is tt same)
  where
    nothing_told : (T : History) (w : WorkerState) → OwnReplies T w T
    nothing_told T w = record { more = as_much T; asked = λ a h. h; decided = λ d h. h; own = λ attempt r h. inl h }
work_fine T w answer new base settled honest (WorkerWorks.no_memory name cube limit waits is same) = (T, nothing_told T w, settled, stays T w answer _ new honest is tt same)
  where
    nothing_told : (T : History) (w : WorkerState) → OwnReplies T w T
    nothing_told T w = record { more = as_much T; asked = λ a h. h; decided = λ d h. h; own = λ attempt r h. inl h }
work_fine T w answer new base settled honest (WorkerWorks.finishes name cube limit waits end ends is now) =
    let reply : Reply = reply_of w.formula.vars end in
    let entry : Answered = answers_so (own_attempt w name) reply in
    let was : IsHonestWork T w (Pending name cube limit) = subst (IsHonestWork T w) waits honest.work in
    let is_true : IsTrueReply w.formula w.base T.asked name reply = reply_true w.formula w.base T.asked name cube limit end base was.1 ends in
    let after : new ≡ record w { work = work_for name reply } = now ∙ ap (λ (k : Work). record w { work = k }) (kept_is name w.formula.vars end) in (
      answering T entry,
      told entry refl,
      settled_answering T w name cube limit reply settled honest waits is_true,
      subst (λ (n : WorkerState). IsFine (answering T entry) w answer n) (sym after) (record {
        honest = honest_answering T w name cube limit reply honest waits;
        plain = plain_by answer _ is tt;
        formula = refl;
        base = refl;
        number = refl;
        incarnation = refl;
      }),
    )
  where
    mine : (e : Answered) (attempt : Attempt) (r : Reply) → e.attempt ≡ own_attempt w name → Contains T.answered (answers_so attempt r) ⊎ (e ≡ answers_so attempt r)
        → Contains T.answered (answers_so attempt r) ⊎ ((attempt.worker ≡ w.number) × (attempt.incarnation ≡ w.incarnation))
    mine e attempt r at (inl p) = inl p
    mine e attempt r at (inr p) =
        let same : attempt ≡ own_attempt w name = sym (ap (λ k. k.attempt) p) ∙ at in
        inr (ap (λ k. k.worker) same, ap (λ k. k.incarnation) same)

    told : (e : Answered) → e.attempt ≡ own_attempt w name → OwnReplies T w (answering T e)
    told e at = record {
      more = answering_more T e;
      asked = λ a h. h;
      decided = λ d h. h;
      own = λ attempt r h. mine e attempt r at (Contains-push_cases T.answered e (answers_so attempt r) h);
    }

-- what a worker sends is true
work_told : (T : History) (limit : ℕ) (w : WorkerState) (k : Work) → IsHonestWork T w k → IsTrueFrame T limit (work_frame w k)
work_told T limit w Free honest = tt
work_told T limit w (Pending name cube bound) honest = tt
work_told T limit w (Limited name) honest = (Met, honest.1, refl)
work_told T limit w (Found name answer bytes noted) honest = (Shown answer bytes, honest.1, refl)

candidate_told : (T : History) (limit : ℕ) (w : WorkerState) (o : Option Candidate) → IsHonestWork T w w.work → IsTrueFrame T limit (candidate_frame w o)
candidate_told T limit w (Some c) honest = tt
candidate_told T limit w None honest = work_told T limit w w.work honest

noted_told : (T : History) (limit : ℕ) (w : WorkerState) (k : Work) → IsHonestWork T w w.work → IsHonestWork T w k → IsTrueFrame T limit (noted_frame w k)
noted_told T limit w Free honest also = candidate_told T limit w w.candidate honest
noted_told T limit w (Pending name cube bound) honest also = candidate_told T limit w w.candidate honest
noted_told T limit w (Limited name) honest also = candidate_told T limit w w.candidate honest
noted_told T limit w (Found name answer bytes None) honest also = candidate_told T limit w w.candidate honest
noted_told T limit w (Found name answer bytes (Some offset)) honest also = (answer, bytes, also.1, chunk_stands bytes offset chunk (also.2 offset refl))

pub poll_told : (T : History) (limit : ℕ) (w : WorkerState) → IsHonestWorker T w → IsTrueFrame T limit (worker_frame w)
poll_told T limit w honest = noted_told T limit w w.work honest.work honest.work

-- and leaves the worker honest
pub poll_honest : (T : History) (w : WorkerState) → IsHonestWorker T w → IsHonestWorker T (worker_after w)
poll_honest T w honest = record {
  work = still w.work honest.work;
  behind = λ n r h. still_behind w.work n (honest.behind n r h);
  candidate = honest.candidate;
  right = honest.right;
}
  where
    still : (k : Work) → IsHonestWork T w k → IsHonestWork T (worker_after w) (without_note k)
    still Free h = h
    still (Pending name cube bound) h = h
    still (Limited name) h = h
    still (Found name answer bytes noted) h = (h.0, h.1, none_noted bytes)

    still_behind : (k : Work) (n : JobName) → IsEarlierJob w k n → IsEarlierJob (worker_after w) (without_note k) n
    still_behind Free n h = h
    still_behind (Pending name cube bound) n h = h
    still_behind (Limited name) n h = h
    still_behind (Found name answer bytes noted) n h = h
