-- A history only grows.
use Rattle.std.proofs.Common.{◌≡◌, ◌≢◌, ℕ, ◌<◌, List, [], ◌∷◌, ◌++◌, length, Contains, refl, subst, sym, ap, ◌∙◌, inl, inr, arith}
use Rattle.std.proofs.lemmas.List.{length-map}
use Rattle.std.proofs.lemmas.List.Elements.{Contains-append_left}
use Rattle.dimacs.specs.logic.Cnf.{Cnf}
use Rattle.lrat_check.specs.Verdicts.{Right}
use Rattle.lrat_check.specs.declared.verdict.Verdict.{Verdict}
use Rattle.lrat_check.specs.declared.verdict.Verdict.TheVariants.{Nothing, Model, Proof}
use Rattle.lrat_check.specs.declared.verdict.Reaction.{Reaction}
use Rattle.lrat_check.specs.declared.verdict.Reaction.TheVariants as reaction
use Rattle.frames.specs.Answers.{answer_of, length_of}
use Rattle.frames.specs.declared.answer.Answer.{Answer}
use Rattle.frames.specs.declared.answer.Answer.TheVariants as answers
use Rattle.frames.specs.declared.frame.Frame.{Frame}
use Rattle.frames.specs.declared.frame.Frame.TheVariants.{Task, Done, Fetch, Piece, Verdict as VerdictFrame, Want, Part, Idle, Rest}
use Rattle.lrat_check.specs.Judgement.{value_byte}
use Rattle.evidence.specs.Evidence.{finding_of, answer_in, bytes_in, finding_in, HasWrongLength, IsRightEvidence}
use Rattle.evidence.specs.declared.evidence.Evidence.{Evidence}
use Rattle.evidence.specs.Jobs.{IsBefore}
use Rattle.evidence.specs.Evidence.{IsComplete}
use Rattle.evidence.specs.declared.job.JobName.{JobName}
use Rattle.honest_cluster.proofs.History.{History, Asked, Answered, Decision, Reply, Met, Shown, IsTrueFrame, IsTrueReply, IsPrefixOf}
use Rattle.evidence.proofs.EvidenceLemmas.{bears_out}
use Rattle.honest_cluster.proofs.Prefixes.{front_whole}

-- a reaction other than a refusal
abbrev pub IsPlain : Reaction → Type 0
IsPlain reaction.Ignored = Unit {0}
IsPlain reaction.Taken = Unit {0}
IsPlain reaction.Finished = Unit {0}
IsPlain reaction.Verdict = Unit {0}
IsPlain (reaction.Refused why) = ⊥
IsPlain reaction.NoMemory = Unit {0}

pub plain_by : (answer r : Reaction) → answer ≡ r → IsPlain r → IsPlain answer
plain_by answer r e plain = subst IsPlain (sym e) plain

-- the second history has all of the first one
pub record IsMore (T U : History) : Type 0 where
  pub asked : (a : Asked) → Contains T.asked a → Contains U.asked a
  pub answered : (a : Answered) → Contains T.answered a → Contains U.answered a
  pub decided : (d : Decision) → Contains T.decided d → Contains U.decided d

pub as_much : (T : History) → IsMore T T
as_much T = record { asked = λ a h. h; answered = λ a h. h; decided = λ d h. h }

abbrev pub asking : History → Asked → History
asking T a = record T { asked = T.asked ++ a ∷ [] }

abbrev pub answering : History → Answered → History
answering T a = record T { answered = T.answered ++ a ∷ [] }

abbrev pub deciding : History → Decision → History
deciding T d = record T { decided = T.decided ++ d ∷ [] }

pub asking_more : (T : History) (a : Asked) → IsMore T (asking T a)
asking_more T a = record { asked = λ x h. Contains-append_left T.asked (a ∷ []) x h; answered = λ x h. h; decided = λ x h. h }

pub answering_more : (T : History) (a : Answered) → IsMore T (answering T a)
answering_more T a = record { asked = λ x h. h; answered = λ x h. Contains-append_left T.answered (a ∷ []) x h; decided = λ x h. h }

pub deciding_more : (T : History) (d : Decision) → IsMore T (deciding T d)
deciding_more T d = record { asked = λ x h. h; answered = λ x h. h; decided = λ x h. Contains-append_left T.decided (d ∷ []) x h }

-- a true frame stays true
pub told_stays : (T U : History) (limit : ℕ) → IsMore T U → (frame : Frame) → IsTrueFrame T limit frame → IsTrueFrame U limit frame
told_stays T U limit more (Task session job bound cube) h = (h.0, more.asked _ h.1)
told_stays T U limit more (Done attempt ending) h = (h.0, more.answered _ h.1, h.2)
told_stays T U limit more (Fetch attempt offset) h = (h.0, h.1, more.answered _ h.2)
told_stays T U limit more (Piece attempt offset bytes) h = (h.0, h.1, more.answered _ h.2, h.3)
told_stays T U limit more (VerdictFrame session finding) h = (h.0, more.decided _ h.1, h.2)
told_stays T U limit more (Part session answer offset bytes) h = (h.0, more.decided _ h.1, h.2, h.3)
told_stays T U limit more (Want session worker offset) h = tt
told_stays T U limit more (Idle worker incarnation) h = tt
told_stays T U limit more Rest h = tt

pub true_stays : (T U : History) (F B : Cnf) (name : JobName) → IsMore T U → (r : Reply) → IsTrueReply F B T.asked name r → IsTrueReply F B U.asked name r
true_stays T U F B name more Met h = tt
true_stays T U F B name more (Shown answers.Refuted bytes) h = (h.0, more.asked _ h.1, h.2)
true_stays T U F B name more (Shown answers.Assignment bytes) h = h

-- names of jobs are ordered
pub before_before : (a b c : JobName) → IsBefore a b → IsBefore b c → IsBefore a c
before_before a b c (inl p) (inl q) = inl (omega (arith, p, q))
before_before a b c (inl p) (inr q) = let e : b.session ≡ c.session = q.0 in inl (omega (arith, p, e))
before_before a b c (inr p) (inl q) = let e : a.session ≡ b.session = p.0 in inl (omega (arith, q, e))
before_before a b c (inr p) (inr q) =
    let d : a.job < b.job = p.1 in
    let e : b.job < c.job = q.1 in
    inr (p.0 ∙ q.0, omega (arith, d, e))

pub not_before_itself : (a : JobName) → IsBefore a a → ⊥
not_before_itself a (inl p) = absurd (omega (arith, p))
not_before_itself a (inr p) = let q : a.job < a.job = p.1 in absurd (omega (arith, q))

-- a finding is an answer and a length
pub answer-finding : (a : Answer) (n : ℕ) → answer_of (finding_of a n) ≡ a
answer-finding answers.Refuted n = refl
answer-finding answers.Assignment n = refl

pub length-finding : (a : Answer) (n : ℕ) → length_of (finding_of a n) ≡ n
length-finding answers.Refuted n = refl
length-finding answers.Assignment n = refl

-- a right verdict has a right length
pub right_length : (F : Cnf) (v : Verdict) → v ≢ Nothing → Right F v → HasWrongLength F (finding_in v) → ⊥
right_length F Nothing some right wrong = some refl
right_length F (Model values) some right wrong = wrong (length-map values value_byte ∙ right.0)
right_length F (Proof text) some right wrong = wrong

-- complete evidence is the whole text of the reply
pub all_there : (e : Evidence) (answer : Answer) (all : List ℕ) → IsPrefixOf e answer all → IsComplete e → e.bytes ≡ all
all_there e answer all f complete =
    front_whole e.bytes all f.front (complete ∙ ap length_of f.finding ∙ length-finding answer (length all))

pub answer_there : (e : Evidence) (answer : Answer) (all : List ℕ) → IsPrefixOf e answer all → answer_of e.finding ≡ answer
answer_there e answer all f = ap answer_of f.finding ∙ answer-finding answer (length all)

-- complete evidence of a decided verdict is right
pub verdict_there : (F : Cnf) (e : Evidence) (v : Verdict) → v ≢ Nothing → Right F v → IsPrefixOf e (answer_in v) (bytes_in v) → IsComplete e
    → IsRightEvidence F (answer_of e.finding) e.bytes v
verdict_there F e v some right f complete = bears_out F (answer_of e.finding) e.bytes v (record {
  some = some;
  answer_is = sym (answer_there e (answer_in v) (bytes_in v) f);
  bytes_are = sym (all_there e (answer_in v) (bytes_in v) f complete);
}) right
