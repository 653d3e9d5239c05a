-- The evidence of a job is received, over plain values.
use Rattle.std.proofs.Common.{◌≡◌, map, ◌∷◌, [], ◌≢◌, ℕ, zero, suc, ◌+◌, ◌-◌, ◌<◌, ◌≤◌, ◌^◌, Bool, true, false, ◌==◌, List, ◌++◌, length, take, Option, Some, None, Result, Ok, Err, slice_set, get_or, OnOk, OnErr, is_err, refl, subst, sym, ap, ◌∙◌, ◌⊎◌, inl, inr, arith}
use Rattle.std.proofs.lemmas.List.{length-append, length-map, set-set, take_at, get_or-set_same}
use Rattle.std.proofs.lemmas.Bool.{false≢true}
use Rattle.std.proofs.lemmas.Bool.Decides.{nat_tests}
use Rattle.dimacs.specs.logic.Cnf.{Cnf, IsFormula}
use Rattle.icnf.specs.Leaves.{Cube}
use Rattle.lrat_text.specs.Log.{Closes}
use Rattle.packed_text.specs.Packed.{BeginsWithCharacter, half_text}
use Rattle.lrat_check.specs.Judgement.{AreValuesOf, value_byte}
use Rattle.lrat_check.specs.ProofFaults.{no_memory}
use Rattle.lrat_check.specs.declared.line_checker.CheckFault.{CheckFault}
use Rattle.lrat_check.specs.Verdicts.{Right}
use Rattle.lrat_check.specs.declared.verdict.Verdict.{Verdict}
use Rattle.lrat_check.specs.declared.verdict.Verdict.TheVariants.{Proof}
use Rattle.lrat_check.specs.declared.verdict.Reaction.{Reaction}
use Rattle.lrat_check.specs.declared.verdict.Reaction.TheVariants as reaction
use Rattle.frames.specs.Answers.{answer_of, length_of}
use Rattle.frames.specs.declared.answer.Answer.TheVariants as answers
use Rattle.evidence.specs.Evidence.{IsComplete, bytes_in, with_bytes}
use Rattle.coordinator_core.specs.inner.PrivateCalls.{IsFixed, UnlessNoMemory, fixed_with_more, fixed_cut_to}
use Rattle.coordinator_core.specs.Coordinator.{CoordinatorState, CompletesFragment, CompletesAssignment, ReceivesJobEvidence, IsDeciding, coordinator_base, cube_at, job_at, with_job, reopened, closed, with_fixed, after_loss, lost_by}
use Rattle.coordinator_core.specs.Invariant.{FitsFixed, IsJobAt}
use Rattle.coordinator_core.specs.declared.job_state.Fixed.{Fixed}
use Rattle.coordinator_core.specs.declared.job_state.Job.{Job}
use Rattle.coordinator_core.specs.declared.job_state.LeafState.{LeafState}
use Rattle.coordinator_core.specs.declared.job_state.LeafState.TheVariants.{Open}
use Rattle.coordinator_core.proofs.InvariantLemmas.{at_desk}
use Rattle.coordinator_core.proofs.Places.{read_within, set_read}

pub same_some : {X : Type 0} (a b : X) → Some a ≡ Some b → a ≡ b
same_some a b e = cc

none_some : {X : Type 0} (a : X) → None ≡ Some a → ⊥
none_some a e = cc

-- a job replaces another in a slot
pub with_job_twice : (s : CoordinatorState) (w : ℕ) (a b : Option Job) → with_job (with_job s w a) w b ≡ with_job s w b
with_job_twice s w a b = ap (λ (jobs : List (Option Job)). record s { jobs = jobs }) (set-set s.jobs (w - 1) a b)

-- the job in the slot is written again
pub with_job_same : (s : CoordinatorState) (w : ℕ) (j : Job) → job_at s w ≡ Some j → with_job s w (Some j) ≡ s
with_job_same s w j at =
    ap (λ (jobs : List (Option Job)). record s { jobs = jobs }) (ap (slice_set s.jobs (w - 1)) (sym (at_desk s w j at)) ∙ set_read s.jobs (w - 1) None)

-- the slot has what was written
pub job_written : (s : CoordinatorState) (w : ℕ) (j k : Job) → job_at s w ≡ Some j → job_at (with_job s w (Some k)) w ≡ Some k
job_written s zero j k at = absurd (none_some j at)
job_written s (suc n) j k at =
    let slot : suc n - 1 ≡ n = omega arith in
    let inside : n < length s.jobs = read_within s.jobs n j at in
    ap (λ (i : ℕ). get_or (slice_set s.jobs i (Some k)) n None) slot ∙ get_or-set_same s.jobs n (Some k) None inside

pub same_job : (s : CoordinatorState) (w : ℕ) (j : Job) (x : Fixed) → IsFixed s w j x → s ≡ with_job s w (Some (with_fixed j x))
same_job s w j x is =
    sym (with_job_same s w j is.job) ∙ ap (λ (o : Option Fixed). with_job s w (Some (record j { fixed = o }))) is.fixed

pub lost_reopens : (s : CoordinatorState) (w : ℕ) (j : Job) → job_at s w ≡ Some j → after_loss s w ≡ reopened s w j
lost_reopens s w j at = ap (lost_by s w) at

-- what is fixed was set
pub refixed : (s t u : CoordinatorState) (w : ℕ) (job : Job) (o : Option Fixed) → t ≡ with_job s w None → u ≡ with_job t w (Some (record job { fixed = o })) → Some job ≡ job_at s w
    → (j : Job) → job_at s w ≡ Some j → u ≡ with_job s w (Some (record j { fixed = o }))
refixed s t u w job o took put was j at =
    let same : job ≡ j = same_some job j (was ∙ at) in
    put ∙ ap (λ (d : CoordinatorState). with_job d w (Some (record job { fixed = o }))) took ∙ with_job_twice s w None (Some (record job { fixed = o }))
    ∙ ap (λ (i : Job). with_job s w (Some (record i { fixed = o }))) same

-- nothing was set
pub unfixed : (s t u : CoordinatorState) (w : ℕ) (job : Job) (o : Option Fixed) → t ≡ with_job s w None → u ≡ with_job t w (Some (record job { fixed = o })) → Some job ≡ job_at s w → o ≡ job.fixed → u ≡ s
unfixed s t u w job o took put was e =
    refixed s t u w job o took put was job (sym was) ∙ ap (λ (p : Option Fixed). with_job s w (Some (record job { fixed = p }))) e ∙ with_job_same s w job (sym was)

pub lengthened_fits : {E : Type 0} (fixed o : Option Fixed) (r : Result (Unit {0}) E) (more : List ℕ) → OnOk r (o ≡ fixed_with_more fixed more) → OnErr r (o ≡ fixed)
    → ((x : Fixed) → fixed ≡ Some x → length x.evidence.bytes + length more ≤ length_of x.evidence.finding) → FitsFixed fixed → FitsFixed o
lengthened_fits fixed o (Ok u) more ok err room fits = subst FitsFixed (sym ok) (go fixed room)
  where
    go : (f : Option Fixed) → ((x : Fixed) → f ≡ Some x → length x.evidence.bytes + length more ≤ length_of x.evidence.finding) → FitsFixed (fixed_with_more f more)
    go None h x e = absurd (none_some x e)
    go (Some y) h x e =
        let k = h y refl in
        let le : length (y.evidence.bytes ++ more) ≤ length_of y.evidence.finding = omega (arith, k, length-append y.evidence.bytes more) in
        subst (λ (z : Fixed). length z.evidence.bytes ≤ length_of z.evidence.finding) (same_some (record y { evidence = with_bytes y.evidence more }) x e) le
lengthened_fits fixed o (Err f) more ok err room fits = subst FitsFixed (sym err) fits

length_take_le : (n : ℕ) (xs : List ℕ) → length (take n xs) ≤ length xs
length_take_le n xs = omega (arith, Rattle.std.proofs.lemmas.List.length-take n xs)

pub cut_fits : (count : ℕ) (fixed : Option Fixed) → FitsFixed fixed → FitsFixed (fixed_cut_to count fixed)
cut_fits count None fits x e = absurd (none_some x e)
cut_fits count (Some y) fits x e =
    let k = fits y refl in
    let le : length (take count y.evidence.bytes) ≤ length_of y.evidence.finding = omega (arith, k, length_take_le count y.evidence.bytes) in
    subst (λ (z : Fixed). length z.evidence.bytes ≤ length_of z.evidence.finding) (same_some (record y { evidence = record y.evidence { bytes = take count y.evidence.bytes } }) x e) le

-- the job after something is fixed of it
pub fixed_now : (s t : CoordinatorState) (w : ℕ) (j : Job) (x : Fixed) → IsDeciding s → job_at s w ≡ Some j → t ≡ with_job s w (Some (with_fixed j x)) → IsFixed t w (with_fixed j x) x
fixed_now s t w j x deciding at now =
    subst (λ (d : CoordinatorState). IsFixed d w (with_fixed j x) x) (sym now)
    (record { deciding = record { undecided = deciding.undecided; going = deciding.going }; job = job_written s w j (with_fixed j x) at; fixed = refl })

-- one job, and one evidence
pub one_fixed : (P : Fixed → Type 0) (s : CoordinatorState) (w : ℕ) (i j : Job) (x y : Fixed) → IsFixed s w i x → IsFixed s w j y → P x → P y
one_fixed P s w i j x y a b p =
    let same : i ≡ j = same_some i j (sym a.job ∙ b.job) in
    subst P (same_some x y (sym a.fixed ∙ ap (λ (k : Job). k.fixed) same ∙ b.fixed)) p

-- a complete fragment
pub closed_gathers : (s new : CoordinatorState) (w : ℕ) (answer : Reaction) → (i : Job) (y : Fixed) → IsFixed s w i y → IsComplete y.evidence → answer_of y.evidence.finding ≡ answers.Refuted
    → ((j : Job) (x : Fixed) → IsFixed s w j x → UnlessNoMemory s answer new (CompletesFragment s w j x.evidence.bytes answer new))
    → (j : Job) (x : Fixed) → IsFixed s w j x → ReceivesJobEvidence s w j x answer new
closed_gathers s new w answer i y a complete refuted ends j x b = go (ends j x b)
  where
    whole : IsComplete x.evidence
    whole = one_fixed (λ (z : Fixed). IsComplete z.evidence) s w i j y x a b complete

    go : UnlessNoMemory s answer new (CompletesFragment s w j x.evidence.bytes answer new) → ReceivesJobEvidence s w j x answer new
    go (inl p) = ReceivesJobEvidence.no_memory (inr whole) p.0 p.1
    go (inr e) = ReceivesJobEvidence.fragment whole (one_fixed (λ (z : Fixed). answer_of z.evidence.finding ≡ answers.Refuted) s w i j y x a b refuted) e

-- an assignment that satisfies the formula
pub right_gathers : (s new : CoordinatorState) (w : ℕ) (v : Verdict) → (i : Job) (y : Fixed) → IsFixed s w i y → IsComplete y.evidence → answer_of y.evidence.finding ≡ answers.Assignment
    → new ≡ record s { verdict = v } → ((j : Job) (x : Fixed) → IsFixed s w j x → AreValuesOf s.formula x.evidence.bytes v × Right s.formula v)
    → (j : Job) (x : Fixed) → IsFixed s w j x → ReceivesJobEvidence s w j x reaction.Verdict new
right_gathers s new w v i y a complete assigned now judged j x b =
    let h = judged j x b in
    ReceivesJobEvidence.assignment (one_fixed (λ (z : Fixed). IsComplete z.evidence) s w i j y x a b complete)
    (one_fixed (λ (z : Fixed). answer_of z.evidence.finding ≡ answers.Assignment) s w i j y x a b assigned)
    (CompletesAssignment.holds v (record { bears = h.0; right = h.1 }) refl (now ∙ ap (λ (d : CoordinatorState). record d { verdict = v }) (same_job s w j x b)))

pub values_short : (F : Cnf) (bytes : List ℕ) (v : Verdict) → IsFormula F → AreValuesOf F bytes v → length (bytes_in v) < 2 ^ 32
values_short F bytes v formula is =
    let long : length (bytes_in v) ≡ F.vars = ap (λ (u : Verdict). length (bytes_in u)) is.1 ∙ length-map is.0 value_byte ∙ is.3 in
    omega (arith, long, formula.vars)

-- if the jobs differ in their evidence alone, the end of a fragment is the same
ends_from : (s : CoordinatorState) (w : ℕ) (j : Job) (o : Option Fixed) (p : Option Job) (text : List ℕ) (answer : Reaction) (new : CoordinatorState)
    → CompletesFragment (with_job s w p) w (record j { fixed = o }) text answer new → CompletesFragment s w j text answer new
ends_from s w j o p text answer new (CompletesFragment.wrong nay a now) =
    CompletesFragment.wrong nay a (now ∙ ap (λ (jobs : List (Option Job)). record s { leaves = slice_set s.leaves j.leaf Open; jobs = jobs }) (set-set s.jobs (w - 1) p None))
ends_from s w j o p text answer new (CompletesFragment.closes is some a now) =
    CompletesFragment.closes is some a (now ∙ ap (λ (jobs : List (Option Job)). record (closed s w j text) { jobs = jobs }) (set-set s.jobs (w - 1) p None))
ends_from s w j o p text answer new (CompletesFragment.joins is all proof joined short a now) =
    CompletesFragment.joins is all proof joined short a (now ∙ ap (λ (jobs : List (Option Job)). record (closed s w j text) { jobs = jobs; verdict = Proof proof }) (set-set s.jobs (w - 1) p None))
ends_from s w j o p text answer new (CompletesFragment.too_long is all proof joined long a now) =
    CompletesFragment.too_long is all proof joined long a (now ∙ ap (λ (jobs : List (Option Job)). record (closed s w j text) { jobs = jobs; stuck = true }) (set-set s.jobs (w - 1) p None))

assigns_from : (s : CoordinatorState) (w : ℕ) (j : Job) (x : Fixed) (p : Option Job) (answer : Reaction) (new : CoordinatorState)
    → CompletesAssignment (with_job s w p) w (with_fixed j x) x answer new → CompletesAssignment s w j x answer new
assigns_from s w j x p answer new (CompletesAssignment.holds v right a now) =
    CompletesAssignment.holds v right a (now ∙ ap (λ (jobs : List (Option Job)). record s { jobs = jobs; verdict = v }) (set-set s.jobs (w - 1) p (Some (with_fixed j x))))
assigns_from s w j x p answer new (CompletesAssignment.wrong nay a now) =
    CompletesAssignment.wrong nay a (now ∙ ap (λ (jobs : List (Option Job)). record s { leaves = slice_set s.leaves j.leaf Open; jobs = jobs }) (set-set s.jobs (w - 1) p None))

-- what is received if the evidence was appended before
pub gathers_from : (s t new : CoordinatorState) (w : ℕ) (j : Job) (x : Fixed) (answer : Reaction) → t ≡ with_job s w (Some (with_fixed j x)) → answer ≢ reaction.NoMemory
    → ReceivesJobEvidence t w (with_fixed j x) x answer new → ReceivesJobEvidence s w j x answer new
gathers_from s t new w j x answer now some gathers = go (subst (λ (d : CoordinatorState). ReceivesJobEvidence d w (with_fixed j x) x answer new) now gathers)
  where
    go : ReceivesJobEvidence (with_job s w (Some (with_fixed j x))) w (with_fixed j x) x answer new → ReceivesJobEvidence s w j x answer new
    go (ReceivesJobEvidence.waits more a e) = ReceivesJobEvidence.waits more a (e ∙ with_job_twice s w (Some (with_fixed j x)) (Some (with_fixed j x)))
    go (ReceivesJobEvidence.fragment whole refuted ends) = ReceivesJobEvidence.fragment whole refuted (ends_from s w j (Some x) (Some (with_fixed j x)) x.evidence.bytes answer new ends)
    go (ReceivesJobEvidence.assignment whole assigned ends) = ReceivesJobEvidence.assignment whole assigned (assigns_from s w j x (Some (with_fixed j x)) answer new ends)
    go (ReceivesJobEvidence.no_memory grows a e) = absurd (some a)

-- only `NoMemory` is answered if nothing changed
pub gathers_none : (t new : CoordinatorState) (w : ℕ) (j : Job) (x : Fixed) → ReceivesJobEvidence t w j x reaction.NoMemory new → ((0 < length x.evidence.bytes) ⊎ IsComplete x.evidence) × (new ≡ t)
gathers_none t new w j x (ReceivesJobEvidence.waits more a e) = cc
gathers_none t new w j x (ReceivesJobEvidence.fragment whole refuted (CompletesFragment.wrong nay a e)) = cc
gathers_none t new w j x (ReceivesJobEvidence.fragment whole refuted (CompletesFragment.closes is some a e)) = cc
gathers_none t new w j x (ReceivesJobEvidence.fragment whole refuted (CompletesFragment.joins is all proof joined short a e)) = cc
gathers_none t new w j x (ReceivesJobEvidence.fragment whole refuted (CompletesFragment.too_long is all proof joined long a e)) = cc
gathers_none t new w j x (ReceivesJobEvidence.assignment whole assigned (CompletesAssignment.holds v right a e)) = cc
gathers_none t new w j x (ReceivesJobEvidence.assignment whole assigned (CompletesAssignment.wrong nay a e)) = cc
gathers_none t new w j x (ReceivesJobEvidence.no_memory grows a e) = (grows, e)

-- what was appended is taken out again
undone : (s t u new : CoordinatorState) (w : ℕ) (j : Job) (x : Fixed) (F : Option Fixed → Option Fixed) → job_at s w ≡ Some j → t ≡ with_job s w (Some (with_fixed j x)) → u ≡ t
    → ((k : Job) → job_at u w ≡ Some k → new ≡ with_job u w (Some (record k { fixed = F k.fixed }))) → F (Some x) ≡ j.fixed → new ≡ s
undone s t u new w j x F at now same put back =
    let here : u ≡ with_job s w (Some (with_fixed j x)) = same ∙ now in
    let there : job_at u w ≡ Some (with_fixed j x) = subst (λ (d : CoordinatorState). job_at d w ≡ Some (with_fixed j x)) (sym here) (job_written s w j (with_fixed j x) at) in
    put (with_fixed j x) there ∙ ap (λ (d : CoordinatorState). with_job d w (Some (record j { fixed = F (Some x) }))) here ∙ with_job_twice s w (Some (with_fixed j x)) (Some (record j { fixed = F (Some x) }))
    ∙ ap (λ (p : Option Fixed). with_job s w (Some (record j { fixed = p }))) back ∙ with_job_same s w j at

-- what `check_if_complete` ensures
abbrev pub Settles : CoordinatorState → ℕ → Reaction → CoordinatorState → Type 0
Settles t w r new = (k : Job) (y : Fixed) → IsFixed t w k y → ReceivesJobEvidence t w k y r new

pub settled : (s t new : CoordinatorState) (w : ℕ) (j : Job) (x : Fixed) (r : Reaction) → IsDeciding s → job_at s w ≡ Some j → t ≡ with_job s w (Some (with_fixed j x)) → Settles t w r new → r ≢ reaction.NoMemory → ReceivesJobEvidence s w j x r new
settled s t new w j x r deciding at now settles some = gathers_from s t new w j x r now some (settles (with_fixed j x) x (fixed_now s t w j x deciding at now))

pub unsettled : (s t u new : CoordinatorState) (w : ℕ) (j : Job) (x : Fixed) (r : Reaction) (F : Option Fixed → Option Fixed) → IsDeciding s → job_at s w ≡ Some j → t ≡ with_job s w (Some (with_fixed j x)) → Settles t w r u → r ≡ reaction.NoMemory
    → ((k : Job) → job_at u w ≡ Some k → new ≡ with_job u w (Some (record k { fixed = F k.fixed }))) → F (Some x) ≡ j.fixed → ReceivesJobEvidence s w j x reaction.NoMemory new
unsettled s t u new w j x r F deciding at now settles none put back =
    let g = gathers_none t u w (with_fixed j x) x (subst (λ (a : Reaction). ReceivesJobEvidence t w (with_fixed j x) x a u) none (settles (with_fixed j x) x (fixed_now s t w j x deciding at now))) in
    ReceivesJobEvidence.no_memory g.0 refl (undone s t u new w j x F at now g.1 put back)

pub piece_put : (s t : CoordinatorState) (w : ℕ) (j : Job) (x : Fixed) (more bytes : List ℕ) → t ≡ with_job s w (Some (record j { fixed = fixed_with_more j.fixed more })) → j.fixed ≡ Some x → more ≡ bytes
    → t ≡ with_job s w (Some (with_fixed j (record x { evidence = with_bytes x.evidence bytes })))
piece_put s t w j x more bytes now fixed same =
    now ∙ ap (λ (o : Option Fixed). with_job s w (Some (record j { fixed = fixed_with_more o more }))) fixed ∙ ap (λ (b : List ℕ). with_job s w (Some (with_fixed j (record x { evidence = with_bytes x.evidence b })))) same

pub cut_back : (x : Fixed) (o : Option Fixed) (offset : ℕ) (bytes : List ℕ) → offset ≡ length x.evidence.bytes → o ≡ Some x → fixed_cut_to offset (Some (record x { evidence = with_bytes x.evidence bytes })) ≡ o
cut_back x o offset bytes at fixed = ap (λ (b : List ℕ). Some (record x { evidence = record x.evidence { bytes = b } })) (take_at x.evidence.bytes bytes offset (sym at)) ∙ sym fixed

pub from_ok : {E : Type 0} (P : Type 0) (r : Result (Unit {0}) E) → is_err r ≡ false → OnOk r P → P
from_ok P (Ok u) no_error h = h
from_ok P (Err f) no_error h = cc

pub from_err : {E : Type 0} (P : Type 0) (r : Result (Unit {0}) E) → is_err r ≡ true → OnErr r P → P
from_err P (Ok u) error h = cc
from_err P (Err f) error h = h

-- the same job with something else fixed is put into the slot
pub put_again : (s t u : CoordinatorState) (w : ℕ) (job new : Job) (o : Option Fixed) → t ≡ with_job s w None → u ≡ with_job t w (Some new) → Some job ≡ job_at s w → new ≡ record job { fixed = o }
    → (j : Job) → job_at s w ≡ Some j → u ≡ with_job s w (Some (record j { fixed = o }))
put_again s t u w job new o took put was is = refixed s t u w job o took (put ∙ ap (λ (k : Job). with_job t w (Some k)) is) was

-- the job that was in the slot is put into it
pub put_back : (s t u : CoordinatorState) (w : ℕ) (job new : Job) → t ≡ with_job s w None → u ≡ with_job t w (Some new) → Some job ≡ job_at s w → new ≡ job → u ≡ s
put_back s t u w job new took put was is = unfixed s t u w job job.fixed took (put ∙ ap (λ (k : Job). with_job t w (Some k)) is) was refl

pub grown_ok : {E : Type 0} (s t u : CoordinatorState) (w : ℕ) (job new : Job) (r : Result (Unit {0}) E) (more : List ℕ) → t ≡ with_job s w None → u ≡ with_job t w (Some new) → Some job ≡ job_at s w
    → OnOk r (new ≡ record job { fixed = fixed_with_more job.fixed more }) → OnOk r ((j : Job) → job_at s w ≡ Some j → u ≡ with_job s w (Some (record j { fixed = fixed_with_more j.fixed more })))
grown_ok s t u w job new (Ok unit) more took put was e = λ j at.
    let same : job ≡ j = same_some job j (was ∙ at) in
    put_again s t u w job new (fixed_with_more job.fixed more) took put was e j at ∙ ap (λ (i : Job). with_job s w (Some (record j { fixed = fixed_with_more i.fixed more }))) same
grown_ok s t u w job new (Err f) more took put was e = e

pub grown_err : {E : Type 0} (s t u : CoordinatorState) (w : ℕ) (job new : Job) (r : Result (Unit {0}) E) → t ≡ with_job s w None → u ≡ with_job t w (Some new) → Some job ≡ job_at s w
    → OnErr r (new ≡ job) → OnErr r (u ≡ s)
grown_err s t u w job new (Ok unit) took put was e = e
grown_err s t u w job new (Err f) took put was e = put_back s t u w job new took put was e

-- the job with more bytes is one of the same leaf, and has no more than were announced
pub grown_fair : {E : Type 0} (leaves : List LeafState) (slot : ℕ) (job new : Job) (r : Result (Unit {0}) E) (more : List ℕ) → OnOk r (new ≡ record job { fixed = fixed_with_more job.fixed more }) → OnErr r (new ≡ job)
    → ((x : Fixed) → job.fixed ≡ Some x → length x.evidence.bytes + length more ≤ length_of x.evidence.finding) → IsJobAt leaves slot job → IsJobAt leaves slot new
grown_fair {E = E} leaves slot job new (Ok u) more ok err room fair =
    subst (IsJobAt leaves slot) (sym ok) (record { given = fair.given; fits = lengthened_fits {E = E} job.fixed (fixed_with_more job.fixed more) (Ok u) more refl tt room fair.fits })
grown_fair leaves slot job new (Err f) more ok err room fair = subst (IsJobAt leaves slot) (sym err) fair

-- the fragment of a leaf, in the code's names for its base and cube
pub closes_here : (c s : CoordinatorState) (B : Cnf) (q : Cube) (leaf : ℕ) (text : List ℕ) → c ≡ s → B ≡ coordinator_base c → q ≡ cube_at c leaf → Closes B q text → Closes (coordinator_base s) (cube_at s leaf) text
closes_here c s B q leaf text same base cube closes =
    subst (λ (d : CoordinatorState). Closes (coordinator_base d) (cube_at d leaf) text) same (subst (λ (p : Cube). Closes (coordinator_base c) p text) cube (subst (λ (D : Cnf). Closes D q text) base closes))

pub closes_there : (c s : CoordinatorState) (B : Cnf) (q : Cube) (leaf : ℕ) (text : List ℕ) → c ≡ s → B ≡ coordinator_base c → q ≡ cube_at c leaf → Closes (coordinator_base s) (cube_at s leaf) text → Closes B q text
closes_there c s B q leaf text same base cube closes =
    subst (λ (D : Cnf). Closes D q text) (sym base) (subst (λ (p : Cube). Closes (coordinator_base c) p text) (sym cube) (subst (λ (d : CoordinatorState). Closes (coordinator_base d) (cube_at d leaf) text) (sym same) closes))

-- if memory was not refused, a text that closes is taken
pub unrefused : (r : Result (Unit {0}) CheckFault) (f : CheckFault) (b : Bool) → (r ≡ Ok tt) ⊎ (r ≡ Err no_memory) → r ≡ Err f → b ≡ (f.number == 14) → b ≡ false → ⊥
unrefused r f b (inl p) e n t = absurd (one_way r f p e)
  where
    one_way : (q : Result (Unit {0}) CheckFault) (g : CheckFault) → q ≡ Ok tt → q ≡ Err g → ⊥
    one_way q g y z = cc
unrefused r f b (inr p) e n t =
    let m : (f.number == 14) ≡ true = ap (λ (g : CheckFault). g.number == 14) (sym (same_fault r no_memory f p e)) in
    false≢true (sym t ∙ n ∙ m)
  where
    same_fault : (q : Result (Unit {0}) CheckFault) (g h : CheckFault) → q ≡ Err g → q ≡ Err h → g ≡ h
    same_fault q g h y z = cc

-- ---- the bytes of an assignment do not begin with a character of a line
large : (n : ℕ) (rest : List ℕ) → n < 14 → 10 ≤ get_or (half_text n ++ rest) 0 0
large n rest h = grind (arith, nat_tests)

small : (a : List Bool) → get_or (map value_byte a) 0 0 ≤ 1
small [] = omega arith
small (false ∷ a) = omega arith
small (true ∷ a) = omega arith

pub no_values : (F : Cnf) (bytes : List ℕ) (v : Verdict) → BeginsWithCharacter bytes → ¬ (AreValuesOf F bytes v)
no_values F bytes v (n, rest, is, low) are =
    let same : get_or (half_text n ++ rest) 0 0 ≡ get_or (map value_byte are.0) 0 0 = ap (λ (t : List ℕ). get_or t 0 0) (sym is ∙ are.2) in
    omega (arith, same, large n rest low, small are.0)
