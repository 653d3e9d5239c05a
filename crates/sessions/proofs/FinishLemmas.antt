-- What is wanted, and what is answered at the end.
use Rattle.std.proofs.Common.{◌≡◌, ◌≢◌, inl, inr, ℕ, Bool, true, false, List, [], ◌++◌, Option, Some, None, Ok, Err, refl, sym, ◌∙◌, ap, subst}
use Rattle.std.proofs.lemmas.List.{append-nil}
use Rattle.dimacs.specs.logic.Limits.{Limits}
use Rattle.dimacs.specs.text.Words.{lines}
use Rattle.icnf.specs.declared.fault.IcnfFault.{IcnfFault}
use Rattle.lrat_check.specs.ProofFaults.{no_memory}
use Rattle.lrat_check.specs.declared.line_checker.CheckFault.{CheckFault}
use Rattle.sessions.specs.Answers.{Event, tally}
use Rattle.sessions.specs.Check.{Finishes, HasOutcome, HasTaken, OfTexts, ReadsBy, coming_by, front, still, wanted_by}
use Rattle.sessions.specs.Events.{events_within}
use Rattle.sessions.specs.Follows.{Follows, Right}
use Rattle.sessions.specs.Texts.{Outcome, behind, session_within}
use Rattle.sessions.specs.Sides.{Ends, IsBroken, later_by}
use Rattle.sessions.specs.inner.Sides.{fault_at}
use Rattle.sessions.specs.declared.check.SessionCheck.{SessionCheck}
use Rattle.sessions.specs.declared.check.SessionFault.TheVariants as fault
use Rattle.sessions.specs.declared.check.Wants.TheVariants as wants
use Rattle.sessions.specs.declared.proof_side.Phase.{Phase}
use Rattle.sessions.specs.declared.proof_side.Phase.TheVariants as phase

-- ---- what is wanted
still_events : (b : Bool) → still b ≡ wants.Events → b ≡ false
still_events true e = absurd cc
still_events false e = refl

still_proof : (b : Bool) → still b ≡ wants.Proof → ⊥
still_proof true e = cc
still_proof false e = cc

pub events_wanted : (o : Option IcnfFault) (p : Phase) (b : Bool) → wanted_by o p b ≡ wants.Events → (o ≡ None) × (b ≡ false) × (p ≢ phase.Reading)
events_wanted (Some f) p b e = absurd cc
events_wanted None phase.Reading b e = absurd cc
events_wanted None phase.Clause b e = (refl, still_events b e, λ h. cc)
events_wanted None phase.Query b e = (refl, still_events b e, λ h. cc)
events_wanted None phase.Ended b e = (refl, still_events b e, λ h. cc)
events_wanted None (phase.Stopped f) b e = (refl, still_events b e, λ h. cc)

pub proof_wanted : (o : Option IcnfFault) (p : Phase) (b : Bool) → wanted_by o p b ≡ wants.Proof → p ≡ phase.Reading
proof_wanted (Some f) p b e = absurd cc
proof_wanted None phase.Reading b e = refl
proof_wanted None phase.Clause b e = absurd (still_proof b e)
proof_wanted None phase.Query b e = absurd (still_proof b e)
proof_wanted None phase.Ended b e = absurd (still_proof b e)
proof_wanted None (phase.Stopped f) b e = absurd (still_proof b e)

-- if no event comes any more, none is wanted
pub no_events : (o : Option IcnfFault) (p : Phase) (b : Bool) → b ≡ true → wanted_by o p b ≡ wants.Events → ⊥
no_events o p b e h = let none : false ≡ true = sym (events_wanted o p b h).1 ∙ e in cc

-- ---- the end
-- the events that were heard are all
all_events : (L : Limits) (e d : List ℕ) (E : List Event) (x : SessionCheck) → x.proof.no_event ≡ true → ReadsBy L None e E x → Ends x.proof.no_event d → events_within L (e ++ d) ≡ Ok E
all_events L e d E x ended r ends = r.1 d ends ∙ ap (λ b. front E (coming_by b x d)) ended ∙ ap Ok (append-nil E)

ends_nil : (X : Type 0) (b : Bool) → Ends {X = X} b []
ends_nil X true = refl
ends_nil X false = tt

module _ {L : Limits} (e p : List ℕ) (x : SessionCheck) (fine : x.fault ≡ None) (ended : x.proof.no_event ≡ true) (h : HasTaken L e p x) where
  events_are : (d : List ℕ) → Ends x.proof.no_event d → events_within L (e ++ d) ≡ Ok h.events
  events_are d = all_events L e d h.events x ended (subst (λ (o : Option IcnfFault). ReadsBy L o e h.events x) fine h.reads)

  session_is : (r : Right L h.events p x.proof) (q : Phase) → x.proof.phase ≡ q → (more : List ℕ) → Ends x.proof.no_byte more
      → session_within L h.events (p ++ more) ≡ behind r.told (later_by q x.proof.lines.known x.proof.line [] (lines (x.proof.begun.items ++ more)))
  session_is r q is more rest =
      ap (λ (X : List Event). session_within L X (p ++ more)) (sym (append-nil h.events))
      ∙ r.is [] more (ends_nil Event x.proof.no_event) rest
      ∙ ap (λ (s : Phase). behind r.told (later_by s x.proof.lines.known x.proof.line [] (lines (x.proof.begun.items ++ more)))) is

  -- whatever follows, the proof has this outcome
  outcome : (f : Option CheckFault) (r : Right L h.events p x.proof) → ((more : List ℕ) → Ends x.proof.no_byte more → session_within L h.events (p ++ more) ≡ record { answers = r.told ++ []; fault = f })
      → OfTexts e p x (HasOutcome L f x.proof.lines.known.tally)
  outcome f r each = λ d b ends rest. (
    h.events,
    events_are d ends,
    ap (λ (o : Outcome). o.fault) (each b rest),
    r.counts ∙ ap tally (sym (append-nil r.told)) ∙ ap (λ (o : Outcome). tally o.answers) (sym (each b rest)),
  )

  pub finishes_right : x.proof.phase ≡ phase.Ended → Finishes L e p x (Ok x.proof.lines.known.tally)
  finishes_right is = at h.follows
    where
      at : Follows L h.events p x.proof → Finishes L e p x (Ok x.proof.lines.known.tally)
      at (inl broken) = absurd (let s : phase.Ended ≡ phase.Stopped no_memory = sym is ∙ broken in cc)
      at (inr r) = outcome None r (λ more rest. session_is r phase.Ended is more rest)

  -- the proof has a fault
  stops : (f : CheckFault) → ((r : Right L h.events p x.proof) (more : List ℕ) → Ends x.proof.no_byte more → session_within L h.events (p ++ more) ≡ record { answers = r.told ++ []; fault = Some f })
      → (IsBroken x.proof → f ≡ no_memory) → Finishes L e p x (Err (fault.Proof f x.proof.lines.known.tally))
  stops f each broken = at h.follows
    where
      at : Follows L h.events p x.proof → Finishes L e p x (Err (fault.Proof f x.proof.lines.known.tally))
      at (inl b) = inl (broken b)
      at (inr r) = inr (outcome (Some f) r (each r))

  pub finishes_stopped : (f : CheckFault) → x.proof.phase ≡ phase.Stopped f → Finishes L e p x (Err (fault.Proof f x.proof.lines.known.tally))
  finishes_stopped f is = stops f (λ r more rest. session_is r (phase.Stopped f) is more rest) (λ b. let s : phase.Stopped f ≡ phase.Stopped no_memory = sym is ∙ b in cc)

  pub finishes_clause : x.proof.phase ≡ phase.Clause → Finishes L e p x (Err (fault.Proof (fault_at x.proof.line 18 0) x.proof.lines.known.tally))
  finishes_clause is = stops (fault_at x.proof.line 18 0) (λ r more rest. session_is r phase.Clause is more rest) (λ b. absurd (let s : phase.Clause ≡ phase.Stopped no_memory = sym is ∙ b in cc))

  pub finishes_query : x.proof.phase ≡ phase.Query → Finishes L e p x (Err (fault.Proof (fault_at x.proof.line 18 0) x.proof.lines.known.tally))
  finishes_query is = stops (fault_at x.proof.line 18 0) (λ r more rest. session_is r phase.Query is more rest) (λ b. absurd (let s : phase.Query ≡ phase.Stopped no_memory = sym is ∙ b in cc))

pub finishes_events : {L : Limits} (e p : List ℕ) (x : SessionCheck) (f : IcnfFault) → x.fault ≡ Some f → HasTaken L e p x → Finishes L e p x (Err (fault.Events f))
finishes_events {L} e p x f is h = at (subst (λ (o : Option IcnfFault). ReadsBy L o e h.events x) is h.reads)
  where
    at : ReadsBy L (Some f) e h.events x → Finishes L e p x (Err (fault.Events f))
    at (inl none) = inl none
    at (inr fails) = inr (λ d b ends rest. fails d ends)

pub finishes_early : (o : Option IcnfFault) (p : Phase) (b : Bool) → o ≡ None → b ≡ false → wanted_by o p b ≡ wants.Nothing → ⊥
finishes_early o p b fine more e = at p (subst (λ (c : Bool). wanted_by None p c ≡ wants.Nothing) more (subst (λ (r : Option IcnfFault). wanted_by r p b ≡ wants.Nothing) fine e))
  where
    at : (q : Phase) → wanted_by None q false ≡ wants.Nothing → ⊥
    at phase.Reading e = cc
    at phase.Clause e = cc
    at phase.Query e = cc
    at phase.Ended e = cc
    at (phase.Stopped f) e = cc

pub finishes_reading : (o : Option IcnfFault) (p : Phase) (b : Bool) → o ≡ None → p ≡ phase.Reading → wanted_by o p b ≡ wants.Nothing → ⊥
finishes_reading o p b fine is e = let s : wants.Proof ≡ wants.Nothing = sym (ap (λ (r : Option IcnfFault). wanted_by r p b) fine ∙ ap (λ (q : Phase). wanted_by None q b) is) ∙ e in cc
