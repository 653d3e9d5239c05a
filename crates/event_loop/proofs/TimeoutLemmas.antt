-- How connections whose timeout is over are closed, place by place.
use Rattle.std.proofs.Common.{◌≡◌, ◌≢◌, ◌≤◌, ◌<◌, ◌+◌, ◌-◌, ℕ, zero, suc, Bool, true, false, List, [], ◌∷◌, length, get_or, set, Option, Some, None, refl, inl, inr, ap, subst, sym, arith, ◌∙◌}
use Rattle.std.specs.Prelude.{◌||◌}
use Rattle.std.specs.List.{list_any}
use Rattle.std.proofs.lemmas.Bool.{cases_lt}
use Rattle.std.proofs.lemmas.Bool.Decides.{eqb_tells}
use Rattle.event_loop.specs.declared.connection.Connection.{Connection}
use Rattle.event_loop.specs.declared.connection.State.{State}
use Rattle.event_loop.specs.declared.connection.State.TheVariants.{Handshake, Queued, Idle, Pending, Working}
use Rattle.event_loop.specs.inner.Timeouts.{OverdueClosed, is_overdue_in, is_past, is_idle, timeout_by}
use Rattle.event_loop.specs.inner.Registrations.{connection_at, idle_by}
use Rattle.event_loop.proofs.RegistrationLemmas.{found_at, connection_beyond, connection_here, connection_there}
use Rattle.std.specs.Prelude.{is_some}

-- a worker whose timeout is over is not idle
busy_by : (state : State) (worker patience : Option ℕ) (is_other_idle : Bool) (quiet : ℕ)
    → is_past (timeout_by state patience is_other_idle) quiet ≡ true → is_some (idle_by state worker) ≡ false
busy_by Handshake worker patience is_other_idle quiet late = refl
busy_by Queued worker patience is_other_idle quiet late = refl
busy_by Idle worker patience is_other_idle quiet late = absurd (cc)
busy_by Pending worker patience is_other_idle quiet late = refl
busy_by Working worker patience is_other_idle quiet late = refl

busy : (connection : Option Connection) (tick : ℕ) (is_other_idle : Bool) → is_overdue_in connection tick is_other_idle ≡ true → is_idle connection ≡ false
busy None tick is_other_idle late = refl
busy (Some connection) tick is_other_idle late = busy_by connection.state connection.worker connection.patience is_other_idle (tick - connection.since) late

-- another connection at a place, whose worker is as idle
free_kept : (slots : List (Option Connection)) (i : ℕ) (connection : Option Connection) → i < length slots → is_idle connection ≡ is_idle (connection_at slots i)
    → list_any is_idle (set slots i connection) ≡ list_any is_idle slots
free_kept [] i connection at same = refl
free_kept (x ∷ slots) zero connection at same = ap (λ (b : Bool). b || list_any is_idle slots) same
free_kept (x ∷ slots) (suc i) connection at same = ap (λ (b : Bool). is_idle x || b) (free_kept slots i connection (omega (arith, at)) same)

-- the places before this one are cleared
pub record IsClearing (places : ℕ) (old slots : List (Option Connection)) (tick : ℕ) : Type 0 where
  pub cleared : OverdueClosed places old slots tick
  pub free : list_any is_idle slots ≡ list_any is_idle old
  pub left : (place : ℕ) → places ≤ place → connection_at slots place ≡ connection_at old place

pub clears_none : (slots : List (Option Connection)) (tick : ℕ) → IsClearing 0 slots slots tick
clears_none slots tick = record {
  cleared = record { ended = λ place below late. absurd (omega (arith, below)); stays = λ place timely. refl };
  free = refl;
  left = λ place far. refl;
}

pub clears_on : (old slots : List (Option Connection)) (i tick : ℕ) (connection d : Option Connection) (free : Bool) → i < length slots → free ≡ list_any is_idle slots
    → (is_overdue_in (get_or slots i d) tick free ≡ true → connection ≡ None)
    → (is_overdue_in (get_or slots i d) tick free ≡ false → connection ≡ get_or slots i d)
    → IsClearing i old slots tick → IsClearing (i + 1) old (set slots i connection) tick
clears_on old slots i tick connection d free at answer ends keeps so_far = record {
  cleared = record { ended = ended; stays = stays };
  free = free_kept slots i connection at (as_free (is_overdue_in (connection_at old i) tick (list_any is_idle old)) refl) ∙ so_far.free;
  left = λ place far.
      let other : place ≢ i = omega (arith, far) in
      let behind : i ≤ place = omega (arith, far) in
      connection_there slots i place connection other ∙ so_far.left place behind;
}
  where
    here : get_or slots i d ≡ connection_at old i
    here = found_at slots i d at ∙ so_far.left i (omega arith)

    -- the test is that of the slots as they were
    test : is_overdue_in (get_or slots i d) tick free ≡ is_overdue_in (connection_at old i) tick (list_any is_idle old)
    test = ap (λ (x : Option Connection). is_overdue_in x tick free) here ∙ ap (λ (b : Bool). is_overdue_in (connection_at old i) tick b) (answer ∙ so_far.free)

    gone : is_overdue_in (connection_at old i) tick (list_any is_idle old) ≡ true → connection ≡ None
    gone late = ends (test ∙ late)

    kept : is_overdue_in (connection_at old i) tick (list_any is_idle old) ≡ false → connection ≡ connection_at old i
    kept timely = keeps (test ∙ timely) ∙ here

    as_free : (b : Bool) → is_overdue_in (connection_at old i) tick (list_any is_idle old) ≡ b → is_idle connection ≡ is_idle (connection_at slots i)
    as_free true late =
        ap is_idle (gone late) ∙ sym (ap is_idle (so_far.left i (omega arith)) ∙ busy (connection_at old i) tick (list_any is_idle old) late)
    as_free false timely = ap is_idle (kept timely ∙ sym (so_far.left i (omega arith)))

    ended : (place : ℕ) → place < i + 1 → is_overdue_in (connection_at old place) tick (list_any is_idle old) ≡ true → connection_at (set slots i connection) place ≡ None
    ended place below late = elim (eqb_tells place i) [
      | inl same ↦
          subst (λ q. connection_at (set slots i connection) q ≡ None) (sym same.1)
          (connection_here slots i connection at ∙ gone (subst (λ q. is_overdue_in (connection_at old q) tick (list_any is_idle old) ≡ true) same.1 late))
      | inr differs ↦
          let other = differs.1 in
          let before : place < i = omega (arith, other, below) in
          connection_there slots i place connection other ∙ so_far.cleared.ended place before late
    ]

    stays : (place : ℕ) → is_overdue_in (connection_at old place) tick (list_any is_idle old) ≡ false → connection_at (set slots i connection) place ≡ connection_at old place
    stays place timely = elim (eqb_tells place i) [
      | inl same ↦
          subst (λ q. connection_at (set slots i connection) q ≡ connection_at old q) (sym same.1)
          (connection_here slots i connection at ∙ kept (subst (λ q. is_overdue_in (connection_at old q) tick (list_any is_idle old) ≡ false) same.1 timely))
      | inr differs ↦ connection_there slots i place connection differs.1 ∙ so_far.cleared.stays place timely
    ]

-- no place is left
pub cleared_beyond : (old slots : List (Option Connection)) (places tick : ℕ) → length slots ≤ places → IsClearing places old slots tick → OverdueClosed 255 old slots tick
cleared_beyond old slots places tick far so_far = record {
  ended = λ place below late. elim (cases_lt place places) [
    | inl before ↦ so_far.cleared.ended place before late
    | inr behind ↦ connection_beyond slots place (omega (arith, far, behind))
  ];
  stays = so_far.cleared.stays;
}

pub cleared_at_end : (old slots : List (Option Connection)) (places tick : ℕ) → 255 ≤ places → IsClearing places old slots tick → OverdueClosed 255 old slots tick
cleared_at_end old slots places tick all so_far = record {
  ended = λ place below late. so_far.cleared.ended place (omega (arith, all, below)) late;
  stays = so_far.cleared.stays;
}
