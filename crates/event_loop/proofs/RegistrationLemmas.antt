-- Which worker is registered where.
use Rattle.std.proofs.Common.{◌≡◌, ◌≢◌, ◌≤◌, ◌<◌, ◌+◌, ℕ, zero, suc, Bool, true, false, List, [], ◌∷◌, ◌++◌, length, get_or, set, Option, Some, None, Result, Ok, Err, OnOk, refl, inl, inr, ◌⊎◌, ap, subst, sym, arith, ◌∙◌, eq-eqb, get_or-set_same, get_or-set_other}
use Rattle.std.specs.Prelude.{nat_eq, not, ◌||◌, IsSome, IsSomeAnd, MatchBool}
use Rattle.std.specs.List.{list_any}
use Rattle.std.proofs.lemmas.Bool.Decides.{eqb_tells}
use Rattle.std.proofs.lemmas.Bool.{cases_lt}
use Rattle.coordinator_core.specs.Coordinator.{CoordinatorState}
use Rattle.event_loop.specs.declared.connection.Broken.{Broken}
use Rattle.event_loop.specs.declared.connection.Broken.TheVariants.{Closed, NoMemory}
use Rattle.event_loop.specs.declared.connection.Connection.{Connection}
use Rattle.event_loop.specs.declared.connection.State.{State}
use Rattle.event_loop.specs.declared.connection.State.TheVariants.{Handshake, Queued, Idle, Pending, Working}
use Rattle.event_loop.specs.inner.Deliveries.{IdleHaveNothing, HasNothing, NobodyIdle}
use Rattle.event_loop.specs.inner.Connections.{one_if_closed}
use Rattle.event_loop.specs.inner.Registrations.{AreApart, NobodyMayRegister, is_worker, connection_at, may_register, may_register_by, idle_by, idle_in, idle_worker, queued_by, queued_in, queued_worker, registered_by, registered_in, registered_worker, is_registered}

pub registered_is : (state : State) (worker : Option ℕ) (w : ℕ) → registered_by state worker ≡ Some w → worker ≡ Some w
registered_is Handshake worker w registered = cc
registered_is Queued worker w registered = cc
registered_is Idle worker w registered = registered
registered_is Pending worker w registered = registered
registered_is Working worker w registered = registered

pub queued_is : (state : State) (worker : Option ℕ) (w : ℕ) → queued_by state worker ≡ Some w → worker ≡ Some w
queued_is Handshake worker w queued = cc
queued_is Queued worker w queued = queued
queued_is Idle worker w queued = cc
queued_is Pending worker w queued = cc
queued_is Working worker w queued = cc

-- an idle worker is registered
pub idle_is_registered : (state : State) (worker : Option ℕ) (w : ℕ) → idle_by state worker ≡ Some w → registered_by state worker ≡ Some w
idle_is_registered Handshake worker w idle = cc
idle_is_registered Queued worker w idle = cc
idle_is_registered Idle worker w idle = idle
idle_is_registered Pending worker w idle = cc
idle_is_registered Working worker w idle = cc

-- there is no connection after the last place
pub connection_beyond : (slots : List (Option Connection)) (place : ℕ) → length slots ≤ place → connection_at slots place ≡ None
connection_beyond [] place far = refl
connection_beyond (connection ∷ slots) zero far = absurd (omega (arith, far))
connection_beyond (connection ∷ slots) (suc place) far = connection_beyond slots place (omega (arith, far))

-- another connection at a place
pub connection_here : (slots : List (Option Connection)) (i : ℕ) (connection : Option Connection) → i < length slots → connection_at (set slots i connection) i ≡ connection
connection_here slots i connection at = get_or-set_same slots i connection None at

pub connection_there : (slots : List (Option Connection)) (i place : ℕ) (connection : Option Connection) → place ≢ i → connection_at (set slots i connection) place ≡ connection_at slots place
connection_there slots i place connection other = get_or-set_other slots i place connection None other

pub found_at : (slots : List (Option Connection)) (i : ℕ) (d : Option Connection) → i < length slots → get_or slots i d ≡ connection_at slots i
found_at [] i d at = absurd (omega (arith, at))
found_at (connection ∷ slots) zero d at = refl
found_at (connection ∷ slots) (suc i) d at = found_at slots i d (omega (arith, at))

-- a worker that is registered after a turn of the connection at place `i` was registered before, or was registered by that turn
back : (slots : List (Option Connection)) (i : ℕ) (connection d : Option Connection) (new : ℕ → Type 0) → i < length slots
    → ((worker : ℕ) → registered_in connection ≡ Some worker → (registered_in (get_or slots i d) ≡ Some worker) ⊎ new worker)
    → (place worker : ℕ) → registered_in (connection_at (set slots i connection) place) ≡ Some worker
    → (registered_in (connection_at slots place) ≡ Some worker) ⊎ ((place ≡ i) × new worker)
back slots i connection d new at kept place worker registered = elim (eqb_tells place i) [
  | inl here ↦
      let now : registered_in connection ≡ Some worker =
      ap registered_in (sym (connection_here slots i connection at)) ∙ subst (λ q. registered_in (connection_at (set slots i connection) q) ≡ Some worker) here.1 registered in
      elim (kept worker now) [
        | inl was ↦ inl (subst (λ q. registered_in (connection_at slots q) ≡ Some worker) (sym here.1) (ap registered_in (sym (found_at slots i d at)) ∙ was))
        | inr is_owner ↦ inr (here.1, is_owner)
      ]
  | inr differs ↦ inl (ap registered_in (sym (connection_there slots i place connection differs.1)) ∙ registered)
]

-- a turn of one connection that registers no worker
pub apart_kept : (slots : List (Option Connection)) (i : ℕ) (connection d : Option Connection) → i < length slots
    → ((worker : ℕ) → registered_in connection ≡ Some worker → registered_in (get_or slots i d) ≡ Some worker) → AreApart slots → AreApart (set slots i connection)
apart_kept slots i connection d at kept apart = record {
  one_place = λ p q worker at_p at_q. apart.one_place p q worker (was p worker at_p) (was q worker at_q);
}
  where
    was : (place worker : ℕ) → registered_in (connection_at (set slots i connection) place) ≡ Some worker → registered_in (connection_at slots place) ≡ Some worker
    was place worker registered = elim (back slots i connection d (λ w. ⊥) at (λ w now. inl (kept w now)) place worker registered) [
      | inl before ↦ before
      | inr never ↦ absurd never.1
    ]

-- a worker is registered at no place, if no connection has its number
nobody_registered : (slots : List (Option Connection)) (worker place : ℕ) → list_any (is_registered worker) slots ≡ false → registered_in (connection_at slots place) ≡ Some worker → ⊥
nobody_registered [] worker place none registered = cc
nobody_registered (connection ∷ slots) worker zero none registered = go (registered_in connection) registered none
  where
    go : (owner : Option ℕ) → owner ≡ Some worker → (is_worker worker owner || list_any (is_registered worker) slots) ≡ false → ⊥
    go None never far = cc
    go (Some other) same far = let e : nat_eq other worker ≡ true = eq-eqb other worker (cc) in cc
nobody_registered (connection ∷ slots) worker (suc place) none registered = nobody_registered slots worker place (rest (is_registered worker connection) (list_any (is_registered worker) slots) none) registered
  where
    rest : (a b : Bool) → (a || b) ≡ false → b ≡ false
    rest true b none = cc
    rest false b none = none

may_register_is : (slots : List (Option Connection)) (queued : Option ℕ) (worker : ℕ) → may_register_by slots queued ≡ true → queued ≡ Some worker → list_any (is_registered worker) slots ≡ false
may_register_is slots None worker may is_queued = cc
may_register_is slots (Some other) worker may is_queued =
    let same : other ≡ worker = cc in
    subst (λ (w : ℕ). list_any (is_registered w) slots ≡ false) same (turned (list_any (is_registered other) slots) may)
  where
    turned : (b : Bool) → not b ≡ true → b ≡ false
    turned true says = absurd (cc)
    turned false says = refl

-- a turn of one connection that registers its queued worker, which was registered nowhere
pub apart_registered : (slots : List (Option Connection)) (i : ℕ) (connection d : Option Connection) (may : Bool) → i < length slots → may ≡ may_register slots i
    → (may ≡ false → connection ≡ get_or slots i d)
    → ((worker : ℕ) → registered_in connection ≡ Some worker → (registered_in (get_or slots i d) ≡ Some worker) ⊎ (queued_in (get_or slots i d) ≡ Some worker))
    → AreApart slots → AreApart (set slots i connection)
apart_registered slots i connection d false at answer barred kept apart =
    apart_kept slots i connection d at (λ worker now. subst (λ (x : Option Connection). registered_in x ≡ Some worker) (barred refl) now) apart
apart_registered slots i connection d true at answer barred kept apart = record { one_place = one_place }
  where
    was : (place worker : ℕ) → registered_in (connection_at (set slots i connection) place) ≡ Some worker
        → (registered_in (connection_at slots place) ≡ Some worker) ⊎ ((place ≡ i) × (queued_in (get_or slots i d) ≡ Some worker))
    was place worker registered = back slots i connection d (λ w. queued_in (get_or slots i d) ≡ Some w) at kept place worker registered

    none : (worker : ℕ) → queued_in (get_or slots i d) ≡ Some worker → list_any (is_registered worker) slots ≡ false
    none worker waits = may_register_is slots (queued_in (connection_at slots i)) worker (sym answer) (ap queued_in (sym (found_at slots i d at)) ∙ waits)

    one_place : (p q worker : ℕ) → registered_in (connection_at (set slots i connection) p) ≡ Some worker → registered_in (connection_at (set slots i connection) q) ≡ Some worker → p ≡ q
    one_place p q worker at_p at_q = elim (was p worker at_p) [
      | inl first ↦ elim (was q worker at_q) [
        | inl second ↦ apart.one_place p q worker first second
        | inr is_owner ↦ absurd (nobody_registered slots worker p (none worker is_owner.1) first)
      ]
      | inr is_owner ↦ elim (was q worker at_q) [
        | inl second ↦ absurd (nobody_registered slots worker q (none worker is_owner.1) second)
        | inr too ↦ is_owner.0 ∙ sym too.0
      ]
    ]

-- one more place, without a connection
registered_pushed : (slots : List (Option Connection)) (place : ℕ) → registered_in (connection_at (slots ++ None ∷ []) place) ≡ registered_in (connection_at slots place)
registered_pushed [] zero = refl
registered_pushed [] (suc place) = refl
registered_pushed (connection ∷ slots) zero = refl
registered_pushed (connection ∷ slots) (suc place) = registered_pushed slots place

pub apart_pushed : (slots : List (Option Connection)) → AreApart slots → AreApart (slots ++ None ∷ [])
apart_pushed slots apart = record {
  one_place = λ p q worker at_p at_q. apart.one_place p q worker (sym (registered_pushed slots p) ∙ at_p) (sym (registered_pushed slots q) ∙ at_q);
}

-- at a place without a connection
pub apart_none : (slots : List (Option Connection)) → slots ≡ [] → AreApart slots
apart_none slots none = record {
  one_place = λ p q worker at_p at_q.
      let registered : None ≡ Some worker = subst (λ (xs : List (Option Connection)). registered_in (connection_at xs p) ≡ Some worker) none at_p in absurd (cc);
}

-- a connection begins without a worker
pub none_registered : (connection : Connection) (worker : ℕ) → connection.state ≡ Handshake → registered_in (Some connection) ≡ Some worker → ⊥
none_registered connection worker fresh registered =
    let now : registered_by Handshake connection.worker ≡ Some worker = subst (λ (s : State). registered_by s connection.worker ≡ Some worker) fresh registered in cc

-- no worker is idle at one more place
pub rests_on : (slots : List (Option Connection)) (i : ℕ) (connection : Option Connection) → i < length slots → idle_in connection ≡ None → NobodyIdle slots i
    → NobodyIdle (set slots i connection) (i + 1)
rests_on slots i connection at none so_far place below = elim (eqb_tells place i) [
  | inl here ↦ subst (λ q. idle_in (connection_at (set slots i connection) q) ≡ None) (sym here.1) (ap idle_in (connection_here slots i connection at) ∙ none)
  | inr differs ↦ let other = differs.1 in ap idle_in (connection_there slots i place connection other) ∙ so_far place (omega (arith, other, below))
]

pub nobody_at_end : (slots : List (Option Connection)) (places : ℕ) → 255 ≤ places → NobodyIdle slots places → NobodyIdle slots 255
nobody_at_end slots places all so_far place below = so_far place (omega (arith, all, below))

pub nobody_beyond : (slots : List (Option Connection)) (places : ℕ) → length slots ≤ places → NobodyIdle slots places → NobodyIdle slots 255
nobody_beyond slots places far so_far place below = elim (cases_lt place places) [
  | inl before ↦ so_far place before
  | inr behind ↦ ap idle_in (connection_beyond slots place (omega (arith, far, behind)))
]

-- a worker that is idle after a turn has nothing to do
pub served : {E : Type 0} (turn : Result (Unit {0}) Broken) (result : Result (Unit {0}) E) (told : Connection) (connection : Option Connection) (c d : CoordinatorState)
    → OnOk turn ((worker : ℕ) → idle_worker told ≡ Some worker → HasNothing c worker)
    → (turn ≡ Err Closed → connection ≡ None) → OnOk result (turn ≢ Err NoMemory) → (one_if_closed turn ≡ 0 → (connection ≡ Some told) × (d ≡ c))
    → OnOk result ((worker : ℕ) → idle_in connection ≡ Some worker → HasNothing d worker)
served turn (Err fault) told connection c d idle closed memory same = tt
served (Ok x) (Ok y) told connection c d idle closed memory same = λ worker at.
    subst (λ (k : CoordinatorState). HasNothing k worker) (sym (same refl).1) (idle worker (ap idle_in (sym (same refl).0) ∙ at))
served (Err Closed) (Ok y) told connection c d idle closed memory same = λ worker at.
    let never : None ≡ Some worker = ap idle_in (sym (closed refl)) ∙ at in absurd (cc)
served (Err NoMemory) (Ok y) told connection c d idle closed memory same = absurd (memory refl)

pub still_idle : (stays : Bool) (connection : Option Connection) (c : CoordinatorState)
    → MatchBool stays (IsSomeAnd (idle_in connection) (HasNothing c)) (idle_in connection ≡ None) → stays ≡ true → IsSomeAnd (idle_in connection) (HasNothing c)
still_idle true connection c fact same = fact
still_idle false connection c fact same = absurd (cc)

pub not_idle : (stays : Bool) (connection : Option Connection) (c : CoordinatorState)
    → MatchBool stays (IsSomeAnd (idle_in connection) (HasNothing c)) (idle_in connection ≡ None) → stays ≡ false → idle_in connection ≡ None
not_idle true connection c fact same = absurd (cc)
not_idle false connection c fact same = fact

pub rests_here : (slots : List (Option Connection)) (i : ℕ) (connection : Option Connection) (c : CoordinatorState) → i < length slots → IsSomeAnd (idle_in connection) (HasNothing c)
    → IdleHaveNothing (set slots i connection) c
rests_here slots i connection c at rests =
    IdleHaveNothing.one i (subst (λ (x : Option Connection). IsSomeAnd (idle_in x) (HasNothing c)) (sym (connection_here slots i connection at)) rests)

-- a queued worker was named by a handshake
pub is_named : (connection : Connection) (worker : ℕ) → queued_worker connection ≡ Some worker → connection.worker ≡ Some worker
is_named connection worker waits = go connection.state waits
  where
    go : (state : State) → queued_by state connection.worker ≡ Some worker → connection.worker ≡ Some worker
    go Handshake is = absurd (cc)
    go Queued is = is
    go Idle is = absurd (cc)
    go Pending is = absurd (cc)
    go Working is = absurd (cc)

pub nobody_waits : (queued : Option ℕ) (worker : ℕ) → queued ≡ None → queued ≡ Some worker → ⊥
nobody_waits queued worker none some = cc

pub none_is_some : (queued : Option ℕ) → queued ≡ None → IsSome queued → ⊥
none_is_some None none some = absurd (cc)
none_is_some (Some worker) none some = absurd (cc)

-- a registered worker, idle or not, was named by a handshake
pub registered_as : (connection : Connection) (worker : ℕ) → registered_worker connection ≡ Some worker → connection.worker ≡ Some worker
registered_as connection worker is_owner = go connection.state is_owner
  where
    go : (state : State) → registered_by state connection.worker ≡ Some worker → connection.worker ≡ Some worker
    go Handshake is = absurd (cc)
    go Queued is = absurd (cc)
    go Idle is = is
    go Pending is = is
    go Working is = is

pub nobody_idle : (connection : Connection) (worker : ℕ) → registered_worker connection ≡ None → idle_worker connection ≡ Some worker → ⊥
nobody_idle connection worker none is_idle_now = go connection.state none is_idle_now
  where
    go : (state : State) → registered_by state connection.worker ≡ None → idle_by state connection.worker ≡ Some worker → ⊥
    go Handshake nobody is = cc
    go Queued nobody is = cc
    go Idle nobody is = cc
    go Pending nobody is = cc
    go Working nobody is = cc

pub not_both : (b : Bool) → b ≡ true → b ≡ false → ⊥
not_both b holds fails = cc

-- a registered worker is not queued
pub registered_not_queued : (connection : Connection) (worker : ℕ) → registered_worker connection ≡ Some worker → queued_worker connection ≡ None
registered_not_queued connection worker is_owner = go connection.state is_owner
  where
    go : (state : State) → registered_by state connection.worker ≡ Some worker → queued_by state connection.worker ≡ None
    go Handshake is = refl
    go Queued is = absurd (cc)
    go Idle is = refl
    go Pending is = refl
    go Working is = refl

queued_not_registered : (connection : Option Connection) (worker : ℕ) → queued_in connection ≡ Some worker → (other : ℕ) → is_registered other connection ≡ false
queued_not_registered None worker waits other = refl
queued_not_registered (Some connection) worker waits other = go connection.state waits
  where
    go : (state : State) → queued_by state connection.worker ≡ Some worker → is_worker other (registered_by state connection.worker) ≡ false
    go Handshake is = refl
    go Queued is = refl
    go Idle is = absurd (cc)
    go Pending is = absurd (cc)
    go Working is = absurd (cc)

-- a worker that may be registered is not registered
not_registered : (slots : List (Option Connection)) (connection : Option Connection) (queued : Option ℕ) → queued ≡ queued_in connection → true ≡ may_register_by slots queued → (other : ℕ) → is_registered other connection ≡ false
not_registered slots connection None same may other = absurd (cc)
not_registered slots connection (Some worker) same may other = queued_not_registered connection worker (sym same) other

or_on : (a b c : Bool) → (b ≡ true → c ≡ true) → (a || b) ≡ true → (a || c) ≡ true
or_on true b c step is = refl
or_on false b c step is = step is

or_second : (a b : Bool) → (a || b) ≡ true → a ≡ false → b ≡ true
or_second true b is fails = absurd (cc)
or_second false b is fails = is

or_right : (a b : Bool) → b ≡ true → (a || b) ≡ true
or_right true b is = refl
or_right false b is = is

-- some connection still passes a test, if the one that changed did not pass it
any_kept : (f : Option Connection → Bool) (slots : List (Option Connection)) (i : ℕ) (connection : Option Connection) → i < length slots → f (connection_at slots i) ≡ false → list_any f slots ≡ true
    → list_any f (set slots i connection) ≡ true
any_kept f [] i connection at fails some = absurd (omega (arith, at))
any_kept f (x ∷ slots) zero connection at fails some = or_right (f connection) (list_any f slots) (or_second (f x) (list_any f slots) some fails)
any_kept f (x ∷ slots) (suc i) connection at fails some =
    or_on (f x) (list_any f slots) (list_any f (set slots i connection)) (any_kept f slots i connection (omega (arith, at)) fails) some

set_same : (slots : List (Option Connection)) (i : ℕ) (connection : Option Connection) → connection ≡ connection_at slots i → i < length slots → set slots i connection ≡ slots
set_same [] i connection same at = refl
set_same (x ∷ slots) zero connection same at = ap (λ (y : Option Connection). y ∷ slots) same
set_same (x ∷ slots) (suc i) connection same at = ap (λ (ys : List (Option Connection)). x ∷ ys) (set_same slots i connection same (omega (arith, at)))

not_false : (b : Bool) → not b ≡ false → b ≡ true
not_false true is = refl
not_false false is = absurd (cc)

-- a worker that may not be registered before a turn of another connection may not be after it
still_barred : (slots : List (Option Connection)) (i : ℕ) (connection : Option Connection) (queued : Option ℕ) → i < length slots → ((other : ℕ) → is_registered other (connection_at slots i) ≡ false)
    → may_register_by slots queued ≡ false → may_register_by (set slots i connection) queued ≡ false
still_barred slots i connection None at is_owner barred = refl
still_barred slots i connection (Some worker) at is_owner barred = ap not (any_kept (is_registered worker) slots i connection at (is_owner worker) (not_false (list_any (is_registered worker) slots) barred))

pub nobody_may_register_on : (slots : List (Option Connection)) (i : ℕ) (connection d : Option Connection) (may : Bool) → i < length slots → may ≡ may_register slots i
    → (may ≡ false → connection ≡ get_or slots i d) → (may ≡ true → queued_in connection ≡ None) → NobodyMayRegister slots i → NobodyMayRegister (set slots i connection) (i + 1)
nobody_may_register_on slots i connection d false at answer barred waits so_far = λ place below.
    let same = set_same slots i connection (barred refl ∙ found_at slots i d at) at in
    subst (λ (ls : List (Option Connection)). may_register ls place ≡ false) (sym same) (elim (eqb_tells place i) [
      | inl here ↦ subst (λ (p : ℕ). may_register slots p ≡ false) (sym here.1) (sym answer)
      | inr differs ↦ let other = differs.1 in so_far place (omega (arith, other, below))
    ])
nobody_may_register_on slots i connection d true at answer barred waits so_far = λ place below. elim (eqb_tells place i) [
  | inl here ↦
      subst (λ (p : ℕ). may_register (set slots i connection) p ≡ false) (sym here.1)
      (ap (λ (q : Option ℕ). may_register_by (set slots i connection) q) (ap queued_in (connection_here slots i connection at) ∙ waits refl))
  | inr differs ↦
      let other = differs.1 in
      let before = so_far place (omega (arith, other, below)) in
      ap (λ (q : Option ℕ). may_register_by (set slots i connection) q) (ap queued_in (connection_there slots i place connection other))
      ∙ still_barred slots i connection (queued_in (connection_at slots place)) at (not_registered slots (connection_at slots i) (queued_in (connection_at slots i)) refl answer) before
]

pub nobody_left_at_end : (slots : List (Option Connection)) (places : ℕ) → 255 ≤ places → NobodyMayRegister slots places → NobodyMayRegister slots 255
nobody_left_at_end slots places all so_far place below = so_far place (omega (arith, all, below))

pub nobody_left : (slots : List (Option Connection)) (places : ℕ) → length slots ≤ places → NobodyMayRegister slots places → NobodyMayRegister slots 255
nobody_left slots places far so_far place below = elim (cases_lt place places) [
  | inl before ↦ so_far place before
  | inr behind ↦ ap (λ (q : Option ℕ). may_register_by slots q) (ap queued_in (connection_beyond slots place (omega (arith, far, behind))))
]

-- a worker that was registered is not queued, and a closed connection has no worker
pub settled_waits : {E : Type 0} (turn : Result (Unit {0}) Broken) (result : Result (Unit {0}) E) (told : Connection) (connection : Option Connection) (may : Bool)
    → OnOk turn (queued_worker told ≡ None) → (turn ≡ Err Closed → connection ≡ None) → OnOk result (turn ≢ Err NoMemory) → (one_if_closed turn ≡ 0 → connection ≡ Some told)
    → OnOk result (may ≡ true → queued_in connection ≡ None)
settled_waits turn (Err fault) told connection may waits closed memory same = tt
settled_waits (Ok x) (Ok y) told connection may waits closed memory same = λ holds. ap queued_in (same refl) ∙ waits
settled_waits (Err Closed) (Ok y) told connection may waits closed memory same = λ holds. ap queued_in (closed refl)
settled_waits (Err NoMemory) (Ok y) told connection may waits closed memory same = absurd (memory refl)

-- one more place, without a connection
pub connection_pushed : (slots : List (Option Connection)) (place : ℕ) → connection_at (slots ++ None ∷ []) place ≡ connection_at slots place
connection_pushed [] zero = refl
connection_pushed [] (suc place) = refl
connection_pushed (connection ∷ slots) zero = refl
connection_pushed (connection ∷ slots) (suc place) = connection_pushed slots place

pub same_worker : (owner : Option ℕ) (one other : ℕ) → owner ≡ Some one → owner ≡ Some other → one ≡ other
same_worker owner one other is too = cc
