-- How runs of turns add up.
use Rattle.std.proofs.Common.{◌≡◌, ◌≤◌, ℕ, ◌+◌, ◌-◌, ◌^◌, ◌⊎◌, ◌∙◌, inl, inr, List, [], Option, Some, None, Bool, true, false, Result, Ok, Err, OnOk, refl, ap, sym, subst, arith}
use Rattle.std.specs.Prelude.{◌||◌, not}
use Rattle.std.proofs.lemmas.Bool.{cases_lt}
use Rattle.std.proofs.lemmas.Bool.Decides.{nat_tests}
use Rattle.lrat_check.specs.declared.verdict.Verdict.{Verdict}
use Rattle.lrat_check.specs.declared.verdict.Verdict.TheVariants.{Nothing}
use Rattle.links.specs.Counts.{one_more}
use Rattle.event_loop.specs.declared.connection.Connection.{Connection}
use Rattle.links.specs.Arrivals.{arrived, is_over}
use Rattle.links.specs.declared.arrivals.Event.{Event}
use Rattle.links.specs.declared.arrivals.Event.TheVariants.{Linked, Bytes, Quiet, Over}
use Rattle.event_loop.specs.declared.run.Run.{Run}
use Rattle.event_loop.specs.Accounts.{EachCloses, HasBegun, RoseBy}
use Rattle.event_loop.specs.Ending.{HasEnded, HandoutEnded, is_decided, is_deserted_by}
use Rattle.event_loop.specs.inner.Rounds as rounds
use Rattle.event_loop.specs.Run.{verdict_of}

pub rose_on : (k a b c : ℕ) → RoseBy k a b → b ≤ c → RoseBy k a c
rose_on k a b c rose rises = elim rose [
  | inl far ↦ inl (omega (arith, far, rises))
  | inr top ↦ inr (omega (arith, top, rises))
]

rose_more : (j k a b c : ℕ) → RoseBy j a b → RoseBy k b c → b ≤ c → RoseBy (j + k) a c
rose_more j k a b c first second rises = elim first [
  | inl far ↦ elim second [
    | inl more ↦ inl (omega (arith, far, more))
    | inr top ↦ inr top
  ]
  | inr top ↦ inr (omega (arith, top, rises))
]

-- another turn of a run that has begun
pub goes_on : (base old new : ℕ) (v w : Verdict) → HasBegun base old v → RoseBy 1 old new → old ≤ new → HasBegun base new w
goes_on base old new v w begun one rises = record {
  one = rose_on 1 base old new begun.one rises;
  two = inr (rose_more 1 1 base old new begun.one one rises);
}

-- the first turn
pub begins : (old new : ℕ) (v w : Verdict) → w ≡ v → v ≡ Nothing → RoseBy 1 old new → HasBegun old new w
begins old new v w same nothing one = record { one = one; two = inl (same ∙ nothing) }

pub closes_on : (a b c m n o r s t : ℕ → ℕ) → EachCloses a b m n r s → EachCloses b c n o s t → EachCloses a c m o r t
closes_on a b c m n o r s t first second p =
    let x = first p in
    let y = second p in
    omega (arith, x, y)

pub closes_then : (a b c m n o r s t : ℕ → ℕ) → EachCloses a b m n r s → ((p : ℕ) → o p ≡ n p) → ((p : ℕ) → t p + c p ≤ s p + b p) → EachCloses a c m o r t
closes_then a b c m n o r s t first same turn p =
    let x = first p in
    let y = same p in
    let z = turn p in
    omega (arith, x, y, z)

-- no turn was made yet, or the run has begun
abbrev pub Stage : ℕ → ℕ → ℕ → List (Option Connection) → Bool → Verdict → Type 0
Stage turns base calls slots stuck verdict =
    ((turns ≡ 0) × (slots ≡ []) × (verdict ≡ Nothing) × (stuck ≡ false) × (calls ≡ base)) ⊎ HasBegun base calls verdict

pub after_turn : (turns base mid new : ℕ) (slots : List (Option Connection)) (stuck : Bool) (v w : Verdict) → Stage turns base mid slots stuck v
    → RoseBy 1 mid new → mid ≤ new → (slots ≡ [] → w ≡ v) → HasBegun base new w
after_turn turns base mid new slots stuck v w stage one rises first = elim stage [
  | inl at_first ↦ subst (λ b. HasBegun b new w) at_first.4 (begins mid new v w (first at_first.1) at_first.2 one)
  | inr begun ↦ goes_on base mid new v w begun one rises
]

-- a run is not over before its first turn
pub over_later : (turns base calls : ℕ) (slots : List (Option Connection)) (stuck over : Bool) (v : Verdict) → Stage turns base calls slots stuck v
    → over ≡ (is_decided v || stuck) → over ≡ true → HasBegun base calls v
over_later turns base calls slots stuck over v stage test is_over = elim stage [
  | inl at_first ↦ absurd (differ (test ∙ (ap (λ (w : Verdict). is_decided w || stuck) at_first.2 ∙ at_first.3)) is_over)
  | inr begun ↦ begun
]
  where
    differ : over ≡ false → over ≡ true → ⊥
    differ before after = cc

pub at_end : (turns base calls : ℕ) (slots : List (Option Connection)) (stuck : Bool) (v : Verdict) → Stage turns base calls slots stuck v → 1 ≤ turns → HasBegun base calls v
at_end turns base calls slots stuck v stage some = elim stage [
  | inl at_first ↦ let none = at_first.0 in absurd (omega (arith, none, some))
  | inr begun ↦ begun
]

pub at_least : (a more : ℕ) → a ≤ a + more
at_least a more = omega arith

-- one call, and what follows it
pub rose_one : (old mid new : ℕ) → mid ≡ one_more old → mid ≤ new → RoseBy 1 old new
rose_one old mid new call rises = elim (cases_lt old (2 ^ 64 - 1)) [
  | inl below ↦ let e : mid ≡ old + 1 = grind (arith, nat_tests) in inl (omega (arith, e, rises))
  | inr top ↦ let e : mid ≡ old = grind (arith, nat_tests) in inr (omega (arith, e, top, rises))
]

pub most_one : (old mid new : ℕ) → mid ≡ one_more old → new ≤ mid + 4037 → new ≤ old + 4038
most_one old mid new call most = elim (cases_lt old (2 ^ 64 - 1)) [
  | inl below ↦ let e : mid ≡ old + 1 = grind (arith, nat_tests) in omega (arith, e, most)
  | inr top ↦ let e : mid ≡ old = grind (arith, nat_tests) in omega (arith, e, most)
]

pub one_at_most : (old new : ℕ) → new ≡ one_more old → new ≤ old + 1
one_at_most old new call = elim (cases_lt old (2 ^ 64 - 1)) [
  | inl below ↦ let e : new ≡ old + 1 = grind (arith, nat_tests) in omega (arith, e)
  | inr top ↦ let e : new ≡ old = grind (arith, nat_tests) in omega (arith, e)
]

pub few_one : (old mid : ℕ) → mid ≡ one_more old → mid ≤ old + 4038
few_one old mid call = most_one old mid mid call (omega arith)

pub rises_one : (old mid new : ℕ) → mid ≡ one_more old → mid ≤ new → old ≤ new
rises_one old mid new call rises = elim (cases_lt old (2 ^ 64 - 1)) [
  | inl below ↦ let e : mid ≡ old + 1 = grind (arith, nat_tests) in omega (arith, e, rises)
  | inr top ↦ let e : mid ≡ old = grind (arith, nat_tests) in omega (arith, e, rises)
]

pub on_ok_any : {T E P : Type 0} (turn : Result T E) → P → OnOk turn P
on_ok_any (Ok x) fact = fact
on_ok_any (Err fault) fact = tt

-- what may be followed by more is counted, and nothing follows `Over`
pub arrived_by : (event : Event) → not (is_over event) ≡ true → arrived event ≡ 1
arrived_by (Linked place) goes = refl
arrived_by (Bytes place count) goes = refl
arrived_by Quiet goes = refl
arrived_by Over goes = absurd (cc)

pub over_by : (event : Event) → not (is_over event) ≡ false → is_over event ≡ true
over_by (Linked place) ends = absurd (cc)
over_by (Bytes place count) ends = absurd (cc)
over_by Quiet ends = absurd (cc)
over_by Over ends = refl

pub none_decided : (v : Verdict) → v ≡ Nothing → is_decided v ≡ true → ⊥
none_decided v nothing decided =
    let never : false ≡ true = ap is_decided (sym nothing) ∙ decided in cc

-- a run that is over holds a verdict, or is stuck
pub over_ends : (before after : ℕ) (is_at_end : Bool) (run : Run) → rounds.is_over run ≡ true → HasEnded before after is_at_end run
over_ends before after is_at_end run over = go (is_decided (verdict_of run)) refl
  where
    second : (a b : Bool) → (a || b) ≡ true → a ≡ false → b ≡ true
    second true b is fails = absurd (cc)
    second false b is fails = is

    go : (b : Bool) → is_decided (verdict_of run) ≡ b → HasEnded before after is_at_end run
    go true is = HasEnded.decided is
    go false is = HasEnded.stuck (second (is_decided (verdict_of run)) run.dispatcher.coordinator.stuck over is)

-- the handing out of a verdict, counted from an earlier event on
pub served_since : (first before after : ℕ) (is_at_end : Bool) (run : Run) → first ≤ before → HandoutEnded before after is_at_end run → HandoutEnded first after is_at_end run
served_since first before after is_at_end run rises (HandoutEnded.nobody none) = HandoutEnded.nobody none
served_since first before after is_at_end run rises (HandoutEnded.over ends) = HandoutEnded.over ends
served_since first before after is_at_end run rises (HandoutEnded.full far) = HandoutEnded.full (omega (arith, rises, far))

-- a run is not deserted before its first tick
pub not_deserted : (ticks linked : Option ℕ) (is_open : Bool) (tick : ℕ) → linked ≡ None → is_deserted_by ticks linked is_open tick ≡ false
not_deserted None linked is_open tick none = refl
not_deserted (Some ticks) None is_open tick none = refl
not_deserted (Some ticks) (Some last) is_open tick none = absurd (cc)
