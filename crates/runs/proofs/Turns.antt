-- What the rounds over connections have done.
use Rattle.std.proofs.Common.{◌≡◌, ◌≤◌, ◌<◌, ℕ, ◌+◌, ◌⊎◌, ◌∙◌, inl, inr, List, [], ◌∷◌, length, Bool, true, false, not, refl, ap, subst, All, drop, set, get_or, arith}
use Rattle.std.specs.List.{list_all}
use Rattle.std.proofs.lemmas.List.{drop-set-lt, drop_all, drop_more}
use Rattle.std.proofs.lemmas.List.Elements.{All-get_or}
use Rattle.coordinator_core.specs.Coordinator.{CoordinatorState}
use Rattle.lrat_check.specs.declared.verdict.Verdict.{Verdict}
use Rattle.runs.specs.Accounts.{HasBegun, RoseBy}
use Rattle.runs.specs.inner.Accounts.{IsOver, one_if_open}
use Rattle.runs.specs.inner.Connections.{HasCalled, HasTurned, IsFresh, IsUnderWay, IsUntouched, open_count}
use Rattle.runs.specs.declared.connection.Connection.{Connection}
use Rattle.runs.proofs.Counts.{rose_less, rose_more, rose_on}
use Rattle.runs.proofs.Closings.{replaced, split}

-- ---- whether connections are open

pub all_closed : {P : Type 0} (connections : List (Connection P)) → list_all (λ (l : Connection P). not l.is_open) connections ≡ true → open_count connections ≡ 0
all_closed [] closed = refl
all_closed {P} (l ∷ connections) closed = with_first l.is_open refl closed (λ rest. all_closed connections rest)
  where
    with_first : (b : Bool) → l.is_open ≡ b → list_all (λ (x : Connection P). not x.is_open) (l ∷ connections) ≡ true
        → (list_all (λ (x : Connection P). not x.is_open) connections ≡ true → open_count connections ≡ 0) → open_count (l ∷ connections) ≡ 0
    with_first true e closed rest = cc
    with_first false e closed rest =
        let none : open_count connections ≡ 0 = rest (cc) in
        let first : one_if_open l.is_open ≡ 0 = ap one_if_open e in
        let whole = split l connections in
        omega (arith, none, first, whole)

pub some_open : {P : Type 0} (connections : List (Connection P)) → list_all (λ (l : Connection P). not l.is_open) connections ≡ false → 1 ≤ open_count connections
some_open [] closed = cc
some_open {P} (l ∷ connections) closed = with_first l.is_open refl closed (λ rest. some_open connections rest)
  where
    with_first : (b : Bool) → l.is_open ≡ b → list_all (λ (x : Connection P). not x.is_open) (l ∷ connections) ≡ false
        → (list_all (λ (x : Connection P). not x.is_open) connections ≡ false → 1 ≤ open_count connections) → 1 ≤ open_count (l ∷ connections)
    with_first true e closed rest =
        let first : one_if_open l.is_open ≡ 1 = ap one_if_open e in
        let whole = split l connections in
        omega (arith, first, whole)
    with_first false e closed rest =
        let some : 1 ≤ open_count connections = rest (cc) in
        let whole = split l connections in
        omega (arith, some, whole)

-- after the last connection none is open
pub none_behind : {P : Type 0} (connections : List (Connection P)) (i : ℕ) → length connections ≤ i → open_count (drop i connections) ≡ 0
none_behind {P} connections i past = ap (λ (ls : List (Connection P)). open_count ls) (drop_all i connections past)

untouched_open : {P : Type 0} (least : P → ℕ) (connections : List (Connection P)) → 1 ≤ length connections → All (IsUntouched least) connections → 1 ≤ open_count connections
untouched_open least [] some untouched = absurd (omega (arith, some))
untouched_open least (l ∷ connections) some untouched =
    let first : one_if_open l.is_open ≡ 1 = ap one_if_open (All-get_or (IsUntouched least) (l ∷ connections) 0 l (omega arith) untouched).is_open in
    let whole = split l connections in
    omega (arith, first, whole)

-- an open connection at its place
opened : {P : Type 0} (connections : List (Connection P)) (i : ℕ) (m d : Connection P) → i < length connections → m.is_open ≡ true → 1 ≤ open_count (set connections i m)
opened connections i m d inside is_open =
    let one : one_if_open m.is_open ≡ 1 = ap one_if_open is_open in
    let sums = replaced connections i m d inside in
    let without = replaced connections i (record m { is_open = false }) d inside in
    omega (arith, one, sums, without)

-- ---- a turn

module _ {P : Type 0} (hands_out : Bool) (least : P → ℕ) (base mid new : ℕ) (b c : CoordinatorState) (connections : List (Connection P)) (i : ℕ) (m d : Connection P) (inside : i < length connections)
    (rises : mid ≤ new) (turned : HasTurned least mid new b.verdict c.verdict (get_or connections i d) m) where
  began : IsFresh least base mid b connections → HasCalled hands_out base new c (set connections i m)
  began fresh =
      let untouched = All-get_or (IsUntouched least) connections i d inside fresh.untouched in
      elim turned [
        | inl still ↦ absurd (never (get_or connections i d).is_open untouched.is_open still.0)
        | inr made ↦ record {
          one = subst (λ a. RoseBy 1 a new) fresh.none made.0;
          three = elim made.1 [
            | inl same ↦ inl (same ∙ fresh.verdict)
            | inr verdict ↦ inr (inl (subst (λ a. RoseBy 3 a new) fresh.none (rose_less 3 _ mid new verdict.0 (omega (arith, untouched.two)))))
          ];
        }
      ]
    where
      never : (x : Bool) → x ≡ true → x ≡ false → ⊥
      never x a b = cc

  served_on : ((p : P) → (hands_out ≡ true) ⊎ (1 ≤ least p)) → HasCalled hands_out base mid b connections → HasCalled hands_out base new c (set connections i m)
  served_on earned served = elim turned [
    | inl still ↦ record {
      one = rose_on 1 base mid new served.one rises;
      three = elim served.three [
        | inl nothing ↦ inl (still.2 ∙ nothing)
        | inr rest ↦ elim rest [
          | inl three ↦ inr (inl (rose_on 3 base mid new three rises))
          | inr two ↦ inr (inr (
            two.0,
            rose_on 2 base mid new two.1 rises,
            let same = ap (λ (x : Connection P). one_if_open x.is_open) still.1 in
                let sums = replaced connections i m d inside in
                let some = two.2 in
                omega (arith, same, sums, some),
          ))
        ]
      ];
    }
    | inr made ↦ record {
      one = rose_on 1 base mid new served.one rises;
      three = elim served.three [
        | inl nothing ↦ elim made.1 [
          | inl same ↦ inl (same ∙ nothing)
          | inr verdict ↦ elim (earned (get_or connections i d).peer) [
            | inl hands ↦ inr (inr (hands, rose_more 1 1 base mid new served.one made.0 rises, opened connections i m d inside verdict.1))
            | inr one ↦ inr (inl (rose_more 1 2 base mid new served.one (rose_less 2 _ mid new verdict.0 (omega (arith, one))) rises))
          ]
        ]
        | inr rest ↦ elim rest [
          | inl three ↦ inr (inl (rose_on 3 base mid new three rises))
          | inr two ↦ inr (inl (rose_more 2 1 base mid new two.1 made.0 rises))
        ]
      ];
    }
  ]

  pub comes_on : ((p : P) → (hands_out ≡ true) ⊎ (1 ≤ least p)) → IsUnderWay hands_out least base mid b connections → IsUnderWay hands_out least base new c (set connections i m)
  comes_on earned way = record {
    account = elim way.account [
      | inl fresh ↦ inr (began fresh)
      | inr served ↦ inr (served_on earned served)
    ];
  }

pub some_turn : {P : Type 0} (least : P → ℕ) (all old mid new : ℕ) (v w : Verdict) (connections : List (Connection P)) (i : ℕ) (m d : Connection P) → i < length connections → old ≤ mid → mid ≤ new
    → HasTurned least mid new v w (get_or connections i d) m → (open_count (drop i connections) ≡ all) ⊎ RoseBy 1 old mid
    → (open_count (drop (i + 1) (set connections i m)) ≡ all) ⊎ RoseBy 1 old new
some_turn {P} least all old mid new v w connections i m d inside before rises turned some = elim turned [
  | inl still ↦ elim some [
    | inl left ↦ inl (
        let behind : open_count (drop (i + 1) (set connections i m)) ≡ open_count (drop (i + 1) connections) =
        ap (λ (ls : List (Connection P)). open_count ls) (drop-set-lt (i + 1) connections i m (omega arith)) in
        let here : open_count (drop i connections) ≡ one_if_open (get_or connections i d).is_open + open_count (drop (i + 1) connections) =
        ap (λ (ls : List (Connection P)). open_count ls) (drop_more connections i d inside) ∙ split (get_or connections i d) (drop (i + 1) connections) in
        let none : one_if_open (get_or connections i d).is_open ≡ 0 = ap one_if_open still.0 in
        omega (arith, behind, here, none, left))
    | inr rose ↦ inr (rose_on 1 old mid new rose rises)
  ]
  | inr made ↦ inr (elim made.0 [
    | inl far ↦ inl (omega (arith, far, before))
    | inr top ↦ inr top
  ])
]

-- ---- the end

module _ {P : Type 0} (hands_out : Bool) (least : P → ℕ) (base calls : ℕ) (c : CoordinatorState) (connections : List (Connection P)) (way : IsUnderWay hands_out least base calls c connections) where
  pub closed_end : open_count connections ≡ 0 → HasBegun base calls c.verdict
  closed_end closed = elim way.account [
    | inl fresh ↦
        let some = untouched_open least connections fresh.some fresh.untouched in
        absurd (omega (arith, some, closed))
    | inr served ↦ record {
      one = served.one;
      three = elim served.three [
        | inl nothing ↦ inl nothing
        | inr rest ↦ elim rest [
          | inl rose ↦ inr rose
          | inr open_yet ↦ let some = open_yet.2 in absurd (omega (arith, some, closed))
        ]
      ];
    }
  ]

  pub over_end : IsOver hands_out c → HasBegun base calls c.verdict
  over_end over = elim way.account [
    | inl fresh ↦ absurd (never c.stuck (over.stuck fresh.verdict) fresh.stuck)
    | inr served ↦ record {
      one = served.one;
      three = elim served.three [
        | inl nothing ↦ inl nothing
        | inr rest ↦ elim rest [
          | inl rose ↦ inr rose
          | inr open_yet ↦ inl (over.held open_yet.0)
        ]
      ];
    }
  ]
    where
      never : (x : Bool) → x ≡ true → x ≡ false → ⊥
      never x a b = cc

  -- rounds that made a call each
  pub long_end : (later rounds : ℕ) (v : Verdict) → RoseBy rounds calls later → calls ≤ later → 3 ≤ rounds → HasBegun base later v
  long_end later rounds v rose rises long = elim way.account [
    | inl fresh ↦
        let none = fresh.none in
        let many : RoseBy 3 base later = subst (λ a. RoseBy 3 a later) none (rose_less 3 rounds calls later rose long) in
        record { one = rose_less 1 3 base later many (omega arith); three = inr many }
    | inr served ↦
        let many : RoseBy (1 + 3) base later = rose_more 1 3 base calls later served.one (rose_less 3 rounds calls later rose long) rises in
        record { one = rose_less 1 (1 + 3) base later many (omega arith); three = inr (rose_less 3 (1 + 3) base later many (omega arith)) }
  ]
