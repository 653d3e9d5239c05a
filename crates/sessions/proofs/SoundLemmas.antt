-- What a session's proof answers is right.
use Rattle.std.proofs.Common.{◌≡◌, ◌⊎◌, inl, inr, ℕ, ◌+◌, ◌≤◌, ◌<◌, Bool, true, false, not, ◌&&◌, ◌||◌, List, [], ◌∷◌, ◌++◌, Option, Some, None, Ok, Err, cond, refl, sym, ◌∙◌, ap, subst, length, map, arith, length-append}
use Rattle.std.specs.Prelude.{nat_eq, nat_le, All, Contains}
use Rattle.std.specs.FinMap.{get, insert, remove, get-insert, get-remove, get-from_entries}
use Rattle.std.specs.List.{list_any, list_all}
use Rattle.std.specs.Ordering.{nat_cmp, eq_by_cmp}
use Rattle.std.specs.Cmp.{nat_cmp_total}
use Rattle.std.proofs.lemmas.Bool.{both_ways, true≢false, and_parts, or_cases, not-true, eqb-true, eq-eqb, ne_eqb}
use Rattle.std.proofs.lemmas.Bool.Decides.{nat_tests}
use Rattle.std.proofs.lemmas.List.Elements.{All-cons, All-nil, All-head, All-tail}
use Rattle.std.proofs.lemmas.List.Folds.{list_any-append}
use Rattle.dimacs.specs.logic.ClauseMap.{ClauseMap, live_in}
use Rattle.dimacs.specs.logic.Limits.{Limits}
use Rattle.dimacs.specs.logic.Literal.{Literal, Clause, IsTautology, IsTrueIn, has, literal_true, negation}
use Rattle.dimacs.specs.logic.Propagation.{Rup}
use Rattle.dimacs.specs.text.Words.{lines}
use Rattle.dimacs.proofs.LiteralLemmas.{literal_true-negation}
use Rattle.dimacs.proofs.Members.{Contains-head, Contains-cons, Contains-cons_cases, Contains-nil, has-Contains}
use Rattle.lrat_check.specs.StepFaults.{is_tautology}
use Rattle.lrat_check.specs.Logs.{log_lemma_fault}
use Rattle.lrat_check.specs.declared.line_checker.CheckFault.{CheckFault}
use Rattle.lrat_check.proofs.Logs.{rup_from_none}
use Rattle.lrat_check.proofs.Pairs.{pair_tautology, tautology_pair}
use Rattle.lrat_check.proofs.Pigeonhole.{eq_by_nat_cmp}
use Rattle.lrat_check.proofs.Truth.{Satisfies, rup_true}
use Rattle.lrat_text.specs.Log.{Cube}
use Rattle.sessions.specs.Answers.{Event, Given, Asked, Answer, Satisfied, Failed, Unknown, MakesTrue, IsModel, IsRightAnswer, AreRight, queries}
use Rattle.sessions.specs.Lines.{Line, Gives, Asks, Learns, Deletes, Says, Shows, Fails, Silent, Read, line_within}
use Rattle.sessions.specs.Texts.{State, Taken, Goes, Awaits, Faulty, Outcome, stopped, with_clause, by_fault, without, is_met, is_model, core_fault, take_line, take_read, listed, is_event, going_on, by_left, end_of, pieces_from, text_from, begun, session_within, lines_top, gives, asks, learns, says, shows, fails, is_between}
use Rattle.sessions.specs.declared.kind.Status.{Status}
use Rattle.sessions.specs.declared.kind.Status.TheVariants as status
use Rattle.sessions.specs.declared.stage.Stage.{Stage}
use Rattle.sessions.specs.declared.stage.Stage.TheVariants as stage
use Rattle.sessions.proofs.EventLemmas.{is_event-true}

-- ---- what is known follows from the clauses that were given
-- the live clauses under these numbers are those, in order
abbrev pub AreUnder : ClauseMap → List ℕ → List Clause → Type 0
AreUnder M [] [] = Unit {0}
AreUnder M [] (C ∷ F) = ⊥
AreUnder M (n ∷ ns) [] = ⊥
AreUnder M (n ∷ ns) (C ∷ F) = (get M n ≡ Some C) × AreUnder M ns F

abbrev pub IsIn : List ℕ → ℕ → Type 0
IsIn ns n = list_any (nat_eq n) ns ≡ true

-- the clauses that were given are these, and every live clause follows from them
pub record Holds (F : List Clause) (s : State) : Type 0 where
  pub given : AreUnder s.live s.given F
  pub low : (n : ℕ) → IsIn s.given n → n ≤ s.last
  pub follow : (a : ℕ → Bool) → All (IsTrueIn a) F → Satisfies a (live_in s.live)

is_in_head : (n : ℕ) (ns : List ℕ) → IsIn (n ∷ ns) n
is_in_head n ns = ap (λ b. b || list_any (nat_eq n) ns) (eq-eqb n n refl)

is_in_tail : (m n : ℕ) (ns : List ℕ) → IsIn ns n → IsIn (m ∷ ns) n
is_in_tail m n ns h = at (nat_eq n m)
  where
    at : (b : Bool) → (b || list_any (nat_eq n) ns) ≡ true
    at true = refl
    at false = h

under_keeps : (M N : ClauseMap) (ns : List ℕ) (F : List Clause) → ((n : ℕ) → IsIn ns n → get N n ≡ get M n) → AreUnder M ns F → AreUnder N ns F
under_keeps M N [] [] same h = tt
under_keeps M N [] (C ∷ F) same h = h
under_keeps M N (n ∷ ns) [] same h = h
under_keeps M N (n ∷ ns) (C ∷ F) same h = (same n (is_in_head n ns) ∙ h.0, under_keeps M N ns F (λ m i. same m (is_in_tail n m ns i)) h.1)

under_push : (M : ClauseMap) (ns : List ℕ) (F : List Clause) (n : ℕ) (C : Clause) → AreUnder M ns F → get M n ≡ Some C → AreUnder M (ns ++ n ∷ []) (F ++ C ∷ [])
under_push M [] [] n C h e = (e, tt)
under_push M [] (D ∷ F) n C h e = absurd h
under_push M (m ∷ ns) [] n C h e = absurd h
under_push M (m ∷ ns) (D ∷ F) n C h e = (h.0, under_push M ns F n C h.1 e)

get_same : (M : ClauseMap) (id : ℕ) (C : Clause) → get (insert M id C) id ≡ Some C
get_same M id C = get-insert nat_cmp_total M id C id ∙ ap (λ b. cond b (Some C) (get M id)) (eq_by_nat_cmp id id ∙ eq-eqb id id refl)

get_other : (M : ClauseMap) (id : ℕ) (C : Clause) (n : ℕ) → (n ≡ id → ⊥) → get (insert M id C) n ≡ get M n
get_other M id C n apart = get-insert nat_cmp_total M id C n ∙ ap (λ b. cond b (Some C) (get M n)) (eq_by_nat_cmp n id ∙ ne_eqb n id apart)

get_kept : (M : ClauseMap) (id n : ℕ) → (n ≡ id → ⊥) → get (remove M id) n ≡ get M n
get_kept M id n apart = get-remove nat_cmp_total M id n ∙ ap (λ b. cond b None (get M n)) (eq_by_nat_cmp n id ∙ ne_eqb n id apart)

above : (id last : ℕ) → nat_le id last ≡ false → last < id
above id last e = grind (arith, nat_tests)

some_same : (C D : Clause) → Some C ≡ Some D → C ≡ D
some_same C D e = cc

satisfies_insert : (a : ℕ → Bool) (M : ClauseMap) (id : ℕ) (C : Clause) → Satisfies a (live_in M) → IsTrueIn a C → Satisfies a (live_in (insert M id C))
satisfies_insert a M id C sat t n D live = at (eq_by_cmp nat_cmp n id) (sym (get-insert nat_cmp_total M id C n) ∙ live)
  where
    at : (b : Bool) → cond b (Some C) (get M n) ≡ Some D → IsTrueIn a D
    at true e = subst (λ (x : Clause). IsTrueIn a x) (some_same C D e) t
    at false e = sat n D e

satisfies_remove : (a : ℕ → Bool) (M : ClauseMap) (id : ℕ) → Satisfies a (live_in M) → Satisfies a (live_in (remove M id))
satisfies_remove a M id sat n D live = at (eq_by_cmp nat_cmp n id) (sym (get-remove nat_cmp_total M id n) ∙ live)
  where
    at : (b : Bool) → cond b None (get M n) ≡ Some D → IsTrueIn a D
    at true e = absurd (let h : ◌≡◌ {A = Option Clause} None (Some D) = e in cc)
    at false e = sat n D e

All-last : (a : ℕ → Bool) (F : List Clause) (C : Clause) → All (IsTrueIn a) (F ++ C ∷ []) → All (IsTrueIn a) F × IsTrueIn a C
All-last a [] C h = (All-nil (IsTrueIn a), All-head (IsTrueIn a) C [] h)
All-last a (D ∷ F) C h =
    let rest = All-last a F C (All-tail (IsTrueIn a) D (F ++ C ∷ []) h) in
    (All-cons (IsTrueIn a) D F (All-head (IsTrueIn a) D (F ++ C ∷ []) h) rest.0, rest.1)

-- a lemma joins what is known
learnt : (F : List Clause) (s : State) (id : ℕ) (C : Clause) → Holds F s → s.last < id → ((a : ℕ → Bool) → All (IsTrueIn a) F → IsTrueIn a C) → Holds F (with_clause s id C)
learnt F s id C h high true_of = record {
  given = under_keeps s.live (insert s.live id C) s.given F (λ n i. get_other s.live id C n (λ e. let le : n ≤ s.last = h.low n i in omega arith)) h.given;
  low = λ n i. let le : n ≤ s.last = h.low n i in omega arith;
  follow = λ a sat. satisfies_insert a s.live id C (h.follow a sat) (true_of a sat);
}

is_in_push : (ns : List ℕ) (id n : ℕ) → IsIn (ns ++ id ∷ []) n → IsIn ns n ⊎ (n ≡ id)
is_in_push ns id n h = at (or_cases (list_any (nat_eq n) ns) (list_any (nat_eq n) (id ∷ [])) (sym (list_any-append (nat_eq n) ns (id ∷ [])) ∙ h))
  where
    one : (b : Bool) → nat_eq n id ≡ b → (b || false) ≡ true → n ≡ id
    one true e t = eqb-true n id e
    one false e t = absurd (true≢false (sym t))

    at : IsIn ns n ⊎ (list_any (nat_eq n) (id ∷ []) ≡ true) → IsIn ns n ⊎ (n ≡ id)
    at (inl i) = inl i
    at (inr o) = inr (one (nat_eq n id) refl o)

-- and so does a clause that is given
given_more : (F : List Clause) (s : State) (id : ℕ) (C : Clause) → Holds F s → s.last < id → Holds (F ++ C ∷ []) (record (with_clause s id C) { given = s.given ++ id ∷ [] })
given_more F s id C h high = record {
  given = under_push (insert s.live id C) s.given F id C
      (under_keeps s.live (insert s.live id C) s.given F (λ n i. get_other s.live id C n (λ e. let le : n ≤ s.last = h.low n i in omega arith)) h.given)
      (get_same s.live id C);
  low = λ n i. elim (is_in_push s.given id n i) [ inl j ↦ let le : n ≤ s.last = h.low n j in omega arith | inr e ↦ omega arith ];
  follow = λ a sat. let parts = All-last a F C sat in satisfies_insert a s.live id C (h.follow a parts.0) parts.1;
}

-- lemmas go
without_kept : (given : List ℕ) (M : ClauseMap) (ids : List ℕ) (n : ℕ) → IsIn given n → get (without given M ids) n ≡ get M n
without_kept given M [] n i = refl
without_kept given M (id ∷ ids) n i = at (list_any (nat_eq id) given) refl (λ N. without_kept given N ids n i)
  where
    at : (b : Bool) → list_any (nat_eq id) given ≡ b → ((N : ClauseMap) → get (without given N ids) n ≡ get N n) → get (without given (cond b M (remove M id)) ids) n ≡ get M n
    at true e rest = rest M
    at false e rest = rest (remove M id) ∙ get_kept M id n (λ is. both_ways (list_any (nat_eq id) given) e (subst (λ (m : ℕ). IsIn given m) is i))

satisfies_without : (a : ℕ → Bool) (given : List ℕ) (M : ClauseMap) (ids : List ℕ) → Satisfies a (live_in M) → Satisfies a (live_in (without given M ids))
satisfies_without a given M [] sat = sat
satisfies_without a given M (id ∷ ids) sat = at (list_any (nat_eq id) given) (λ N t. satisfies_without a given N ids t)
  where
    at : (b : Bool) → ((N : ClauseMap) → Satisfies a (live_in N) → Satisfies a (live_in (without given N ids))) → Satisfies a (live_in (without given (cond b M (remove M id)) ids))
    at true rest = rest M sat
    at false rest = rest (remove M id) (satisfies_remove a M id sat)

deleted : (F : List Clause) (s : State) (ids : List ℕ) → Holds F s → Holds F (record s { live = without s.given s.live ids })
deleted F s ids h = record {
  given = under_keeps s.live (without s.given s.live ids) s.given F (λ n i. without_kept s.given s.live ids n i) h.given;
  low = h.low;
  follow = λ a sat. satisfies_without a s.given s.live ids (h.follow a sat);
}

-- ---- models and cores
has_all : (C D : List Literal) → list_all (has C) D ≡ true → (l : Literal) → Contains D l → Contains C l
has_all C [] e l m = absurd (Contains-nil l m)
has_all C (k ∷ D) e l m =
    let parts = and_parts (has C k) (list_all (has C) D) e in
    elim (Contains-cons_cases k l D m) [
      | inl is ↦ subst (λ x. Contains C x) is (has-Contains C k parts.0)
      | inr rest ↦ has_all C D parts.1 l rest
    ]

met_true : (a : ℕ → Bool) (model C : List Literal) → list_any (has model) C ≡ true → MakesTrue a model → IsTrueIn a C
met_true a model [] e t = absurd (true≢false (sym e))
met_true a model (k ∷ C) e t = elim (or_cases (has model k) (list_any (has model) C) e) [
  | inl here ↦ (k, Contains-head k C, t k (has-Contains model k here))
  | inr later ↦ let rest = met_true a model C later t in (rest.0, Contains-cons k rest.0 C rest.1, rest.2)
]

all_met : (a : ℕ → Bool) (M : ClauseMap) (model : List Literal) (ns : List ℕ) (F : List Clause) → AreUnder M ns F → list_all (λ id. is_met (has model) (get M id)) ns ≡ true → MakesTrue a model → All (IsTrueIn a) F
all_met a M model [] [] u e t = All-nil (IsTrueIn a)
all_met a M model [] (C ∷ F) u e t = absurd u
all_met a M model (n ∷ ns) [] u e t = absurd u
all_met a M model (n ∷ ns) (C ∷ F) u e t =
    let parts = and_parts (is_met (has model) (get M n)) (list_all (λ id. is_met (has model) (get M id)) ns) e in
    All-cons (IsTrueIn a) C F (met_true a model C (sym (ap (is_met (has model)) u.0) ∙ parts.0) t) (all_met a M model ns F u.1 parts.1 t)

model_right : (F : List Clause) (s : State) (model : List Literal) → Holds F s → is_model s model ≡ true → IsModel F s.query model
model_right F s model h e =
    let one = and_parts (not (is_tautology model)) (list_all (λ id. is_met (has model) (get s.live id)) s.given && list_all (has model) s.query) e in
    let two = and_parts (list_all (λ id. is_met (has model) (get s.live id)) s.given) (list_all (has model) s.query) one.1 in
    record {
      no_pair = λ pair. both_ways (is_tautology model) (not-true (is_tautology model) one.0) (pair_tautology model pair);
      clauses = λ a t. all_met a s.live model s.given F h.given two.0 t;
      query = λ a t l m. t l (has_all model s.query two.1 l m);
    }

flipped : (a : ℕ → Bool) (core : List Literal) (l : Literal) → Contains (map negation core) l → MakesTrue a core → literal_true a l ≡ true → ⊥
flipped a [] l m t e = Contains-nil l m
flipped a (k ∷ core) l m t e = elim (Contains-cons_cases (negation k) l (map negation core) m) [
  | inl is ↦ both_ways (literal_true a (negation k)) (literal_true-negation a k ∙ ap not (t k (Contains-head k core))) (subst (λ x. literal_true a x ≡ true) (sym is) e)
  | inr rest ↦ flipped a core l rest (λ j n. t j (Contains-cons k j core n)) e
]

pair_fails : (a : ℕ → Bool) (core : List Literal) → IsTautology core → MakesTrue a core → ⊥
pair_fails a core (l, m, n) t = both_ways (literal_true a (negation l)) (literal_true-negation a l ∙ ap not (t l m)) (t (negation l) n)

core_fails : (F : List Clause) (s : State) (core : List Literal) (hints : List ℕ) → Holds F s → core_fault s.live core hints ≡ None → (a : ℕ → Bool) → All (IsTrueIn a) F → MakesTrue a core → ⊥
core_fails F s core hints h e a sat t = at (is_tautology core) refl e
  where
    at : (b : Bool) → is_tautology core ≡ b → cond b None (log_lemma_fault s.live (map negation core) hints []) ≡ None → ⊥
    at true pair f = pair_fails a core (tautology_pair core pair) t
    at false pair f =
        let rup : Rup (live_in s.live) (map negation core) hints = (rup_from_none s.live 0 1 (map negation core) hints [] f).2 in
        let one : IsTrueIn a (map negation core) = rup_true a (live_in s.live) (map negation core) hints (h.follow a sat) rup in
        flipped a core one.0 one.1 t one.2

-- ---- lines
-- the open query, and the events that are left
abbrev pub pending : Stage → Cube → List Event → List Event
pending stage.Between A E = E
pending stage.Open A E = Asked A ∷ E
pending stage.Satisfiable A E = Asked A ∷ E
pending stage.Unsatisfiable A E = Asked A ∷ E

abbrev pub left : State → List Event → List Event
left s E = pending s.stage s.query E

abbrev pub given_by : List Clause → Event → List Clause
given_by F (Given C) = F ++ C ∷ []
given_by F (Asked A) = F

-- what a line leads to: what is known still holds, and later answers that are right are right after that of the line
abbrev pub Leads : List Clause → State → Taken → Type 0
Leads F s (Goes answer t) = Holds F t
    × ((E : List Event) (answers : List Answer) → AreRight F (left t E) answers → AreRight F (left s E) (listed answer ++ answers))
    × ((E : List Event) → queries (left s E) ≡ length (listed answer) + queries (left t E))
Leads F s (Awaits e t) = Holds (given_by F e) t
    × ((E : List Event) (answers : List Answer) → AreRight (given_by F e) (left t E) answers → AreRight F (left s (e ∷ E)) answers)
    × ((E : List Event) → queries (left s (e ∷ E)) ≡ queries (left t E))
Leads F s (Faulty number text) = Unit {0}

none_right : (F : List Clause) (E : List Event) → AreRight F E []
none_right F [] = tt
none_right F (Given C ∷ E) = tt
none_right F (Asked A ∷ E) = tt

given_right : (F : List Clause) (C : Clause) (E : List Event) (answers : List Answer) → AreRight (F ++ C ∷ []) E answers → AreRight F (Given C ∷ E) answers
given_right F C E [] h = tt
given_right F C E (answer ∷ answers) h = h

goes_same : (F : List Clause) (s t : State) → t.stage ≡ s.stage → t.query ≡ s.query → Holds F t → Leads F s (Goes None t)
goes_same F s t same_stage same_query h = (
  h,
  (λ E answers r. subst (λ (D : List Event). AreRight F D answers) (same E) r),
  (λ E. let e : queries (left t E) ≡ queries (left s E) = ap queries (same E) in omega arith),
)
  where
    same : (E : List Event) → left t E ≡ left s E
    same E = ap (λ x. pending x t.query E) same_stage ∙ ap (λ A. pending s.stage A E) same_query

-- an answer to an open query
answered : (F : List Clause) (s : State) (answer : Answer) → ((E : List Event) → left s E ≡ Asked s.query ∷ E) → Holds F s → IsRightAnswer F s.query answer → Leads F s (Goes (Some answer) (record s { stage = stage.Between }))
answered F s answer is_open h right = (
  record { given = h.given; low = h.low; follow = h.follow },
  (λ E answers r. subst (λ (D : List Event). AreRight F D (answer ∷ answers)) (sym (is_open E)) (right, r)),
  (λ E. ap queries (is_open E) ∙ omega arith),
)

-- the status moves on
moved : (F : List Clause) (s : State) (x : Stage) → ((E : List Event) → left s E ≡ Asked s.query ∷ E) → ((E : List Event) → pending x s.query E ≡ Asked s.query ∷ E) → Holds F s → Leads F s (Goes None (record s { stage = x }))
moved F s x is_open still h = (
  record { given = h.given; low = h.low; follow = h.follow },
  (λ E answers r. subst (λ (D : List Event). AreRight F D answers) (still E ∙ sym (is_open E)) r),
  (λ E. let e : queries (left s E) ≡ queries (pending x s.query E) = ap queries (is_open E ∙ sym (still E)) in omega arith),
)

between : (s : State) → is_between s.stage ≡ true → (E : List Event) → left s E ≡ E
between s e E = at s.stage e
  where
    at : (x : Stage) → is_between x ≡ true → pending x s.query E ≡ E
    at stage.Between h = refl
    at stage.Open h = absurd (true≢false (sym h))
    at stage.Satisfiable h = absurd (true≢false (sym h))
    at stage.Unsatisfiable h = absurd (true≢false (sym h))

gives_right : (F : List Clause) (s : State) (id : ℕ) (C : Clause) → Holds F s → Leads F s (gives s id C)
gives_right F s id C h = at (is_between s.stage) refl
  where
    t : State
    t = record (with_clause s id C) { given = s.given ++ id ∷ [] }

    number : (b : Bool) → nat_le id s.last ≡ b → is_between s.stage ≡ true → Leads F s (cond b (Faulty 2 0) (Awaits (Given C) (record (with_clause s id C) { given = s.given ++ id ∷ [] })))
    number true e is = tt
    number false e is = (
      given_more F s id C h (above id s.last e),
      (λ E answers r. subst (λ (D : List Event). AreRight F D answers) (sym (between s is (Given C ∷ E)))
          (given_right F C E answers (subst (λ (D : List Event). AreRight (F ++ C ∷ []) D answers) (between s is E) r))),
      (λ E. ap queries (between s is (Given C ∷ E)) ∙ ap queries (sym (between s is E))),
    )

    at : (b : Bool) → is_between s.stage ≡ b → Leads F s (cond (not b) (Faulty 19 0) (cond (nat_le id s.last) (Faulty 2 0) (Awaits (Given C) (record (with_clause s id C) { given = s.given ++ id ∷ [] }))))
    at true e = number (nat_le id s.last) refl e
    at false e = tt

asks_right : (F : List Clause) (s : State) (A : Cube) → Holds F s → Leads F s (asks s A)
asks_right F s A h = at (is_between s.stage) refl
  where
    at : (b : Bool) → is_between s.stage ≡ b → Leads F s (cond (not b) (Faulty 19 0) (Awaits (Asked A) (record s { stage = stage.Open; query = A })))
    at true e = (
      record { given = h.given; low = h.low; follow = h.follow },
      (λ E answers r. subst (λ (D : List Event). AreRight F D answers) (sym (between s e (Asked A ∷ E))) r),
      (λ E. ap queries (between s e (Asked A ∷ E))),
    )
    at false e = tt

lemma_true : (F : List Clause) (s : State) (C : Clause) (hints : List ℕ) → Holds F s → log_lemma_fault s.live C hints [] ≡ None → (a : ℕ → Bool) → All (IsTrueIn a) F → IsTrueIn a C
lemma_true F s C hints h e a sat = rup_true a (live_in s.live) C hints (h.follow a sat) (rup_from_none s.live 0 1 C hints [] e).2

learns_right : (F : List Clause) (s : State) (id : ℕ) (C : Clause) (hints : List ℕ) → Holds F s → Leads F s (learns s id C hints)
learns_right F s id C hints h = number (nat_le id s.last) refl
  where
    rup : (f : Option ℕ) → log_lemma_fault s.live C hints [] ≡ f → s.last < id → Leads F s (by_fault f (Goes None (with_clause s id C)))
    rup None e high = goes_same F s (with_clause s id C) refl refl (learnt F s id C h high (lemma_true F s C hints h e))
    rup (Some n) e high = tt

    number : (b : Bool) → nat_le id s.last ≡ b → Leads F s (cond b (Faulty 2 0) (by_fault (log_lemma_fault s.live C hints []) (Goes None (with_clause s id C))))
    number true e = tt
    number false e = rup (log_lemma_fault s.live C hints []) refl (above id s.last e)

-- the stage of a state
at_stage : (F : List Clause) (s : State) (f : Stage → Taken) → Holds F s → ((x : Stage) → s.stage ≡ x → Leads F s (f x)) → Leads F s (f s.stage)
at_stage F s f h each = each s.stage refl

says_right : (F : List Clause) (s : State) (word : Status) → Holds F s → (x : Stage) → s.stage ≡ x → Leads F s (says s x word)
says_right F s status.Satisfiable h stage.Open e = moved F s stage.Satisfiable (λ E. ap (λ x. pending x s.query E) e) (λ E. refl) h
says_right F s status.Unsatisfiable h stage.Open e = moved F s stage.Unsatisfiable (λ E. ap (λ x. pending x s.query E) e) (λ E. refl) h
says_right F s status.Unknown h stage.Open e = answered F s Unknown (λ E. ap (λ x. pending x s.query E) e) h tt
says_right F s word h stage.Between e = tt
says_right F s word h stage.Satisfiable e = tt
says_right F s word h stage.Unsatisfiable e = tt

shows_right : (F : List Clause) (s : State) (model : List Literal) → Holds F s → (x : Stage) → s.stage ≡ x → Leads F s (shows s x model)
shows_right F s model h stage.Satisfiable e = at (is_model s model) refl
  where
    at : (b : Bool) → is_model s model ≡ b → Leads F s (cond b (Goes (Some (Satisfied model)) (record s { stage = stage.Between })) (Faulty 20 0))
    at true is = answered F s (Satisfied model) (λ E. ap (λ x. pending x s.query E) e) h (model_right F s model h is)
    at false is = tt
shows_right F s model h stage.Between e = tt
shows_right F s model h stage.Open e = tt
shows_right F s model h stage.Unsatisfiable e = tt

fails_right : (F : List Clause) (s : State) (core : List Literal) (hints : List ℕ) → Holds F s → (x : Stage) → s.stage ≡ x → Leads F s (fails s x core hints)
fails_right F s core hints h stage.Unsatisfiable e = at (core_fault s.live core hints) refl
  where
    within : (b : Bool) → list_all (has s.query) core ≡ b → core_fault s.live core hints ≡ None
        → Leads F s (cond b (Goes (Some (Failed core)) (record s { stage = stage.Between })) (Faulty 21 0))
    within true is none = answered F s (Failed core) (λ E. ap (λ x. pending x s.query E) e) h
        (record { within = has_all s.query core is; fails = core_fails F s core hints h none })
    within false is none = tt

    at : (f : Option ℕ) → core_fault s.live core hints ≡ f
        → Leads F s (by_fault f (cond (list_all (has s.query) core) (Goes (Some (Failed core)) (record s { stage = stage.Between })) (Faulty 21 0)))
    at None is = within (list_all (has s.query) core) refl is
    at (Some n) is = tt
fails_right F s core hints h stage.Between e = tt
fails_right F s core hints h stage.Open e = tt
fails_right F s core hints h stage.Satisfiable e = tt

line_right : (F : List Clause) (s : State) (line : Line) → Holds F s → Leads F s (take_line s line)
line_right F s (Gives id C) h = gives_right F s id C h
line_right F s (Asks A) h = asks_right F s A h
line_right F s (Learns id C hints) h = learns_right F s id C hints h
line_right F s (Deletes ids) h = goes_same F s (record s { live = without s.given s.live ids }) refl refl (deleted F s ids h)
line_right F s (Says word) h = says_right F s word h s.stage refl
line_right F s (Shows model) h = shows_right F s model h s.stage refl
line_right F s (Fails core hints) h = fails_right F s core hints h s.stage refl
line_right F s Silent h = goes_same F s s refl refl h

read_right : (F : List Clause) (s : State) (read : Read) → Holds F s → Leads F s (take_read s read)
read_right F s (Ok line) h = line_right F s line h
read_right F s (Err fault) h = tt

-- ---- texts
-- the answers are right, and without a fault there is one for each query
pub record AreAnswers (F : List Clause) (E : List Event) (o : Outcome) : Type 0 where
  pub right : AreRight F E o.answers
  pub all : o.fault ≡ None → length o.answers ≡ queries E

stopped_right : (F : List Clause) (E : List Event) (line number text : ℕ) → AreAnswers F E (stopped line number text)
stopped_right F E line number text = record { right = none_right F E; all = λ none. absurd (let h : ◌≡◌ {A = Option CheckFault} (Some (record { number = number; line = line; text = text })) None = none in cc) }

going_right : (F : List Clause) (s : State) (line : ℕ) (E : List Event) (taken : Taken) (later : State → List Event → Outcome) → Leads F s taken
    → ((G : List Clause) (t : State) (D : List Event) → Holds G t → AreAnswers G (left t D) (later t D)) → AreAnswers F (left s E) (going_on taken line E later)
going_right F s line E (Goes answer t) later (h, right, count) rest =
    let r = rest F t E h in
    record {
      right = right E (later t E).answers r.right;
      all = λ none. length-append (listed answer) (later t E).answers ∙ ap (λ n. length (listed answer) + n) (r.all none) ∙ sym (count E);
    }
going_right F s line [] (Awaits e t) later leads rest = stopped_right F (left s []) line 18 0
going_right F s line (d ∷ E) (Awaits e t) later (h, right, count) rest = at (is_event e d) refl
  where
    at : (b : Bool) → is_event e d ≡ b → AreAnswers F (left s (d ∷ E)) (cond b (later t E) (stopped line 18 0))
    at true is =
        let r = rest (given_by F e) t E h in
        let same : e ≡ d = is_event-true e d is in
        record {
          right = subst (λ (x : Event). AreRight F (left s (x ∷ E)) (later t E).answers) same (right E (later t E).answers r.right);
          all = λ none. r.all none ∙ sym (count E) ∙ ap (λ (x : Event). queries (left s (x ∷ E))) same;
        }
    at false is = stopped_right F (left s (d ∷ E)) line 18 0
going_right F s line E (Faulty number text) later leads rest = stopped_right F (left s E) line number text

end_right : (F : List Clause) (s : State) (line : ℕ) (E : List Event) (piece : List ℕ) → AreAnswers F (left s E) (end_of s line E piece)
end_right F s line E (b ∷ bs) = stopped_right F (left s E) line 1 2
end_right F s line E [] = at (is_between s.stage) refl E
  where
    at : (b : Bool) → is_between s.stage ≡ b → (E : List Event) → AreAnswers F (left s E) (cond b (by_left line E) (stopped line 22 0))
    at false is E = stopped_right F (left s E) line 22 0
    at true is (e ∷ E) = stopped_right F (left s (e ∷ E)) line 22 0
    at true is [] = record { right = none_right F (left s []); all = λ none. ap queries (sym (between s is [])) }

pieces_right : (pieces : List (List ℕ)) (F : List Clause) (s : State) (line : ℕ) (E : List Event) (piece : List ℕ) → Holds F s → AreAnswers F (left s E) (pieces_from s line E piece pieces)
unfolding pieces_from
pieces_right [] F s line E piece h = end_right F s line E piece
pieces_right (next ∷ pieces) F s line E piece h =
    going_right F s line E (take_read s (line_within (lines_top s.limits) piece)) (λ t D. pieces_from t (line + 1) D next pieces) (read_right F s (line_within (lines_top s.limits) piece) h)
    (λ G t D g. pieces_right pieces G t (line + 1) D next g)

text_right : (F : List Clause) (s : State) (line : ℕ) (E : List Event) (pieces : List (List ℕ)) → Holds F s → AreAnswers F (left s E) (text_from s line E pieces)
unfolding text_from
text_right F s line E [] h = end_right F s line E []
text_right F s line E (piece ∷ pieces) h = pieces_right pieces F s line E piece h

holds_begun : (L : Limits) → Holds [] (begun L)
holds_begun L = record {
  given = tt;
  low = λ n i. absurd (true≢false (sym i));
  follow = λ a sat n C live. absurd (let h : ◌≡◌ {A = Option Clause} None (Some C) = sym (get-from_entries nat_cmp_total [] n) ∙ live in cc);
}

pub session_right : (L : Limits) (E : List Event) (text : List ℕ) → AreAnswers [] E (session_within L E text)
session_right L E text = text_right [] (begun L) 1 E (lines text) (holds_begun L)

pub fronts_right : (L : Limits) (E : List Event) (text : List ℕ) → AreRight [] E (session_within L E text).answers
fronts_right L E text = (session_right L E text).right

pub all_answered : (L : Limits) (E : List Event) (text : List ℕ) → (session_within L E text).fault ≡ None → length (session_within L E text).answers ≡ queries E
all_answered L E text none = (session_right L E text).all none
