-- The level at which a clause joins: below it the clause is neither false nor unit.
use Rattle.std.proofs.Common.{◌≡◌, ◌≢◌, ℕ, ◌<◌, ◌≤◌, ◌⊎◌, inl, inr, true, false, eqb, List, [], ◌∷◌, ◌++◌, ap, sym, ◌∙◌, subst, arith}
use Rattle.std.specs.Prelude.{max, min, nat_le}
use Rattle.std.specs.List.{All, Contains, IsDistinct}
use Rattle.std.proofs.lemmas.Bool.{false≢true, both_ways, cases_Bool, cases_lt, or_cases, or_left, or_right, and_parts, and_from, leb-true, le-leb}
use Rattle.std.proofs.lemmas.List.Elements.{All-weaker, Contains-append_left, Contains-append_right}
use Rattle.conflict_analysis.proofs.EntryLemmas.{entry_from_holds, one_entry}
use Rattle.dimacs.specs.logic.Literal.{Literal, Clause, negation, same, var_of}
use Rattle.dimacs.proofs.LiteralLemmas.{same-true, same-is, same_or_not, negation_apart, var_of-negation}
use Rattle.dimacs.proofs.Members.{Contains-head, Contains-cons, Contains-cons_cases, Contains-nil}
use Rattle.watches.specs.declared.trail.Assigned.{Assigned}
use Rattle.watches.specs.Law.{NeitherFalseNorUnit}
use Rattle.watches.specs.Trails.{holds, present, up_to, variables}
use Rattle.watches.proofs.LevelLemmas.{present_le}
use Rattle.cube_solve.proofs.LevelCutLemmas.{calm_same, present-append, up_to_front, up_to_has}

-- ---- when a literal became true
entry_up_to : (es : List Assigned) (k : ℕ) (l : Literal) → up_to es k l ≡ true → (e : Assigned) × Contains es e × (e.literal ≡ l) × (e.level ≤ k)
entry_up_to [] k l h = absurd (false≢true h)
entry_up_to (x ∷ xs) k l h = elim (or_cases _ (up_to xs k l) h) [
  | inl t ↦ let p = and_parts (same x.literal l) (nat_le x.level k) t in (x, Contains-head x xs, same-true x.literal l p.0, leb-true x.level k p.1)
  | inr t ↦ let r = entry_up_to xs k l t in (r.0, Contains-cons x r.0 xs r.1, r.2, r.3)
]

up_to_entry : (es : List Assigned) (e : Assigned) (k : ℕ) (l : Literal) → Contains es e → e.literal ≡ l → e.level ≤ k → up_to es k l ≡ true
up_to_entry [] e k l h q le = absurd (Contains-nil e h)
up_to_entry (x ∷ xs) e k l h q le = elim (Contains-cons_cases x e xs h) [
  | inl p ↦
      let s : same x.literal l ≡ true = same-is x.literal l (ap (λ (y : Assigned). y.literal) p ∙ q) in
      let n : x.level ≤ k = let z = ap (λ (y : Assigned). y.level) p in omega arith in
      or_left _ (up_to xs k l) (and_from (same x.literal l) (nat_le x.level k) s (le-leb x.level k n))
  | inr c ↦ or_right _ (up_to xs k l) (up_to_entry xs e k l c q le)
]

-- of a literal that is true: before its level it is not, from it on it is
pub true_before : (es : List Assigned) (e : Assigned) (k : ℕ) (l : Literal) → IsDistinct eqb (variables es) → Contains es e → e.literal ≡ l → k < e.level → up_to es k l ≡ false
true_before es e k l apart i q lt = elim (cases_Bool (up_to es k l)) [
  | inl t ↦
      let f = entry_up_to es k l t in
      let one = one_entry es f.0 e apart f.1 i (ap var_of (f.2 ∙ sym q)) in
      absurd (let z = ap (λ (y : Assigned). y.level) one in let b = f.3 in omega arith)
  | inr n ↦ n
]

pub true_after : (es : List Assigned) (e : Assigned) (k : ℕ) (l : Literal) → Contains es e → e.literal ≡ l → e.level ≤ k → up_to es k l ≡ true
true_after es e k l i q le = up_to_entry es e k l i q le

-- of one that is not
pub never_true : (es : List Assigned) (k : ℕ) (l : Literal) → holds es l ≡ false → up_to es k l ≡ false
never_true es k l h = elim (cases_Bool (up_to es k l)) [
  | inl t ↦ absurd (both_ways (holds es l) h (up_to_has es k l t))
  | inr n ↦ n
]

-- no literal is true beside its negation
pub sound_apart : (es : List Assigned) → IsDistinct eqb (variables es) → (l : Literal) → holds es l ≡ true → holds es (negation l) ≡ true → ⊥
sound_apart es apart l h k =
    let e = entry_from_holds es l h in
    let f = entry_from_holds es (negation l) k in
    let one = one_entry es e.0 f.0 apart e.1 f.1 (ap var_of e.2 ∙ sym (ap var_of f.2 ∙ var_of-negation l)) in
    negation_apart l (sym f.2 ∙ sym (ap (λ (y : Assigned). y.literal) one) ∙ e.2)

-- ---- a clause, literal by literal
-- of the literals seen, one is not false below the level `first`, two below `second`, and one is true from `satisfied` on
pub record IsMet (es : List Assigned) (seen : Clause) (first second satisfied : ℕ) : Type 0 where
  pub one : (k : ℕ) → k < first → k < present es → (l : Literal) × Contains seen l × (up_to es k (negation l) ≡ false)
  pub two : (k : ℕ) → k < second → k < present es → (l : Literal) × (m : Literal) × (l ≢ m) × Contains seen l × Contains seen m × (up_to es k (negation l) ≡ false) × (up_to es k (negation m) ≡ false)
  pub sated : (k : ℕ) → satisfied ≤ k → k < present es → (l : Literal) × Contains seen l × (up_to es k l ≡ true)

pub met_none : (es : List Assigned) (top : ℕ) → top ≡ present es → IsMet es [] 0 0 top
met_none es top e = record {
  one = λ k l p. absurd (omega arith);
  two = λ k l p. absurd (omega arith);
  sated = λ k l p. absurd (omega arith);
}

pub met_more : (es : List Assigned) (seen : Clause) (first second satisfied falsified trued : ℕ) (x : Literal) → (Contains seen x → ⊥)
    → ((k : ℕ) → k < falsified → k < present es → up_to es k (negation x) ≡ false) → ((k : ℕ) → trued ≤ k → k < present es → up_to es k x ≡ true)
    → IsMet es seen first second satisfied → IsMet es (seen ++ x ∷ []) (max first falsified) (max second (min first falsified)) (min satisfied trued)
met_more es seen first second satisfied falsified trued x new f t h = record {
  one = λ k l p. elim (cases_lt k first) [
    | inl lt ↦ let o = h.one k lt p in (o.0, old o.0 o.1, o.2)
    | inr ge ↦ (x, here, f k (omega arith) p)
  ];
  two = λ k l p. elim (cases_lt k second) [
    | inl lt ↦ let o = h.two k lt p in (o.0, o.1, o.2, old o.0 o.3, old o.1 o.4, o.5, o.6)
    | inr ge ↦ let o = h.one k (omega arith) p in (o.0, x, (λ e. new (subst (Contains seen) e o.1)), old o.0 o.1, here, o.2, f k (omega arith) p)
  ];
  sated = λ k l p. elim (cases_lt k satisfied) [
    | inl lt ↦ (x, here, t k (omega arith) p)
    | inr ge ↦ let o = h.sated k ge p in (o.0, old o.0 o.1, o.2)
  ];
}
  where
    old : (l : Literal) → Contains seen l → Contains (seen ++ x ∷ []) l
    old l i = Contains-append_left seen (x ∷ []) l i

    here : Contains (seen ++ x ∷ []) x
    here = Contains-append_right seen (x ∷ []) x (Contains-head x [])

-- a clause with a true literal is neither false nor unit
calm_sated : (es : List Assigned) (C : Clause) (k : ℕ) (l : Literal) → IsDistinct eqb (variables es) → Contains C l → up_to es k l ≡ true → NeitherFalseNorUnit (up_to es k) C
calm_sated es C k l apart i t = (
  λ f. clash (f l i),
  λ m u. elim (same_or_not l m) [
    | inl e ↦ both_ways (up_to es k m) u.not_true (ap (up_to es k) (sym e) ∙ t)
    | inr d ↦ clash (u.others l i d)
  ],
)
  where
    clash : up_to es k (negation l) ≡ true → ⊥
    clash n = sound_apart es apart l (up_to_has es k l t) (up_to_has es k (negation l) n)

-- so is one with two literals that are not false
calm_two : (es : List Assigned) (C : Clause) (k : ℕ) (l m : Literal) → l ≢ m → Contains C l → Contains C m → up_to es k (negation l) ≡ false → up_to es k (negation m) ≡ false → NeitherFalseNorUnit (up_to es k) C
calm_two es C k l m d i j f g = (
  λ a. both_ways (up_to es k (negation l)) f (a l i),
  λ x u. elim (same_or_not l x) [
    | inl e ↦ both_ways (up_to es k (negation m)) g (u.others m j (λ q. d (e ∙ sym q)))
    | inr n ↦ both_ways (up_to es k (negation l)) f (u.others l i n)
  ],
)

pub met_calm : (es : List Assigned) (C : Clause) (first second satisfied : ℕ) → IsDistinct eqb (variables es) → IsMet es C first second satisfied
    → (k : ℕ) → k < present es → (satisfied ≤ second) ⊎ (k < second) → NeitherFalseNorUnit (up_to es k) C
met_calm es C first second satisfied apart h k p which = elim (cases_lt k second) [
  | inl lt ↦ let o = h.two k lt p in calm_two es C k o.0 o.1 o.2 o.3 o.4 o.5 o.6
  | inr ge ↦ let o = h.sated k (from which ge) p in calm_sated es C k o.0 apart o.1 o.2
]
  where
    from : (satisfied ≤ second) ⊎ (k < second) → second ≤ k → satisfied ≤ k
    from (inl le) ge = omega arith
    from (inr lt) ge = absurd (omega arith)

-- what holds below a level holds after the cut to it
pub calm_cut : (es kept gone : List Assigned) (C : Clause) (level : ℕ) → es ≡ kept ++ gone → All (λ e. level < e.level) gone → All (λ e. e.level ≤ level) kept
    → ((k : ℕ) → k < level → k < present es → NeitherFalseNorUnit (up_to es k) C) → (k : ℕ) → k < present kept → NeitherFalseNorUnit (up_to kept k) C
calm_cut es kept gone C level w high low h k p =
    let b = present_le kept level low in
    let a : present es ≡ _ = ap present w ∙ present-append kept gone in
    calm_same (up_to es k) (up_to kept k) C
    (λ x. ap (λ ys. up_to ys k x) w ∙ up_to_front kept gone k x (All-weaker (λ e. level < e.level) (λ e. k < e.level) (λ e q. omega arith) gone high))
    (h k (omega arith) (omega arith))
