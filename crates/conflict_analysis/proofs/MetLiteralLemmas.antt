-- One more false literal is met.
use Rattle.std.proofs.Common.{◌≡◌, ℕ, ◌+◌, ◌<◌, ◌≤◌, inl, inr, Bool, true, false, not, eqb, ◌||◌, List, [], ◌∷◌, ◌++◌, length, get_or, set, refl, ap, sym, ◌∙◌, subst, arith}
use Rattle.std.specs.List.{Contains, IsDistinct, list_any}
use Rattle.std.proofs.lemmas.Bool.{cases_eq, eq-eqb, ne_eqb, eqb-true, or_left, or_right, or_cases, both_ways, false_from_ne_true}
use Rattle.std.proofs.lemmas.List.Elements.{All-nil, All-push, Contains-append_left, Contains-push, Contains-push_cases}
use Rattle.std.proofs.lemmas.List.{get_or-set_other, get_or-set_same}
use Rattle.dimacs.specs.logic.Literal.{Literal, negation, var_of}
use Rattle.dimacs.proofs.LiteralLemmas.{var_of-negation}
use Rattle.dimacs.proofs.Members.{Contains-nil}
use Rattle.watches.specs.Trails.{holds, present, variables}
use Rattle.watches.specs.declared.trail.Assigned.{Assigned}
use Rattle.std.proofs.lemmas.Map.Keys.{IsDistinct-push}
use Rattle.std.specs.Cmp.{nat_eq_equiv}
use Rattle.std.proofs.lemmas.Map.Views.{Contains-from_any}
use Rattle.conflict_analysis.specs.inner.Seen.{met}
use Rattle.conflict_analysis.specs.inner.TrailWalk.{waiting, is_present, is_lower, IsFront, AreCounted, AreListed}
use Rattle.conflict_analysis.proofs.EntryLemmas.{one_if, entry_from_holds, one_entry, distinct_left, waiting_one}

-- a variable was met once it is in
pub met_set : (seen : List Bool) (u v : ℕ) → u < length seen → met (set seen u true) v ≡ (met seen v || eqb v u)
met_set seen u v h = elim (cases_eq v u) [
  | inl e ↦ ap (λ w. get_or (set seen u true) w false) e ∙ get_or-set_same seen u true false h ∙ sym (or_right (met seen v) (eqb v u) (eq-eqb v u e))
  | inr n ↦ get_or-set_other seen u v true false n ∙ sym (none (met seen v) (eqb v u) (ne_eqb v u n))
]
  where
    none : (a b : Bool) → b ≡ false → (a || b) ≡ a
    none true b q = refl
    none false b q = q

-- none is listed
distinct_none : IsDistinct eqb []
unfolding IsDistinct
distinct_none = tt

pub lists_none : (vars : ℕ) (f : ℕ → Bool) → ((v : ℕ) → f v ≡ false) → AreListed vars f []
lists_none vars f none = record {
  within = All-nil (λ u. (0 < u) × (u ≤ vars));
  distinct = distinct_none;
  were = λ v c. absurd (Contains-nil v c);
  all = λ v h. absurd (both_ways (f v) (none v) h);
}

-- one more is listed
pub lists : (vars : ℕ) (f g : ℕ → Bool) (vs : List ℕ) (v : ℕ) → AreListed vars f vs → 0 < v → v ≤ vars → f v ≡ false → ((u : ℕ) → g u ≡ (f u || eqb u v)) → AreListed vars g (vs ++ v ∷ [])
lists vars f g vs v l low high new grown = record {
  within = All-push (λ u. (0 < u) × (u ≤ vars)) vs v l.within (low, high);
  distinct = IsDistinct-push nat_eq_equiv vs v l.distinct (false_from_ne_true (list_any (eqb v) vs) (λ t.
      both_ways (f v) new (l.were v (Contains-from_any (λ x y h. eqb-true x y h) v vs t))));
  were = λ u c. grown u ∙ elim (Contains-push_cases vs v u c) [
    | inl t ↦ or_left (f u) (eqb u v) (l.were u t)
    | inr q ↦ or_right (f u) (eqb u v) (eq-eqb u v (sym q))
  ];
  all = λ u h. elim (or_cases (f u) (eqb u v) (sym (grown u) ∙ h)) [
    | inl t ↦ Contains-append_left vs (v ∷ []) u (l.all u t)
    | inr t ↦ subst (Contains (vs ++ v ∷ [])) (sym (eqb-true u v t)) (Contains-push vs v)
  ];
}

module _ (es front : List Assigned) (apart : IsDistinct eqb (variables es)) (is_front : IsFront front es) (f g : ℕ → Bool) (k : Literal) (e : Assigned)
    (here : Contains es e) (is : e.literal ≡ negation k) (false_ : holds front (negation k) ≡ true) (new : f (var_of k) ≡ false) (grown : (v : ℕ) → g v ≡ (f v || eqb v (var_of k))) where
  pub var : var_of e.literal ≡ var_of k
  var = ap var_of is ∙ var_of-negation k

  pub in_front : Contains front e
  in_front =
      let r = entry_from_holds front (negation k) false_ in
      let c : Contains es r.0 = subst (λ xs. Contains xs r.0) (sym is_front.1) (Contains-append_left front is_front.0 r.0 r.1) in
      subst (Contains front) (one_entry es r.0 e apart c here (ap var_of r.2 ∙ ap var_of (sym is))) r.1

  front_apart : IsDistinct eqb (variables front)
  front_apart = distinct_left front is_front.0 (subst (λ xs. IsDistinct eqb (variables xs)) is_front.1 apart)

  pub count : (at : ℕ → Bool) → waiting g at front ≡ one_if (at e.level) + waiting f at front
  count at = waiting_one front f g at e front_apart in_front (ap f var ∙ new) (λ v. grown v ∙ ap (λ w. f v || eqb v w) (sym var))

  -- of the present level
  pub meets_present : (o n : ℕ) → AreCounted es front f o n → e.level ≡ present es → AreCounted es front g (o + 1) n
  meets_present o n w z = record {
    opened = let c = count (is_present es) in let b = w.opened in let x : one_if (is_present es e.level) ≡ 1 = ap one_if (eq-eqb e.level (present es) z) in omega (arith, c, b, x);
    remaining = let c = count (is_lower es) in let b = w.remaining in let x : one_if (is_lower es e.level) ≡ 0 = ap (λ t. one_if (not t)) (eq-eqb e.level (present es) z) in omega (arith, c, b, x);
  }

  -- of a lower one
  pub meets_lower : (o n : ℕ) → AreCounted es front f o n → (e.level ≡ present es → ⊥) → AreCounted es front g o (n + 1)
  meets_lower o n w z = record {
    opened = let c = count (is_present es) in let b = w.opened in let x : one_if (is_present es e.level) ≡ 0 = ap one_if (ne_eqb e.level (present es) z) in omega (arith, c, b, x);
    remaining = let c = count (is_lower es) in let b = w.remaining in let x : one_if (is_lower es e.level) ≡ 1 = ap (λ t. one_if (not t)) (ne_eqb e.level (present es) z) in omega (arith, c, b, x);
  }
