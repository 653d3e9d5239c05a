-- The lemma of final analysis: the first literals and negations of decisions.
use Rattle.std.proofs.Common.{◌≡◌, ℕ, ◌<◌, ◌⊎◌, inl, inr, Bool, true, false, not, cond, eqb, ◌&&◌, List, [], ◌∷◌, ◌++◌, length, get_or, take, refl, ap, sym, ◌∙◌, subst, arith, Some, None}
use Rattle.std.specs.List.{Contains, IsDistinct, filter_map}
use Rattle.std.proofs.lemmas.Bool.{cases_Bool, both_ways, or_left, and_parts, and_from, and_left, and_right, false≢true}
use Rattle.dimacs.specs.logic.ClauseMap.{Live}
use Rattle.dimacs.specs.logic.Literal.{Literal, Clause, negation, var_of}
use Rattle.dimacs.specs.logic.Propagation.{Rup, negations}
use Rattle.dimacs.proofs.LiteralLemmas.{negation-negation, var_of-negation}
use Rattle.dimacs.proofs.Members.{has-Contains, Contains-has}
use Rattle.watches.specs.Trails.{holds, variables}
use Rattle.watches.specs.declared.trail.Assigned.{Assigned}
use Rattle.watches.proofs.TrailLemmas.{consistent}
use Rattle.conflict_analysis.specs.inner.FinalAnalysis.{AreTraced, AreNegated, AreOutside, AreFalseOr, reason_of}
use Rattle.conflict_analysis.specs.inner.TrailWalk.{IsResolved, reason_number, resolved_of}
use Rattle.conflict_analysis.proofs.EntryLemmas.{holds_from_entry, one_entry}
use Rattle.conflict_analysis.proofs.WalkEndLemmas.{hints_agree, settled_front}
use Rattle.conflict_analysis.proofs.RupLemmas.{either, walk_is_rup}

module _ (live : Live) (es : List Assigned) (apart : IsDistinct eqb (variables es)) (seen : ℕ → Bool) (first lits : Clause)
    (traced : AreTraced live es 0 seen lits) (negated : AreNegated es first lits) (outside : AreOutside es first) (kept_first : (l : Literal) → Contains first l → Contains lits l) where
  abbrev resolved : Literal → Bool
  resolved = resolved_of es seen lits

  not_here : (l : Literal) → Contains lits l → holds es l ≡ true → ⊥
  not_here l c h = elim (negated l c) [
    | inl f ↦ both_ways (holds es l) (outside l f).0 h
    | inr (e, i, q, r) ↦ consistent es l apart h (subst (λ k. holds es k ≡ true) q (holds_from_entry es e i))
  ]

  no_pair : (l : Literal) → Contains lits l → Contains lits (negation l) → ⊥
  no_pair l c d = elim (negated (negation l) d) [
    | inl f ↦ elim (negated l c) [
      | inl g ↦ (outside l g).2 f
      | inr (e, i, q, r) ↦ both_ways (holds es (negation l)) (outside (negation l) f).0 (subst (λ k. holds es k ≡ true) q (holds_from_entry es e i))
    ]
    | inr (e, i, q, r) ↦ not_here l c (subst (λ k. holds es k ≡ true) (q ∙ negation-negation l) (holds_from_entry es e i))
  ]

  -- an entry that is kept was decided
  kept_decided : (e : Assigned) → Contains es e → negations lits e.literal ≡ true → e.reason ≡ None
  kept_decided e c h =
      let j = has-Contains lits (negation e.literal) h in
      elim (negated (negation e.literal) j) [
        | inl f ↦ absurd (both_ways (holds es (negation (negation e.literal))) (outside (negation e.literal) f).1 (subst (λ k. holds es k ≡ true) (sym (negation-negation e.literal)) (holds_from_entry es e c)))
        | inr (d, i, q, r) ↦ subst (λ (x : Assigned). x.reason ≡ None) (one_entry es d e apart i c (ap var_of (q ∙ negation-negation e.literal))) r
      ]

  -- what was met is settled, or kept
  cases : (k : ℕ) (d : Assigned) → k < length es → seen (var_of (get_or es k d).literal) ≡ true → IsResolved live (take k es) seen (get_or es k d) ⊎ (negations lits (get_or es k d).literal ≡ true)
  cases k d l m = elim (traced k d (omega arith) l m) [
    | inl s ↦ inl s
    | inr r ↦ inr (Contains-has lits (negation (get_or es k d).literal) r.1)
  ]

  settled_entry : (k : ℕ) (d : Assigned) → k < length es → resolved (get_or es k d).literal ≡ true → IsResolved live (take k es) seen (get_or es k d)
  settled_entry k d l h =
      let e = get_or es k d in
      let a = and_parts (holds es e.literal) (seen (var_of e.literal) && not (negations lits e.literal)) h in
      let b = and_parts (seen (var_of e.literal)) (not (negations lits e.literal)) a.1 in
      elim (cases k d l b.0) [ inl s ↦ s | inr n ↦ absurd (clash (negations lits e.literal) n b.1) ]
    where
      clash : (b : Bool) → b ≡ true → not b ≡ true → ⊥
      clash true h n = false≢true n
      clash false h n = false≢true h

  hint_is : (e : Assigned) → Contains es e → reason_of seen e ≡ cond (resolved e.literal) (Some (reason_number e.reason)) None
  hint_is e c = go (seen (var_of e.literal)) refl
    where
      go : (b : Bool) → seen (var_of e.literal) ≡ b → cond b e.reason None ≡ cond (resolved e.literal) (Some (reason_number e.reason)) None
      go false m = sym (ap (λ x. cond x (Some (reason_number e.reason)) None) (and_right (holds es e.literal) _ (and_left (seen (var_of e.literal)) (not (negations lits e.literal)) m)))
      go true m = elim (cases_Bool (negations lits e.literal)) [
        | inl k ↦ kept_decided e c k ∙ sym (ap (λ x. cond x (Some (reason_number e.reason)) None) (and_right (holds es e.literal) _ (and_right (seen (var_of e.literal)) (not (negations lits e.literal)) (ap not k))))
        | inr n ↦
            let r : resolved e.literal ≡ true = and_from (holds es e.literal) _ (holds_from_entry es e c) (and_from (seen (var_of e.literal)) (not (negations lits e.literal)) m (ap not n)) in
            let s = settled_entry c.0 e c.1 (subst (λ (x : Assigned). resolved x.literal ≡ true) (sym c.2) r) in
            let q : e.reason ≡ Some s.number = subst (λ (x : Assigned). x.reason ≡ Some s.number) c.2 s.reason in
            q ∙ ap Some (sym (ap reason_number q)) ∙ sym (ap (λ x. cond x (Some (reason_number e.reason)) None) r)
      ]

  pub closes : (C : Clause) (number : ℕ) → live number C → AreFalseOr es first C → ((k : Literal) → Contains C k → seen (var_of k) ≡ true)
      → Rup live lits (filter_map (reason_of seen) es ++ number ∷ [])
  closes C number lives false_ all =
      subst (λ ns. Rup live lits (ns ++ number ∷ [])) (sym (hints_agree resolved (reason_of seen) es hint_is))
      (walk_is_rup live es seen lits not_here no_pair C number lives
      (λ k i. elim (false_ k i) [
        | inl h ↦ either live es seen lits not_here no_pair (negation k) h (subst (λ v. seen v ≡ true) (sym (var_of-negation k)) (all k i))
        | inr f ↦ or_left (negations lits (negation k)) (resolved (negation k)) (Contains-has lits (negation (negation k)) (subst (Contains lits) (sym (negation-negation k)) (kept_first k f)))
      ])
      (settled_front live es seen resolved settled_entry))
