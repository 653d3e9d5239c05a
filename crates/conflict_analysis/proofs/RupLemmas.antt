-- What was met and is not kept follows, entry by entry, from what is kept: the lemma of what is kept is a reverse unit
-- propagation along the reasons of the rest, in trail order.
use Rattle.std.proofs.Common.{◌≡◌, ℕ, inl, inr, Bool, true, false, not, cond, ◌||◌, ◌&&◌, List, [], ◌∷◌, ◌++◌, refl, ap, sym, ◌∙◌, subst, append_assoc}
use Rattle.std.specs.List.{Contains}
use Rattle.std.proofs.lemmas.List.{append-nil}
use Rattle.std.proofs.lemmas.List.Folds.{list_any-append}
use Rattle.std.proofs.lemmas.Bool.{cases_Bool, or_left, or_right, or_cases, or_from, and_parts, and_from, and_left, and_right, false≢true, false_from_ne_true}
use Rattle.dimacs.specs.logic.ClauseMap.{Live}
use Rattle.dimacs.specs.logic.Literal.{Literal, Clause, negation, same, var_of}
use Rattle.dimacs.specs.logic.Propagation.{IsUnit, Leads, Rup, negations, with_literal}
use Rattle.dimacs.proofs.LiteralLemmas.{same-itself, same-is, same_or_not, same-false, negation-negation, var_of-negation}
use Rattle.dimacs.proofs.Members.{has-Contains}
use Rattle.watches.specs.Trails.{holds}
use Rattle.watches.specs.declared.trail.Assigned.{Assigned}
use Rattle.watches.proofs.TrailLemmas.{holds_push}
use Rattle.conflict_analysis.specs.inner.TrailWalk.{IsResolved, reason_number, hints_of, resolved_of}

-- each resolved entry after the front is settled
abbrev pub AreClosed : Live → (ℕ → Bool) → (Literal → Bool) → List Assigned → List Assigned → Type 0
AreClosed live seen resolved front [] = Unit {0}
AreClosed live seen resolved front (e ∷ rest) = (resolved e.literal ≡ true → IsResolved live front seen e) × AreClosed live seen resolved (front ++ e ∷ []) rest

or_none : (b : Bool) → (b || false) ≡ b
or_none true = refl
or_none false = refl

module _ (live : Live) (es : List Assigned) (seen : ℕ → Bool) (lits : Clause)
    (clash : (l : Literal) → Contains lits l → holds es l ≡ true → ⊥)
    (pairless : (l : Literal) → Contains lits l → Contains lits (negation l) → ⊥) where
  abbrev kept : Literal → Bool
  kept = negations lits

  abbrev resolved : Literal → Bool
  resolved = resolved_of es seen lits

  apart : (l : Literal) → resolved l ≡ true → kept l ≡ true → ⊥
  apart l r k = let p = and_parts (holds es l) (seen (var_of l) && not (kept l)) r in let q = and_parts (seen (var_of l)) (not (kept l)) p.1 in both (kept l) k q.1
    where
      both : (b : Bool) → b ≡ true → not b ≡ true → ⊥
      both true h n = false≢true n
      both false h n = false≢true h

  -- what was met on the trail is kept or resolved
  pub either : (l : Literal) → holds es l ≡ true → seen (var_of l) ≡ true → (kept l || resolved l) ≡ true
  either l h m = elim (cases_Bool (kept l)) [
    | inl k ↦ or_left (kept l) (resolved l) k
    | inr n ↦ or_right (kept l) (resolved l) (and_from (holds es l) (seen (var_of l) && not (kept l)) h (and_from (seen (var_of l)) (not (kept l)) m (ap not n)))
  ]

  -- what is assumed once the entries of the front have been walked
  abbrev known : List Assigned → Literal → Bool
  known front l = kept l || (resolved l && holds front l)

  holds_here : (front rest : List Assigned) (e : Assigned) → es ≡ front ++ e ∷ rest → holds es e.literal ≡ true
  holds_here front rest e w = subst (λ xs. holds xs e.literal ≡ true) (sym w) (list_any-append (λ (x : Assigned). same x.literal e.literal) front (e ∷ rest)
      ∙ or_right (holds front e.literal) _ (or_left (same e.literal e.literal) (holds rest e.literal) (same-itself e.literal)))

  holds_front : (front rest : List Assigned) (l : Literal) → es ≡ front ++ rest → holds front l ≡ true → holds es l ≡ true
  holds_front front rest l w h = subst (λ xs. holds xs l ≡ true) (sym w) (list_any-append (λ (x : Assigned). same x.literal l) front rest ∙ or_left (holds front l) (holds rest l) h)

  known_skip : (front : List Assigned) (e : Assigned) (l : Literal) → resolved e.literal ≡ false → known (front ++ e ∷ []) l ≡ known front l
  known_skip front e l r = ap (λ b. kept l || b) (elim (same_or_not e.literal l) [
    | inl q ↦ let z : resolved l ≡ false = subst (λ x. resolved x ≡ false) q r in and_left (resolved l) (holds (front ++ e ∷ []) l) z ∙ sym (and_left (resolved l) (holds front l) z)
    | inr d ↦ ap (λ b. resolved l && b) (holds_push front e l ∙ ap (λ b. holds front l || b) (same-false e.literal l d) ∙ or_none (holds front l))
  ])

  known_join : (front : List Assigned) (e : Assigned) (l : Literal) → resolved e.literal ≡ true → with_literal (known front) e.literal l ≡ known (front ++ e ∷ []) l
  known_join front e l r = elim (same_or_not l e.literal) [
    | inl q ↦ or_left (same l e.literal) (known front l) (same-is l e.literal q)
        ∙ sym (or_right (kept l) _ (and_from (resolved l) (holds (front ++ e ∷ []) l) (subst (λ x. resolved x ≡ true) (sym q) r) (holds_push front e l ∙ or_right (holds front l) _ (same-is e.literal l (sym q)))))
    | inr d ↦ ap (λ b. b || known front l) (same-false l e.literal d)
        ∙ ap (λ b. kept l || (resolved l && b)) (sym (holds_push front e l ∙ ap (λ b. holds front l || b) (same-false e.literal l (λ x. d (sym x))) ∙ or_none (holds front l)))
  ]

  unit_now : (front rest : List Assigned) (e : Assigned) → es ≡ front ++ e ∷ rest → (α : Literal → Bool) → ((l : Literal) → α l ≡ known front l) → resolved e.literal ≡ true
      → (i : IsResolved live front seen e) → IsUnit α i.clause e.literal
  unit_now front rest e w α is r i = record {
    member = (i.unit).member;
    not_true = is e.literal ∙ or_from (kept e.literal) _ (false_from_ne_true (kept e.literal) (apart e.literal r)) (and_right (resolved e.literal) (holds front e.literal) (i.unit).not_true);
    not_false = is (negation e.literal) ∙ or_from (kept (negation e.literal)) _
        (false_from_ne_true (kept (negation e.literal)) (λ k. clash e.literal (subst (Contains lits) (negation-negation e.literal) (has-Contains lits (negation (negation e.literal)) k)) (holds_here front rest e w)))
        (and_right (resolved (negation e.literal)) (holds front (negation e.literal)) (i.unit).not_false);
    others = λ m j d. is (negation m) ∙
        (let h = (i.unit).others m j d in
        elim (or_cases (kept (negation m)) (resolved (negation m)) (either (negation m) (holds_front front (e ∷ rest) (negation m) w h) (subst (λ v. seen v ≡ true) (sym (var_of-negation m)) (i.all m j)))) [
          | inl k ↦ or_left (kept (negation m)) _ k
          | inr k ↦ or_right (kept (negation m)) _ (and_from (resolved (negation m)) (holds front (negation m)) k h)
        ]);
  }

  -- the hints lead on, and all that is kept or resolved is assumed in the end
  walk : (front rest : List Assigned) → es ≡ front ++ rest → AreClosed live seen resolved front rest → (α : Literal → Bool) → ((l : Literal) → α l ≡ known front l)
      → (β : Literal → Bool) × Leads live α (hints_of resolved rest) β × ((l : Literal) → β l ≡ known es l)
  walk front [] w h α is = (α, refl, λ l. is l ∙ ap (λ xs. known xs l) (sym (w ∙ append-nil front)))
  walk front (e ∷ rest) w h α is =
      go (λ α' is'. walk (front ++ e ∷ []) rest (w ∙ sym (append_assoc front (e ∷ []) rest)) h.1 α' is') (resolved e.literal) refl
    where
      go : ((α' : Literal → Bool) → ((l : Literal) → α' l ≡ known (front ++ e ∷ []) l) → (β : Literal → Bool) × Leads live α' (hints_of resolved rest) β × ((l : Literal) → β l ≡ known es l))
          → (b : Bool) → resolved e.literal ≡ b → (β : Literal → Bool) × Leads live α (cond b (reason_number e.reason ∷ hints_of resolved rest) (hints_of resolved rest)) β × ((l : Literal) → β l ≡ known es l)
      go next true r =
          let i = h.0 r in
          let u = unit_now front rest e w α is r i in
          let number : reason_number e.reason ≡ i.number = ap reason_number i.reason in
          let n = next (with_literal α e.literal) (λ l. ap (λ b. same l e.literal || b) (is l) ∙ known_join front e l r) in
          (n.0, (i.clause, e.literal, subst (λ x. live x i.clause) (sym number) i.lives, u, n.1), n.2)
      go next false r = next α (λ l. is l ∙ sym (known_skip front e l r))

  -- the lemma of what is kept follows by the reasons of what was resolved, in trail order, and a clause of which the
  -- negation of each literal is kept or resolved
  pub walk_is_rup : (C : Clause) (number : ℕ) → live number C → ((k : Literal) → Contains C k → (kept (negation k) || resolved (negation k)) ≡ true)
      → AreClosed live seen resolved [] es → Rup live lits (hints_of resolved es ++ number ∷ [])
  walk_is_rup C number lives false_ h =
      let r = walk [] es refl h (negations lits) (λ l. sym (none (kept l) (resolved l))) in
      record {
        no_pair = λ t. pairless t.0 t.1 t.2;
        refutes = record {
          front = hints_of resolved es;
          last = number;
          reached = r.0;
          clause = C;
          splits = refl;
          leads = r.1;
          lives = lives;
          conflict = λ m i. r.2 (negation m) ∙ elim (or_cases (kept (negation m)) (resolved (negation m)) (false_ m i)) [
            | inl k ↦ or_left (kept (negation m)) _ k
            | inr k ↦ or_right (kept (negation m)) _ (and_from (resolved (negation m)) (holds es (negation m)) k
                (and_parts (holds es (negation m)) (seen (var_of (negation m)) && not (kept (negation m))) k).0)
          ];
        };
      }
    where
      none : (a b : Bool) → (a || (b && false)) ≡ a
      none true b = refl
      none false true = refl
      none false false = refl
