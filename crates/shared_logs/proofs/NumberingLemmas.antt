-- Numbers of the one log, and hints by them.
use Rattle.std.proofs.Common.{◌≡◌, ℕ, inl, inr, ◌⊎◌, Bool, true, false, ◌&&◌, ◌==◌, List, [], ◌∷◌, ◌++◌, map, bytes_eq, if◌then◌else◌, refl, sym, ap, subst}
use Rattle.std.specs.List.{Contains}
use Rattle.std.proofs.lemmas.Bool.{both_ways}
use Rattle.std.proofs.lemmas.Bool.Decides.{Decides-eqb}
use Rattle.std.proofs.lemmas.List.{map-append}
use Rattle.std.proofs.lemmas.List.Elements.{Contains-append_left, Contains-append_right}
use Rattle.std.proofs.lemmas.Slice.Eq.{bytes_eq-Decides}
use Rattle.dimacs.specs.logic.ClauseMap.{Live}
use Rattle.dimacs.specs.logic.Literal.{Clause}
use Rattle.dimacs.specs.logic.Propagation.{Assumed, Leads, Rup, negations, with_literal}
use Rattle.dimacs.proofs.Members.{Contains-head, Contains-cons, Contains-cons_cases, Contains-nil}
use Rattle.shared_logs.specs.WovenLogs.{Numbering, with_number}

-- ---- one number more
pub number_cases : (f : Numbering) (name : List ℕ) (n g : ℕ) (other : List ℕ) (k : ℕ)
    → ((name ≡ other) × (n ≡ k) × (with_number f name n g other k ≡ g)) ⊎ ((name ≡ other → n ≡ k → ⊥) × (with_number f name n g other k ≡ f other k))
number_cases f name n g other k = at (bytes_eq name other) (n == k) refl refl
  where
    at : (a b : Bool) → bytes_eq name other ≡ a → (n == k) ≡ b
        → ((name ≡ other) × (n ≡ k) × ((if a && b then g else f other k) ≡ g)) ⊎ ((name ≡ other → n ≡ k → ⊥) × ((if a && b then g else f other k) ≡ f other k))
    at true true p q = inl ((bytes_eq-Decides name other).0 p, (Decides-eqb n k).0 q, refl)
    at true false p q = inr (λ e same. both_ways (n == k) q ((Decides-eqb n k).1 same), refl)
    at false b p q = inr (λ e same. both_ways (bytes_eq name other) p ((bytes_eq-Decides name other).1 e), refl)

pub hint_used : (f : ℕ → ℕ) (hints : List ℕ) (h : ℕ) → Contains hints h → Contains (map f hints) (f h)
hint_used f [] h i = absurd (Contains-nil h i)
hint_used f (x ∷ hints) h i = elim (Contains-cons_cases x h hints i) [
  | inl e ↦ subst (λ k. Contains (map f (x ∷ hints)) (f k)) e (Contains-head (f x) (map f hints))
  | inr j ↦ Contains-cons (f x) (f h) (map f hints) (hint_used f hints h j)
]

-- ---- reverse unit propagation where the hints alone are live
module _ (a b : Live) (f : ℕ → ℕ) where
  leads_renumbered : (hints : List ℕ) → ((n : ℕ) (C : Clause) → Contains hints n → a n C → b (f n) C) → (α β : Assumed) → Leads a α hints β → Leads b α (map f hints) β
  leads_renumbered [] among α β h = h
  leads_renumbered (x ∷ hints) among α β (C, l, lives, unit, more) =
      (C, l, among x C (Contains-head x hints) lives, unit, leads_renumbered hints (λ n D i. among n D (Contains-cons x n hints i)) (with_literal α l) β more)

  pub rup_renumbered : (C : Clause) (hints : List ℕ) → ((n : ℕ) (D : Clause) → Contains hints n → a n D → b (f n) D) → Rup a C hints → Rup b C (map f hints)
  rup_renumbered C hints among r =
      let s = r.refutes in
      let one : (n : ℕ) (D : Clause) → Contains (s.front ++ s.last ∷ []) n → a n D → b (f n) D = λ n D i. among n D (subst (λ (xs : List ℕ). Contains xs n) (sym s.splits) i) in
      record {
        no_pair = r.no_pair;
        refutes = record {
          front = map f s.front;
          last = f s.last;
          reached = s.reached;
          clause = s.clause;
          splits = subst (λ (xs : List ℕ). map f hints ≡ xs) (map-append f s.front (s.last ∷ [])) (ap (map f) s.splits);
          leads = leads_renumbered s.front (λ n D i. one n D (Contains-append_left s.front (s.last ∷ []) n i)) (negations C) s.reached s.leads;
          lives = one s.last s.clause (Contains-append_right s.front (s.last ∷ []) s.last (Contains-head s.last [])) s.lives;
          conflict = s.conflict;
        };
      }
