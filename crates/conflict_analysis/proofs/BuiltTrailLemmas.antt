-- Each entry of a built trail was a decision or implied.
use Rattle.std.proofs.Common.{zero, suc, ◌≡◌, ℕ, ◌<◌, ◌≤◌, ◌⊎◌, inl, inr, Bool, true, eqb, List, [], ◌∷◌, ◌++◌, length, get_or, take, ap, sym, ◌∙◌, subst, arith, append_assoc, Option, Some}
use Rattle.std.specs.List.{Contains, IsDistinct}
use Rattle.std.specs.Option.{unwrap_or}
use Rattle.std.proofs.lemmas.Bool.{both_ways, eq-eqb, eqb-true}
use Rattle.std.proofs.lemmas.List.{append-nil, get_or-map, get_or-take, length-take, length-map}
use Rattle.std.proofs.lemmas.List.Elements.{All-contains}
use Rattle.std.proofs.lemmas.Map.Keys.{apart_from_distinct}
use Rattle.dimacs.specs.logic.ClauseMap.{Live}
use Rattle.dimacs.specs.logic.Literal.{Literal, Clause, var_of}
use Rattle.dimacs.specs.logic.Propagation.{IsUnit}
use Rattle.dimacs.proofs.LiteralLemmas.{same_or_not}
use Rattle.watches.specs.Law.{IsImplied}
use Rattle.watches.specs.Trails.{holds, present, variables}
use Rattle.watches.specs.declared.trail.Assigned.{Assigned}
use Rattle.watches.proofs.LevelLemmas.{le_present}
use Rattle.conflict_analysis.specs.BuiltTrails.{IsDecided, AreBuilt}
use Rattle.conflict_analysis.specs.inner.TrailWalk.{waiting, is_present, IsKnown}
use Rattle.conflict_analysis.proofs.EntryLemmas.{waiting_found}

-- an entry as it came
abbrev pub Came : Live → List Assigned → ℕ → Assigned → Type 0
Came live es k d = IsImplied live (take k es) (get_or es k d) ⊎ IsDecided (take k es) (get_or es k d)

built_from : (live : Live) (front more : List Assigned) → AreBuilt live front more → (k : ℕ) (d : Assigned) → k < length more
    → IsImplied live (front ++ take k more) (get_or more k d) ⊎ IsDecided (front ++ take k more) (get_or more k d)
built_from live front [] b k d l = absurd (omega arith)
built_from live front (e ∷ more) b zero d l = subst (λ xs. IsImplied live xs e ⊎ IsDecided xs e) (sym (append-nil front)) b.0
built_from live front (e ∷ more) b (suc k) d l =
    subst (λ xs. IsImplied live xs (get_or more k d) ⊎ IsDecided xs (get_or more k d)) (append_assoc front (e ∷ []) (take k more)) (built_from live (front ++ e ∷ []) more b.1 k d (omega arith))

pub built_at : (live : Live) (es : List Assigned) → AreBuilt live [] es → (k : ℕ) (d : Assigned) → k < length es → Came live es k d
built_at live es b k d l = built_from live [] es b k d l

-- an entry of the present level before which another waits has a reason
pub not_decided : (es front : List Assigned) (e : Assigned) (f : ℕ → Bool) (o : ℕ) → o ≡ waiting f (is_present es) front → e.level ≡ present es → 0 < o → IsDecided front e → ⊥
not_decided es front e f o w p some d =
    let r = waiting_found front f (is_present es) (omega (arith, w, some)) in
    let b = All-contains (λ x. x.level ≤ present front) front r.0 (le_present front) r.1 in
    let l = d.level in
    let q = eqb-true r.0.level (present es) r.3 in
    omega (arith, l, p, b, q)

-- what is known of an entry by its reason
pub implied_by : (live : Live) (front : List Assigned) (e : Assigned) (n : ℕ) → (i : IsImplied live front e) → e.reason ≡ Some n → live n i.clause
implied_by live front e n i r = subst (λ m. live m i.clause) (ap (λ (o : Option ℕ). unwrap_or {T = ℕ} o 0) (sym i.reason ∙ r)) i.lives

-- the literals of its reason can be met
pub reason_known : (front : List Assigned) (f : ℕ → Bool) (e : Assigned) (C : Clause) → IsUnit (holds front) C e.literal → f (var_of e.literal) ≡ true → (k : Literal) → Contains C k → IsKnown front f k
reason_known front f e C u m k i = elim (same_or_not k e.literal) [
  | inl q ↦ inl (ap (λ x. f (var_of x)) q ∙ m)
  | inr d ↦ inr (u.others k i d)
]

-- no entry of a front has the variable of one after it
pub behind : (es : List Assigned) (i k : ℕ) (d e : Assigned) → IsDistinct eqb (variables es) → Contains (take i es) e → i ≤ k → k < length es → var_of e.literal ≡ var_of (get_or es k d).literal → ⊥
behind es i k d e apart c le l q =
    let j = c.0 in
    let jl : j < i = let x = c.1 in let y = length-take i es in omega (arith, x, y, le, l) in
    let at : get_or es j e ≡ e = sym (get_or-take i es j e jl) ∙ c.2 in
    let vj : get_or (variables es) j 0 ≡ var_of e.literal = get_or-map (λ (x : Assigned). var_of x.literal) es j e 0 (omega (arith, jl, le, l)) ∙ ap (λ (x : Assigned). var_of x.literal) at in
    let vk : get_or (variables es) k 0 ≡ var_of (get_or es k d).literal = get_or-map (λ (x : Assigned). var_of x.literal) es k d 0 l in
    both_ways (eqb (get_or (variables es) j 0) (get_or (variables es) k 0))
    (apart_from_distinct eqb (variables es) j k 0 apart (omega (arith, jl, le)) (let n = length-map es (λ (x : Assigned). var_of x.literal) in omega (arith, n, l)))
    (eq-eqb (get_or (variables es) j 0) (get_or (variables es) k 0) (vj ∙ q ∙ sym vk))
