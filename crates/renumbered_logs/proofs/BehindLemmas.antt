-- A search over the kept clauses, and its log behind all clauses.
use Rattle.std.proofs.Common.{◌≡◌, ℕ, ◌+◌, ◌-◌, ◌<◌, ◌≤◌, inl, inr, ◌⊎◌, Bool, List, [], ◌∷◌, length, get_or, map, Some, sym, ◌∙◌, ap, subst, arith}
use Rattle.std.specs.Prelude.{nat_eq, IsSome}
use Rattle.std.specs.List.{All, AllPairs, Contains, IsDistinct}
use Rattle.std.specs.FinMap.{get, insert, len}
use Rattle.std.proofs.lemmas.Bool.{cases_eq}
use Rattle.std.proofs.lemmas.List.{length-map, get_or-map, get_or_default}
use Rattle.std.proofs.lemmas.List.Elements.{All-weaker, All-map, All-head, All-tail, All-contains}
use Rattle.dimacs.specs.logic.Cnf.{Cnf}
use Rattle.dimacs.specs.logic.ClauseMap.{ClauseMap, live_in, map_of}
use Rattle.dimacs.specs.logic.Literal.{Clause, IsWithin}
use Rattle.lrat_text.specs.Log.{AreLogSteps, AreFresh, IsNew, additions}
use Rattle.lrat_text.specs.Proof.{without}
use Rattle.lrat_text.specs.Runs.{after_steps}
use Rattle.lrat_text.specs.declared.step.Step.{Step}
use Rattle.lrat_text.specs.declared.step.Step.TheVariants.{Add, Delete}
use Rattle.lrat_text.proofs.ClauseMapLemmas.{not_in, some_is, numbered_at}
use Rattle.proof_join.specs.RenumberedSteps.{renumbered_group}
use Rattle.proof_join.proofs.MapLemmas.{AreBetween, get_here, get_other, some_live, live_some, between_formula, between_insert, between_without}
use Rattle.proof_join.proofs.RupLemmas.{rup_renumbered}
use Rattle.elimination.specs.Kept.{IsSubset, HasEliminated, IsKept, clause_of}
use Rattle.renumbered_logs.specs.Renumbered.{behind_all, steps_behind, Avoids}
use Rattle.renumbered_logs.proofs.LiveLemmas.{in_map, from_map, still_live, was_live, len_without, len_added, len_formula}
use Rattle.renumbered_logs.proofs.PlaceLemmas.{place_low, place_above, place_next, place_injective, places_distinct}

-- Where the clause D comes from that is live under the number j: from the search, which has it under a number whose place is j; or it has an
-- eliminated variable; or a kept clause is a subset of it.
abbrev pub IsFrom : List ℕ → ℕ → List Bool → ClauseMap → ℕ → Clause → Type 0
IsFrom numbers a gone N j D =
    ((n : ℕ) × (get N n ≡ Some D) × (behind_all numbers a n ≡ j))
    ⊎ (HasEliminated gone D ⊎ ((n : ℕ) × (E : Clause) × (get N n ≡ Some E) × (n ≤ length numbers) × IsSubset E D))

-- N is live in the search, whose last number is k, and M in the log behind all clauses, whose last number is top
pub record AreBehind (numbers : List ℕ) (a : ℕ) (gone : List Bool) (N M : ClauseMap) (k top : ℕ) : Type 0 where
  pub above : length numbers ≤ k
  pub even : top + length numbers ≡ k + a
  pub between : AreBetween k N
  pub all_between : AreBetween top M
  pub forth : (n : ℕ) (C : Clause) → get N n ≡ Some C → get M (behind_all numbers a n) ≡ Some C
  pub back : (j : ℕ) (D : Clause) → get M j ≡ Some D → IsFrom numbers a gone N j D
  pub size : len N + a ≤ len M + length numbers

module _ (numbers : List ℕ) (a : ℕ) (gone : List Bool) (rising : AllPairs (λ x y. x < y) numbers) (within : All (λ n. (1 ≤ n) × (n ≤ a)) numbers) where
  -- ---- an addition
  forth_more : (N M : ClauseMap) (k top id : ℕ) (C : Clause) → AreBehind numbers a gone N M k top → id ≡ k + 1
      → (n : ℕ) (D : Clause) → get (insert N id C) n ≡ Some D → get (insert M (behind_all numbers a id) C) (behind_all numbers a n) ≡ Some D
  forth_more N M k top id C h next n D e = elim (cases_eq n id) [
    | inl s ↦
        ap (λ q. get (insert M (behind_all numbers a id) C) (behind_all numbers a q)) s
        ∙ get_here M (behind_all numbers a id) C
        ∙ (sym (get_here N id C) ∙ ap (get (insert N id C)) (sym s) ∙ e)
    | inr d ↦
        let live = sym (get_other N id n C d) ∙ e in
        let low = (h.between n D live).0 in
        get_other M (behind_all numbers a id) (behind_all numbers a n) C (λ s. d (place_injective numbers a rising within n id low (omega arith) s)) ∙ h.forth n D live
  ]

  from_more : (N : ClauseMap) (k id j : ℕ) (C D : Clause) → length numbers ≤ k → AreBetween k N → id ≡ k + 1 → IsFrom numbers a gone N j D → IsFrom numbers a gone (insert N id C) j D
  from_more N k id j C D above between next h = elim h [
    | inl (n, live, is) ↦
        let up = (between n D live).1 in
        inl (n, get_other N id n C (λ s. omega arith) ∙ live, is)
    | inr (inl e) ↦ inr (inl e)
    | inr (inr (n, E, live, low, sub)) ↦ inr (inr (n, E, get_other N id n C (λ s. omega arith) ∙ live, low, sub))
  ]

  back_more : (N M : ClauseMap) (k top id : ℕ) (C : Clause) → AreBehind numbers a gone N M k top → id ≡ k + 1
      → (j : ℕ) (D : Clause) → get (insert M (behind_all numbers a id) C) j ≡ Some D → IsFrom numbers a gone (insert N id C) j D
  back_more N M k top id C h next j D e = elim (cases_eq j (behind_all numbers a id)) [
    | inl s ↦
        let is : C ≡ D = some_is C D (sym (get_here M (behind_all numbers a id) C) ∙ ap (get (insert M (behind_all numbers a id) C)) (sym s) ∙ e) in
        inl (id, get_here N id C ∙ ap (λ (x : Clause). Some x) is, sym s)
    | inr d ↦ from_more N k id j C D h.above h.between next (h.back j D (sym (get_other M (behind_all numbers a id) j C d) ∙ e))
  ]

  pub behind_more : (N M : ClauseMap) (k top id : ℕ) (C : Clause) → AreBehind numbers a gone N M k top → id ≡ k + 1
      → AreBehind numbers a gone (insert N id C) (insert M (behind_all numbers a id) C) id (behind_all numbers a id)
  behind_more N M k top id C h next =
      let above = h.above in
      let even = h.even in
      let up : behind_all numbers a id ≡ top + 1 = place_next numbers a k top id above even next in
      record {
        above = omega arith;
        even = omega arith;
        between = between_insert N k id C h.between next;
        all_between = between_insert M top (behind_all numbers a id) C h.all_between up;
        forth = forth_more N M k top id C h next;
        back = back_more N M k top id C h next;
        size =
            (let x = len_added N id C (not_in N id (λ D live. let b = (h.between id D live).1 in omega arith)) in
            let y = len_added M (behind_all numbers a id) C (not_in M (behind_all numbers a id) (λ D live. let b = (h.all_between (behind_all numbers a id) D live).1 in omega arith)) in
            let z = h.size in
            omega arith);
      }

  -- ---- a deletion
  forth_less : (N M : ClauseMap) (k top : ℕ) (ids : List ℕ) → AreBehind numbers a gone N M k top → All (λ id. length numbers < id) ids
      → (n : ℕ) (D : Clause) → get (without N ids) n ≡ Some D → get (without M (map (behind_all numbers a) ids)) (behind_all numbers a n) ≡ Some D
  forth_less N M k top ids h own n D e =
      let was = was_live N ids n D e in
      let low = (h.between n D was.1).0 in
      still_live M (map (behind_all numbers a) ids) (behind_all numbers a n) D (h.forth n D was.1) (λ i.
      let r = from_map (behind_all numbers a) ids (behind_all numbers a n) i in
      let x = All-contains (λ id. length numbers < id) ids r.0 own r.1 in
      was.0 (subst (Contains ids) (place_injective numbers a rising within r.0 n (omega arith) low r.2) r.1))

  back_less : (N M : ClauseMap) (k top : ℕ) (ids : List ℕ) → AreBehind numbers a gone N M k top → All (λ id. length numbers < id) ids
      → (j : ℕ) (D : Clause) → get (without M (map (behind_all numbers a) ids)) j ≡ Some D → IsFrom numbers a gone (without N ids) j D
  back_less N M k top ids h own j D e =
      let was = was_live M (map (behind_all numbers a) ids) j D e in
      elim (h.back j D was.1) [
        | inl (n, live, is) ↦ inl (n, still_live N ids n D live (λ i. was.0 (subst (Contains (map (behind_all numbers a) ids)) is (in_map (behind_all numbers a) ids n i))), is)
        | inr (inl x) ↦ inr (inl x)
        | inr (inr (n, E, live, low, sub)) ↦
            inr (inr (n, E, still_live N ids n E live (λ i. let x = All-contains (λ id. length numbers < id) ids n own i in omega arith), low, sub))
      ]

  some_behind : (N M : ClauseMap) (k top n : ℕ) → AreBehind numbers a gone N M k top → IsSome (get N n) → IsSome (get M (behind_all numbers a n))
  some_behind N M k top n h some = let x = some_live N n some in live_some M (behind_all numbers a n) x.0 (h.forth n x.0 x.1)

  all_some_behind : (N M : ClauseMap) (k top : ℕ) (ids : List ℕ) → AreBehind numbers a gone N M k top → All (λ id. IsSome (get N id)) ids
      → All (λ id. IsSome (get M id)) (map (behind_all numbers a) ids)
  all_some_behind N M k top ids h live =
      All-map (λ id. IsSome (get M id)) (behind_all numbers a) ids
      (All-weaker (λ id. IsSome (get N id)) (λ id. IsSome (get M (behind_all numbers a id))) (λ id x. some_behind N M k top id h x) ids live)

  pub behind_less : (N M : ClauseMap) (k top : ℕ) (ids : List ℕ) → AreBehind numbers a gone N M k top → All (λ id. length numbers < id) ids
      → All (λ id. IsSome (get N id)) ids → IsDistinct nat_eq ids → AreBehind numbers a gone (without N ids) (without M (map (behind_all numbers a) ids)) k top
  behind_less N M k top ids h own live distinct = record {
    above = h.above;
    even = h.even;
    between = between_without N k ids h.between;
    all_between = between_without M top (map (behind_all numbers a) ids) h.all_between;
    forth = forth_less N M k top ids h own;
    back = back_less N M k top ids h own;
    size =
        (let x = len_without ids N (λ n i. All-contains (λ id. IsSome (get N id)) ids n live i) distinct in
        let y = len_without (map (behind_all numbers a) ids) M
        (λ n i. All-contains (λ id. IsSome (get M id)) (map (behind_all numbers a) ids) n (all_some_behind N M k top ids h live) i)
        (places_distinct numbers a rising within ids own distinct) in
        let l = length-map ids (behind_all numbers a) in
        let z = h.size in
        omega arith);
  }

  -- ---- the steps
  pub log_behind : (steps : List Step) (N M : ClauseMap) (k top : ℕ) → AreBehind numbers a gone N M k top → AreLogSteps (length numbers) N k steps
      → AreLogSteps a M top (steps_behind numbers a steps)
  log_behind [] N M k top h l = tt
  log_behind (Add id lits hints groups ∷ steps) N M k top h ((next, none, rup), rest) = (
    (
      place_next numbers a k top id h.above h.even next,
      ap (map (renumbered_group (behind_all numbers a))) none,
      rup_renumbered (live_in N) (live_in M) (behind_all numbers a) h.forth lits hints rup,
    ),
    log_behind steps (insert N id lits) (insert M (behind_all numbers a id) lits) id (behind_all numbers a id) (behind_more N M k top id lits h next) rest,
  )
  log_behind (Delete ids ∷ steps) N M k top h ((own, live, distinct), rest) = (
    (
      All-map (λ id. a < id) (behind_all numbers a) ids (All-weaker (λ id. length numbers < id) (λ id. a < behind_all numbers a id) (λ id x. place_above numbers a id x) ids own),
      all_some_behind N M k top ids h live,
      places_distinct numbers a rising within ids own distinct,
    ),
    log_behind steps (without N ids) (without M (map (behind_all numbers a) ids)) k top (behind_less N M k top ids h own live distinct) rest,
  )

  pub live_behind : (steps : List Step) (N M : ClauseMap) (k top : ℕ) → AreBehind numbers a gone N M k top → AreLogSteps (length numbers) N k steps
      → (n : ℕ) (C : Clause) → live_in (after_steps N steps) n C → live_in (after_steps M (steps_behind numbers a steps)) (behind_all numbers a n) C
  live_behind [] N M k top h l = h.forth
  live_behind (Add id lits hints groups ∷ steps) N M k top h ((next, none, rup), rest) =
      live_behind steps (insert N id lits) (insert M (behind_all numbers a id) lits) id (behind_all numbers a id) (behind_more N M k top id lits h next) rest
  live_behind (Delete ids ∷ steps) N M k top h ((own, live, distinct), rest) =
      live_behind steps (without N ids) (without M (map (behind_all numbers a) ids)) k top (behind_less N M k top ids h own live distinct) rest

  -- ---- freshness
  new_behind : (N M : ClauseMap) (k top : ℕ) (C : Clause) → AreBehind numbers a gone N M k top → ¬ (HasEliminated gone C) → IsNew (live_in N) C → IsNew (live_in M) C
  new_behind N M k top C h avoids is_new j D live sub = elim (h.back j D live) [
    | inl (n, there, is) ↦ is_new n D there sub
    | inr (inl (l, i, e)) ↦ avoids (l, sub l i, e)
    | inr (inr (n, E, there, low, less)) ↦ is_new n E there (λ l i. sub l (less l i))
  ]

  pub fresh_behind : (kept F : Cnf) → kept.vars ≡ F.vars → length kept.clauses ≡ length numbers → length F.clauses ≤ a
      → (steps : List Step) (N M : ClauseMap) (k top : ℕ) → AreBehind numbers a gone N M k top → AreLogSteps (length numbers) N k steps → All (Avoids gone) steps
      → AreFresh kept N steps → AreFresh F M (steps_behind numbers a steps)
  fresh_behind kept F vars count few [] N M k top h l avoid f = tt
  fresh_behind kept F vars count few (Add id lits hints groups ∷ steps) N M k top h ((next, none, rup), rest) avoid ((own, is_new), fresh) =
      let here : Avoids gone (Add id lits hints groups) = All-head (Avoids gone) (Add id lits hints groups) steps avoid in (
        (subst (λ v. All (IsWithin v) lits) vars own, new_behind N M k top lits h here.0 is_new),
        fresh_behind kept F vars count few steps (insert N id lits) (insert M (behind_all numbers a id) lits) id (behind_all numbers a id)
            (behind_more N M k top id lits h next) rest (All-tail (Avoids gone) (Add id lits hints groups) steps avoid) fresh,
      )
  fresh_behind kept F vars count few (Delete ids ∷ steps) N M k top h ((own, live, distinct), rest) avoid (many, fresh) =
      let size = h.size in (
        omega arith,
        fresh_behind kept F vars count few steps (without N ids) (without M (map (behind_all numbers a) ids)) k top
            (behind_less N M k top ids h own live distinct) rest (All-tail (Avoids gone) (Delete ids) steps avoid) fresh,
      )

pub count_behind : (numbers : List ℕ) (a : ℕ) (steps : List Step) → additions (steps_behind numbers a steps) ≡ additions steps
count_behind numbers a [] = omega arith
count_behind numbers a (Add id lits hints groups ∷ steps) = let r = count_behind numbers a steps in omega arith
count_behind numbers a (Delete ids ∷ steps) = count_behind numbers a steps

-- ---- the beginning: the kept clauses among all
module _ (all kept : Cnf) (numbers : List ℕ) (gone : List Bool) (h : IsKept all kept numbers gone) where
  pub kept_count : length kept.clauses ≡ length numbers
  kept_count = ap length h.clauses ∙ length-map numbers (clause_of all.clauses)

  kept_live : (i : ℕ) → i < length numbers → live_in (map_of kept) (i + 1) (clause_of all.clauses (get_or numbers i 0))
  kept_live i l =
      let few : i < length kept.clauses = omega (arith, kept_count, l) in
      numbered_at kept.clauses i [] few
      ∙ ap (λ (C : Clause). Some C) (ap (λ (cs : List Clause). get_or cs i []) h.clauses ∙ get_or-map (clause_of all.clauses) numbers i 0 [] l)

  all_live : (j : ℕ) → 1 ≤ j → j ≤ length all.clauses → live_in (map_of all) j (clause_of all.clauses j)
  all_live j some few =
      let e : (j - 1) + 1 ≡ j = omega arith in
      subst (λ q. live_in (map_of all) q (clause_of all.clauses j)) e (numbered_at all.clauses (j - 1) [] (omega arith))

  kept_between : AreBetween (length numbers) (map_of kept)
  kept_between = subst (λ m. AreBetween m (map_of kept)) kept_count (between_formula kept)

  kept_forth : (n : ℕ) (C : Clause) → get (map_of kept) n ≡ Some C → get (map_of all) (behind_all numbers (length all.clauses) n) ≡ Some C
  kept_forth n C live =
      let b = kept_between n C live in
      let low = b.0 in
      let up = b.1 in
      let e : (n - 1) + 1 ≡ n = omega arith in
      let here = subst (λ q. live_in (map_of kept) q (clause_of all.clauses (get_or numbers (n - 1) 0))) e (kept_live (n - 1) (omega arith)) in
      let j = h.within (n - 1) 0 (omega arith) in
      subst (λ q. get (map_of all) q ≡ Some C) (sym (place_low numbers (length all.clauses) n up)) (all_live (get_or numbers (n - 1) 0) j.0 j.1 ∙ sym here ∙ live)

  kept_back : (j : ℕ) (D : Clause) → get (map_of all) j ≡ Some D → IsFrom numbers (length all.clauses) gone (map_of kept) j D
  kept_back j D live = elim (h.covered j D live) [
    | inl (i, l, is) ↦
        let number : get_or numbers i 0 ≡ j = get_or_default numbers i 0 j l ∙ is in
        let b = between_formula all j D live in
        let same = all_live j b.0 b.1 in
        let back : i + 1 - 1 ≡ i = omega arith in
        inl (
          i + 1,
          subst (λ q. live_in (map_of kept) (i + 1) (clause_of all.clauses q)) number (kept_live i l) ∙ sym same ∙ live,
          place_low numbers (length all.clauses) (i + 1) (omega arith) ∙ ap (λ q. get_or numbers q 0) back ∙ number,
        )
    | inr (inl e) ↦ inr (inl e)
    | inr (inr (E, (i, l, is), sub)) ↦
        inr (inr (i + 1, E, numbered_at kept.clauses i E l ∙ ap (λ (C : Clause). Some C) is, omega (arith, kept_count, l), sub))
  ]

  pub begun : AreBehind numbers (length all.clauses) gone (map_of kept) (map_of all) (length numbers) (length all.clauses)
  begun = record {
    above = omega arith;
    even = omega arith;
    between = kept_between;
    all_between = between_formula all;
    forth = kept_forth;
    back = kept_back;
    size = omega (arith, kept_count, len_formula kept, len_formula all);
  }
