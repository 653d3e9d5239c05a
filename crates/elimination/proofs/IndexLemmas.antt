-- The store of clauses: its lists, and what each call keeps.
use Rattle.std.proofs.Common.{zero, suc, ◌≡◌, ◌≢◌, ◌↔◌, ℕ, ◌+◌, ◌*◌, ◌<◌, ◌≤◌, ◌⊎◌, inl, inr, Bool, true, false, cond, List, [], ◌∷◌, ◌++◌, length, get_or, set, take, drop, replicate, eqb, refl, sym, ◌∙◌, ap, subst, arith, get_or-set_same, get_or-set_other, length-set, length-append}
use Rattle.std.specs.List.{All, Contains, filter}
use Rattle.std.specs.Global.{Vec}
use Rattle.std.proofs.lemmas.Bool.{true≢false, both_ways, cases_Bool, cases_eq, cases_lt, eqb-false, and_parts, and_from}
use Rattle.std.proofs.lemmas.List.{get_or_append_left, get_or_at, get_or_past, get_or_read, get_or-drop, get_or-map, length-take-le, get_or-replicate, length-map, length-replicate, length_push, map-set, replicate_more, take_more}
use Rattle.std.proofs.lemmas.List.Elements.{All-nil, All-head, All-tail, All-push, All-weaker, All-contains, All-contains_itself, Contains-get_or, Contains-append_left, Contains-push, Contains-push_cases}
use Rattle.dimacs.specs.logic.Literal.{Literal, Pos, Neg, Clause, IsWithin, var_of, index_of, has}
use Rattle.dimacs.specs.logic.Cnf.{Cnf, IsBase, literal_count}
use Rattle.dimacs.specs.logic.ClauseMap.{map_of, live_in}
use Rattle.lrat_text.specs.Log.{IsNew}
use Rattle.dimacs.proofs.LiteralLemmas.{same_or_not, index_apart, index_below}
use Rattle.dimacs.proofs.Members.{Contains-head, Contains-cons, Contains-cons_cases, Contains-nil, Contains-filter, has-Contains, Contains-has}
use Rattle.dimacs.proofs.BaseLemmas.{base_push}
use Rattle.lrat_text.proofs.ClauseMapLemmas.{numbered_between, numbered_at, some_is}
use Rattle.elimination.specs.Kept.{IsSubset, IsEliminated, HasEliminated}
use Rattle.elimination.specs.inner.Indexed.{clause_at, IsActive, lists_in, list_at, HasActiveSubset, AreListed, AreIndexed, IsListOf, AreListsWith, AreRetired, is_subset}

-- ---- subsets
pub subset_is : (C D : Clause) → is_subset C D ≡ true → IsSubset C D
subset_is [] D e l h = absurd (Contains-nil l h)
subset_is (k ∷ C) D e l h =
    let p = and_parts (has D k) (is_subset C D) e in
    elim (Contains-cons_cases k l C h) [
      | inl s ↦ subst (λ x. Contains D x) s (has-Contains D k p.0)
      | inr r ↦ subset_is C D p.1 l r
    ]

pub subset_from : (C D : Clause) → IsSubset C D → is_subset C D ≡ true
subset_from [] D h = refl
subset_from (k ∷ C) D h =
    and_from (has D k) (is_subset C D) (Contains-has D k (h k (Contains-head k C))) (subset_from C D (λ l m. h l (Contains-cons k l C m)))

pub subset_not : (C D : Clause) → is_subset C D ≡ false → IsSubset C D → ⊥
subset_not C D f h = both_ways (is_subset C D) f (subset_from C D h)

pub with_eliminated : (gone : List Bool) (C D : Clause) → IsSubset C D → HasEliminated gone C → HasEliminated gone D
with_eliminated gone C D s h = (h.0, s h.0 h.1, h.2)

-- what an answer of `is_subset` says, of the clauses that were read
pub answer_true : (r : Bool) (C D E F : Clause) → r ≡ is_subset C D → C ≡ E → D ≡ F → r ≡ true → IsSubset E F
answer_true r C D E F e s t a = subset_is E F (ap (λ B. is_subset B F) (sym s) ∙ ap (λ B. is_subset C B) (sym t) ∙ sym e ∙ a)

pub answer_false : (r : Bool) (C D E F : Clause) → r ≡ is_subset C D → C ≡ E → D ≡ F → r ≡ false → IsSubset E F → ⊥
answer_false r C D E F e s t a = subset_not E F (ap (λ B. is_subset B F) (sym s) ∙ ap (λ B. is_subset C B) (sym t) ∙ sym e ∙ a)

-- ---- counts
count_push : (cs : List Clause) (C : Clause) → literal_count (cs ++ C ∷ []) ≡ literal_count cs + length C
count_push [] C = omega arith
count_push (D ∷ cs) C = omega (arith, count_push cs C)

pub count_more : (cs : List Clause) (i : ℕ) → i < length cs → literal_count (take (i + 1) cs) ≡ literal_count (take i cs) + length (get_or cs i [])
count_more cs i h = ap literal_count (take_more cs i [] h) ∙ count_push (take i cs) (get_or cs i [])

-- ---- entries of a list with one more, or with one set
active_below : (active : List Bool) (i : ℕ) → IsActive active i → i < length active
active_below active i h = elim (cases_lt i (length active)) [
  | inl l ↦ l
  | inr p ↦ absurd (true≢false (sym h ∙ get_or_past active i false p))
]

pub active_read : (active : List Bool) (i : ℕ) (r b : Bool) → i < length active → r ≡ get_or active i r → r ≡ b → get_or active i false ≡ b
active_read active i r b l e s = sym (get_or_read active i r l e false) ∙ s

active_push : (active : List Bool) (i : ℕ) → IsActive (active ++ true ∷ []) i → IsActive active i ⊎ (i ≡ length active)
active_push active i h = elim (cases_lt i (length active)) [
  | inl l ↦ inl (sym (get_or_append_left active (true ∷ []) false i l) ∙ h)
  | inr p ↦ inr (let b : i < length (active ++ true ∷ []) = active_below (active ++ true ∷ []) i h in omega (arith, length-append active (true ∷ [])))
]

clause_before : (cs : List Clause) (C : Clause) (i : ℕ) → i < length cs → clause_at (cs ++ C ∷ []) i ≡ clause_at cs i
clause_before cs C i h = get_or_append_left cs (C ∷ []) [] i h

clause_last : (cs : List Clause) (C : Clause) (i : ℕ) → i ≡ length cs → clause_at (cs ++ C ∷ []) i ≡ C
clause_last cs C i e = get_or_at cs C [] [] i (sym e)

pub list_here : (lists : List (List ℕ)) (l k : Literal) (xs : List ℕ) → index_of l < length lists → k ≡ l → list_at (set lists (index_of l) xs) k ≡ xs
list_here lists l k xs h e = ap (λ x. list_at (set lists (index_of l) xs) x) e ∙ get_or-set_same lists (index_of l) xs [] h

pub list_other : (lists : List (List ℕ)) (l k : Literal) (xs : List ℕ) → k ≢ l → list_at (set lists (index_of l) xs) k ≡ list_at lists k
list_other lists l k xs d = get_or-set_other lists (index_of l) (index_of k) xs [] (index_apart k l d)

pub none_gone : (vars v : ℕ) → IsEliminated (replicate (vars + 1) false) v → ⊥
none_gone vars v e = elim (cases_lt v (vars + 1)) [
  | inl l ↦ true≢false (sym e ∙ get_or-replicate (vars + 1) v false false l)
  | inr p ↦ true≢false (sym e ∙ get_or_past (replicate (vars + 1) false) v false (let p2 : vars + 1 ≤ v = p in omega (arith, length-replicate (vars + 1) false)))
]

pub held_all : (cs : List Clause) (active : List Bool) (occurs : List (List ℕ)) (l : Literal) → AreListed cs active occurs
    → All (λ i. (i < length cs) × Contains (clause_at cs i) l) (list_at occurs l)
held_all cs active occurs l h =
    All-weaker (Contains (list_at occurs l)) (λ i. (i < length cs) × Contains (clause_at cs i) l) (h.held l) (list_at occurs l) (All-contains_itself (list_at occurs l))

pub held_below : (cs : List Clause) (active : List Bool) (occurs : List (List ℕ)) (l : Literal) → length active ≡ length cs → AreListed cs active occurs
    → All (λ i. i < length active) (list_at occurs l)
held_below cs active occurs l long h =
    All-weaker (Contains (list_at occurs l)) (λ i. i < length active) (λ i m. let p = h.held l i m in let b = p.0 in omega arith) (list_at occurs l)
    (All-contains_itself (list_at occurs l))

-- ---- lists that vectors hold
pub place_of : (vars : ℕ) (vs : List (Vec ℕ)) (l : Literal) → length (lists_in vs) ≡ 2 * vars + 2 → IsWithin vars l → index_of l < length vs
place_of vars vs l long w = omega (arith, index_below vars l w, length-map vs (λ (v : Vec ℕ). v.items))

pub read_list : (vs : List (Vec ℕ)) (l : Literal) (k : ℕ) (v : Vec ℕ) (xs : List ℕ) → k ≡ index_of l → k < length vs → v ≡ get_or vs k v → xs ≡ v.items
    → xs ≡ list_at (lists_in vs) l
read_list vs l k v xs e b r s =
    s ∙ ap (λ (w : Vec ℕ). w.items) r ∙ sym (get_or-map (λ (w : Vec ℕ). w.items) vs k v [] b) ∙ ap (λ n. get_or (lists_in vs) n []) e

pub read_within : (vars : ℕ) (vs : List (Vec ℕ)) (l : Literal) (k : ℕ) (v : Vec ℕ) (xs : List ℕ) → length (lists_in vs) ≡ 2 * vars + 2 → IsWithin vars l
    → k ≡ index_of l → v ≡ get_or vs k v → xs ≡ v.items → xs ≡ list_at (lists_in vs) l
read_within vars vs l k v xs long w e r s = read_list vs l k v xs e (let b = place_of vars vs l long w in omega arith) r s

pub written_list : (vs : List (Vec ℕ)) (l : Literal) (k : ℕ) (v : Vec ℕ) → k ≡ index_of l → lists_in (set vs k v) ≡ set (lists_in vs) (index_of l) v.items
written_list vs l k v e = map-set (λ (w : Vec ℕ). w.items) vs k v ∙ ap (λ n. set (lists_in vs) n v.items) e

-- ---- lists with a clause more
pub lists_with_none : (lists : List (List ℕ)) (i : ℕ) → AreListsWith lists lists [] i
lists_with_none lists i = record { lists = refl; kept = λ l j h. h; here = λ l h. absurd (Contains-nil l h); only = λ l j h. inl h }

pub lists_with_more : (old lists : List (List ℕ)) (C : Clause) (x : Literal) (i : ℕ) → index_of x < length lists → AreListsWith old lists C i
    → AreListsWith old (set lists (index_of x) (list_at lists x ++ i ∷ [])) (C ++ x ∷ []) i
lists_with_more old lists C x i within h =
    let xs = list_at lists x ++ i ∷ [] in
    let new = set lists (index_of x) xs in
    record {
      lists = length-set lists (index_of x) xs ∙ h.lists;
      kept = λ l j m. elim (same_or_not l x) [
        | inl e ↦ subst (λ ys. Contains ys j) (sym (list_here lists x l xs within e))
            (Contains-append_left (list_at lists x) (i ∷ []) j (subst (λ k. Contains (list_at lists k) j) e (h.kept l j m)))
        | inr d ↦ subst (λ ys. Contains ys j) (sym (list_other lists x l xs d)) (h.kept l j m)
      ];
      here = λ l m. elim (same_or_not l x) [
        | inl e ↦ subst (λ ys. Contains ys i) (sym (list_here lists x l xs within e)) (Contains-push (list_at lists x) i)
        | inr d ↦ subst (λ ys. Contains ys i) (sym (list_other lists x l xs d)) (h.here l (in_front l d (Contains-push_cases C x l m)))
      ];
      only = λ l j m. elim (same_or_not l x) [
        | inl e ↦ at_same l j e (Contains-push_cases (list_at lists x) i j (subst (λ ys. Contains ys j) (list_here lists x l xs within e) m))
        | inr d ↦ before l j (h.only l j (subst (λ ys. Contains ys j) (list_other lists x l xs d) m))
      ];
    }
  where
    in_front : (l : Literal) → l ≢ x → Contains C l ⊎ (x ≡ l) → Contains C l
    in_front l d (inl m) = m
    in_front l d (inr e) = absurd (d (sym e))

    before : (l : Literal) (j : ℕ) → Contains (list_at old l) j ⊎ ((j ≡ i) × Contains C l) → Contains (list_at old l) j ⊎ ((j ≡ i) × Contains (C ++ x ∷ []) l)
    before l j (inl m) = inl m
    before l j (inr p) = inr (p.0, Contains-append_left C (x ∷ []) l p.1)

    at_same : (l : Literal) (j : ℕ) → l ≡ x → Contains (list_at lists x) j ⊎ (i ≡ j) → Contains (list_at old l) j ⊎ ((j ≡ i) × Contains (C ++ x ∷ []) l)
    at_same l j e (inl m) = before l j (h.only l j (subst (λ k. Contains (list_at lists k) j) (sym e) m))
    at_same l j e (inr s) = inr (sym s, subst (λ k. Contains (C ++ x ∷ []) k) (sym e) (Contains-push C x))

-- one vector more has the index
pub lists_with_vector : (old : List (List ℕ)) (vs : List (Vec ℕ)) (v w : Vec ℕ) (C : Clause) (x : Literal) (n k i : ℕ) → n < length C → x ≡ get_or C n x
    → k ≡ index_of x → k < length vs → v ≡ get_or vs k v → w.items ≡ v.items ++ i ∷ [] → AreListsWith old (lists_in vs) (take n C) i
    → AreListsWith old (lists_in (set vs k w)) (take (n + 1) C) i
lists_with_vector old vs v w C x n k i below r e b read pushed h =
    let front : take (n + 1) C ≡ take n C ++ x ∷ [] = take_more C n x below ∙ ap (λ y. take n C ++ y ∷ []) (sym r) in
    let lists : lists_in (set vs k w) ≡ set (lists_in vs) (index_of x) (list_at (lists_in vs) x ++ i ∷ []) =
    written_list vs x k w e ∙ ap (λ ys. set (lists_in vs) (index_of x) ys) (pushed ∙ ap (λ ys. ys ++ i ∷ []) (read_list vs x k v v.items e b read refl)) in
    subst (λ D. AreListsWith old (lists_in (set vs k w)) D i) (sym front)
    (subst (λ ls. AreListsWith old ls (take n C ++ x ∷ []) i) (sym lists)
    (lists_with_more old (lists_in vs) (take n C) x i (omega (arith, length-map vs (λ (u : Vec ℕ). u.items))) h))

pub listed_push : (cs : List Clause) (C : Clause) (active : List Bool) (old new : List (List ℕ)) → length active ≡ length cs → AreListed cs active old
    → AreListsWith old new C (length cs) → AreListed (cs ++ C ∷ []) (active ++ true ∷ []) new
listed_push cs C active old new long h w = record {
  listed = λ i l a m. at_active i l m (active_push active i a);
  held = λ l i m. at_held l i (w.only l i m);
}
  where
    at_active : (i : ℕ) (l : Literal) → Contains (clause_at (cs ++ C ∷ []) i) l → IsActive active i ⊎ (i ≡ length active) → Contains (list_at new l) i
    at_active i l m (inl a) =
        let below : i < length cs = let b = active_below active i a in omega arith in
        w.kept l i (h.listed i l a (subst (λ D. Contains D l) (clause_before cs C i below) m))
    at_active i l m (inr e) =
        subst (λ j. Contains (list_at new l) j) (sym (e ∙ long)) (w.here l (subst (λ D. Contains D l) (clause_last cs C i (e ∙ long)) m))

    at_held : (l : Literal) (i : ℕ) → Contains (list_at old l) i ⊎ ((i ≡ length cs) × Contains C l)
        → (i < length (cs ++ C ∷ [])) × Contains (clause_at (cs ++ C ∷ []) i) l
    at_held l i (inl m) =
        let p = h.held l i m in
        let below : i < length cs = p.0 in
        (omega (arith, length-append cs (C ∷ [])), subst (λ D. Contains D l) (sym (clause_before cs C i below)) p.1)
    at_held l i (inr p) =
        let e : i ≡ length cs = p.0 in
        (omega (arith, length-append cs (C ∷ [])), subst (λ D. Contains D l) (sym (clause_last cs C i e)) p.1)

-- ---- the lists of a formula
empty_at : (vs : List (Vec ℕ)) (k : ℕ) → All (λ v. v.items ≡ []) vs → get_or (lists_in vs) k [] ≡ []
empty_at [] k h = refl
empty_at (v ∷ vs) zero h = All-head (λ (v : Vec ℕ). v.items ≡ []) v vs h
empty_at (v ∷ vs) (suc k) h = empty_at vs k (All-tail (λ (v : Vec ℕ). v.items ≡ []) v vs h)

pub list_of_none : (vars : ℕ) (vs : List (Vec ℕ)) → length vs ≡ 2 * vars + 2 → All (λ v. v.items ≡ []) vs → IsListOf (record { vars = vars; clauses = [] }) (lists_in vs)
list_of_none vars vs long h = record {
  lists = length-map vs (λ v. v.items) ∙ long;
  are_listed = record {
    listed = λ i l a m. absurd (Contains-nil l m);
    held = λ l i m. absurd (Contains-nil i (subst (λ ys. Contains ys i) (empty_at vs (index_of l) h) m));
  };
  some = Contains-nil [];
}

pub list_of_more : (F : Cnf) (cs : List Clause) (C : Clause) (old new : List (List ℕ)) → IsListOf (record F { clauses = cs }) old → C ≢ []
    → AreListsWith old new C (length cs) → IsListOf (record F { clauses = cs ++ C ∷ [] }) new
list_of_more F cs C old new h some w = record {
  lists = w.lists ∙ h.lists;
  are_listed = subst (λ active. AreListed (cs ++ C ∷ []) active new) (replicate_more (length cs) true ∙ ap (λ n. replicate n true) (sym (length_push cs C)))
      (listed_push cs C (replicate (length cs) true) old new (length-replicate (length cs) true) h.are_listed w);
  some = λ m. elim (Contains-push_cases cs C [] m) [ inl e ↦ h.some e | inr e ↦ some e ];
}

pub some_by : (C : Clause) (r : Bool) → r ≡ eqb (length C) 0 → r ≡ false → C ≢ []
some_by C r e f = λ s. eqb-false (length C) 0 (sym e ∙ f) (ap length s)

pub list_of_step : (F : Cnf) (i : ℕ) (C : Clause) (old new : List (List ℕ)) → i < length F.clauses → C ≡ clause_at F.clauses i → C ≢ []
    → IsListOf (record F { clauses = take i F.clauses }) old → AreListsWith old new C i → IsListOf (record F { clauses = take (i + 1) F.clauses }) new
list_of_step F i C old new below e some h w =
    let front : take (i + 1) F.clauses ≡ take i F.clauses ++ C ∷ [] = take_more F.clauses i [] below ∙ ap (λ D. take i F.clauses ++ D ∷ []) (sym e) in
    let long : length (take i F.clauses) ≡ i = length-take-le i F.clauses (omega arith) in
    subst (λ cs. IsListOf (record F { clauses = cs }) new) (sym front)
    (list_of_more F (take i F.clauses) C old new h some (subst (AreListsWith old new C) (sym long) w))

-- the store of these lists
pub begun : (F : Cnf) (lists : List (List ℕ)) → IsBase F → IsListOf F lists
    → AreIndexed F (literal_count F.clauses) (replicate (length F.clauses) true) lists (replicate (F.vars + 1) false)
begun F lists base h = record {
  stored = record {
    base = base;
    count = refl;
    truths = length-replicate (length F.clauses) true;
    variables = length-replicate (F.vars + 1) false;
    lists = h.lists;
    are_listed = h.are_listed;
    some = λ i a e. h.some (let b : i < length F.clauses = below i a in subst (Contains F.clauses) e (Contains-get_or F.clauses i [] b));
    covered = λ i b f. absurd (true≢false (sym (get_or-replicate (length F.clauses) i true false b) ∙ f));
  };
  free = λ i a e. none_gone F.vars (var_of e.0) e.2;
}
  where
    below : (i : ℕ) → IsActive (replicate (length F.clauses) true) i → i < length F.clauses
    below i a = let b = active_below (replicate (length F.clauses) true) i a in omega (arith, length-replicate (length F.clauses) true)

-- ---- a clause more
pub added : (all : Cnf) (count : ℕ) (active : List Bool) (old new : List (List ℕ)) (gone : List Bool) (C : Clause)
    → AreIndexed all count active old gone → AreListsWith old new C (length all.clauses) → C ≢ [] → ¬ (HasEliminated gone C) → All (IsWithin all.vars) C
    → length all.clauses < 200000190 → literal_count all.clauses + length C ≤ 1100000446
    → AreIndexed (record all { clauses = all.clauses ++ C ∷ [] }) (count + length C) (active ++ true ∷ []) new gone
added all count active old new gone C h w some free within room literals = record {
  stored = record {
    base = base_push all C h.stored.base room literals within;
    count = ap (λ n. n + length C) h.stored.count ∙ sym (count_push all.clauses C);
    truths = omega (arith, h.stored.truths, length-append active (true ∷ []), length-append all.clauses (C ∷ []));
    variables = h.stored.variables;
    lists = w.lists ∙ h.stored.lists;
    are_listed = listed_push all.clauses C active old new h.stored.truths h.stored.are_listed w;
    some = λ i a e. at_some i (active_push active i a) e;
    covered = at_covered;
  };
  free = λ i a. at_free i (active_push active i a);
}
  where
    below : (i : ℕ) → IsActive active i → i < length all.clauses
    below i a = let b = active_below active i a in omega (arith, h.stored.truths)

    at_some : (i : ℕ) → IsActive active i ⊎ (i ≡ length active) → clause_at (all.clauses ++ C ∷ []) i ≡ [] → ⊥
    at_some i (inl a) e = h.stored.some i a (sym (clause_before all.clauses C i (below i a)) ∙ e)
    at_some i (inr s) e = some (sym (clause_last all.clauses C i (s ∙ h.stored.truths)) ∙ e)

    at_free : (i : ℕ) → IsActive active i ⊎ (i ≡ length active) → ¬ (HasEliminated gone (clause_at (all.clauses ++ C ∷ []) i))
    at_free i (inl a) = λ e. h.free i a (subst (HasEliminated gone) (clause_before all.clauses C i (below i a)) e)
    at_free i (inr s) = λ e. free (subst (HasEliminated gone) (clause_last all.clauses C i (s ∙ h.stored.truths)) e)

    still : (D : Clause) → HasEliminated gone D ⊎ HasActiveSubset all.clauses active D
        → HasEliminated gone D ⊎ HasActiveSubset (all.clauses ++ C ∷ []) (active ++ true ∷ []) D
    still D (inl e) = inl e
    still D (inr s) =
        let b : s.0 < length all.clauses = s.1 in
        let b2 : s.0 < length active = omega (arith, h.stored.truths) in
        inr (
          s.0,
          omega (arith, length-append all.clauses (C ∷ [])),
          get_or_append_left active (true ∷ []) false s.0 b2 ∙ s.2,
          subst (λ E. IsSubset E D) (sym (clause_before all.clauses C s.0 b)) s.3,
        )

    at_covered : (i : ℕ) → i < length (all.clauses ++ C ∷ []) → get_or (active ++ true ∷ []) i false ≡ false
        → HasEliminated gone (clause_at (all.clauses ++ C ∷ []) i) ⊎ HasActiveSubset (all.clauses ++ C ∷ []) (active ++ true ∷ []) (clause_at (all.clauses ++ C ∷ []) i)
    at_covered i l f = elim (cases_lt i (length all.clauses)) [
      | inl b ↦
          let b2 : i < length active = omega (arith, h.stored.truths) in
          subst (λ D. HasEliminated gone D ⊎ HasActiveSubset (all.clauses ++ C ∷ []) (active ++ true ∷ []) D) (sym (clause_before all.clauses C i b))
          (still (clause_at all.clauses i) (h.stored.covered i b (sym (get_or_append_left active (true ∷ []) false i b2) ∙ f)))
      | inr b ↦
          let e : length active ≡ i = omega (arith, h.stored.truths, length-append all.clauses (C ∷ [])) in
          absurd (true≢false (sym (get_or_at active true [] false i e) ∙ f))
    ]

-- ---- what a clause is a subset of
-- the variable of l is not eliminated, and no active clause in the list of l is a subset of C
abbrev pub IsCleared : Cnf → List Bool → List (List ℕ) → List Bool → Clause → Literal → Type 0
IsCleared all active lists gone C l =
    (IsEliminated gone (var_of l) → ⊥) × ((i : ℕ) → Contains (list_at lists l) i → IsActive active i → IsSubset (clause_at all.clauses i) C → ⊥)

pub new_by : (all : Cnf) (count : ℕ) (active : List Bool) (lists : List (List ℕ)) (gone : List Bool) (C : Clause) → AreIndexed all count active lists gone
    → All (IsCleared all active lists gone C) C → ¬ (HasEliminated gone C) × IsNew (live_in (map_of all)) C
new_by all count active lists gone C h cleared = (whole, λ n D live s. at_live n D live s)
  where
    at : (l : Literal) → Contains C l → IsCleared all active lists gone C l
    at l m = All-contains (IsCleared all active lists gone C) C l cleared m

    whole : ¬ (HasEliminated gone C)
    whole = λ e. (at e.0 e.1).0 e.2

    no_active : (i : ℕ) → IsActive active i → IsSubset (clause_at all.clauses i) C → ⊥
    no_active i a s = by (clause_at all.clauses i) refl
      where
        by : (D : Clause) → clause_at all.clauses i ≡ D → ⊥
        by [] e = h.stored.some i a e
        by (l ∷ D) e =
            let m : Contains (clause_at all.clauses i) l = subst (λ E. Contains E l) (sym e) (Contains-head l D) in
            (at l (s l m)).1 i (h.stored.are_listed.listed i l a m) a s

    at_index : (i : ℕ) → i < length all.clauses → IsSubset (clause_at all.clauses i) C → ⊥
    at_index i b s = elim (cases_Bool (get_or active i false)) [
      | inl a ↦ no_active i a s
      | inr f ↦ elim (h.stored.covered i b f) [
        | inl e ↦ whole (with_eliminated gone (clause_at all.clauses i) C s e)
        | inr t ↦ no_active t.0 t.2 (λ l m. s l (t.3 l m))
      ]
    ]

    at_live : (n : ℕ) (D : Clause) → live_in (map_of all) n D → IsSubset D C → ⊥
    at_live zero D live s = let b = numbered_between all.clauses zero D live in let c = b.0 in omega arith
    at_live (suc i) D live s =
        let b = numbered_between all.clauses (suc i) D live in
        let c = b.1 in
        let below : i < length all.clauses = omega arith in
        let n : i + 1 ≡ suc i = omega arith in
        let e : D ≡ clause_at all.clauses i = some_is D (clause_at all.clauses i) (sym live ∙ subst (λ k. live_in (map_of all) k (clause_at all.clauses i)) n (numbered_at all.clauses i [] below)) in
        at_index i below (subst (λ E. IsSubset E C) e s)

pub old_by : (all : Cnf) (active : List Bool) (C : Clause) → HasActiveSubset all.clauses active C → (D : Clause) × Contains all.clauses D × IsSubset D C
old_by all active C h = (clause_at all.clauses h.0, Contains-get_or all.clauses h.0 [] h.1, h.3)

-- ---- a clause less
pub subsumed : (all : Cnf) (count : ℕ) (active : List Bool) (lists : List (List ℕ)) (gone : List Bool) (i by : ℕ) → AreIndexed all count active lists gone
    → i ≢ by → by < length all.clauses → IsActive active by → IsSubset (clause_at all.clauses by) (clause_at all.clauses i)
    → AreIndexed all count (set active i false) lists gone
subsumed all count active lists gone i by h apart within a s = record {
  stored = record {
    base = h.stored.base;
    count = h.stored.count;
    truths = length-set active i false ∙ h.stored.truths;
    variables = h.stored.variables;
    lists = h.stored.lists;
    are_listed = record { listed = λ j l b m. h.stored.are_listed.listed j l (was j b) m; held = h.stored.are_listed.held };
    some = λ j b e. h.stored.some j (was j b) e;
    covered = at_covered;
  };
  free = λ j b. h.free j (was j b);
}
  where
    was : (j : ℕ) → IsActive (set active i false) j → IsActive active j
    was j b = elim (cases_eq j i) [
      | inl e ↦
          let l : i < length active = let m = active_below (set active i false) j b in omega (arith, length-set active i false) in
          absurd (true≢false (sym b ∙ ap (λ k. get_or (set active i false) k false) e ∙ get_or-set_same active i false false l))
      | inr d ↦ sym (get_or-set_other active i j false false d) ∙ b
    ]

    by_is : IsActive (set active i false) by
    by_is = get_or-set_other active i by false false (λ e. apart (sym e)) ∙ a

    still : (D : Clause) → HasEliminated gone D ⊎ HasActiveSubset all.clauses active D → HasEliminated gone D ⊎ HasActiveSubset all.clauses (set active i false) D
    still D (inl e) = inl e
    still D (inr t) = elim (cases_eq t.0 i) [
      | inl e ↦ inr (by, within, by_is, λ l m. t.3 l (subst (λ k. Contains (clause_at all.clauses k) l) (sym e) (s l m)))
      | inr d ↦ inr (t.0, t.1, get_or-set_other active i t.0 false false d ∙ t.2, t.3)
    ]

    at_covered : (j : ℕ) → j < length all.clauses → get_or (set active i false) j false ≡ false
        → HasEliminated gone (clause_at all.clauses j) ⊎ HasActiveSubset all.clauses (set active i false) (clause_at all.clauses j)
    at_covered j l f = elim (cases_eq j i) [
      | inl e ↦ inr (by, within, by_is, λ k m. subst (λ n. Contains (clause_at all.clauses n) k) (sym e) (s k m))
      | inr d ↦ still (clause_at all.clauses j) (h.stored.covered j l (sym (get_or-set_other active i j false false d) ∙ f))
    ]

-- ---- a list without inactive clauses
pub at_rest : (xs ys : List ℕ) (i d : ℕ) → drop i ys ≡ drop i xs → get_or ys i d ≡ get_or xs i d
at_rest xs ys i d h =
    let e : i + 0 ≡ i = omega arith in
    sym (get_or-drop i ys 0 d ∙ ap (λ n. get_or ys n d) e) ∙ ap (λ zs. get_or zs 0 d) h ∙ get_or-drop i xs 0 d ∙ ap (λ n. get_or xs n d) e

filtered : (p : ℕ → Bool) (xs : List ℕ) (y : ℕ) → Contains xs y → p y ≡ true → Contains (filter p xs) y
filtered p [] y h e = absurd (Contains-nil y h)
filtered p (x ∷ xs) y h e = at (p x) refl (Contains-cons_cases x y xs h) (λ r. filtered p xs y r e)
  where
    at : (b : Bool) → p x ≡ b → (x ≡ y) ⊎ Contains xs y → (Contains xs y → Contains (filter p xs) y) → Contains (cond b (x ∷ filter p xs) (filter p xs)) y
    at true t (inl s) rest = subst (λ z. Contains (x ∷ filter p xs) z) s (Contains-head x (filter p xs))
    at true t (inr r) rest = Contains-cons x y (filter p xs) (rest r)
    at false f (inl s) rest = absurd (true≢false (sym e ∙ ap p (sym s) ∙ f))
    at false f (inr r) rest = rest r

pub swept : (all : Cnf) (count : ℕ) (active : List Bool) (lists : List (List ℕ)) (gone : List Bool) (x : Literal) (xs : List ℕ)
    → AreIndexed all count active lists gone → index_of x < length lists → xs ≡ filter (λ i. get_or active i false) (list_at lists x)
    → AreIndexed all count active (set lists (index_of x) xs) gone
swept all count active lists gone x xs h within is = record {
  stored = record {
    base = h.stored.base;
    count = h.stored.count;
    truths = h.stored.truths;
    variables = h.stored.variables;
    lists = length-set lists (index_of x) xs ∙ h.stored.lists;
    are_listed = record {
      listed = λ i l a m. elim (same_or_not l x) [
        | inl e ↦ subst (λ ys. Contains ys i) (sym (list_here lists x l xs within e ∙ is))
            (filtered (λ i. get_or active i false) (list_at lists x) i (subst (λ k. Contains (list_at lists k) i) e (h.stored.are_listed.listed i l a m)) a)
        | inr d ↦ subst (λ ys. Contains ys i) (sym (list_other lists x l xs d)) (h.stored.are_listed.listed i l a m)
      ];
      held = λ l i m. h.stored.are_listed.held l i (elim (same_or_not l x) [
        | inl e ↦ subst (λ k. Contains (list_at lists k) i) (sym e)
            (Contains-filter (λ i. get_or active i false) (list_at lists x) i (subst (λ ys. Contains ys i) (list_here lists x l xs within e ∙ is) m)).0
        | inr d ↦ subst (λ ys. Contains ys i) (list_other lists x l xs d) m
      ]);
    };
    some = h.stored.some;
    covered = h.stored.covered;
  };
  free = h.free;
}

-- ---- clauses of a list less
pub retired_none : (active : List Bool) → AreRetired active active []
retired_none active = record { truths = refl; out = All-nil (λ i. get_or active i false ≡ false); others = λ i n. refl; fewer = λ i a. a }

still_out : (active : List Bool) (i j : ℕ) → i < length active → get_or active j false ≡ false → get_or (set active i false) j false ≡ false
still_out active i j l f = elim (cases_eq j i) [
  | inl e ↦ ap (λ k. get_or (set active i false) k false) e ∙ get_or-set_same active i false false l
  | inr d ↦ get_or-set_other active i j false false d ∙ f
]

pub retired_more : (old active : List Bool) (indices : List ℕ) (i : ℕ) → i < length active → AreRetired old active indices
    → AreRetired old (set active i false) (indices ++ i ∷ [])
retired_more old active indices i l h = record {
  truths = length-set active i false ∙ h.truths;
  out = All-push (λ j. get_or (set active i false) j false ≡ false) indices i
      (All-weaker (λ j. get_or active j false ≡ false) (λ j. get_or (set active i false) j false ≡ false) (λ j f. still_out active i j l f) indices h.out)
      (get_or-set_same active i false false l);
  others = λ j n.
      get_or-set_other active i j false false (λ e. n (subst (Contains (indices ++ i ∷ [])) (sym e) (Contains-push indices i)))
      ∙ h.others j (λ m. n (Contains-append_left indices (i ∷ []) j m));
  fewer = λ j a. elim (cases_Bool (get_or active j false)) [
    | inl t ↦ h.fewer j t
    | inr f ↦ absurd (true≢false (sym a ∙ still_out active i j l f))
  ];
}

of_var : (l : Literal) (v : ℕ) → var_of l ≡ v → (l ≡ Pos v) ⊎ (l ≡ Neg v)
of_var (Pos w) v e = inl (ap Pos e)
of_var (Neg w) v e = inr (ap Neg e)

record Retires (all : Cnf) (count : ℕ) (active mid new : List Bool) (lists : List (List ℕ)) (gone : List Bool) (v : ℕ) : Type 0 where
  was : AreIndexed all count active lists gone
  within : v ≤ all.vars
  first : AreRetired active mid (list_at lists (Pos v))
  second : AreRetired mid new (list_at lists (Neg v))

module _ (all : Cnf) (count : ℕ) (active mid new : List Bool) (lists : List (List ℕ)) (gone : List Bool) (v : ℕ) where
  was_active : Retires all count active mid new lists gone v → (i : ℕ) → IsActive new i → IsActive active i
  was_active r i a = r.first.fewer i (r.second.fewer i a)

  is_gone : Retires all count active mid new lists gone v → IsEliminated (set gone v true) v
  is_gone r = get_or-set_same gone v true false (let w = r.within in let n = r.was.stored.variables in omega arith)

  grows : Retires all count active mid new lists gone v → (w : ℕ) → IsEliminated gone w → IsEliminated (set gone v true) w
  grows r w e = elim (cases_eq w v) [
    | inl s ↦ subst (IsEliminated (set gone v true)) (sym s) (is_gone r)
    | inr d ↦ get_or-set_other gone v w true false d ∙ e
  ]

  -- a clause without the variable is as it was
  untouched : Retires all count active mid new lists gone v → (i : ℕ) → ((l : Literal) → Contains (clause_at all.clauses i) l → var_of l ≢ v)
      → get_or new i false ≡ get_or active i false
  untouched r i n =
      r.second.others i (λ m. n (Neg v) (r.was.stored.are_listed.held (Neg v) i m).1 refl)
      ∙ r.first.others i (λ m. n (Pos v) (r.was.stored.are_listed.held (Pos v) i m).1 refl)

  -- a clause that is no longer active has the variable
  touched : Retires all count active mid new lists gone v → (i : ℕ) → IsActive active i → get_or new i false ≡ false → HasEliminated (set gone v true) (clause_at all.clauses i)
  touched r i a f = elim (cases_Bool (has (clause_at all.clauses i) (Pos v))) [
    | inl p ↦ (Pos v, has-Contains (clause_at all.clauses i) (Pos v) p, is_gone r)
    | inr p ↦ elim (cases_Bool (has (clause_at all.clauses i) (Neg v))) [
      | inl n ↦ (Neg v, has-Contains (clause_at all.clauses i) (Neg v) n, is_gone r)
      | inr n ↦ absurd (true≢false (sym (untouched r i (λ l m e. apart l m p n (of_var l v e)) ∙ a) ∙ f))
    ]
  ]
    where
      apart : (l : Literal) → Contains (clause_at all.clauses i) l → has (clause_at all.clauses i) (Pos v) ≡ false → has (clause_at all.clauses i) (Neg v) ≡ false
          → (l ≡ Pos v) ⊎ (l ≡ Neg v) → ⊥
      apart l m p n (inl e) = both_ways (has (clause_at all.clauses i) (Pos v)) p (Contains-has (clause_at all.clauses i) (Pos v) (subst (Contains (clause_at all.clauses i)) e m))
      apart l m p n (inr e) = both_ways (has (clause_at all.clauses i) (Neg v)) n (Contains-has (clause_at all.clauses i) (Neg v) (subst (Contains (clause_at all.clauses i)) e m))

  -- no active clause has the variable
  without : Retires all count active mid new lists gone v → (i : ℕ) (l : Literal) → IsActive new i → Contains (clause_at all.clauses i) l → var_of l ≢ v
  without r i l a m e = by (of_var l v e)
    where
      stands : (k : Literal) → l ≡ k → Contains (list_at lists k) i
      stands k s = r.was.stored.are_listed.listed i k (was_active r i a) (subst (Contains (clause_at all.clauses i)) s m)

      by : (l ≡ Pos v) ⊎ (l ≡ Neg v) → ⊥
      by (inl s) = true≢false (sym (r.second.fewer i a) ∙ All-contains (λ j. get_or mid j false ≡ false) (list_at lists (Pos v)) i r.first.out (stands (Pos v) s))
      by (inr s) = true≢false (sym a ∙ All-contains (λ j. get_or new j false ≡ false) (list_at lists (Neg v)) i r.second.out (stands (Neg v) s))

  covers : Retires all count active mid new lists gone v → (C : Clause) → HasEliminated gone C ⊎ HasActiveSubset all.clauses active C
      → HasEliminated (set gone v true) C ⊎ HasActiveSubset all.clauses new C
  covers r C (inl e) = inl (e.0, e.1, grows r (var_of e.0) e.2)
  covers r C (inr s) = elim (cases_Bool (get_or new s.0 false)) [
    | inl a ↦ inr (s.0, s.1, a, s.3)
    | inr f ↦ inl (with_eliminated (set gone v true) (clause_at all.clauses s.0) C s.3 (touched r s.0 s.2 f))
  ]

  still_indexed : Retires all count active mid new lists gone v → AreIndexed all count new lists (set gone v true)
  still_indexed r = record {
    stored = record {
      base = r.was.stored.base;
      count = r.was.stored.count;
      truths = r.second.truths ∙ r.first.truths ∙ r.was.stored.truths;
      variables = length-set gone v true ∙ r.was.stored.variables;
      lists = r.was.stored.lists;
      are_listed = record { listed = λ i l a m. r.was.stored.are_listed.listed i l (was_active r i a) m; held = r.was.stored.are_listed.held };
      some = λ i a e. r.was.stored.some i (was_active r i a) e;
      covered = λ i l f. elim (cases_Bool (get_or active i false)) [
        | inl a ↦ inl (touched r i a f)
        | inr g ↦ covers r (clause_at all.clauses i) (r.was.stored.covered i l g)
      ];
    };
    free = λ i a e. elim (cases_eq (var_of e.0) v) [
      | inl s ↦ without r i e.0 a e.1 s
      | inr d ↦ r.was.free i (was_active r i a) (e.0, e.1, sym (get_or-set_other gone v (var_of e.0) true false d) ∙ e.2)
    ];
  }

  pub eliminated : AreIndexed all count active lists gone → v ≤ all.vars → AreRetired active mid (list_at lists (Pos v)) → AreRetired mid new (list_at lists (Neg v))
      → AreIndexed all count new lists (set gone v true)
  eliminated h w a b = still_indexed (record { was = h; within = w; first = a; second = b })

  pub eliminated_active : AreIndexed all count active lists gone → v ≤ all.vars → AreRetired active mid (list_at lists (Pos v)) → AreRetired mid new (list_at lists (Neg v))
      → (i : ℕ) → IsActive new i ↔ IsActive active i × ((l : Literal) → Contains (clause_at all.clauses i) l → var_of l ≢ v)
  eliminated_active h w a b i =
      let r : Retires all count active mid new lists gone v = record { was = h; within = w; first = a; second = b } in
      (λ t. (was_active r i t, λ l m. without r i l t m), λ p. untouched r i p.1 ∙ p.0)
