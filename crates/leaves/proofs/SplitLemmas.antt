-- Branches stay within the variables of the clauses.
use Rattle.std.proofs.Common.{◌≡◌, ◌≢◌, ◌⊎◌, ℕ, zero, suc, ◌-◌, ◌<◌, ◌≤◌, List, [], ◌∷◌, ◌++◌, length, Option, Some, None, IfSome, IfOk, Result, Ok, Err, inl, inr, sym, subst, append-nil, arith}
use Rattle.std.specs.Prelude.{slice_index_or}
use Rattle.std.specs.List.{All}
use Rattle.std.proofs.lemmas.Option.{slice_get-get_or, slice_get_past}
use Rattle.std.proofs.lemmas.List.Elements.{All-nil, All-head, All-tail}
use Rattle.dimacs.specs.logic.Base.{pure_literals}
use Rattle.dimacs.specs.logic.Cnf.{Cnf, AreWithin, greatest_in}
use Rattle.dimacs.specs.logic.Literal.{Literal, Pos, Neg, IsWithin, var_of}
use Rattle.icnf.specs.Leaves.{Cube, IsFree, branched}
use Rattle.cube_split.specs.Choice.{Choice}
use Rattle.cube_split.specs.SplitTree.{IsSplitBy}
use Rattle.cube_split.proofs.SplitLemmas.{split_within}
use Rattle.leaves.specs.Leaf.{Prints, no_leaf_text}
use Rattle.leaves.specs.LeafSplit.{PrintsBranches, PrintsSplit, PrintsSplitOf, SplitsOn}
use Rattle.leaves.specs.inner.SplitVariable.{IsFreeVariable}
use Rattle.look_ahead.proofs.GrownLemmas.{branched_within}
use Rattle.reports.specs.declared.report.Report.{Report}

-- the chosen variable is one of the clauses'
pub choice_within : (F : Cnf) (S : List Literal) (v : ℕ) → AreWithin F.vars F.clauses → Choice F S (Some v) → (0 < v) × (v ≤ greatest_in F.clauses)
choice_within F S v within choice =
    let same : S ++ [] ≡ S = append-nil S in
    let here : Choice F (S ++ []) (Some v) = subst (λ (T : List Literal). Choice F T (Some v)) (sym same) choice in
    let both : AreWithin (greatest_in F.clauses) ((Pos v ∷ []) ∷ (Neg v ∷ []) ∷ []) =
    split_within F S 1 [] ((Pos v ∷ []) ∷ (Neg v ∷ []) ∷ []) within (All-nil (IsWithin (greatest_in F.clauses))) (IsSplitBy.split {left = (Pos v ∷ []) ∷ []} {right = (Neg v ∷ []) ∷ []} v here IsSplitBy.full IsSplitBy.full) in
    All-head (IsWithin (greatest_in F.clauses)) (Pos v) [] (All-head (All (IsWithin (greatest_in F.clauses))) (Pos v ∷ []) ((Neg v ∷ []) ∷ []) both)

-- what is free of literals is free of those after a prefix
free_behind : (S q : List Literal) (v : ℕ) → IsFree (S ++ q) v → IsFree q v
free_behind [] q v h = h
free_behind (l ∷ S) q v h = free_behind S q v (All-tail (λ (k : Literal). var_of k ≢ v) l (S ++ q) h)

-- the variable on which a cube is cut is free of the cube, and is one of the clauses'
pub sound : (F : Cnf) (q : Cube) (on : Option ℕ) (v : ℕ) → AreWithin F.vars F.clauses → SplitsOn F q on v → IsFreeVariable F q v
sound F q None v within choice =
    let range = choice_within F (pure_literals F ++ q) v within choice in
    record { free = free_behind (pure_literals F) q v choice.free; some = range.0; most = range.1 }
sound F q (Some w) v within h = rw h.0 (record { free = h.1.free; some = h.1.some; most = h.1.among })

pub sound_of : (F : Cnf) (q : Cube) (on : Option ℕ) (found : Option ℕ) → AreWithin F.vars F.clauses → IfSome found (SplitsOn F q on) → IfSome found (IsFreeVariable F q)
sound_of F q on None within h = tt
sound_of F q on (Some v) within h = sound F q on v within h

pub sound_chosen : (E : Type 0) (F : Cnf) (q : Cube) (r : Result (Option ℕ) E) → AreWithin F.vars F.clauses → IfOk r (Choice F (pure_literals F ++ q))
    → IfOk r (λ found. IfSome found (IsFreeVariable F q))
sound_chosen E F q (Ok None) within h = tt
sound_chosen E F q (Ok (Some v)) within h = sound F q None v within h
sound_chosen E F q (Err e) within h = tt

-- a tree within the greatest variable of the clauses stays so if a leaf is cut
pub cut_within : (F : Cnf) (leaves : List Cube) (place v : ℕ) (q : Cube) → AreWithin (greatest_in F.clauses) leaves → IsFreeVariable F q v → AreWithin (greatest_in F.clauses) (branched place v leaves)
cut_within F leaves place v q w is = branched_within (greatest_in F.clauses) leaves place v w is.some is.most

-- the number of a leaf is one more than its place
pub split_at : (F : Cnf) (leaves : List Cube) (leaf : ℕ) (on : Option ℕ) (r : Report) → 0 < leaf → leaf ≤ length leaves
    → PrintsBranches F leaves (leaf - 1) (slice_index_or leaves (leaf - 1) []) on r → PrintsSplit F leaves leaf on r
split_at F leaves zero on r some most printed = absurd (omega (arith, some))
split_at F leaves (suc place) on r some most printed =
    let same : suc place - 1 ≡ place = omega arith in
    subst (λ (q : Option Cube). PrintsSplitOf F leaves place q on r) (sym (slice_get-get_or leaves place [] (omega (arith, most))))
    (subst (λ (i : ℕ). PrintsBranches F leaves i (slice_index_or leaves i []) on r) same printed)

-- there is no such leaf
pub no_split : (F : Cnf) (leaves : List Cube) (leaf : ℕ) (on : Option ℕ) (r : Report) → (leaf ≡ 0) ⊎ (length leaves < leaf) → Prints 1 no_leaf_text r → PrintsSplit F leaves leaf on r
no_split F leaves zero on r never printed = printed
no_split F leaves (suc place) on r never printed =
    let past : length leaves ≤ place = elim never [ inl zero_is ↦ absurd (omega (arith, zero_is)) | inr above ↦ omega (arith, above) ] in
    subst (λ (q : Option Cube). PrintsSplitOf F leaves place q on r) (sym (slice_get_past leaves place past)) printed

pub prints_of : {E : Type 0} (r : Result Report E) (status : ℕ) (text : List ℕ) → IfOk r (λ x. x.stdout.items ≡ text) → IfOk r (λ x. x.status ≡ status)
    → IfOk r (λ x. x.proof ≡ None) → IfOk r (Prints status text)
prints_of (Ok x) status text text_is status_is no_proof = record { status_is = status_is; text_is = text_is; no_proof = no_proof }
prints_of (Err fault) status text text_is status_is no_proof = tt
