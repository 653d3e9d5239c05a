-- Trees that are split by the rule.
use Rattle.std.proofs.Common.{◌≡◌, ℕ, suc, ◌*◌, ◌^◌, ◌<◌, ◌≤◌, List, [], ◌∷◌, ◌++◌, ap, arith, ⊎_elim, inl, inr, None, Some, refl, subst, Result, Ok, Err, IfOk, OnOk}
use Rattle.std.specs.List.{All}
use Rattle.std.proofs.lemmas.List.Elements.{All-append, All-cons, All-nil, All-push}
use Rattle.std.proofs.Math.Nat.{pow-suc}
use Rattle.std.proofs.lemmas.Nat.{pow_pos, pow_below}
use Rattle.std.proofs.lemmas.Bool.{cases_lt, cases_eq}
use Rattle.dimacs.specs.logic.Base.{pure_literals}
use Rattle.dimacs.specs.logic.Cnf.{Cnf, AreWithin, greatest_in}
use Rattle.dimacs.specs.logic.Literal.{Literal, Pos, Neg, IsWithin}
use Rattle.icnf.specs.Leaves.{Cube}
use Rattle.icnf.proofs.StateLemmas.{clauses_within}
use Rattle.cube_split.specs.Choice.{Choice, IsChoice}
use Rattle.cube_split.specs.ChoiceWithDefinitions.{Chooses, IsTreeWith}
use Rattle.cube_split.specs.Definitions.{Opening, pure_opening}
use Rattle.cube_split.specs.SplitTree.{IsSplitBy, IsTreeOf}
use Rattle.cube_split.proofs.ChoiceLemmas.{stands_nowhere}
use Rattle.cube_split.proofs.HeldLemmas.{plain_choice}

pub double : (k : ℕ) → 2 ^ suc k ≡ 2 * 2 ^ k
double k = omega (arith, pow-suc 2 k)

pub power_some : (k : ℕ) → 0 < 2 ^ k
power_some k = pow_pos k

-- one cube alone
one_within : (n : ℕ) (path : Cube) → All (IsWithin n) path → AreWithin n (path ∷ [])
one_within n path h = All-cons (All (IsWithin n)) path [] h (All-nil (All (IsWithin n)))

-- a choice is a variable of the clauses
choice_within : (f : Cnf) (S : List Literal) (v : ℕ) → AreWithin f.vars f.clauses → IsChoice f S v → (0 < v) × (v ≤ greatest_in f.clauses)
choice_within f S v within h =
    let closer : AreWithin (greatest_in f.clauses) f.clauses = clauses_within f.vars (greatest_in f.clauses) f.clauses (omega arith) within in
    ⊎_elim
    (λ (z : v ≡ 0). let none = stands_nowhere (greatest_in f.clauses) v f.clauses S (inl z) closer in absurd (omega (arith, h.some)))
    (λ (some : v ≡ 0 → ⊥). ⊎_elim
    (λ (a : greatest_in f.clauses < v). let none = stands_nowhere (greatest_in f.clauses) v f.clauses S (inr a) closer in absurd (omega (arith, h.some)))
    (λ (b : v ≤ greatest_in f.clauses). (omega arith, b))
    (cases_lt (greatest_in f.clauses) v))
    (cases_eq v 0)

-- no cube has a variable above the greatest that occurs in a clause
pub split_within : (f : Cnf) (units : List Literal) (levels : ℕ) (path : Cube) (cubes : List Cube) → AreWithin f.vars f.clauses → All (IsWithin (greatest_in f.clauses)) path
    → IsSplitBy (λ q v. Choice f (units ++ q) v) levels path cubes → AreWithin (greatest_in f.clauses) cubes
split_within f units _ path _ within h IsSplitBy.full = one_within (greatest_in f.clauses) path h
split_within f units _ path _ within h (IsSplitBy.whole none) = one_within (greatest_in f.clauses) path h
split_within f units _ path _ within h (IsSplitBy.split {levels = levels} {left = l} {right = r} v choice left right) =
    let here = choice_within f (units ++ path) v within choice in
    All-append (All (IsWithin (greatest_in f.clauses))) l r
    (split_within f units levels (path ++ Pos v ∷ []) l within (All-push (IsWithin (greatest_in f.clauses)) path (Pos v) h here) left)
    (split_within f units levels (path ++ Neg v ∷ []) r within (All-push (IsWithin (greatest_in f.clauses)) path (Neg v) h here) right)

-- without definitions they are the trees of the plain rule
pub plain_split : (F : Cnf) (units : List Literal) (levels : ℕ) (path : Cube) (cubes : List Cube) → IsSplitBy (Chooses F (record { units = units; pairs = [] })) levels path cubes → IsSplitBy (λ q v. Choice F (units ++ q) v) levels path cubes
plain_split F units _ path _ IsSplitBy.full = IsSplitBy.full
plain_split F units _ path _ (IsSplitBy.whole none) = IsSplitBy.whole (plain_choice F units [] path None refl none)
plain_split F units _ path _ (IsSplitBy.split {levels = levels} {left = left} {right = right} v choice one two) =
    IsSplitBy.split v (plain_choice F units [] path (Some v) refl choice) (plain_split F units levels (path ++ Pos v ∷ []) left one) (plain_split F units levels (path ++ Neg v ∷ []) right two)

pub plain_tree : (E : Type 0) (F : Cnf) (o : Opening) (depth : ℕ) (r : Result (List Cube) E) → o ≡ pure_opening F → IfOk r (IsTreeWith F o depth) → IfOk r (IsTreeOf F depth)
plain_tree E F o depth (Ok t) pure h = plain_split F (pure_literals F) depth [] t (subst (λ (q : Opening). IsTreeWith F q depth t) pure h)
plain_tree E F o depth (Err e) pure h = tt

pub plain_within : (E : Type 0) (F : Cnf) (depth : ℕ) (r : Result (List Cube) E) → AreWithin F.vars F.clauses → IfOk r (IsTreeOf F depth) → IfOk r (AreWithin (greatest_in F.clauses))
plain_within E F depth (Ok t) within h = split_within F (pure_literals F) depth [] t within (All-nil (IsWithin (greatest_in F.clauses))) h
plain_within E F depth (Err e) within h = tt

-- a fact of what an Ok leaves
pub on_ok : {A E : Type 0} (r : Result A E) (P Q : Type 0) → (P → Q) → OnOk r P → OnOk r Q
on_ok (Ok x) P Q f h = f h
on_ok (Err e) P Q f h = h

-- a tree of the greatest depth has room
pub room_for : (depth : ℕ) → depth ≤ 16 → 2 ^ depth ≤ 65536
room_for depth le = elim (cases_lt depth 16) [
  | inl less ↦ let h = pow_below depth 16 less in omega arith
  | inr over ↦ let e : depth ≡ 16 = omega arith in let f = ap (λ (n : ℕ). 2 ^ n) e in omega arith
]
