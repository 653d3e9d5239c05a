-- Cubes within a formula's variables, and within those of a base.
use Rattle.std.proofs.Common.{◌≡◌, ℕ, ◌+◌, ◌<◌, ◌≤◌, Bool, true, false, List, [], ◌∷◌, Option, length, refl, sym, ap, ◌∙◌, subst, arith}
use Rattle.std.specs.Prelude.{nat_le, if◌then◌else◌}
use Rattle.std.specs.List.{All}
use Rattle.std.proofs.lemmas.Bool.{leb-true}
use Rattle.std.proofs.lemmas.List.Elements.{All-nil, All-cons, All-weaker}
use Rattle.dimacs.specs.logic.Cnf.{Cnf, IsFormula, AreWithin, greatest_in}
use Rattle.dimacs.specs.logic.Base.{pure_literals}
use Rattle.dimacs.specs.logic.Limits.{Limits}
use Rattle.dimacs.specs.logic.Literal.{Literal, Clause, IsWithin}
use Rattle.icnf.specs.Leaves.{Cube}
use Rattle.icnf.specs.Grammar.{SpellsWithin}
use Rattle.icnf.proofs.StateLemmas.{clauses_greatest}
use Rattle.cube_split.specs.ChoiceWithDefinitions.{IsTreeWith}
use Rattle.cube_split.specs.Definitions.{Opening}
use Rattle.cube_split.specs.SplitTree.{IsSplitBy}
use Rattle.cube_split.specs.Pairs.{AreDefined, AreOf, Definitions, IsBaseWith}
use Rattle.cube_split.specs.declared.pair.Pair.{Pair}
use Rattle.evidence.specs.Jobs.{IsOverBase}
use Rattle.node_main.specs.FormulaSplit.{SplitsByRule, depth_for, leaves_for}
use Rattle.node_main.specs.declared.formula_split.Split.TheVariants.{By}

within_more : (m n : ℕ) (leaves : List Cube) → m ≤ n → AreWithin m leaves → AreWithin n leaves
within_more m n leaves h w = All-weaker (All (IsWithin m)) (All (IsWithin n)) (λ q. All-weaker (IsWithin m) (IsWithin n) (λ l at. (at.0, omega (arith, at.1))) q) leaves w

-- no variable of the cubes is above the greatest of the clauses
pub within_formula : (F : Cnf) (leaves : List Cube) → IsFormula F → AreWithin (greatest_in F.clauses) leaves → AreWithin F.vars leaves
within_formula F leaves is w = within_more (greatest_in F.clauses) F.vars leaves (clauses_greatest F.vars F.clauses is.within) w

pub text_within : (L : Limits) (F G : Cnf) (text : List ℕ) (leaves : List Cube) → IsFormula F → SpellsWithin L text G leaves → G.clauses ≡ F.clauses → AreWithin F.vars leaves
text_within L F G text leaves is spells e =
    within_formula F leaves is (subst (λ (cs : List Clause). AreWithin (greatest_in cs) leaves) e (subst (λ (v : ℕ). AreWithin v leaves) spells.0.vars spells.0.within))

-- ---- a formula that is not split

one_leaf : (m : ℕ) → AreWithin m ([] ∷ [])
one_leaf m = All-cons (All (IsWithin m)) [] [] (All-nil (IsWithin m)) (All-nil (All (IsWithin m)))

-- the cubes, or the leaf that is taken for them
pub taken_within : (F : Cnf) (cubes leaves : List Cube) → leaves ≡ leaves_for F cubes → AreWithin F.vars cubes → AreWithin F.vars leaves
taken_within F cubes leaves is w = subst (AreWithin F.vars) (sym is) (by_size (nat_le F.vars 1000000))
  where
    by_size : (b : Bool) → AreWithin F.vars (if b then cubes else [] ∷ [])
    by_size true = w
    by_size false = one_leaf F.vars

pub taken_narrow : (F : Cnf) (cubes leaves : List Cube) → leaves ≡ leaves_for F cubes → 1000000 < F.vars → All (All (IsWithin 2000000)) leaves
taken_narrow F cubes leaves is above = subst (All (All (IsWithin 2000000))) (sym is) (by_size (nat_le F.vars 1000000) refl)
  where
    by_size : (b : Bool) → nat_le F.vars 1000000 ≡ b → All (All (IsWithin 2000000)) (if b then cubes else [] ∷ [])
    by_size true small = absurd (let at : F.vars ≤ 1000000 = leb-true F.vars 1000000 small in omega (arith, at, above))
    by_size false large = one_leaf 2000000

-- a tree of depth 0 is a leaf
unsplit : (Rule : Cube → Option ℕ → Type 0) (levels : ℕ) (path : Cube) (leaves : List Cube) → levels ≡ 0 → IsSplitBy Rule levels path leaves → leaves ≡ path ∷ []
unsplit Rule _ path _ none IsSplitBy.full = refl
unsplit Rule _ path _ none (IsSplitBy.whole rule) = refl
unsplit Rule _ path _ none (IsSplitBy.split {levels = levels} {left = left} {right = right} v rule one two) = absurd cc

no_depth : (F : Cnf) (depth : ℕ) → 1000000 < F.vars → depth_for F depth ≡ 0
no_depth F depth above = by_size (nat_le F.vars 1000000) refl
  where
    by_size : (b : Bool) → nat_le F.vars 1000000 ≡ b → (if b then depth else 0) ≡ 0
    by_size true small = absurd (let at : F.vars ≤ 1000000 = leb-true F.vars 1000000 small in omega (arith, at, above))
    by_size false large = refl

pub tree_narrow : (F G : Cnf) (opening : Opening) (depth levels : ℕ) (leaves : List Cube) → levels ≡ depth_for F depth → IsTreeWith G opening levels leaves
    → 1000000 < F.vars → All (All (IsWithin 2000000)) leaves
tree_narrow F G opening depth levels leaves is tree above =
    let none : levels ≡ 0 = is ∙ no_depth F depth above in
    subst (All (All (IsWithin 2000000))) (sym (unsplit _ levels [] leaves none tree)) (one_leaf 2000000)

-- ---- a base

-- a base has the formula's variables, and one for each pair
base_vars : (F B : Cnf) (defs : ℕ) → (b : IsBaseWith F defs B) → B.vars ≡ F.vars + length b.pairs
base_vars F B defs b = ap (λ (G : Cnf). G.vars) b.is

pub formula_inside : (F B : Cnf) (defs : ℕ) (leaves : List Cube) → AreWithin F.vars leaves → IsBaseWith F defs B → All (IsOverBase B) leaves
formula_inside F B defs leaves w b = let e = base_vars F B defs b in within_more F.vars B.vars leaves (omega (arith, e)) w

-- one formula and one number of definitions have one list of pairs
abbrev pub AreSettled : Type 0
AreSettled = (F : Cnf) (defs : ℕ) (ps qs : List Pair) → AreDefined F defs [] ps → AreDefined F defs [] qs → ps ≡ qs

pub tree_inside : AreSettled → (F B : Cnf) (defs : ℕ) (pairs : List Pair) (leaves : List Cube) → AreDefined F defs [] pairs → AreWithin (F.vars + length pairs) leaves → IsBaseWith F defs B → All (IsOverBase B) leaves
tree_inside settled F B defs pairs leaves defined w b =
    let e : B.vars ≡ F.vars + length pairs = base_vars F B defs b ∙ ap (λ (ps : List Pair). F.vars + length ps) (settled F defs b.pairs pairs b.defined defined) in
    subst (λ (n : ℕ). AreWithin n leaves) (sym e) w

abbrev opening_of : List Literal → List Pair → Opening
opening_of units pairs = record { units = units; pairs = pairs }

-- a tree by the rule over a formula's own preamble
pub ruled : (F G : Cnf) (opening : Opening) (d : Definitions) (depth levels : ℕ) (leaves : List Cube)
    → G ≡ F → opening.units ≡ pure_literals F → opening.pairs ≡ d.pairs → AreOf F d → levels ≡ depth_for F depth → IsTreeWith G opening levels leaves → SplitsByRule F depth d.wanted (By leaves)
ruled F G opening d depth levels leaves same units pairs of is tree =
    let e : opening ≡ opening_of (pure_literals F) d.pairs = ap (λ (us : List Literal). opening_of us opening.pairs) units ∙ ap (opening_of (pure_literals F)) pairs in
    let at : IsTreeWith F (opening_of (pure_literals F) d.pairs) levels leaves
    = subst (λ (o : Opening). IsTreeWith F o levels leaves) e (subst (λ (H : Cnf). IsTreeWith H opening levels leaves) same tree) in
    (d.pairs, of.defined, subst (λ (n : ℕ). IsTreeWith F (opening_of (pure_literals F) d.pairs) n leaves) is at)
