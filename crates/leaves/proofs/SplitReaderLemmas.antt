-- The variables of the tree that a text spells.
use Rattle.std.proofs.Common.{◌≡◌, ◌⊎◌, inl, inr, ℕ, List, Result, Err, subst}
use Rattle.dimacs.specs.logic.Cnf.{Cnf, AreWithin, greatest_in}
use Rattle.dimacs.specs.logic.Literal.{Clause}
use Rattle.icnf.specs.Leaves.{Cube}
use Rattle.dimacs.specs.logic.Limits.{Limits}
use Rattle.icnf.specs.Pieces.{SpellsTreeWithin, Tells, TellsTree}
use Rattle.icnf.specs.Parser.{no_memory, parse_within}
use Rattle.icnf.specs.declared.cubes_fault.CubesFault.{CubesFault}
use Rattle.icnf.specs.declared.cubes_fault.CubesFault.TheVariants.{Faulty}

-- the tree of a text has the variables of its clauses
pub among : (L : Limits) (F : Cnf) (text : List ℕ) (leaves : List Cube) → SpellsTreeWithin L F text leaves → AreWithin (greatest_in F.clauses) leaves
among L F text leaves spelled =
    subst (λ (cs : List Clause). AreWithin (greatest_in cs) leaves) spelled.2 (subst (λ (v : ℕ). AreWithin v leaves) spelled.1.0.vars spelled.1.0.within)

same_fault : (a b : CubesFault) → ◌≡◌ {A = Result (List Cube) CubesFault} (Err a) (Err b) → a ≡ b
same_fault a b e = cc

-- a fault is the text's, or memory was refused
pub tells_fault : (L : Limits) (F : Cnf) (text : List ℕ) (fault : CubesFault) → TellsTree F (parse_within L text) (Err fault) → (fault ≡ Faulty no_memory) ⊎ Tells F (parse_within L text) (Err fault)
tells_fault L F text fault (inl none) = inl (same_fault fault (Faulty no_memory) none)
tells_fault L F text fault (inr told) = inr told
