-- A base without definitions.
use Rattle.std.proofs.Common.{◌≡◌, ℕ, zero, ◌+◌, List, [], ◌++◌, refl, ap, ◌∙◌, arith}
use Rattle.std.proofs.lemmas.List.{append-nil}
use Rattle.dimacs.specs.logic.Base.{base_of}
use Rattle.dimacs.specs.logic.Cnf.{Cnf}
use Rattle.dimacs.specs.logic.Literal.{Clause}
use Rattle.cube_split.specs.Definitions.{base_with}
use Rattle.cube_split.specs.Pairs.{AreDefined, IsBaseWith}
use Rattle.cube_split.specs.declared.pair.Pair.{Pair}

none_defined : (F : Cnf) (taken pairs : List Pair) → AreDefined F zero taken pairs → pairs ≡ []
none_defined F taken pairs AreDefined.all = refl
none_defined F taken pairs (AreDefined.none left) = refl

base_none : (F : Cnf) → base_with F [] ≡ base_of F
base_none F =
    let e : F.vars + 0 ≡ F.vars = omega arith in
    ap (λ (n : ℕ). record { vars = n; clauses = (base_of F).clauses ++ [] }) e
    ∙ ap (λ (cs : List Clause). record { vars = F.vars; clauses = cs }) (append-nil (base_of F).clauses)

pub plain_base : (F B : Cnf) → IsBaseWith F 0 B → B ≡ base_of F
plain_base F B is = is.is ∙ ap (base_with F) (none_defined F [] is.pairs is.defined) ∙ base_none F
