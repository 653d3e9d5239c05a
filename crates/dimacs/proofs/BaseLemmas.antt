-- A base stays within its limits.
use Rattle.std.proofs.Common.{◌≡◌, ℕ, zero, suc, ◌+◌, ◌<◌, ◌≤◌, List, [], ◌∷◌, ◌++◌, length, get_or, take, arith, length-append}
use Rattle.std.specs.List.{All}
use Rattle.std.proofs.lemmas.List.Elements.{All-push}
use Rattle.dimacs.specs.logic.Literal.{Clause, IsWithin}
use Rattle.dimacs.specs.logic.Cnf.{Cnf, literal_count, IsBase}

count_push : (cs : List Clause) (C : Clause) → literal_count (cs ++ C ∷ []) ≡ literal_count cs + length C
count_push [] C = omega arith
count_push (D ∷ cs) C = omega (arith, count_push cs C)

pub base_push : (f : Cnf) (C : Clause) → IsBase f → length f.clauses < 200000190 → literal_count f.clauses + length C ≤ 1100000446 → All (IsWithin f.vars) C
    → IsBase (record f { clauses = f.clauses ++ C ∷ [] })
base_push f C h room literals within = record {
  vars = h.vars;
  clauses = omega (arith, length-append f.clauses (C ∷ []));
  literals = omega (arith, count_push f.clauses C);
  within = All-push (All (IsWithin f.vars)) f.clauses C h.within within;
}

-- the clause at i and those before it have no more literals than all
pub count_take : (cs : List Clause) (i : ℕ) → i < length cs → literal_count (take i cs) + length (get_or cs i []) ≤ literal_count cs
count_take [] i h = absurd (omega arith)
count_take (C ∷ cs) zero h = omega arith
count_take (C ∷ cs) (suc i) h = omega (arith, count_take cs i (omega arith))

pub pushed : (f g : Cnf) (new : List Clause) (C : Clause) → f ≡ g → IsBase f → length g.clauses < 200000190 → literal_count g.clauses + length C ≤ 1100000446 → All (IsWithin g.vars) C
    → new ≡ f.clauses ++ C ∷ [] → IsBase (record { vars = f.vars; clauses = new })
pushed f g new C e h room literals within n = rw n (base_push f C h (rw e room) (rw e literals) (rw e within))
