-- Codes of literals and clause maps: numbers by which proofs decide whether two values are equal.
use Rattle.std.specs.Prelude.{◌≡◌, ℕ, zero, suc, ◌+◌, ◌*◌, ◌/◌, ◌%◌, ◌<◌, ◌==◌, Bool, true, false, refl, cond}
use Rattle.std.proofs.Common.{◌∙◌, sym}
use Rattle.std.proofs.Math.Nat.{add-zero, div-add-mod, le_of_suc-le-suc, mod-lt, not-suc-le-zero, zero-lt-suc}
use Rattle.std.specs.FinMap.{code}
use Rattle.std.specs.Coded.{Coded, code_by, coded×, coded_ℕ, coded_bool, coded_list}
use Rattle.dimacs.specs.logic.Literal.{Literal, Pos, Neg, var_of, is_negative, index_of, literal_of}
use Rattle.dimacs.specs.logic.ClauseMap.{ClauseMap}

-- the index of the literal of index n is n
pub index_of-literal_of : (n : ℕ) → index_of (literal_of n) ≡ n
index_of-literal_of n = of_parts (n / 2) (n % 2) (mod-lt n (zero-lt-suc 1)) ∙ div-add-mod n 2
  where
    of_parts : (q r : ℕ) → r < 2 → index_of (cond (r == 0) (Pos q) (Neg q)) ≡ 2 * q + r
    of_parts q zero l = sym (add-zero (2 * q))
    of_parts q (suc zero) l = refl
    of_parts q (suc (suc r)) l = absurd (not-suc-le-zero (le_of_suc-le-suc (le_of_suc-le-suc l)))

-- the literal of a variable: negated if the Bool is true
abbrev pub literal_by : Bool → ℕ → Literal
literal_by true v = Neg v
literal_by false v = Pos v

-- a literal is determined by its sign and its variable
pub literal_back : (l : Literal) → literal_by (is_negative l) (var_of l) ≡ l
literal_back (Pos v) = refl
literal_back (Neg v) = refl

-- the code of a literal, from its sign and its variable
abbrev pub literal_code : Coded Literal
literal_code = code_by (Bool × ℕ) (coded× coded_bool coded_ℕ) (λ l. (is_negative l, var_of l)) (λ p. literal_by p.0 p.1) literal_back

-- the code of a clause map
abbrev pub clause_map_code : Coded ClauseMap
clause_map_code = code coded_ℕ (coded_list literal_code)
