-- The cubes that a text lists, or its first fault.
use Rattle.std.specs.Prelude.{ℕ, ◌+◌, ◌==◌, nat_lt, nat_le, Bool, false, true, List, [], ◌∷◌, ◌++◌, length, ℤ, nat_abs, Option, Some, None, Result, Ok, codes, bytes_eq, if◌then◌else◌}
use Rattle.std.specs.List.{list_all, list_any}
use Rattle.dimacs.specs.logic.Literal.{Literal, literal_of_number, var_of}
use Rattle.dimacs.specs.text.Numbers.{number}
use Rattle.dimacs.specs.text.Rows.{◌>>=◌}
use Rattle.dimacs.specs.text.Words.{lines, words}
use Rattle.icnf.specs.declared.fault.IcnfFault.{IcnfFault}
use Rattle.icnf.specs.declared.fault.Kind.TheVariants.{BadToken, VariableAboveClauses, ClauseNotEnded, RepeatedVariable, NotATree, CubeTooLong}
use Rattle.icnf.specs.Leaves.{Cube}
use Rattle.icnf.specs.Parser as icnf
use Rattle.cubes_to_tree.specs.Divergence.{diverge}

-- a literal of the cube has this variable
abbrev pub has_variable : Cube → ℕ → Bool
has_variable q v = list_any (λ l. var_of l == v) q

-- what is read of a cube after its `a`: its literals, and whether the 0 was read
pub record CubeRead : Type 0 where
  pub literals : Cube
  pub ended : Bool

-- no token of a cube is read
abbrev pub nothing_read : CubeRead
nothing_read = record { literals = []; ended = false }

-- greatest variable, line number (from 1), literal, what was read before: the literal's variable has to be at most the greatest, and none
-- of the cube's; and a cube has at most 64 literals
abbrev pub read_literal : ℕ → ℕ → Literal → CubeRead → Result CubeRead IcnfFault
read_literal greatest line l c =
    if nat_lt greatest (var_of l) then icnf.fault VariableAboveClauses line
    else (if has_variable c.literals (var_of l) then icnf.fault RepeatedVariable line
    else (if nat_le 64 (length c.literals) then icnf.fault CubeTooLong line
    else Ok (record c { literals = c.literals ++ l ∷ [] })))

-- greatest variable, line number (from 1), number z, what was read before: z is read as a literal, or as the 0
abbrev pub read_number : ℕ → ℕ → ℤ → CubeRead → Result CubeRead IcnfFault
read_number greatest line z c = if nat_abs z == 0 then Ok (record c { ended = true }) else read_literal greatest line (literal_of_number z) c

-- greatest variable, line number (from 1), number of a token, what was read before: the number is read; a token without a number is a fault
abbrev pub read_found : ℕ → ℕ → Option ℤ → CubeRead → Result CubeRead IcnfFault
read_found greatest line None c = icnf.fault BadToken line
read_found greatest line (Some z) c = read_number greatest line z c

-- greatest variable, line number (from 1), token, what was read before: the token is read; none may follow the 0
unfoldable pub read_token : ℕ → ℕ → List ℕ → CubeRead → Result CubeRead IcnfFault
read_token greatest line word c = if c.ended then icnf.fault BadToken line else read_found greatest line (number word) c

-- greatest variable, line number (from 1), tokens, what was read before: the tokens are read, up to the first fault
unfoldable pub read_tokens : ℕ → ℕ → List (List ℕ) → CubeRead → Result CubeRead IcnfFault
read_tokens greatest line [] c = Ok c
read_tokens greatest line (word ∷ more) c = read_token greatest line word c >>= read_tokens greatest line more

-- line number (from 1), what was read: the cube of a line that ends here; the 0 has to be read
abbrev pub end_cube : ℕ → CubeRead → Result Cube IcnfFault
end_cube line c = if c.ended then Ok c.literals else icnf.fault ClauseNotEnded line

-- greatest variable, line number (from 1), tokens: the cube that the tokens after an `a` spell, or their first fault
abbrev pub cube_of : ℕ → ℕ → List (List ℕ) → Result Cube IcnfFault
cube_of greatest line tokens = read_tokens greatest line tokens nothing_read >>= end_cube line

-- line number (from 1), cubes before, cube: the cubes with one more, which has to diverge from each cube before it
abbrev pub put_cube : ℕ → List Cube → Cube → Result (List Cube) IcnfFault
put_cube line cubes q = if list_all (diverge q) cubes then Ok (cubes ++ q ∷ []) else icnf.fault NotATree line

-- greatest variable, line number (from 1), tokens, cubes before: a line whose first token is `a` lists a cube; a line whose first token is
-- not `a` is ignored
abbrev pub read_words : ℕ → ℕ → List (List ℕ) → List Cube → Result (List Cube) IcnfFault
read_words greatest line [] cubes = Ok cubes
read_words greatest line (word ∷ more) cubes =
    if bytes_eq word (codes "a") then (cube_of greatest line more >>= put_cube line cubes) else Ok cubes

-- number of lines, cubes: the cubes of a text that ends here; it has to list a cube
abbrev pub end_of : ℕ → List Cube → Result (List Cube) IcnfFault
end_of line [] = icnf.fault NotATree line
end_of line (q ∷ cubes) = Ok (q ∷ cubes)

-- greatest variable, number of lines before, lines, cubes before: the cubes before and those of the lines, or the first fault
unfoldable pub read_lines : ℕ → ℕ → List (List ℕ) → List Cube → Result (List Cube) IcnfFault
read_lines greatest n [] cubes = end_of n cubes
read_lines greatest n (line ∷ more) cubes = read_words greatest (n + 1) (words line) cubes >>= read_lines greatest (n + 1) more

-- greatest variable, text: the cubes that the text lists, with variables up to the greatest one, or its first fault
abbrev pub listed : ℕ → List ℕ → Result (List Cube) IcnfFault
listed greatest text = read_lines greatest 0 (lines text) []
