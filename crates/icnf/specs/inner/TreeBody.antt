-- The iCNF parser that compares clauses with a formula's and does not store them. In the arguments, clauses are those of the formula, line
-- is the number of the line, and s is the state of the body.
use Rattle.std.specs.Prelude.{ℕ, ◌==◌, ◌&&◌, Bool, nat_lt, nat_le, length, List, ℤ, nat_abs, Option, Some, None, Result, Ok, Err, [], if◌then◌else◌}
use Rattle.dimacs.specs.logic.Limits.{Limits}
use Rattle.dimacs.specs.logic.Literal.{Clause, literal_of_number}
use Rattle.dimacs.specs.text.Rows.{Format, ◌>>=◌}
use Rattle.icnf.specs.declared.cubes_fault.CubesFault.{CubesFault}
use Rattle.icnf.specs.declared.cubes_fault.CubesFault.TheVariants.{Faulty, OtherFormula}
use Rattle.icnf.specs.declared.fault.IcnfFault.{IcnfFault}
use Rattle.icnf.specs.declared.fault.Kind.TheVariants.{NoHeader, ClauseNotEnded, BadToken, ClauseBehindCube, AboveLimit, VariableAboveClauses, NotATree}
use Rattle.icnf.specs.declared.tree_body.TreeBody.{TreeBody}
use Rattle.icnf.specs.declared.walk.Stage.{Stage}
use Rattle.icnf.specs.declared.walk.Stage.TheVariants.{Clauses, Outside, Inside, Complete}
use Rattle.icnf.specs.Leaves.{Cube}
use Rattle.icnf.specs.Parser.{fault, read_header, Token, Mark, Number, token}
use Rattle.icnf.specs.Walk.{WalkState}
use Rattle.icnf.specs.inner.Comparison.{none_compared, with_literal, with_end}
use Rattle.icnf.specs.inner.Cubes.{begin_cube, end_cube, read_literal}

-- the state of the body before its first token, within the limits L
abbrev pub none_read : Limits → TreeBody
none_read L = record { limits = L; clauses = none_compared; walk = record { stage = Clauses; cubes = []; path = []; forced = [] } }

-- the state of the body after a step of its walk, or the step's fault
abbrev pub walks : Result WalkState IcnfFault → TreeBody → Result TreeBody IcnfFault
walks r s = r >>= λ w. Ok (record s { walk = w })

-- the state after the word a, by the position in the text, or the word's fault
abbrev pub take_mark : ℕ → Stage → TreeBody → Result TreeBody IcnfFault
take_mark line Clauses s = if s.clauses.at == 0 then walks (begin_cube line s.walk) s else fault BadToken line
take_mark line Outside s = walks (begin_cube line s.walk) s
take_mark line Inside s = fault BadToken line
take_mark line Complete s = fault NotATree line

-- the state after the number z in a clause, or its fault
unfoldable pub take_in_clause : List Clause → ℕ → ℤ → TreeBody → Result TreeBody IcnfFault
take_in_clause clauses line z s =
    if nat_le s.limits.clauses s.clauses.count then fault AboveLimit line
    else (if nat_abs z == 0 then Ok (record s { clauses = with_end clauses s.clauses })
    else (if nat_lt s.limits.vars (nat_abs z) then fault AboveLimit line
    else (if nat_le s.limits.literals s.clauses.total then fault AboveLimit line
    else Ok (record s { clauses = with_literal clauses (literal_of_number z) s.clauses }))))

-- the state after the number z in a cube, or its fault
unfoldable pub take_in_cube : ℕ → ℤ → TreeBody → Result TreeBody IcnfFault
take_in_cube line z s =
    if nat_abs z == 0 then walks (end_cube line s.walk) s
    else (if nat_lt s.clauses.greatest (nat_abs z) then fault VariableAboveClauses line
    else walks (read_literal line (literal_of_number z) s.walk) s)

-- the state after the number z, by the position in the text, or its fault
abbrev pub take_number : List Clause → ℕ → ℤ → Stage → TreeBody → Result TreeBody IcnfFault
take_number clauses line z Clauses s = take_in_clause clauses line z s
take_number clauses line z Outside s = fault ClauseBehindCube line
take_number clauses line z Inside s = take_in_cube line z s
take_number clauses line z Complete s = fault ClauseBehindCube line

-- the state after a token, or its fault; the argument is the token, None if the word is neither a nor a number
abbrev pub take_found : List Clause → ℕ → Option Token → TreeBody → Result TreeBody IcnfFault
take_found clauses line None s = fault BadToken line
take_found clauses line (Some Mark) s = take_mark line s.walk.stage s
take_found clauses line (Some (Number z)) s = take_number clauses line z s.walk.stage s

-- the state after the token word, or its fault
unfoldable pub take_token : List Clause → ℕ → List ℕ → TreeBody → Result TreeBody IcnfFault
take_token clauses line word s = take_found clauses line (token word) s

-- at the end of a text of n lines, by the position in the text: whether its clauses are the formula's, and its cubes; or the fault that it
-- ends too early
abbrev pub end_at : List Clause → ℕ → Stage → TreeBody → Result (Bool × List Cube) IcnfFault
end_at clauses n Clauses s = if s.clauses.at == 0 then fault NotATree n else fault ClauseNotEnded n
end_at clauses n Outside s = fault NotATree n
end_at clauses n Inside s = fault ClauseNotEnded n
end_at clauses n Complete s = Ok (s.clauses.agrees && (s.clauses.count == length clauses), s.walk.cubes)

-- at the end of a text of n lines: whether its clauses are the formula's, and its cubes; or the fault that it ends too early
unfoldable pub finish : List Clause → ℕ → TreeBody → Result (Bool × List Cube) IcnfFault
finish clauses n s = end_at clauses n s.walk.stage s

-- the format iCNF, if the clauses are compared with these and not stored
abbrev pub format : List Clause → Format TreeBody (Bool × List Cube) IcnfFault
format clauses = record {
  no_header = λ n. record { kind = NoHeader; line = n };
  header = λ L line words. read_header line words >>= λ h. Ok (none_read L);
  token = take_token clauses;
  finish = finish clauses;
}

-- the answer for a text that was read to its end: its cubes, or that its formula is another one, or its fault
abbrev pub told_of : Result (Bool × List Cube) IcnfFault → Result (List Cube) CubesFault
told_of (Ok (same, leaves)) = if same then Ok leaves else Err OtherFormula
told_of (Err fault) = Err (Faulty fault)
