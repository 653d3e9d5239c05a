-- What reading tells of a text is never want of memory.
use Rattle.std.proofs.Common.{◌≢◌, ℕ, Bool, true, false, cond, List, [], ◌∷◌, not, ℤ, nat_abs, Option, Some, None, Result, Ok, length, codes, bytes_eq, eqb, leb, ltb}
use Rattle.std.specs.Prelude.{IfErr}
use Rattle.icnf.specs.declared.fault.IcnfFault.{IcnfFault}
use Rattle.icnf.specs.declared.fault.Kind.TheVariants.{AboveLimit, BadHeader, CubeTooLong, NoHeader, NoMemory, NotATree, RepeatedVariable, VariableAboveClauses}
use Rattle.dimacs.specs.logic.Limits.{Limits}
use Rattle.dimacs.specs.logic.Literal.{Literal, Clause, literal_of_number, var_of}
use Rattle.icnf.specs.ReadState.{ReadState}
use Rattle.icnf.specs.declared.walk.Stage.{Stage}
use Rattle.icnf.specs.declared.walk.Stage.TheVariants.{Clauses, Outside, Inside, Complete}
use Rattle.icnf.specs.Parser.{Token, Mark, Number, token, begin, begin_behind, end_behind, end_cube, fault, finish, finish_at, format, header_end, header_two, in_clause, in_cube, literal_in_cube, parse_within, read_found, read_header, read_mark, read_number, read_token, start}
use Rattle.icnf.specs.declared.place.Place.{Place}
use Rattle.icnf.specs.Walk.{names, fits}
use Rattle.dimacs.specs.logic.Cnf.{greatest_in}
use Rattle.dimacs.specs.text.Words.{lines}
use Rattle.dimacs.proofs.RowFaults.{bind_told, text_told}

abbrev pub IsTold : {A : Type 0} → Result A IcnfFault → Type 0
IsTold r = IfErr r (λ f. f.kind ≢ NoMemory)

either_told : {A : Type 0} (t : Bool) (r s : Result A IcnfFault) → IsTold r → IsTold s → IsTold (cond t r s)
either_told true r s h k = h
either_told false r s h k = k

end_told : (line : ℕ) (ws : List (List ℕ)) → IsTold (header_end line ws)
end_told line [] = tt
end_told line (w ∷ ws) = λ e. cc

two_told : (line : ℕ) (ws : List (List ℕ)) → IsTold (header_two line ws)
two_told line [] = λ e. cc
two_told line (w ∷ ws) = either_told (bytes_eq w (codes "inccnf")) (header_end line ws) (fault BadHeader line) (end_told line ws) (λ e. cc)

header_told : (line : ℕ) (ws : List (List ℕ)) → IsTold (read_header line ws)
unfolding read_header
header_told line [] = λ e. cc
header_told line (w ∷ ws) = either_told (bytes_eq w (codes "p")) (header_two line ws) (fault NoHeader line) (two_told line ws) (λ e. cc)

behind_told : (n : ℕ) (c : Clause) → IsTold (end_behind n c)
behind_told n [] = λ e. cc
behind_told n (l ∷ c) = λ e. cc

at_told : (n : ℕ) (stage : Stage) (s : ReadState) → IsTold (finish_at n stage s)
at_told n Clauses s = behind_told n s.clauses.open_clause
at_told n Outside s = λ e. cc
at_told n Inside s = λ e. cc
at_told n Complete s = tt

finish_told : (n : ℕ) (s : ReadState) → IsTold (finish n s)
unfolding finish
finish_told n s = at_told n s.walk.stage s

begin_told : (line : ℕ) (s : ReadState) → IsTold (begin line s)
begin_told line s = either_told (leb 65536 (length s.walk.cubes)) (fault AboveLimit line) (Ok _) (λ e. cc) tt

begin_behind_told : (line : ℕ) (c : Clause) (s : ReadState) → IsTold (begin_behind line c s)
begin_behind_told line [] s = begin_told line s
begin_behind_told line (l ∷ c) s = λ e. cc

mark_told : (line : ℕ) (stage : Stage) (s : ReadState) → IsTold (read_mark line stage s)
mark_told line Clauses s = begin_behind_told line s.clauses.open_clause s
mark_told line Outside s = begin_told line s
mark_told line Inside s = λ e. cc
mark_told line Complete s = λ e. cc

clause_told : (line : ℕ) (z : ℤ) (s : ReadState) → IsTold (in_clause line z s)
clause_told line z s =
    either_told (leb s.limits.clauses (length s.clauses.done)) (fault AboveLimit line) _ (λ e. cc)
    (either_told (eqb (nat_abs z) 0) (Ok _) _ tt
    (either_told (ltb s.limits.vars (nat_abs z)) (fault AboveLimit line) _ (λ e. cc) (either_told (leb s.limits.literals s.clauses.total) (fault AboveLimit line) (Ok _) (λ e. cc) tt)))

cube_end_told : (line : ℕ) (forced : List Place) (s : ReadState) → IsTold (end_cube line forced s)
cube_end_told line [] s = tt
cube_end_told line (p ∷ forced) s = λ e. cc

literal_told : (line : ℕ) (l : Literal) (s : ReadState) → IsTold (literal_in_cube line l s)
literal_told line l s =
    either_told (names s.walk.path (var_of l)) (fault RepeatedVariable line) _ (λ e. cc)
    (either_told (not (fits l s.walk.forced)) (fault NotATree line) _ (λ e. cc) (either_told (leb 64 (length s.walk.path)) (fault CubeTooLong line) (Ok _) (λ e. cc) tt))

cube_told : (line : ℕ) (z : ℤ) (s : ReadState) → IsTold (in_cube line z s)
cube_told line z s =
    either_told (eqb (nat_abs z) 0) (end_cube line s.walk.forced s) _ (cube_end_told line s.walk.forced s)
    (either_told (ltb (greatest_in s.clauses.done) (nat_abs z)) (fault VariableAboveClauses line) _ (λ e. cc) (literal_told line (literal_of_number z) s))

number_told : (line : ℕ) (z : ℤ) (stage : Stage) (s : ReadState) → IsTold (read_number line z stage s)
number_told line z Clauses s = clause_told line z s
number_told line z Outside s = λ e. cc
number_told line z Inside s = cube_told line z s
number_told line z Complete s = λ e. cc

found_told : (line : ℕ) (o : Option Token) (s : ReadState) → IsTold (read_found line o s)
found_told line None s = λ e. cc
found_told line (Some Mark) s = mark_told line s.walk.stage s
found_told line (Some (Number z)) s = number_told line z s.walk.stage s

token_told : (line : ℕ) (w : List ℕ) (s : ReadState) → IsTold (read_token line w s)
unfolding read_token
token_told line w s = found_told line (token w) s

pub parse_told : (L : Limits) (text : List ℕ) → IsTold (parse_within L text)
parse_told L text =
    text_told format (λ f. f.kind ≢ NoMemory) (record {
      no_header = λ n e. cc;
      header = λ L line ws. bind_told (λ f. f.kind ≢ NoMemory) (read_header line ws) (λ h. Ok (start L)) (header_told line ws) (λ h. tt);
      token = token_told;
      finish = finish_told;
    }) L 0 (lines text)
