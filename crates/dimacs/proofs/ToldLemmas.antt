-- What reading tells of a text is never want of memory.
use Rattle.std.proofs.Common.{◌≡◌, ◌≢◌, ℕ, Bool, true, false, cond, List, [], ◌∷◌, Option, Some, None, Result, Ok, ℤ, nat_abs, length, refl, codes, bytes_eq, eqb, leb, ltb}
use Rattle.std.specs.Prelude.{IfErr}
use Rattle.dimacs.specs.declared.fault.DimacsFault.{DimacsFault}
use Rattle.dimacs.specs.declared.fault.Kind.TheVariants.{AboveLimit, BadHeader, NoHeader, NoMemory, TooFewClauses, TooManyClauses, VariableAboveHeader}
use Rattle.dimacs.specs.text.BodyState.{BodyState}
use Rattle.dimacs.specs.logic.Cnf.{Cnf}
use Rattle.dimacs.specs.logic.Limits.{Limits}
use Rattle.dimacs.specs.logic.Literal.{Clause}
use Rattle.dimacs.specs.text.Numbers.{natural, number}
use Rattle.dimacs.specs.text.Parser.{fault, finish, format, header_count, header_end, header_four, header_three, header_two, header_vars, parse_within, read_found, read_header, read_number, read_token, start}
use Rattle.dimacs.specs.text.Words.{lines}
use Rattle.dimacs.proofs.RowFaults.{bind_told, text_told}

abbrev pub IsTold : {A : Type 0} → Result A DimacsFault → Type 0
IsTold r = IfErr r (λ f. f.kind ≢ NoMemory)

either_told : {A : Type 0} (t : Bool) (r s : Result A DimacsFault) → IsTold r → IsTold s → IsTold (cond t r s)
either_told true r s h k = h
either_told false r s h k = k

end_told : (line vars count : ℕ) (ws : List (List ℕ)) → IsTold (header_end line vars count ws)
end_told line vars count [] = tt
end_told line vars count (w ∷ ws) = λ e. cc

count_told : (L : Limits) (line vars : ℕ) (o : Option ℕ) (ws : List (List ℕ)) → IsTold (header_count L line vars o ws)
count_told L line vars None ws = λ e. cc
count_told L line vars (Some count) ws = either_told (ltb L.clauses count) (fault AboveLimit line) (header_end line vars count ws) (λ e. cc) (end_told line vars count ws)

four_told : (L : Limits) (line vars : ℕ) (ws : List (List ℕ)) → IsTold (header_four L line vars ws)
four_told L line vars [] = λ e. cc
four_told L line vars (w ∷ ws) = count_told L line vars (natural w) ws

vars_told : (L : Limits) (line : ℕ) (o : Option ℕ) (ws : List (List ℕ)) → IsTold (header_vars L line o ws)
vars_told L line None ws = λ e. cc
vars_told L line (Some vars) ws = either_told (ltb L.vars vars) (fault AboveLimit line) (header_four L line vars ws) (λ e. cc) (four_told L line vars ws)

three_told : (L : Limits) (line : ℕ) (ws : List (List ℕ)) → IsTold (header_three L line ws)
three_told L line [] = λ e. cc
three_told L line (w ∷ ws) = vars_told L line (natural w) ws

two_told : (L : Limits) (line : ℕ) (ws : List (List ℕ)) → IsTold (header_two L line ws)
two_told L line [] = λ e. cc
two_told L line (w ∷ ws) = either_told (bytes_eq w (codes "cnf")) (header_three L line ws) (fault BadHeader line) (three_told L line ws) (λ e. cc)

header_told : (L : Limits) (line : ℕ) (ws : List (List ℕ)) → IsTold (read_header L line ws)
unfolding read_header
header_told L line [] = λ e. cc
header_told L line (w ∷ ws) = either_told (bytes_eq w (codes "p")) (header_two L line ws) (fault NoHeader line) (two_told L line ws) (λ e. cc)

told_at : (n : ℕ) (b : BodyState) (c : Clause) → b.open_clause ≡ c → IsTold (finish n b)
unfolding finish
told_at n b [] e = rw e (either_told {A = Cnf} _ (fault TooFewClauses n) (Ok (record { vars = b.vars; clauses = b.done })) (λ h. cc) tt)
told_at n b (l ∷ c) e = rw e (λ h. cc)

finish_told : (n : ℕ) (b : BodyState) → IsTold (finish n b)
finish_told n b = told_at n b b.open_clause refl

number_told : (line : ℕ) (z : ℤ) (b : BodyState) → IsTold (read_number line z b)
number_told line z b =
    either_told (leb b.count (length b.done)) (fault TooManyClauses line) _ (λ e. cc)
    (either_told (eqb (nat_abs z) 0) (Ok _) _ tt
    (either_told (ltb b.vars (nat_abs z)) (fault VariableAboveHeader line) _ (λ e. cc) (either_told (leb b.limit b.total) (fault AboveLimit line) (Ok _) (λ e. cc) tt)))

found_told : (line : ℕ) (o : Option ℤ) (b : BodyState) → IsTold (read_found line o b)
found_told line None b = λ e. cc
found_told line (Some z) b = number_told line z b

token_told : (line : ℕ) (w : List ℕ) (b : BodyState) → IsTold (read_token line w b)
unfolding read_token
token_told line w b = found_told line (number w) b

pub parse_told : (L : Limits) (text : List ℕ) → IsTold (parse_within L text)
parse_told L text =
    text_told format (λ f. f.kind ≢ NoMemory) (record {
      no_header = λ n e. cc;
      header = λ L line ws. bind_told (λ f. f.kind ≢ NoMemory) (read_header L line ws) (λ h. Ok (start L h)) (header_told L line ws) (λ h. tt);
      token = token_told;
      finish = finish_told;
    }) L 0 (lines text)
