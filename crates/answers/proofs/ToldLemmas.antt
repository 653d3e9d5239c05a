-- Which faults the reading of an answer tells.
use Rattle.std.proofs.Common.{◌≢◌, ℕ, ◌+◌, Bool, true, false, cond, List, [], ◌∷◌, ℤ, nat_abs, Option, Some, None, Ok, eqb, ltb}
use Rattle.std.specs.Prelude.{IfErr}
use Rattle.dimacs.specs.logic.Literal.{negation, literal_of_number}
use Rattle.dimacs.specs.logic.Propagation.{with_literal}
use Rattle.dimacs.specs.text.Numbers.{number}
use Rattle.dimacs.specs.text.Words.{lines}
use Rattle.dimacs.proofs.RowFaults.{bind_told, either_told}
use Rattle.answers.specs.declared.fault.AnswerFault.{AnswerFault}
use Rattle.answers.specs.declared.fault.Kind.TheVariants.{BadToken, ComplementaryPair, NoMemory}
use Rattle.answers.specs.Grammar.{AnswerLine, Passed, Values, Foreign, line_of}
use Rattle.answers.specs.Parse.{Naming, answer_of, fault, nothing_named, read_as, read_found, read_line, read_lines, read_token, read_tokens}

IsTold : AnswerFault → Type 0
IsTold f = f.kind ≢ NoMemory

tests_told : (line : ℕ) (t u v : Bool) (a b : Naming) → IfErr (cond t (Ok a) (cond u (fault BadToken line) (cond v (fault ComplementaryPair line) (Ok b)))) IsTold
unfolding IsTold
tests_told line true u v a b = tt
tests_told line false true v a b = λ e. cc
tests_told line false false true a b = λ e. cc
tests_told line false false false a b = tt

found_told : (line : ℕ) (o : Option ℤ) (m : Naming) → IfErr (read_found line o m) IsTold
unfolding IsTold
found_told line None m = λ e. cc
found_told line (Some z) m =
    tests_told line (eqb (nat_abs z) 0) (ltb 99999999 (nat_abs z)) (m.named (negation (literal_of_number z))) (record m { ended = true }) (record m { named = with_literal m.named (literal_of_number z) })

token_told : (line : ℕ) (w : List ℕ) (m : Naming) → IfErr (read_token line w m) IsTold
unfolding read_token IsTold
token_told line w m = either_told IsTold m.ended _ _ (λ e. cc) (found_told line (number w) m)

tokens_told : (line : ℕ) (ws : List (List ℕ)) (m : Naming) → IfErr (read_tokens line ws m) IsTold
unfolding read_tokens
tokens_told line [] m = tt
tokens_told line (w ∷ ws) m = bind_told IsTold (read_token line w m) (read_tokens line ws) (token_told line w m) (λ c. tokens_told line ws c)

as_told : (n : ℕ) (k : AnswerLine) (m : Naming) → IfErr (read_as n k m) IsTold
unfolding IsTold
as_told n Passed m = tt
as_told n (Values ws) m = tokens_told n ws m
as_told n Foreign m = λ e. cc

lines_told : (n : ℕ) (ls : List (List ℕ)) (m : Naming) → IfErr (read_lines n ls m) IsTold
unfolding read_lines read_line IsTold
lines_told n [] m = either_told IsTold m.ended _ _ tt (λ e. cc)
lines_told n (l ∷ ls) m = bind_told IsTold (read_as (n + 1) (line_of l) m) (read_lines (n + 1) ls) (as_told (n + 1) (line_of l) m) (λ c. lines_told (n + 1) ls c)

pub answer_told : (text : List ℕ) → IfErr (answer_of text) (λ f. f.kind ≢ NoMemory)
unfolding IsTold
answer_told text = lines_told 0 (lines text) nothing_named
