-- What a token does to the clauses read so far.
use Rattle.std.proofs.Common.{◌≡◌, ℕ, suc, ◌+◌, ◌<◌, ◌≤◌, min, cond, List, [], ◌∷◌, ◌++◌, ℤ, pos, negsuc, nat_abs, Option, Some, None, Ok, length, refl, sym, ap, ◌∙◌, arith}
use Rattle.std.specs.Option.{option_map}
use Rattle.std.proofs.lemmas.Bool.Decides.{nat_tests}
use Rattle.dimacs.specs.declared.fault.Kind.TheVariants.{BadToken, VariableAboveHeader, TooManyClauses, AboveLimit}
use Rattle.dimacs.specs.declared.number.Number.{Number}
use Rattle.dimacs.specs.text.BodyState.{BodyState}
use Rattle.dimacs.specs.inner.Capped.{capped}
use Rattle.dimacs.specs.logic.Literal.{Literal, Pos, Neg, literal_of_number}
use Rattle.dimacs.specs.text.Numbers.{number}
use Rattle.dimacs.specs.text.Parser.{read_token, read_number, fault}

no_number : (o : Option ℤ) → option_map capped o ≡ None → o ≡ None
no_number None h = refl
no_number (Some z) h = absurd (cc)

some_number : (o : Option ℤ) (r : Number) → option_map capped o ≡ Some r → (z : ℤ) × (o ≡ Some z) × (capped z ≡ r)
some_number None r h = absurd (cc)
some_number (Some z) r h = (z, refl, cc)

capped_size : (z : ℤ) → (capped z).size ≡ min 100000000 (nat_abs z)
capped_size (pos n) = refl
capped_size (negsuc n) = refl

capped_is : (z : ℤ) → nat_abs z < 100000000 → literal_of_number z ≡ cond (capped z).negative (Neg (capped z).size) (Pos (capped z).size)
capped_is (pos n) h = ap Pos (omega arith)
capped_is (negsuc n) h = let e : min 100000000 (suc n) ≡ suc n = omega arith in rw e refl

pub token_bad : (line : ℕ) (word : List ℕ) (b : BodyState) → option_map capped (number word) ≡ None → read_token line word b ≡ fault BadToken line
unfolding read_token
token_bad line word b h = rw (no_number (number word) h) refl

number_push : (line : ℕ) (z : ℤ) (b : BodyState) → length b.done < b.count → 0 < nat_abs z → nat_abs z ≤ b.vars → b.total < b.limit
    → read_number line z b ≡ Ok (record b { open_clause = b.open_clause ++ literal_of_number z ∷ []; total = b.total + 1 })
number_push line z b h k v m = grind (arith, nat_tests)

module _ (line : ℕ) (word : List ℕ) (b : BodyState) (r : Number) (found : option_map capped (number word) ≡ Some r) where
  token_is : (z : ℤ) → number word ≡ Some z → read_token line word b ≡ read_number line z b
  unfolding read_token
  token_is z e = rw e refl

  pub token_full : b.count ≤ length b.done → read_token line word b ≡ fault TooManyClauses line
  token_full h =
      let z = some_number (number word) r found in
      token_is z.0 z.1 ∙ grind (arith, nat_tests)

  pub token_end : length b.done < b.count → r.size ≡ 0 → read_token line word b ≡ Ok (record b { done = b.done ++ b.open_clause ∷ []; open_clause = [] })
  token_end h k =
      let z = some_number (number word) r found in
      let size : r.size ≡ min 100000000 (nat_abs z.0) = ap (λ (x : Number). x.size) (sym z.2) ∙ capped_size z.0 in
      let none : nat_abs z.0 ≡ 0 = omega arith in
      token_is z.0 z.1 ∙ grind (arith, nat_tests)

  pub token_above : length b.done < b.count → 0 < r.size → b.vars < r.size → read_token line word b ≡ fault VariableAboveHeader line
  token_above h k v =
      let z = some_number (number word) r found in
      let size : r.size ≡ min 100000000 (nat_abs z.0) = ap (λ (x : Number). x.size) (sym z.2) ∙ capped_size z.0 in
      let some : 0 < nat_abs z.0 = omega arith in
      let above : b.vars < nat_abs z.0 = omega arith in
      token_is z.0 z.1 ∙ grind (arith, nat_tests)

  pub token_many : length b.done < b.count → 0 < r.size → r.size ≤ b.vars → b.vars ≤ 99999999 → b.limit ≤ b.total → read_token line word b ≡ fault AboveLimit line
  token_many h k v top m =
      let z = some_number (number word) r found in
      let size : r.size ≡ min 100000000 (nat_abs z.0) = ap (λ (x : Number). x.size) (sym z.2) ∙ capped_size z.0 in
      let some : 0 < nat_abs z.0 = omega arith in
      let within : nat_abs z.0 ≤ b.vars = omega arith in
      token_is z.0 z.1 ∙ grind (arith, nat_tests)

  pub token_push : (l : Literal) → length b.done < b.count → 0 < r.size → r.size ≤ b.vars → b.vars ≤ 99999999 → b.total < b.limit
      → l ≡ cond r.negative (Neg r.size) (Pos r.size) → read_token line word b ≡ Ok (record b { open_clause = b.open_clause ++ l ∷ []; total = b.total + 1 })
  token_push l h k v top m e =
      let z = some_number (number word) r found in
      let size : r.size ≡ min 100000000 (nat_abs z.0) = ap (λ (x : Number). x.size) (sym z.2) ∙ capped_size z.0 in
      let some : 0 < nat_abs z.0 = omega arith in
      let within : nat_abs z.0 ≤ b.vars = omega arith in
      let is : literal_of_number z.0 ≡ l = capped_is z.0 (omega arith) ∙ ap (λ (x : Number). cond x.negative (Neg x.size) (Pos x.size)) z.2 ∙ sym e in
      token_is z.0 z.1 ∙ number_push line z.0 b h some within m ∙ ap (λ (x : Literal). Ok (record b { open_clause = b.open_clause ++ x ∷ []; total = b.total + 1 })) is
