-- What a token does to what was read so far.
use Rattle.std.proofs.Common.{◌≡◌, ℕ, ◌+◌, ◌≤◌, max, true, false, List, [], ◌∷◌, ◌++◌, ℤ, Option, Some, None, Result, refl, arith, codes, bytes_eq}
use Rattle.std.specs.Option.{option_map}
use Rattle.dimacs.specs.declared.number.Number.{Number}
use Rattle.dimacs.specs.layout.BuilderState.{BuilderState}
use Rattle.dimacs.specs.logic.Cnf.{greatest_of, greatest_in}
use Rattle.dimacs.specs.logic.Limits.{Limits}
use Rattle.dimacs.specs.inner.Capped.{capped}
use Rattle.dimacs.specs.logic.Literal.{Literal, Clause, var_of}
use Rattle.dimacs.specs.inner.Rows.{Gives}
use Rattle.dimacs.specs.text.Numbers.{number}
use Rattle.icnf.specs.declared.fault.IcnfFault.{IcnfFault}
use Rattle.icnf.specs.declared.fault.Kind.TheVariants.{BadToken}
use Rattle.icnf.specs.declared.walk.Stage.{Stage}
use Rattle.icnf.specs.declared.walk.Stage.TheVariants.{Clauses, Outside, Inside, Complete}
use Rattle.icnf.specs.ReadState.{ReadState}
use Rattle.icnf.specs.inner.ReadState.{IsRead, IsClosed}
use Rattle.icnf.specs.Walk.{WalkState}
use Rattle.icnf.specs.Parser.{no_memory, read_token, read_mark, read_number, fault}

pub greatest_append : (xs ys : Clause) → greatest_of (xs ++ ys) ≡ max (greatest_of xs) (greatest_of ys)
greatest_append [] ys = omega arith
greatest_append (x ∷ xs) ys = omega (arith, greatest_append xs ys)

pub greatest_more : (cs : List Clause) (c : Clause) → greatest_in (cs ++ c ∷ []) ≡ max (greatest_in cs) (greatest_of c)
greatest_more [] c = omega arith
greatest_more (x ∷ cs) c = omega (arith, greatest_more cs c)

open_among : (stage : Stage) (c : Clause) → stage ≡ Clauses → IsClosed stage c
open_among Clauses c e = tt
open_among Outside c e = absurd (cc)
open_among Inside c e = absurd (cc)
open_among Complete c e = absurd (cc)

pub read_push : (L : Limits) (walk : WalkState) (old new : BuilderState) (l : Literal) → walk.stage ≡ Clauses → var_of l ≤ 99999999 → IsRead (record { limits = L; clauses = old; walk = walk })
    → new ≡ record old { open_clause = old.open_clause ++ l ∷ []; total = old.total + 1 } → IsRead (record { limits = L; clauses = new; walk = walk })
read_push L walk old new l s small h e =
    rw e (record { greatest = omega (arith, h.greatest, greatest_append old.open_clause (l ∷ [])); closed = open_among walk.stage (old.open_clause ++ l ∷ []) s })

pub read_end : (L : Limits) (walk : WalkState) (old new : BuilderState) → walk.stage ≡ Clauses → IsRead (record { limits = L; clauses = old; walk = walk })
    → new ≡ record old { done = old.done ++ old.open_clause ∷ []; open_clause = [] } → IsRead (record { limits = L; clauses = new; walk = walk })
read_end L walk old new s h e =
    rw e (record { greatest = omega (arith, h.greatest, greatest_more old.done old.open_clause); closed = open_among walk.stage [] s })

-- ---- tokens

pub no_number : (o : Option ℤ) → None ≡ option_map capped o → o ≡ None
no_number None h = refl
no_number (Some z) h = absurd (cc)

pub some_number : (o : Option ℤ) (r : Number) → Some r ≡ option_map capped o → (z : ℤ) × (o ≡ Some z) × (r ≡ capped z)
some_number None r h = absurd (cc)
some_number (Some z) r h = (z, refl, cc)

module _ (line : ℕ) (word : List ℕ) (s new : ReadState) (r : Result (Unit {0}) IcnfFault) where
  pub token_mark : bytes_eq word (codes "a") ≡ true → Gives no_memory new r (read_mark line s.walk.stage s) → Gives no_memory new r (read_token line word s)
  unfolding read_token
  token_mark e h = rw e h

  pub token_number : (n : Number) → bytes_eq word (codes "a") ≡ false → Some n ≡ option_map capped (number word) → ((z : ℤ) → n ≡ capped z → Gives no_memory new r (read_number line z s.walk.stage s)) → Gives no_memory new r (read_token line word s)
  unfolding read_token
  token_number n e found h =
      let z = some_number (number word) n found in
      let is = z.1 in
      rw (e, is) (h z.0 z.2)

pub token_bad : (line : ℕ) (word : List ℕ) (s : ReadState) → bytes_eq word (codes "a") ≡ false → None ≡ option_map capped (number word) → read_token line word s ≡ fault BadToken line
unfolding read_token
token_bad line word s e none = rw (e, no_number (number word) none) refl
