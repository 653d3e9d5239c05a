-- The tokens of an event's line.
use Rattle.std.proofs.Common.{◌≡◌, ◌∙◌, ℕ, suc, ◌<◌, ◌≤◌, min, true, false, cond, List, [], ◌∷◌, ◌++◌, ℤ, pos, negsuc, nat_abs, Option, Some, None, Result, Ok, Err, refl, sym, ap, arith}
use Rattle.std.specs.Option.{option_map}
use Rattle.std.proofs.lemmas.Bool.Decides.{nat_tests}
use Rattle.dimacs.specs.declared.number.Number.{Number}
use Rattle.dimacs.specs.inner.Capped.{capped}
use Rattle.dimacs.specs.logic.Literal.{Literal, Pos, Neg, literal_of_number}
use Rattle.dimacs.specs.text.Numbers.{number}
use Rattle.dimacs.specs.text.Rows.{Fails, ◌>>=◌}
use Rattle.dimacs.proofs.RowLemmas.{fails_by}
use Rattle.icnf.specs.declared.fault.IcnfFault.{IcnfFault}
use Rattle.icnf.specs.declared.fault.Kind.TheVariants.{BadToken, AboveLimit, ClauseNotEnded}
use Rattle.icnf.specs.Parser as icnf
use Rattle.icnf.specs.Parser.{no_memory}
use Rattle.sessions.specs.Events.{LineRead, end_line, literals_in, nothing_read, read_found, read_number, read_token, read_tokens}

no_number : (o : Option ℤ) → option_map capped o ≡ None → o ≡ None
no_number None h = refl
no_number (Some z) h = absurd (cc)

some_number : (o : Option ℤ) (r : Number) → option_map capped o ≡ Some r → (z : ℤ) × (o ≡ Some z) × (capped z ≡ r)
some_number None r h = absurd (cc)
some_number (Some z) r h = (z, refl, cc)

capped_size : (z : ℤ) → (capped z).size ≡ min 100000000 (nat_abs z)
capped_size (pos n) = refl
capped_size (negsuc n) = refl

capped_is : (z : ℤ) → nat_abs z < 100000000 → literal_of_number z ≡ cond (capped z).negative (Neg (capped z).size) (Pos (capped z).size)
capped_is (pos n) h = ap Pos (omega arith)
capped_is (negsuc n) h = let e : min 100000000 (suc n) ≡ suc n = omega arith in rw e refl

pub number_ends : (most line : ℕ) (z : ℤ) (c : LineRead) → nat_abs z ≡ 0 → read_number most line z c ≡ Ok (record c { ended = true })
number_ends most line z c h = grind (arith, nat_tests)

pub number_above : (most line : ℕ) (z : ℤ) (c : LineRead) → most < nat_abs z → read_number most line z c ≡ icnf.fault AboveLimit line
number_above most line z c h = grind (arith, nat_tests)

pub number_reads : (most line : ℕ) (z : ℤ) (c : LineRead) → 0 < nat_abs z → nat_abs z ≤ most → read_number most line z c ≡ Ok (record c { literals = c.literals ++ literal_of_number z ∷ [] })
number_reads most line z c h k = grind (arith, nat_tests)

module _ (most line : ℕ) (word : List ℕ) (c : LineRead) where
  pub token_behind : c.ended ≡ true → read_token most line word c ≡ icnf.fault ClauseNotEnded line
  unfolding read_token
  token_behind e = rw e refl

  pub token_is : (o : Option ℤ) → c.ended ≡ false → number word ≡ o → read_token most line word c ≡ read_found most line o c
  unfolding read_token
  token_is o e f = rw (e, f) refl

  pub token_bad : c.ended ≡ false → option_map capped (number word) ≡ None → read_token most line word c ≡ icnf.fault BadToken line
  token_bad e h = token_is None e (no_number (number word) h)

  module _ (r : Number) (open_ : c.ended ≡ false) (found : option_map capped (number word) ≡ Some r) where
    pub token_ends : r.size ≡ 0 → read_token most line word c ≡ Ok (record c { ended = true })
    token_ends h =
        let z = some_number (number word) r found in
        let size : r.size ≡ min 100000000 (nat_abs z.0) = ap (λ (x : Number). x.size) (sym z.2) ∙ capped_size z.0 in
        let none : nat_abs z.0 ≡ 0 = omega arith in
        token_is (Some z.0) open_ z.1 ∙ number_ends most line z.0 c none

    pub token_above : most < r.size → read_token most line word c ≡ icnf.fault AboveLimit line
    token_above h =
        let z = some_number (number word) r found in
        let size : r.size ≡ min 100000000 (nat_abs z.0) = ap (λ (x : Number). x.size) (sym z.2) ∙ capped_size z.0 in
        token_is (Some z.0) open_ z.1 ∙ number_above most line z.0 c (omega arith)

    pub token_reads : (l : Literal) → most ≤ 99999999 → 0 < r.size → r.size ≤ most → l ≡ cond r.negative (Neg r.size) (Pos r.size) → read_token most line word c ≡ Ok (record c { literals = c.literals ++ l ∷ [] })
    token_reads l few h k e =
        let z = some_number (number word) r found in
        let size : r.size ≡ min 100000000 (nat_abs z.0) = ap (λ (x : Number). x.size) (sym z.2) ∙ capped_size z.0 in
        let is : literal_of_number z.0 ≡ l = capped_is z.0 (omega arith) ∙ ap (λ (x : Number). cond x.negative (Neg x.size) (Pos x.size)) z.2 ∙ sym e in
        token_is (Some z.0) open_ z.1 ∙ number_reads most line z.0 c (omega arith) (omega arith) ∙ ap (λ (x : Literal). Ok (record c { literals = c.literals ++ x ∷ [] })) is

-- ---- the tokens, one after the other

module _ (most line : ℕ) where
  pub tokens_more : (ws more : List (List ℕ)) (w : List ℕ) (c next : LineRead) → ws ≡ w ∷ more → read_token most line w c ≡ Ok next → read_tokens most line ws c ≡ read_tokens most line more next
  unfolding read_tokens
  tokens_more ws more w c next e h = rw (e, h) refl

  pub tokens_end : (ws : List (List ℕ)) (c : LineRead) → ws ≡ [] → read_tokens most line ws c ≡ Ok c
  unfolding read_tokens
  tokens_end ws c e = rw e refl

  tokens_fault : (ws more : List (List ℕ)) (w : List ℕ) (c : LineRead) (f : IcnfFault) → ws ≡ w ∷ more → read_token most line w c ≡ Err f → read_tokens most line ws c ≡ Err f
  unfolding read_tokens
  tokens_fault ws more w c f e h = rw (e, h) refl

  pub tokens_fail : (ws more : List (List ℕ)) (w : List ℕ) (c : LineRead) (f : IcnfFault) (all : Result LineRead IcnfFault) → ws ≡ w ∷ more → read_tokens most line ws c ≡ all
      → Fails no_memory f (read_token most line w c) → Fails no_memory f all
  tokens_fail ws more w c f all e so_far h = fails_by no_memory f (read_token most line w c) all (λ is. sym so_far ∙ tokens_fault ws more w c f e is) h

-- ---- the line's end

module _ (most line : ℕ) (ws : List (List ℕ)) (c : LineRead) (read : read_tokens most line ws nothing_read ≡ Ok c) where
  pub literals_are : c.ended ≡ true → literals_in most line ws ≡ Ok c.literals
  literals_are e = ap (λ (r : Result LineRead IcnfFault). r >>= end_line line) read ∙ ap (λ b. cond b (Ok c.literals) (icnf.fault ClauseNotEnded line)) e

  pub literals_open : c.ended ≡ false → literals_in most line ws ≡ icnf.fault ClauseNotEnded line
  literals_open e = ap (λ (r : Result LineRead IcnfFault). r >>= end_line line) read ∙ ap (λ b. cond b (Ok c.literals) (icnf.fault ClauseNotEnded line)) e

pub literals_fail : (most line : ℕ) (ws : List (List ℕ)) (f : IcnfFault) → Fails no_memory f (read_tokens most line ws nothing_read) → Fails no_memory f (literals_in most line ws)
literals_fail most line ws f h =
    fails_by no_memory f (read_tokens most line ws nothing_read) (literals_in most line ws) (λ is. ap (λ (r : Result LineRead IcnfFault). r >>= end_line line) is) h
