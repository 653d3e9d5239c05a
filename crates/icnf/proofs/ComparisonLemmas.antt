-- Comparing clauses with a formula's is counting and asking at one place.
use Rattle.std.proofs.Common.{◌≡◌, ℕ, ◌+◌, ◌&&◌, max, Bool, true, false, suc, List, [], ◌∷◌, ◌++◌, length, get_or, refl, sym, ap, ◌∙◌, arith, eqb, ltb, length-append, Decides}
use Rattle.std.proofs.Math.Dec.{eqb-suc-suc, eqb-zero-suc}
use Rattle.std.proofs.Math.Nat.{zero-lt-suc}
use Rattle.std.proofs.lemmas.Bool.{false≢true, eq-eqb, lt-ltb}
use Rattle.std.proofs.lemmas.Bool.Decides.{Decides-like, Decides-ltb, same_from_decides}
use Rattle.dimacs.specs.layout.BuilderState.{BuilderState}
use Rattle.dimacs.specs.logic.Cnf.{greatest_of}
use Rattle.dimacs.specs.logic.Literal.{Literal, Clause, var_of, same}
use Rattle.dimacs.proofs.LiteralLemmas.{same-true, same-itself}
use Rattle.icnf.specs.Comparison.{begins_with, is_clause, agree, compared}
use Rattle.icnf.specs.inner.Comparison.{has_at, ends_at, with_literal, with_end}
use Rattle.icnf.proofs.BodyLemmas.{greatest_append, greatest_more}

-- ---- tests

and_assoc : (a b c : Bool) → (a && (b && c)) ≡ ((a && b) && c)
and_assoc true b c = refl
and_assoc false b c = refl

and_true : (a : Bool) → (a && true) ≡ a
and_true true = refl
and_true false = refl

and_false : (a : Bool) → (a && false) ≡ false
and_false true = refl
and_false false = refl

and_both : (a b : Bool) → (a && b) ≡ true → (a ≡ true) × (b ≡ true)
and_both true b h = (refl, h)
and_both false b h = absurd (cc)

lt_suc : (m n : ℕ) → ltb (suc m) (suc n) ≡ ltb m n
lt_suc m n = same_from_decides (ltb (suc m) (suc n)) (ltb m n) (Decides-like (ltb (suc m) (suc n)) (λ h. omega arith) (λ h. omega arith) (Decides-ltb (suc m) (suc n))) (Decides-ltb m n)

lt_first : (n : ℕ) → ltb 0 (suc n) ≡ true
lt_first n = lt-ltb 0 (suc n) (zero-lt-suc n)

has_first : (k : Literal) (c : Clause) (l : Literal) → has_at (k ∷ c) 0 l ≡ same k l
has_first k c l = ap (λ (b : Bool). b && same k l) (lt_first (length c))

has_behind : (k : Literal) (c : Clause) (at : ℕ) (l : Literal) → has_at (k ∷ c) (suc at) l ≡ has_at c at l
has_behind k c at l = rw (lt_suc at (length c)) refl

ends_first : (c : Clause) (clauses : List Clause) (len : ℕ) → ends_at (c ∷ clauses) 0 len ≡ eqb len (length c)
ends_first c clauses len = ap (λ (b : Bool). b && eqb len (length c)) (lt_first (length clauses))

ends_behind : (c : Clause) (clauses : List Clause) (i len : ℕ) → ends_at (c ∷ clauses) (suc i) len ≡ ends_at clauses i len
ends_behind c clauses i len = rw (lt_suc i (length clauses)) refl

-- ---- one literal, or one clause more

begins_push : (open_clause c : Clause) (l : Literal) → begins_with (open_clause ++ l ∷ []) c ≡ (begins_with open_clause c && has_at c (length open_clause) l)
begins_push [] [] l = refl
begins_push [] (k ∷ c) l = and_true (same k l) ∙ sym (has_first k c l)
begins_push (o ∷ open_clause) [] l = refl
begins_push (o ∷ open_clause) (k ∷ c) l =
    ap (λ (b : Bool). same k o && b) (begins_push open_clause c l) ∙ and_assoc (same k o) (begins_with open_clause c) (has_at c (length open_clause) l)
    ∙ ap (λ (b : Bool). begins_with (o ∷ open_clause) (k ∷ c) && b) (sym (has_behind k c (length open_clause) l))

agree_end : (clauses done : List Clause) (open_clause : Clause)
    → agree clauses (done ++ open_clause ∷ []) ≡ ((agree clauses done && begins_with open_clause (get_or clauses (length done) [])) && ends_at clauses (length done) (length open_clause))
agree_end [] [] open_clause = sym (and_false (begins_with open_clause []))
agree_end (c ∷ clauses) [] open_clause = and_true (is_clause open_clause c) ∙ ap (λ (b : Bool). begins_with open_clause c && b) (sym (ends_first c clauses (length open_clause)))
agree_end [] (d ∷ done) open_clause = refl
agree_end (c ∷ clauses) (d ∷ done) open_clause =
    let begins = begins_with open_clause (get_or clauses (length done) []) in
    let ends = ends_at clauses (length done) (length open_clause) in
    ap (λ (b : Bool). is_clause d c && b) (agree_end clauses done open_clause)
    ∙ and_assoc (is_clause d c) (agree clauses done && begins) ends
    ∙ ap (λ (b : Bool). b && ends) (and_assoc (is_clause d c) (agree clauses done) begins)
    ∙ ap (λ (b : Bool). ((is_clause d c && agree clauses done) && begins) && b) (sym (ends_behind c clauses (length done) (length open_clause)))

one_more : {A : Type 0} (xs : List A) (x : A) → length (xs ++ x ∷ []) ≡ length xs + 1
one_more xs x = length-append xs (x ∷ [])

pub literal_kept : (clauses : List Clause) (b : BuilderState) (l : Literal) → with_literal clauses l (compared clauses b) ≡ compared clauses (record b { open_clause = b.open_clause ++ l ∷ []; total = b.total + 1 })
unfolding with_literal
literal_kept clauses b l =
    let size = one_more b.open_clause l in
    let top : greatest_of (b.open_clause ++ l ∷ []) ≡ max (greatest_of b.open_clause) (var_of l) = omega (arith, greatest_append b.open_clause (l ∷ [])) in
    rw (size, top, begins_push b.open_clause (get_or clauses (length b.done) []) l) refl

pub end_kept : (clauses : List Clause) (b : BuilderState) → with_end clauses (compared clauses b) ≡ compared clauses (record b { done = b.done ++ b.open_clause ∷ []; open_clause = [] })
unfolding with_end
end_kept clauses b =
    let size = one_more b.done b.open_clause in
    let top = greatest_more b.done b.open_clause in
    rw (size, top, agree_end clauses b.done b.open_clause) refl

-- ---- all clauses

clause_is : (d c : Clause) → is_clause d c ≡ true → d ≡ c
clause_is [] [] h = refl
clause_is [] (k ∷ c) h = absurd (false≢true (sym (eqb-zero-suc (length c)) ∙ h))
clause_is (l ∷ d) [] h = absurd (cc)
clause_is (l ∷ d) (k ∷ c) h =
    let sizes = ap (λ (b : Bool). (same k l && begins_with d c) && b) (eqb-suc-suc (length d) (length c)) in
    let both = and_both (same k l) (is_clause d c) (and_assoc (same k l) (begins_with d c) (eqb (length d) (length c)) ∙ sym sizes ∙ h) in
    let first : k ≡ l = same-true k l both.0 in
    let rest : d ≡ c = clause_is d c both.1 in
    cc

begins_itself : (c : Clause) → begins_with c c ≡ true
begins_itself [] = refl
begins_itself (l ∷ c) = ap (λ (b : Bool). b && begins_with c c) (same-itself l) ∙ begins_itself c

is_itself : (c : Clause) → is_clause c c ≡ true
is_itself c = ap (λ (b : Bool). b && eqb (length c) (length c)) (begins_itself c) ∙ eq-eqb (length c) (length c) refl

agree_is : (clauses done : List Clause) → (agree clauses done && eqb (length done) (length clauses)) ≡ true → done ≡ clauses
agree_is [] [] h = refl
agree_is (c ∷ clauses) [] h = absurd (false≢true (sym (eqb-zero-suc (length clauses)) ∙ h))
agree_is [] (d ∷ done) h = absurd (cc)
agree_is (c ∷ clauses) (d ∷ done) h =
    let sizes = ap (λ (b : Bool). (is_clause d c && agree clauses done) && b) (eqb-suc-suc (length done) (length clauses)) in
    let both = and_both (is_clause d c) (agree clauses done && eqb (length done) (length clauses)) (and_assoc (is_clause d c) (agree clauses done) (eqb (length done) (length clauses)) ∙ sym sizes ∙ h) in
    let first : d ≡ c = clause_is d c both.0 in
    let rest : done ≡ clauses = agree_is clauses done both.1 in
    cc

agree_itself : (clauses : List Clause) → agree clauses clauses ≡ true
agree_itself [] = refl
agree_itself (c ∷ clauses) = ap (λ (b : Bool). b && agree clauses clauses) (is_itself c) ∙ agree_itself clauses

-- whether the clauses are the formula's
pub whole_decides : (clauses done : List Clause) → Decides (agree clauses done && eqb (length done) (length clauses)) (done ≡ clauses)
whole_decides clauses done = (
  agree_is clauses done,
  λ e. rw e (ap (λ (b : Bool). b && eqb (length clauses) (length clauses)) (agree_itself clauses) ∙ eq-eqb (length clauses) (length clauses) refl),
)
