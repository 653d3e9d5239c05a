-- What a token makes of what was named.
use Rattle.std.proofs.Common.{◌≡◌, ℕ, suc, ◌<◌, ◌≤◌, min, true, false, cond, List, [], ◌∷◌, ◌++◌, ℤ, pos, negsuc, nat_abs, Option, Some, None, Result, Ok, Err, refl, sym, ap, ◌∙◌, arith}
use Rattle.std.specs.Option.{option_map}
use Rattle.std.proofs.lemmas.Bool.Decides.{nat_tests}
use Rattle.dimacs.specs.declared.number.Number.{Number}
use Rattle.dimacs.specs.inner.Capped.{capped}
use Rattle.dimacs.specs.logic.Literal.{Literal, Pos, Neg, literal_of_number}
use Rattle.dimacs.specs.text.Numbers.{number}
use Rattle.dimacs.specs.text.Rows.{Fails, ◌>>=◌}
use Rattle.dimacs.proofs.RowLemmas.{fails_by}
use Rattle.answers.specs.declared.fault.AnswerFault.{AnswerFault}
use Rattle.answers.specs.declared.fault.Kind.TheVariants.{BadToken, BehindEnd}
use Rattle.answers.specs.Parse.{Naming, fault, no_memory, read_found, read_literal, read_number, read_token, read_tokens}

no_number : (o : Option ℤ) → option_map capped o ≡ None → o ≡ None
no_number None h = refl
no_number (Some z) h = absurd (cc)

some_number : (o : Option ℤ) (r : Number) → option_map capped o ≡ Some r → (z : ℤ) × (o ≡ Some z) × (capped z ≡ r)
some_number None r h = absurd (cc)
some_number (Some z) r h = (z, refl, cc)

capped_size : (z : ℤ) → (capped z).size ≡ min 100000000 (nat_abs z)
capped_size (pos n) = refl
capped_size (negsuc n) = refl

capped_is : (z : ℤ) → nat_abs z < 100000000 → literal_of_number z ≡ cond (capped z).negative (Neg (capped z).size) (Pos (capped z).size)
capped_is (pos n) h = ap Pos (omega arith)
capped_is (negsuc n) h = let e : min 100000000 (suc n) ≡ suc n = omega arith in rw e refl

pub number_ends : (line : ℕ) (z : ℤ) (m : Naming) → nat_abs z ≡ 0 → read_number line z m ≡ Ok (record m { ended = true })
number_ends line z m h = grind (arith, nat_tests)

number_above : (line : ℕ) (z : ℤ) (m : Naming) → 99999999 < nat_abs z → read_number line z m ≡ fault BadToken line
number_above line z m h = grind (arith, nat_tests)

pub number_named : (line : ℕ) (z : ℤ) (m : Naming) → 0 < nat_abs z → nat_abs z ≤ 99999999 → read_number line z m ≡ read_literal line (literal_of_number z) m
number_named line z m h k = grind (arith, nat_tests)

module _ (line : ℕ) (word : List ℕ) (m : Naming) where
  pub token_behind : m.ended ≡ true → read_token line word m ≡ fault BehindEnd line
  unfolding read_token
  token_behind e = rw e refl

  pub token_is : (o : Option ℤ) → m.ended ≡ false → number word ≡ o → read_token line word m ≡ read_found line o m
  unfolding read_token
  token_is o e f = rw (e, f) refl

  pub token_bad : m.ended ≡ false → option_map capped (number word) ≡ None → read_token line word m ≡ fault BadToken line
  token_bad e h = token_is None e (no_number (number word) h)

  module _ (r : Number) (open_ : m.ended ≡ false) (found : option_map capped (number word) ≡ Some r) where
    pub token_ends : r.size ≡ 0 → read_token line word m ≡ Ok (record m { ended = true })
    token_ends h =
        let z = some_number (number word) r found in
        let size : r.size ≡ min 100000000 (nat_abs z.0) = ap (λ (x : Number). x.size) (sym z.2) ∙ capped_size z.0 in
        let none : nat_abs z.0 ≡ 0 = omega arith in
        token_is (Some z.0) open_ z.1 ∙ number_ends line z.0 m none

    pub token_above : 99999999 < r.size → read_token line word m ≡ fault BadToken line
    token_above h =
        let z = some_number (number word) r found in
        let size : r.size ≡ min 100000000 (nat_abs z.0) = ap (λ (x : Number). x.size) (sym z.2) ∙ capped_size z.0 in
        let above : 99999999 < nat_abs z.0 = omega arith in
        token_is (Some z.0) open_ z.1 ∙ number_above line z.0 m above

    pub token_names : (l : Literal) → 0 < r.size → r.size ≤ 99999999 → l ≡ cond r.negative (Neg r.size) (Pos r.size) → read_token line word m ≡ read_literal line l m
    token_names l h k e =
        let z = some_number (number word) r found in
        let size : r.size ≡ min 100000000 (nat_abs z.0) = ap (λ (x : Number). x.size) (sym z.2) ∙ capped_size z.0 in
        let some : 0 < nat_abs z.0 = omega arith in
        let few : nat_abs z.0 ≤ 99999999 = omega arith in
        let is : literal_of_number z.0 ≡ l = capped_is z.0 (omega arith) ∙ ap (λ (x : Number). cond x.negative (Neg x.size) (Pos x.size)) z.2 ∙ sym e in
        token_is (Some z.0) open_ z.1 ∙ number_named line z.0 m some few ∙ ap (λ (x : Literal). read_literal line x m) is

-- ---- the tokens of a line

pub tokens_more : (line : ℕ) (ws more : List (List ℕ)) (w : List ℕ) (m next : Naming) → ws ≡ w ∷ more → read_token line w m ≡ Ok next → read_tokens line ws m ≡ read_tokens line more next
unfolding read_tokens
tokens_more line ws more w m next e h = rw (e, h) refl

pub tokens_end : (line : ℕ) (ws : List (List ℕ)) (m : Naming) → ws ≡ [] → read_tokens line ws m ≡ Ok m
unfolding read_tokens
tokens_end line ws m e = rw e refl

tokens_fault : (line : ℕ) (ws more : List (List ℕ)) (w : List ℕ) (m : Naming) (f : AnswerFault) → ws ≡ w ∷ more → read_token line w m ≡ Err f → read_tokens line ws m ≡ Err f
unfolding read_tokens
tokens_fault line ws more w m f e h = rw (e, h) refl

pub tokens_fail : (line : ℕ) (ws more : List (List ℕ)) (w : List ℕ) (m : Naming) (f : AnswerFault) (all : Result Naming AnswerFault) → ws ≡ w ∷ more → read_tokens line ws m ≡ all
    → Fails no_memory f (read_token line w m) → Fails no_memory f all
tokens_fail line ws more w m f all e so_far h = fails_by no_memory f (read_token line w m) all (λ is. sym so_far ∙ tokens_fault line ws more w m f e is) h

bind_same : {A B E : Type 0} (r : Result A E) (f g : A → Result B E) → ((x : A) → f x ≡ g x) → (r >>= f) ≡ (r >>= g)
bind_same (Ok x) f g h = h x
bind_same (Err e) f g h = refl

bind_twice : {A B C E : Type 0} (r : Result A E) (f : A → Result B E) (g : B → Result C E) → (r >>= λ x. f x >>= g) ≡ ((r >>= f) >>= g)
bind_twice (Ok x) f g = refl
bind_twice (Err e) f g = refl

pub tokens_append : (line : ℕ) (xs ys : List (List ℕ)) (m : Naming) → read_tokens line (xs ++ ys) m ≡ (read_tokens line xs m >>= read_tokens line ys)
unfolding read_tokens
tokens_append line [] ys m = refl
tokens_append line (x ∷ xs) ys m =
    bind_same (read_token line x m) (read_tokens line (xs ++ ys)) (λ c. read_tokens line xs c >>= read_tokens line ys) (λ c. tokens_append line xs ys c)
    ∙ bind_twice (read_token line x m) (read_tokens line xs) (read_tokens line ys)
