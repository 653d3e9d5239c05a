-- The tokens of a cube's line.
use Rattle.std.proofs.Common.{◌≡◌, ◌≢◌, ◌∙◌, ℕ, zero, suc, ◌<◌, ◌≤◌, min, Bool, true, false, ◌||◌, cond, inl, inr, List, [], ◌∷◌, ◌++◌, length, ℤ, pos, negsuc, nat_abs, nat_eq, Option, Some, None, Result, Ok, Err, refl, sym, ap, subst, arith, append_assoc}
use Rattle.icnf.specs.Parser.{no_memory}
use Rattle.std.specs.Prelude.{nat_lt, nat_le}
use Rattle.std.specs.Option.{option_map}
use Rattle.std.proofs.lemmas.Bool.{both_ways, cases_Bool, eq-eqb}
use Rattle.std.proofs.lemmas.Bool.Decides.{nat_tests}
use Rattle.std.proofs.lemmas.List.{append-nil}
use Rattle.std.proofs.lemmas.List.Elements.{All-cons, All-nil}
use Rattle.dimacs.specs.declared.number.Number.{Number}
use Rattle.dimacs.specs.inner.Capped.{capped}
use Rattle.dimacs.specs.logic.Literal.{Literal, Pos, Neg, IsWithin, literal_of_number, var_of}
use Rattle.dimacs.specs.text.Numbers.{number}
use Rattle.dimacs.specs.text.Rows.{Fails, ◌>>=◌}
use Rattle.dimacs.proofs.RowLemmas.{bind_ok, fails_by}
use Rattle.icnf.specs.declared.fault.IcnfFault.{IcnfFault}
use Rattle.icnf.specs.declared.fault.Kind.TheVariants.{BadToken, VariableAboveClauses, ClauseNotEnded, RepeatedVariable, CubeTooLong}
use Rattle.icnf.specs.Leaves.{Cube, IsFree}
use Rattle.icnf.specs.Parser as icnf
use Rattle.cubes_to_tree.specs.CubeList.{CubeRead, cube_of, end_cube, has_variable, nothing_read, read_found, read_literal, read_number, read_token, read_tokens}
use Rattle.cubes_to_tree.specs.inner.Cubes.{IsCube, IsRest}
use Rattle.cubes_to_tree.proofs.NodeLemmas.{not_deep}

no_number : (o : Option ℤ) → option_map capped o ≡ None → o ≡ None
no_number None h = refl
no_number (Some z) h = absurd (cc)

some_number : (o : Option ℤ) (r : Number) → option_map capped o ≡ Some r → (z : ℤ) × (o ≡ Some z) × (capped z ≡ r)
some_number None r h = absurd (cc)
some_number (Some z) r h = (z, refl, cc)

capped_size : (z : ℤ) → (capped z).size ≡ min 100000000 (nat_abs z)
capped_size (pos n) = refl
capped_size (negsuc n) = refl

capped_is : (z : ℤ) → nat_abs z < 100000000 → literal_of_number z ≡ cond (capped z).negative (Neg (capped z).size) (Pos (capped z).size)
capped_is (pos n) h = ap Pos (omega arith)
capped_is (negsuc n) h = let e : min 100000000 (suc n) ≡ suc n = omega arith in rw e refl

variable_is : (z : ℤ) → var_of (literal_of_number z) ≡ nat_abs z
variable_is (pos n) = refl
variable_is (negsuc n) = refl

number_ends : (greatest line : ℕ) (z : ℤ) (c : CubeRead) → nat_abs z ≡ 0 → read_number greatest line z c ≡ Ok (record c { ended = true })
number_ends greatest line z c h = grind (arith, nat_tests)

number_reads : (greatest line : ℕ) (z : ℤ) (c : CubeRead) → 0 < nat_abs z → read_number greatest line z c ≡ read_literal greatest line (literal_of_number z) c
number_reads greatest line z c h = grind (arith, nat_tests)

literal_above : (greatest line : ℕ) (l : Literal) (c : CubeRead) → greatest < var_of l → read_literal greatest line l c ≡ icnf.fault VariableAboveClauses line
literal_above greatest line l c h = grind (arith, nat_tests)

module _ (greatest line : ℕ) (word : List ℕ) (c : CubeRead) where
  pub token_behind : c.ended ≡ true → read_token greatest line word c ≡ icnf.fault BadToken line
  unfolding read_token
  token_behind e = rw e refl

  token_is : (o : Option ℤ) → c.ended ≡ false → number word ≡ o → read_token greatest line word c ≡ read_found greatest line o c
  unfolding read_token
  token_is o e f = rw (e, f) refl

  pub token_bad : c.ended ≡ false → option_map capped (number word) ≡ None → read_token greatest line word c ≡ icnf.fault BadToken line
  token_bad e h = token_is None e (no_number (number word) h)

  module _ (r : Number) (open_ : c.ended ≡ false) (found : option_map capped (number word) ≡ Some r) where
    pub token_ends : r.size ≡ 0 → read_token greatest line word c ≡ Ok (record c { ended = true })
    token_ends h =
        let z = some_number (number word) r found in
        let size : r.size ≡ min 100000000 (nat_abs z.0) = ap (λ (x : Number). x.size) (sym z.2) ∙ capped_size z.0 in
        let none : nat_abs z.0 ≡ 0 = omega arith in
        token_is (Some z.0) open_ z.1 ∙ number_ends greatest line z.0 c none

    pub token_above : greatest < r.size → read_token greatest line word c ≡ icnf.fault VariableAboveClauses line
    token_above h =
        let z = some_number (number word) r found in
        let size : r.size ≡ min 100000000 (nat_abs z.0) = ap (λ (x : Number). x.size) (sym z.2) ∙ capped_size z.0 in
        let some : 0 < nat_abs z.0 = omega arith in
        let is = variable_is z.0 in
        let above : greatest < var_of (literal_of_number z.0) = omega arith in
        token_is (Some z.0) open_ z.1 ∙ number_reads greatest line z.0 c some ∙ literal_above greatest line (literal_of_number z.0) c above

    pub token_reads : (l : Literal) → 0 < r.size → r.size < 100000000 → l ≡ cond r.negative (Neg r.size) (Pos r.size) → read_token greatest line word c ≡ read_literal greatest line l c
    token_reads l h k e =
        let z = some_number (number word) r found in
        let size : r.size ≡ min 100000000 (nat_abs z.0) = ap (λ (x : Number). x.size) (sym z.2) ∙ capped_size z.0 in
        let some : 0 < nat_abs z.0 = omega arith in
        let is : literal_of_number z.0 ≡ l = capped_is z.0 (omega arith) ∙ ap (λ (x : Number). cond x.negative (Neg x.size) (Pos x.size)) z.2 ∙ sym e in
        token_is (Some z.0) open_ z.1 ∙ number_reads greatest line z.0 c some ∙ ap (λ (x : Literal). read_literal greatest line x c) is

-- ---- the tokens, one after the other

module _ (greatest line : ℕ) where
  pub tokens_more : (ws more : List (List ℕ)) (w : List ℕ) (c next : CubeRead) → ws ≡ w ∷ more → read_token greatest line w c ≡ Ok next → read_tokens greatest line ws c ≡ read_tokens greatest line more next
  unfolding read_tokens
  tokens_more ws more w c next e h = rw (e, h) refl

  pub tokens_end : (ws : List (List ℕ)) (c : CubeRead) → ws ≡ [] → read_tokens greatest line ws c ≡ Ok c
  unfolding read_tokens
  tokens_end ws c e = rw e refl

  tokens_fault : (ws more : List (List ℕ)) (w : List ℕ) (c : CubeRead) (f : IcnfFault) → ws ≡ w ∷ more → read_token greatest line w c ≡ Err f → read_tokens greatest line ws c ≡ Err f
  unfolding read_tokens
  tokens_fault ws more w c f e h = rw (e, h) refl

  pub tokens_fail : (ws more : List (List ℕ)) (w : List ℕ) (c : CubeRead) (f : IcnfFault) (all : Result CubeRead IcnfFault) → ws ≡ w ∷ more → read_tokens greatest line ws c ≡ all
      → Fails no_memory f (read_token greatest line w c) → Fails no_memory f all
  tokens_fail ws more w c f all e so_far h = fails_by no_memory f (read_token greatest line w c) all (λ is. sym so_far ∙ tokens_fault ws more w c f e is) h

-- ---- what is read is a cube

free_of : (q : Cube) (v : ℕ) → has_variable q v ≡ false → IsFree q v
free_of [] v h = All-nil (λ (l : Literal). var_of l ≢ v)
free_of (l ∷ q) v h =
    let both = neither (nat_eq (var_of l) v) (has_variable q v) h in
    All-cons (λ (k : Literal). var_of k ≢ v) l q (λ e. both_ways (nat_eq (var_of l) v) both.0 (eq-eqb (var_of l) v e)) (free_of q v both.1)
  where
    neither : (a b : Bool) → (a || b) ≡ false → (a ≡ false) × (b ≡ false)
    neither true b f = absurd (cc)
    neither false b f = (refl, f)

rest_more : (greatest : ℕ) (path q : Cube) (x : Literal) → IsRest greatest path q → IsWithin greatest x → IsFree (path ++ q) (var_of x) → length (path ++ q) < 64
    → IsRest greatest path (q ++ x ∷ [])
rest_more greatest path [] x h w f n =
    let same = append-nil path in
    let few : length path < 64 = subst (λ (p : Cube). length p < 64) same n in
    (w, subst (λ (p : Cube). IsFree p (var_of x)) same f, few, not_deep path x few)
rest_more greatest path (y ∷ q) x h w f n =
    let same = append_assoc path (y ∷ []) q in
    (h.0, h.1, h.2, rest_more greatest (path ++ y ∷ []) q x h.3 w (subst (λ (p : Cube). IsFree p (var_of x)) (sym same) f) (subst (λ (p : Cube). length p < 64) (sym same) n))

ok_is : {A E : Type 0} (x y : A) → (let r : Result A E = Ok x in r ≡ Ok y) → x ≡ y
ok_is x y e = cc

literal_keeps : (greatest line : ℕ) (l : Literal) (c d : CubeRead) → IsCube greatest c.literals → 0 < var_of l → read_literal greatest line l c ≡ Ok d → IsCube greatest d.literals
literal_keeps greatest line l c d h some e = at (nat_lt greatest (var_of l)) (has_variable c.literals (var_of l)) (nat_le 64 (length c.literals)) refl refl refl e where
  longer : CubeRead
  longer = record c { literals = c.literals ++ l ∷ [] }

  at : (a b k : Bool) → nat_lt greatest (var_of l) ≡ a → has_variable c.literals (var_of l) ≡ b → nat_le 64 (length c.literals) ≡ k
      → cond a (icnf.fault VariableAboveClauses line) (cond b (icnf.fault RepeatedVariable line) (cond k (icnf.fault CubeTooLong line) (Ok (record c { literals = c.literals ++ l ∷ [] })))) ≡ Ok d
      → IsCube greatest d.literals
  at true b k p q r e = absurd (cc)
  at false true k p q r e = absurd (cc)
  at false false true p q r e = absurd (cc)
  at false false false p q r e =
      let low : var_of l ≤ greatest = grind (arith, nat_tests, p) in
      let few : length c.literals < 64 = grind (arith, nat_tests, r) in
      subst (λ (x : CubeRead). IsCube greatest x.literals) (ok_is (record c { literals = c.literals ++ l ∷ [] }) d e)
      (rest_more greatest [] c.literals l h (some, low) (free_of c.literals (var_of l) q) few)

number_keeps : (greatest line : ℕ) (z : ℤ) (c d : CubeRead) → IsCube greatest c.literals → read_number greatest line z c ≡ Ok d → IsCube greatest d.literals
number_keeps greatest line z c d h e = at (nat_abs z) refl where
  at : (n : ℕ) → nat_abs z ≡ n → IsCube greatest d.literals
  at zero none = subst (λ (x : CubeRead). IsCube greatest x.literals) (ok_is (record c { ended = true }) d (sym (number_ends greatest line z c none) ∙ e)) h
  at (suc n) some =
      let more : 0 < nat_abs z = omega arith in
      let is = variable_is z in
      literal_keeps greatest line (literal_of_number z) c d h (omega arith) (sym (number_reads greatest line z c more) ∙ e)

token_keeps : (greatest line : ℕ) (word : List ℕ) (c d : CubeRead) → IsCube greatest c.literals → read_token greatest line word c ≡ Ok d → IsCube greatest d.literals
token_keeps greatest line word c d h e = elim (cases_Bool c.ended) [
  | inl ended ↦ absurd (let same : icnf.fault BadToken line ≡ Ok d = sym (token_behind greatest line word c ended) ∙ e in cc)
  | inr open_ ↦ at (number word) refl open_
]
  where
    at : (o : Option ℤ) → number word ≡ o → c.ended ≡ false → IsCube greatest d.literals
    at None f open_ = absurd (let same : icnf.fault BadToken line ≡ Ok d = sym (token_is greatest line word c None open_ f) ∙ e in cc)
    at (Some z) f open_ = number_keeps greatest line z c d h (sym (token_is greatest line word c (Some z) open_ f) ∙ e)

tokens_keep : (greatest line : ℕ) (ws : List (List ℕ)) (c d : CubeRead) → IsCube greatest c.literals → read_tokens greatest line ws c ≡ Ok d → IsCube greatest d.literals
unfolding read_tokens
tokens_keep greatest line [] c d h e = subst (λ (x : CubeRead). IsCube greatest x.literals) (ok_is c d e) h
tokens_keep greatest line (w ∷ ws) c d h e =
    let z = bind_ok (read_token greatest line w c) (read_tokens greatest line ws) d e in
    tokens_keep greatest line ws z.0 d (token_keeps greatest line w c z.0 h z.1) z.2

-- ---- the line's end

module _ (greatest line : ℕ) (ws : List (List ℕ)) (c : CubeRead) (read : read_tokens greatest line ws nothing_read ≡ Ok c) where
  pub cube_is : c.ended ≡ true → cube_of greatest line ws ≡ Ok c.literals
  cube_is e = ap (λ (r : Result CubeRead IcnfFault). r >>= end_cube line) read ∙ ap (λ b. cond b (Ok c.literals) (icnf.fault ClauseNotEnded line)) e

  pub cube_open : c.ended ≡ false → cube_of greatest line ws ≡ icnf.fault ClauseNotEnded line
  cube_open e = ap (λ (r : Result CubeRead IcnfFault). r >>= end_cube line) read ∙ ap (λ b. cond b (Ok c.literals) (icnf.fault ClauseNotEnded line)) e

  pub cube_stands : IsCube greatest c.literals
  cube_stands = tokens_keep greatest line ws nothing_read c (omega arith) read

pub cube_fails : (greatest line : ℕ) (ws : List (List ℕ)) (f : IcnfFault) → Fails no_memory f (read_tokens greatest line ws nothing_read) → Fails no_memory f (cube_of greatest line ws)
cube_fails greatest line ws f h =
    fails_by no_memory f (read_tokens greatest line ws nothing_read) (cube_of greatest line ws) (λ is. ap (λ (r : Result CubeRead IcnfFault). r >>= end_cube line) is) h
