-- Reading gives exactly the literals that a text names.
use Rattle.std.proofs.Common.{◌≡◌, ◌≢◌, ◌⊎◌, inl, inr, ℕ, ◌+◌, ◌<◌, ◌≤◌, Bool, true, false, cond, ◌||◌, List, [], ◌∷◌, ◌++◌, map, ℤ, pos, negsuc, nat_abs, Option, Some, None, Result, Ok, refl, sym, subst, ap, ◌∙◌, arith, append_assoc, ltb, eqb}
use mathlib.Core.Path.{fun_ext}
use Rattle.std.specs.List.{flat_map, list_any, AllByRecursion}
use Rattle.std.proofs.lemmas.Bool.{true≢false, ltb-false, eqb-true, eqb-false, false_from_ne_true}
use Rattle.std.proofs.lemmas.List.{append-nil, map-append}
use Rattle.std.proofs.lemmas.List.Folds.{list_any-append}
use Rattle.std.proofs.lemmas.List.Elements.{All-from_recursion, recursion_from_All, Contains-append_left, Contains-append_right}
use Rattle.dimacs.specs.logic.Literal.{Literal, Clause, IsTautology, IsWithin, has, literal_of_number, negation, number_of, same, var_of}
use Rattle.dimacs.specs.logic.Propagation.{Assumed, with_literal}
use Rattle.dimacs.specs.text.Numbers.{number}
use Rattle.dimacs.specs.text.Rows.{◌>>=◌}
use Rattle.dimacs.specs.text.Grammar.{ended}
use Rattle.dimacs.specs.text.Words.{lines}
use Rattle.dimacs.proofs.LiteralLemmas.{literal_back, literal_size, number_back, number_size}
use Rattle.dimacs.proofs.Members.{Contains-has, Contains-head, has-Contains}
use Rattle.dimacs.proofs.RowLemmas.{bind_ok}
use Rattle.dimacs.proofs.RowRuns.{run, run_append}
use Rattle.answers.specs.declared.fault.AnswerFault.{AnswerFault}
use Rattle.answers.specs.declared.fault.Kind.{Kind}
use Rattle.answers.specs.declared.fault.Kind.TheVariants.{BadToken, BehindEnd, ComplementaryPair, NotEnded}
use Rattle.answers.specs.Grammar.{AnswerLine, Passed, Values, Foreign, Names, line_of, tokens_of}
use Rattle.answers.specs.Parse.{Naming, answer_of, fault, nothing_named, read_as, read_found, read_line, read_lines, read_literal, read_number, read_token, read_tokens}
use Rattle.answers.specs.inner.Lines.{HasNoPair}
use Rattle.answers.proofs.NamedLemmas.{no_pair_with}
use Rattle.answers.proofs.TokenLemmas.{number_named}

cons_same : {X : Type 0} (x y : X) (xs ys : List X) → x ≡ y → xs ≡ ys → x ∷ xs ≡ y ∷ ys
cons_same x y xs ys e f = cc

fault≢ok : {A : Type 0} (k : Kind) (n : ℕ) (x : A) → fault k n ≡ Ok x → ⊥
fault≢ok k n x h = cc

cond_true : {A : Type 0} (t : Bool) (x y : A) → t ≡ true → cond t x y ≡ x
cond_true t x y e = rw e refl

cond_false : {A : Type 0} (t : Bool) (x y : A) → t ≡ false → cond t x y ≡ y
cond_false t x y e = rw e refl

-- ---- values, on whatever line they stand

abbrev pub value : ℕ → ℤ → Naming → Result Naming AnswerFault
value line z m = cond m.ended (fault BehindEnd line) (read_number line z m)

number_any : (line other : ℕ) (z : ℤ) (m c : Naming) → read_number line z m ≡ Ok c → read_number other z m ≡ Ok c
number_any line other z m c h = by_tests (eqb (nat_abs z) 0) (ltb 99999999 (nat_abs z)) (m.named (negation (literal_of_number z))) h where
  by_tests : (t u v : Bool)
      → cond t (Ok (record m { ended = true })) (cond u (fault BadToken line) (cond v (fault ComplementaryPair line) (Ok (record m { named = with_literal m.named (literal_of_number z) })))) ≡ Ok c
      → cond t (Ok (record m { ended = true })) (cond u (fault BadToken other) (cond v (fault ComplementaryPair other) (Ok (record m { named = with_literal m.named (literal_of_number z) })))) ≡ Ok c
  by_tests true u v h = h
  by_tests false true v h = absurd (fault≢ok _ _ _ h)
  by_tests false false true h = absurd (fault≢ok _ _ _ h)
  by_tests false false false h = h

found_number : (line : ℕ) (o : Option ℤ) (m c : Naming) → read_found line o m ≡ Ok c → (z : ℤ) × (o ≡ Some z) × (read_number line z m ≡ Ok c)
found_number line None m c h = absurd (fault≢ok _ _ _ h)
found_number line (Some z) m c h = (z, refl, h)

token_forth : (line : ℕ) (w : List ℕ) (m c : Naming) → read_token line w m ≡ Ok c → (z : ℤ) × (number w ≡ Some z) × (value 0 z m ≡ Ok c)
unfolding read_token
token_forth line w m c h = by_ended m.ended refl h where
  by_ended : (t : Bool) → m.ended ≡ t → cond t (fault BehindEnd line) (read_found line (number w) m) ≡ Ok c → (z : ℤ) × (number w ≡ Some z) × (value 0 z m ≡ Ok c)
  by_ended true e h = absurd (fault≢ok _ _ _ h)
  by_ended false e h = let z = found_number line (number w) m c h in (z.0, z.1, cond_false m.ended (fault BehindEnd 0) (read_number 0 z.0 m) e ∙ number_any line 0 z.0 m c z.2)

token_back : (line : ℕ) (w : List ℕ) (z : ℤ) (m c : Naming) → number w ≡ Some z → value 0 z m ≡ Ok c → read_token line w m ≡ Ok c
unfolding read_token
token_back line w z m c is h = by_ended m.ended refl h where
  by_ended : (t : Bool) → m.ended ≡ t → cond t (fault BehindEnd 0) (read_number 0 z m) ≡ Ok c → cond m.ended (fault BehindEnd line) (read_found line (number w) m) ≡ Ok c
  by_ended true e h = absurd (fault≢ok _ _ _ h)
  by_ended false e h = cond_false m.ended (fault BehindEnd line) (read_found line (number w) m) e ∙ ap (λ o. read_found line o m) is ∙ number_any 0 line z m c h

tokens_run : (line : ℕ) (ws : List (List ℕ)) (m c : Naming) → read_tokens line ws m ≡ Ok c → (zs : List ℤ) × (map number ws ≡ map Some zs) × (run (value 0) zs m ≡ Ok c)
unfolding read_tokens run
tokens_run line [] m c h = ([], refl, h)
tokens_run line (w ∷ ws) m c h =
    let first = bind_ok (read_token line w m) (read_tokens line ws) c h in
    let z = token_forth line w m first.0 first.1 in
    let rest = tokens_run line ws first.0 c first.2 in
    (z.0 ∷ rest.0, cons_same (number w) (Some z.0) (map number ws) (map Some rest.0) z.1 rest.1, ap (λ (r : Result Naming AnswerFault). r >>= run (value 0) rest.0) z.2 ∙ rest.2)

run_tokens : (line : ℕ) (ws : List (List ℕ)) (zs : List ℤ) (m c : Naming) → map number ws ≡ map Some zs → run (value 0) zs m ≡ Ok c → read_tokens line ws m ≡ Ok c
unfolding read_tokens run
run_tokens line [] [] m c e h = h
run_tokens line [] (z ∷ zs) m c e h = absurd (cc)
run_tokens line (w ∷ ws) [] m c e h = absurd (cc)
run_tokens line (w ∷ ws) (z ∷ zs) m c e h =
    let first : number w ≡ Some z = cc in
    let rest : map number ws ≡ map Some zs = cc in
    let next = bind_ok (value 0 z m) (run (value 0) zs) c h in
    rw (token_back line w z m next.0 first next.1) (run_tokens line ws zs next.0 c rest next.2)

-- ---- lines

record AsRun (k : AnswerLine) (m c : Naming) : Type 0 where
  known : k ≢ Foreign
  zs : List ℤ
  are : map number (tokens_of k) ≡ map Some zs
  ran : run (value 0) zs m ≡ Ok c

as_run : (n : ℕ) (k : AnswerLine) (m c : Naming) → read_as n k m ≡ Ok c → AsRun k m c
unfolding run
as_run n Passed m c h = record { known = λ e. cc; zs = []; are = refl; ran = h }
as_run n (Values ws) m c h = let r = tokens_run n ws m c h in record { known = λ e. cc; zs = r.0; are = r.1; ran = r.2 }
as_run n Foreign m c h = absurd (fault≢ok _ _ _ h)

run_as : (n : ℕ) (k : AnswerLine) (zs : List ℤ) (m c : Naming) → k ≢ Foreign → map number (tokens_of k) ≡ map Some zs → run (value 0) zs m ≡ Ok c → read_as n k m ≡ Ok c
unfolding run
run_as n Passed [] m c known e h = h
run_as n Passed (z ∷ zs) m c known e h = absurd (cc)
run_as n (Values ws) zs m c known e h = run_tokens n ws zs m c e h
run_as n Foreign zs m c known e h = absurd (known refl)

record Ran (ls : List (List ℕ)) (m : Naming) (α : Assumed) : Type 0 where
  known : AllByRecursion (λ l. line_of l ≢ Foreign) ls
  zs : List ℤ
  last : Naming
  are : map number (flat_map tokens_of (map line_of ls)) ≡ map Some zs
  ran : run (value 0) zs m ≡ Ok last
  ended : last.ended ≡ true
  named : last.named ≡ α

end_ran : (n : ℕ) (m : Naming) (α : Assumed) (t : Bool) → m.ended ≡ t → cond t (Ok m.named) (fault NotEnded n) ≡ Ok α → Ran [] m α
unfolding run
end_ran n m α true e h = let same : m.named ≡ α = cc in record { known = tt; zs = []; last = m; are = refl; ran = refl; ended = e; named = same }
end_ran n m α false e h = absurd (fault≢ok _ _ _ h)

lines_run : (n : ℕ) (ls : List (List ℕ)) (m : Naming) (α : Assumed) → read_lines n ls m ≡ Ok α → Ran ls m α
unfolding read_lines read_line
lines_run n [] m α h = end_ran n m α m.ended refl h
lines_run n (l ∷ ls) m α h =
    let first = bind_ok (read_line (n + 1) l m) (read_lines (n + 1) ls) α h in
    let here = as_run (n + 1) (line_of l) m first.0 first.1 in
    let rest = lines_run (n + 1) ls first.0 α first.2 in
    record {
      known = (here.known, rest.known);
      zs = here.zs ++ rest.zs;
      last = rest.last;
      are =
          map-append number (tokens_of (line_of l)) (flat_map tokens_of (map line_of ls)) ∙ ap (λ x. x ++ map number (flat_map tokens_of (map line_of ls))) here.are
          ∙ ap (λ x. map Some here.zs ++ x) rest.are ∙ sym (map-append Some here.zs rest.zs);
      ran = run_append (value 0) here.zs rest.zs m ∙ ap (λ (r : Result Naming AnswerFault). r >>= run (value 0) rest.zs) here.ran ∙ rest.ran;
      ended = rest.ended;
      named = rest.named;
    }

split_values : (ws vs : List (List ℕ)) (zs : List ℤ) → map number (ws ++ vs) ≡ map Some zs → (xs : List ℤ) × (ys : List ℤ) × (zs ≡ xs ++ ys) × (map number ws ≡ map Some xs) × (map number vs ≡ map Some ys)
split_values [] vs zs h = ([], zs, refl, refl, h)
split_values (w ∷ ws) vs [] h = absurd (cc)
split_values (w ∷ ws) vs (z ∷ zs) h =
    let first : number w ≡ Some z = cc in
    let rest : map number (ws ++ vs) ≡ map Some zs = cc in
    let s = split_values ws vs zs rest in
    (z ∷ s.0, s.1, ap (λ x. z ∷ x) s.2, cons_same (number w) (Some z) (map number ws) (map Some s.0) first s.3, s.4)

run_lines : (n : ℕ) (ls : List (List ℕ)) (zs : List ℤ) (m c : Naming) → AllByRecursion (λ l. line_of l ≢ Foreign) ls → map number (flat_map tokens_of (map line_of ls)) ≡ map Some zs → run (value 0) zs m ≡ Ok c → c.ended ≡ true
    → read_lines n ls m ≡ Ok c.named
unfolding read_lines read_line run
run_lines n [] [] m c known e h done =
    let same : m ≡ c = cc in
    let over : m.ended ≡ true = ap (λ (x : Naming). x.ended) same ∙ done in
    cond_true m.ended (Ok m.named) (fault NotEnded n) over ∙ ap (λ (x : Naming). let y : Result Assumed AnswerFault = Ok x.named in y) same
run_lines n [] (z ∷ zs) m c known e h done = absurd (cc)
run_lines n (l ∷ ls) zs m c known e h done =
    let p = split_values (tokens_of (line_of l)) (flat_map tokens_of (map line_of ls)) zs e in
    let ran = sym (run_append (value 0) p.0 p.1 m) ∙ ap (λ x. run (value 0) x m) (sym p.2) ∙ h in
    let next = bind_ok (run (value 0) p.0 m) (run (value 0) p.1) c ran in
    let here = run_as (n + 1) (line_of l) p.0 m next.0 known.0 p.3 next.1 in
    rw here (run_lines (n + 1) ls p.1 next.0 c known.1 p.4 next.2 done)

-- ---- what values name

has_push : (L : Clause) (l : Literal) → has (L ++ l ∷ []) ≡ with_literal (has L) l
has_push L l = fun_ext (λ k. list_any-append (same k) L (l ∷ []) ∙ turned (list_any (same k) L) (same k l))
  where
    turned : (a b : Bool) → (a || (b || false)) ≡ (b || a)
    turned true true = refl
    turned true false = refl
    turned false true = refl
    turned false false = refl

zero_is : (z : ℤ) → nat_abs z ≡ 0 → z ≡ pos 0
zero_is (pos n) h = ap pos h
zero_is (negsuc n) h = absurd (omega arith)

record NamesMore (L : Clause) (zs : List ℤ) (c : Naming) : Type 0 where
  named : Clause
  values : zs ≡ ended named
  is : c.named ≡ has (L ++ named)
  within : AllByRecursion (IsWithin 99999999) named
  no_pair : HasNoPair c.named

-- after the 0 nothing stands
none_behind : (zs : List ℤ) (m c : Naming) → m.ended ≡ true → run (value 0) zs m ≡ Ok c → (zs ≡ []) × (m ≡ c)
unfolding run
none_behind [] m c e h = let same : m ≡ c = cc in (refl, same)
none_behind (z ∷ zs) m c e h = let first = bind_ok (value 0 z m) (run (value 0) zs) c h in absurd (fault≢ok BehindEnd 0 first.0 (sym (cond_true m.ended (fault BehindEnd 0) (read_number 0 z m) e) ∙ first.1))

-- what a value other than 0 leaves
record Named (z : ℤ) (m c : Naming) : Type 0 where
  some : 0 < nat_abs z
  few : nat_abs z ≤ 99999999
  free : m.named (negation (literal_of_number z)) ≡ false
  is : c ≡ record m { named = with_literal m.named (literal_of_number z) }

value_is : (z : ℤ) (m c : Naming) → m.ended ≡ false → value 0 z m ≡ Ok c → ((nat_abs z ≡ 0) × (c ≡ record m { ended = true })) ⊎ Named z m c
value_is z m c e h = by_tests (eqb (nat_abs z) 0) (ltb 99999999 (nat_abs z)) (m.named (negation (literal_of_number z))) refl refl refl (sym (cond_false m.ended (fault BehindEnd 0) (read_number 0 z m) e) ∙ h) where
  by_tests : (t u v : Bool) → eqb (nat_abs z) 0 ≡ t → ltb 99999999 (nat_abs z) ≡ u → m.named (negation (literal_of_number z)) ≡ v
      → cond t (Ok (record m { ended = true })) (cond u (fault BadToken 0) (cond v (fault ComplementaryPair 0) (Ok (record m { named = with_literal m.named (literal_of_number z) })))) ≡ Ok c
      → ((nat_abs z ≡ 0) × (c ≡ record m { ended = true })) ⊎ Named z m c
  by_tests true u v p q r h = let same : c ≡ record m { ended = true } = cc in inl (eqb-true (nat_abs z) 0 p, same)
  by_tests false true v p q r h = absurd (fault≢ok _ _ _ h)
  by_tests false false true p q r h = absurd (fault≢ok _ _ _ h)
  by_tests false false false p q r h =
      let same : c ≡ record m { named = with_literal m.named (literal_of_number z) } = cc in
      let above : nat_abs z ≢ 0 = eqb-false (nat_abs z) 0 p in
      inr (record { some = omega arith; few = ltb-false 99999999 (nat_abs z) q; free = r; is = same })

run_names : (zs : List ℤ) (L : Clause) (m c : Naming) → run (value 0) zs m ≡ Ok c → c.ended ≡ true → m.ended ≡ false → m.named ≡ has L → HasNoPair m.named → NamesMore L zs c
unfolding run
run_names [] L m c h done e is none = let same : m ≡ c = cc in absurd (true≢false (sym done ∙ ap (λ (x : Naming). x.ended) (sym same) ∙ e))
run_names (z ∷ zs) L m c h done e is none =
    let first = bind_ok (value 0 z m) (run (value 0) zs) c h in
    elim (value_is z m first.0 e first.1) [
      | inl stop ↦
          let rest = none_behind zs first.0 c (ap (λ (x : Naming). x.ended) stop.1) first.2 in
          let same : m.named ≡ c.named = ap (λ (x : Naming). x.named) (sym stop.1 ∙ rest.1) in
          record {
            named = [];
            values = cons_same z (pos 0) zs [] (zero_is z stop.0) rest.0;
            is = sym same ∙ is ∙ ap has (sym (append-nil L));
            within = tt;
            no_pair = subst HasNoPair same none;
          }
      | inr step ↦
          let l = literal_of_number z in
          let named : first.0.named ≡ with_literal m.named (literal_of_number z) = ap (λ (x : Naming). x.named) step.is in
          let rest = run_names zs (L ++ literal_of_number z ∷ []) first.0 c first.2 done (ap (λ (x : Naming). x.ended) step.is ∙ e)
          (named ∙ ap (λ (α : Assumed). with_literal α (literal_of_number z)) is ∙ sym (has_push L (literal_of_number z)))
          (subst HasNoPair (sym named) (no_pair_with m.named (literal_of_number z) none step.free)) in
          let low : 0 < var_of (literal_of_number z) = subst (λ n. 0 < n) (sym (literal_size z)) step.some in
          let high : var_of (literal_of_number z) ≤ 99999999 = subst (λ n. n ≤ 99999999) (sym (literal_size z)) step.few in
          record {
            named = literal_of_number z ∷ rest.named;
            values = cons_same z (number_of (literal_of_number z)) zs (ended rest.named) (sym (number_back z)) rest.values;
            is = rest.is ∙ ap has (append_assoc L (literal_of_number z ∷ []) rest.named);
            within = ((low, high), rest.within);
            no_pair = rest.no_pair;
          }
    ]

no_tautology : (L : Clause) → HasNoPair (has L) → ¬ (IsTautology L)
no_tautology L none t = true≢false (sym (Contains-has L (negation t.0) t.2) ∙ none t.0 (Contains-has L t.0 t.1))

pub found_names : (text : List ℕ) (α : Assumed) → answer_of text ≡ Ok α → (named : List Literal) × Names text named × (α ≡ has named)
found_names text α h =
    let r = lines_run 0 (lines text) nothing_named α h in
    let s = run_names r.zs [] nothing_named r.last r.ran r.ended refl refl (λ l e. absurd (true≢false (sym e))) in (
      s.named,
      record {
        are_lines = All-from_recursion (λ l. line_of l ≢ Foreign) (lines text) r.known;
        values = r.are ∙ ap (map Some) s.values;
        within = All-from_recursion (IsWithin 99999999) s.named s.within;
        no_pair = no_tautology s.named (subst HasNoPair s.is s.no_pair);
      },
      sym r.named ∙ s.is,
    )

-- ---- and back

names_run : (N L : Clause) (m : Naming) → m.ended ≡ false → m.named ≡ has L → AllByRecursion (IsWithin 99999999) N → ¬ (IsTautology (L ++ N)) → run (value 0) (ended N) m ≡ Ok (record { named = has (L ++ N); ended = true })
unfolding run
names_run [] L m e is within none =
    let stop : value 0 (pos 0) m ≡ Ok (record m { ended = true }) = cond_false m.ended (fault BehindEnd 0) (read_number 0 (pos 0) m) e in
    ap (λ (r : Result Naming AnswerFault). r >>= run (value 0) []) stop
    ∙ ap (λ (α : Assumed). let y : Result Naming AnswerFault = Ok (record { named = α; ended = true }) in y) (is ∙ ap has (sym (append-nil L)))
names_run (l ∷ N) L m e is within none =
    let low : 0 < nat_abs (number_of l) = subst (λ n. 0 < n) (sym (number_size l)) within.0.0 in
    let high : nat_abs (number_of l) ≤ 99999999 = subst (λ n. n ≤ 99999999) (sym (number_size l)) within.0.1 in
    let free : m.named (negation l) ≡ false = ap (λ (α : Assumed). α (negation l)) is ∙ false_from_ne_true (has L (negation l))
    (λ t. none (l, Contains-append_right L (l ∷ N) l (Contains-head l N), Contains-append_left L (l ∷ N) (negation l) (has-Contains L (negation l) t))) in
    let named : value 0 (number_of l) m ≡ Ok (record m { named = with_literal m.named l }) =
    cond_false m.ended (fault BehindEnd 0) (read_number 0 (number_of l) m) e ∙ number_named 0 (number_of l) m low high ∙ ap (λ k. read_literal 0 k m) (literal_back l within.0.0)
    ∙ cond_false (m.named (negation l)) (fault ComplementaryPair 0) (Ok (record m { named = with_literal m.named l })) free in
    ap (λ (r : Result Naming AnswerFault). r >>= run (value 0) (ended N)) named
    ∙ names_run N (L ++ l ∷ []) (record m { named = with_literal m.named l }) e (ap (λ (α : Assumed). with_literal α l) is ∙ sym (has_push L l)) within.1
    (λ t. none (subst IsTautology (append_assoc L (l ∷ []) N) t))
    ∙ ap (λ (c : Clause). let y : Result Naming AnswerFault = Ok (record { named = has c; ended = true }) in y) (append_assoc L (l ∷ []) N)

pub names_found : (text : List ℕ) (named : List Literal) → Names text named → answer_of text ≡ Ok (has named)
names_found text named n =
    run_lines 0 (lines text) (ended named) nothing_named (record { named = has named; ended = true })
    (recursion_from_All (λ l. line_of l ≢ Foreign) (lines text) n.are_lines) n.values
    (names_run named [] nothing_named refl refl (recursion_from_All (IsWithin 99999999) named n.within) n.no_pair) refl
