-- What was read so far keeps the limits and holds the tokens read, so lines that are read are spelled.
use Rattle.std.proofs.Common.{◌≡◌, ℕ, ◌+◌, ◌<◌, ◌≤◌, Bool, true, false, cond, not, List, [], ◌∷◌, ◌++◌, map, ℤ, pos, negsuc, nat_abs, Option, Some, None, Result, Ok, length, refl, sym, ap, ◌∙◌, arith, subst, append_assoc, length-append, leb, ltb, eqb}
use Rattle.std.specs.List.{flat_map, AllByRecursion, All}
use Rattle.std.proofs.lemmas.Bool.{leb-false, ltb-false, eqb-true, eqb-false}
use Rattle.std.proofs.lemmas.List.{append-nil, map_push, length-map}
use Rattle.std.proofs.lemmas.List.Elements.{All-nil, All-push}
use Rattle.std.proofs.lemmas.Grind.{flat_map-append}
use Rattle.dimacs.specs.logic.Cnf.{Cnf, FitsIn, AreWithin, literal_count, greatest_in, greatest_of}
use Rattle.dimacs.specs.logic.Limits.{AreNoMore, Limits, large}
use Rattle.dimacs.specs.logic.Literal.{Literal, Clause, IsWithin, var_of, number_of, literal_of_number}
use Rattle.dimacs.specs.text.Grammar.{ended}
use Rattle.dimacs.specs.text.Words.{words_of}
use Rattle.dimacs.proofs.LiteralLemmas.{same-true, number_back, literal_size}
use Rattle.dimacs.proofs.WithinLemmas.{EachWithin, are_within, each_within}
use Rattle.icnf.specs.declared.fault.IcnfFault.{IcnfFault}
use Rattle.icnf.specs.declared.fault.Kind.TheVariants.{VariableAboveClauses, AboveLimit, RepeatedVariable, NotATree, CubeTooLong}
use Rattle.icnf.specs.declared.place.Place.{Place}
use Rattle.icnf.specs.declared.walk.Stage.{Stage}
use Rattle.icnf.specs.declared.walk.Stage.TheVariants.{Clauses, Outside, Inside, Complete}
use Rattle.icnf.specs.Leaves.{Cube, Leaves}
use Rattle.icnf.specs.ReadState.{ReadState}
use Rattle.icnf.specs.Walk.{literals_of, free_place, next_front, names, fits, advanced_by, behind_cube}
use Rattle.icnf.specs.inner.Walk.{Begun}
use Rattle.icnf.specs.Parser.{Token, Mark, Number, token, read_found, begin_behind, in_clause, in_cube, literal_in_cube, end_cube, finish, format, start, fault}
use Rattle.dimacs.specs.text.Rows.{read_lines}
use Rattle.dimacs.proofs.RowLemmas.{bind_ok}
use Rattle.dimacs.proofs.RowRuns.{run, lines_body}
use Rattle.icnf.specs.Grammar.{cube_tokens, AreTokens, IsIcnf}
use Rattle.icnf.proofs.WalkLemmas.{begun_push, names_free, closed, Closed}
use Rattle.icnf.proofs.RunLemmas.{read_one, tokens_run, fault≢ok, ok_same, past, at_complete}

-- ---- what was read

abbrev pub state : Limits → Stage → List Cube → List Place → List Place → List Clause → Clause → ℕ → ReadState
state L stage cubes path forced done o total = record { limits = L; clauses = record { done = done; open_clause = o; total = total }; walk = record { stage = stage; cubes = cubes; path = path; forced = forced } }

-- clauses within the limits
record Part (L : Limits) (done : List Clause) (o : Clause) (total : ℕ) : Type 0 where
  clauses : EachWithin L.vars done
  last : AllByRecursion (IsWithin L.vars) o
  count : length done ≤ L.clauses
  limit : total ≤ L.literals
  sizes : literal_count done + length o ≡ total

-- cubes within the limits
record Cubes (vars : ℕ) (cubes : List Cube) : Type 0 where
  inside : EachWithin vars cubes
  short : All (λ c. length c ≤ 64) cubes
  count : length cubes ≤ 65536

data Good (L : Limits) : ReadState → Type 0 where
  among : {done : List Clause} {o : Clause} {total : ℕ} → Part L done o total → Good L (state L Clauses [] [] [] done o total)
  between : {cubes : List Cube} {forced : List Place} {done : List Clause} {total : ℕ} → Part L done [] total → Begun [] forced cubes → Cubes (greatest_in done) cubes → Good L (state L Outside cubes [] forced done [] total)
  within : {cubes : List Cube} {path forced : List Place} {done : List Clause} {total : ℕ} → Part L done [] total → Begun [] (path ++ forced) cubes → Cubes (greatest_in done) cubes → length cubes < 65536
      → AllByRecursion (IsWithin (greatest_in done)) (literals_of path) → length path ≤ 64 → Good L (state L Inside cubes path forced done [] total)
  whole : {cubes : List Cube} {done : List Clause} {total : ℕ} → Part L done [] total → Leaves [] cubes → Cubes (greatest_in done) cubes → Good L (state L Complete cubes [] [] done [] total)

numbers : List Clause → Clause → List Token
numbers done o = map Number (flat_map ended done ++ map number_of o)

open_tokens : Stage → List Place → List Token
open_tokens Inside path = Mark ∷ map Number (map number_of (literals_of path))
open_tokens _ path = []

content : ReadState → List Token
content s = numbers s.clauses.done s.clauses.open_clause ++ (flat_map cube_tokens s.walk.cubes ++ open_tokens s.walk.stage s.walk.path)

-- ---- clauses and their greatest variable

clause_greatest : (vars : ℕ) (c : Clause) → AllByRecursion (IsWithin vars) c → greatest_of c ≤ vars
clause_greatest vars [] h = omega arith
clause_greatest vars (l ∷ c) h = omega (arith, h.0.1, clause_greatest vars c h.1)

each_greatest : (vars : ℕ) (cs : List Clause) → EachWithin vars cs → greatest_in cs ≤ vars
each_greatest vars [] h = omega arith
each_greatest vars (c ∷ cs) h = omega (arith, clause_greatest vars c h.0, each_greatest vars cs h.1)

pub clauses_greatest : (vars : ℕ) (cs : List Clause) → AreWithin vars cs → greatest_in cs ≤ vars
clauses_greatest vars cs h = each_greatest vars cs (each_within vars cs h)

clause_within : (m n : ℕ) (c : Clause) → greatest_of c ≤ n → AllByRecursion (IsWithin m) c → AllByRecursion (IsWithin n) c
clause_within m n [] le h = tt
clause_within m n (l ∷ c) le h = ((h.0.0, omega arith), clause_within m n c (omega arith) h.1)

each_up_to : (m n : ℕ) (cs : List Clause) → greatest_in cs ≤ n → EachWithin m cs → EachWithin n cs
each_up_to m n [] le h = tt
each_up_to m n (c ∷ cs) le h = (clause_within m n c (omega arith) h.0, each_up_to m n cs (omega arith) h.1)

pub clauses_within : (m n : ℕ) (cs : List Clause) → greatest_in cs ≤ n → AreWithin m cs → AreWithin n cs
clauses_within m n cs le h = are_within n cs (each_up_to m n cs le (each_within m cs h))

module _ (L : Limits) where
  record Stepped (t : Token) (s c : ReadState) : Type 0 where
    good : Good L c
    content : content c ≡ content s ++ t ∷ []

  all_push : {X : Type 0} (P : X → Type 0) (xs : List X) (y : X) → AllByRecursion P xs → P y → AllByRecursion P (xs ++ y ∷ [])
  all_push P [] y h p = (p, tt)
  all_push P (x ∷ xs) y h p = (h.0, all_push P xs y h.1 p)

  count_push : (cs : List Clause) (c : Clause) → literal_count (cs ++ c ∷ []) ≡ literal_count cs + length c
  count_push [] c = omega arith
  count_push (x ∷ cs) c = omega (arith, count_push cs c)

  zero_is : (z : ℤ) → nat_abs z ≡ 0 → z ≡ pos 0
  zero_is (pos n) h = ap pos h
  zero_is (negsuc n) h = absurd (omega arith)

  -- ---- a step among the clauses

  numbers_push : (done : List Clause) (o : Clause) (l : Literal) → numbers done (o ++ l ∷ []) ≡ numbers done o ++ Number (number_of l) ∷ []
  unfolding numbers
  numbers_push done o l =
      ap (λ (x : List ℤ). map Number (flat_map ended done ++ x)) (map_push number_of o l)
      ∙ ap (map Number) (sym (append_assoc (flat_map ended done) (map number_of o) (number_of l ∷ [])))
      ∙ map_push Number (flat_map ended done ++ map number_of o) (number_of l)

  numbers_end : (done : List Clause) (o : Clause) → numbers (done ++ o ∷ []) [] ≡ numbers done o ++ Number (pos 0) ∷ []
  unfolding numbers
  numbers_end done o =
      ap (map Number) (append-nil (flat_map ended (done ++ o ∷ [])) ∙ flat_map-append ended done (o ∷ []) ∙ ap (λ (x : List ℤ). flat_map ended done ++ x) (append-nil (ended o))
      ∙ sym (append_assoc (flat_map ended done) (map number_of o) (pos 0 ∷ [])))
      ∙ map_push Number (flat_map ended done ++ map number_of o) (pos 0)

  among_content : (done more : List Clause) (o p : Clause) (total sum : ℕ) (t : Token) → numbers more p ≡ numbers done o ++ t ∷ [] → content (state L Clauses [] [] [] more p sum) ≡ content (state L Clauses [] [] [] done o total) ++ t ∷ []
  unfolding content open_tokens
  among_content done more o p total sum t e = append-nil (numbers more p) ∙ e ∙ ap (λ (x : List Token). x ++ t ∷ []) (sym (append-nil (numbers done o)))

  clause_step : (z : ℤ) (done : List Clause) (o : Clause) (total : ℕ) (c : ReadState) → Part L done o total → in_clause 0 z (state L Clauses [] [] [] done o total) ≡ Ok c → Stepped (Number z) (state L Clauses [] [] [] done o total) c
  clause_step z done o total c h e =
      let room = past (leb L.clauses (length done)) AboveLimit 0 _ c e in
      by_zero (eqb (nat_abs z) 0) refl (leb-false _ _ room.0) room.1
    where
      literal : (eqb (nat_abs z) 0 ≡ false) → cond (ltb L.vars (nat_abs z)) (fault AboveLimit 0) (cond (leb L.literals total) (fault AboveLimit 0) (Ok (state L Clauses [] [] [] done (o ++ literal_of_number z ∷ []) (total + 1)))) ≡ Ok c
          → Stepped (Number z) (state L Clauses [] [] [] done o total) c
      literal some e =
          let small = past (ltb L.vars (nat_abs z)) AboveLimit 0 _ c e in
          let few = past (leb L.literals total) AboveLimit 0 _ c small.1 in
          let above : nat_abs z ≤ L.vars = ltb-false _ _ small.0 in
          let room : total < L.literals = leb-false _ _ few.0 in
          let positive : 0 < nat_abs z = omega (arith, eqb-false _ _ some) in
          let same : state L Clauses [] [] [] done (o ++ literal_of_number z ∷ []) (total + 1) ≡ c = ok_same _ c few.1 in
          subst (λ (x : ReadState). Stepped (Number z) (state L Clauses [] [] [] done o total) x) same (record {
            good = among (record {
              clauses = h.clauses;
              last = all_push (IsWithin L.vars) o (literal_of_number z) h.last (omega (arith, literal_size z), omega (arith, literal_size z));
              count = h.count;
              limit = omega arith;
              sizes = omega (arith, length-append o (literal_of_number z ∷ []), h.sizes);
            });
            content = among_content done done o (o ++ literal_of_number z ∷ []) total (total + 1) (Number z) (numbers_push done o (literal_of_number z) ∙ ap (λ (x : ℤ). numbers done o ++ Number x ∷ []) (number_back z));
          })

      by_zero : (b : Bool) → eqb (nat_abs z) 0 ≡ b → length done < L.clauses
          → cond b (Ok (state L Clauses [] [] [] (done ++ o ∷ []) [] total)) (cond (ltb L.vars (nat_abs z)) (fault AboveLimit 0) (cond (leb L.literals total) (fault AboveLimit 0) (Ok (state L Clauses [] [] [] done (o ++ literal_of_number z ∷ []) (total + 1))))) ≡ Ok c
          → Stepped (Number z) (state L Clauses [] [] [] done o total) c
      by_zero true q room e =
          let same : state L Clauses [] [] [] (done ++ o ∷ []) [] total ≡ c = ok_same _ c e in
          subst (λ (x : ReadState). Stepped (Number z) (state L Clauses [] [] [] done o total) x) same (record {
            good = among (record {
              clauses = all_push (AllByRecursion (IsWithin L.vars)) done o h.clauses h.last;
              last = tt;
              count = omega (arith, length-append done (o ∷ []));
              limit = h.limit;
              sizes = omega (arith, count_push done o, h.sizes);
            });
            content = among_content done (done ++ o ∷ []) o [] total total (Number z) (numbers_end done o ∙ ap (λ (x : ℤ). numbers done o ++ Number x ∷ []) (sym (zero_is z (eqb-true _ _ q))));
          })
      by_zero false q room e = literal q e

  -- ---- a step in a cube

  -- more at the very end
  tail_push : (a b x y : List Token) (t : Token) → y ≡ x ++ t ∷ [] → a ++ (b ++ y) ≡ (a ++ (b ++ x)) ++ t ∷ []
  tail_push a b x y t e = ap (λ (z : List Token). a ++ (b ++ z)) e ∙ ap (λ (z : List Token). a ++ z) (sym (append_assoc b x (t ∷ []))) ∙ sym (append_assoc a (b ++ x) (t ∷ []))

  mark_content : (stage : Stage) (cubes : List Cube) (forced : List Place) (done : List Clause) (total : ℕ) → open_tokens stage [] ≡ [] → content (state L Inside cubes [] forced done [] total) ≡ content (state L stage cubes [] forced done [] total) ++ Mark ∷ []
  unfolding content open_tokens
  mark_content stage cubes forced done total e =
      tail_push (numbers done []) (flat_map cube_tokens cubes) [] (Mark ∷ []) Mark refl ∙ ap (λ (x : List Token). (numbers done [] ++ (flat_map cube_tokens cubes ++ x)) ++ Mark ∷ []) (sym e)

  literal_content : (cubes : List Cube) (path forced rest : List Place) (done : List Clause) (total : ℕ) (p : Place)
      → content (state L Inside cubes (path ++ p ∷ []) rest done [] total) ≡ content (state L Inside cubes path forced done [] total) ++ Number (number_of p.literal) ∷ []
  unfolding content open_tokens
  literal_content cubes path forced rest done total p =
      let more : literals_of (path ++ p ∷ []) ≡ literals_of path ++ p.literal ∷ [] = map_push (λ (q : Place). q.literal) path p in
      tail_push (numbers done []) (flat_map cube_tokens cubes) (Mark ∷ map Number (map number_of (literals_of path))) (Mark ∷ map Number (map number_of (literals_of (path ++ p ∷ [])))) (Number (number_of p.literal))
      (ap (λ (x : List Token). Mark ∷ x) (ap (λ (c : Cube). map Number (map number_of c)) more ∙ ap (map Number) (map_push number_of (literals_of path) p.literal) ∙ map_push Number (map number_of (literals_of path)) (number_of p.literal)))

  end_content : (stage : Stage) (cubes : List Cube) (path forced front : List Place) (done : List Clause) (total : ℕ) → open_tokens stage [] ≡ []
      → content (state L stage (cubes ++ literals_of path ∷ []) [] front done [] total) ≡ content (state L Inside cubes path forced done [] total) ++ Number (pos 0) ∷ []
  unfolding content open_tokens
  end_content stage cubes path forced front done total e =
      let cube : cube_tokens (literals_of path) ≡ (Mark ∷ map Number (map number_of (literals_of path))) ++ Number (pos 0) ∷ [] = ap (λ (x : List Token). Mark ∷ x) (map_push Number (map number_of (literals_of path)) (pos 0)) in
      ap (λ (x : List Token). numbers done [] ++ (flat_map cube_tokens (cubes ++ literals_of path ∷ []) ++ x)) e
      ∙ ap (λ (x : List Token). numbers done [] ++ x) (append-nil _ ∙ flat_map-append cube_tokens cubes (literals_of path ∷ []) ∙ ap (λ (x : List Token). flat_map cube_tokens cubes ++ x) (append-nil (cube_tokens (literals_of path))))
      ∙ tail_push (numbers done []) (flat_map cube_tokens cubes) (Mark ∷ map Number (map number_of (literals_of path))) (cube_tokens (literals_of path)) (Number (pos 0)) cube

  not_false : (b : Bool) → not b ≡ false → b ≡ true
  not_false true h = refl
  not_false false h = absurd (cc)

  module _ (cubes : List Cube) (path : List Place) (done : List Clause) (total : ℕ) (part : Part L done [] total) (small : Cubes (greatest_in done) cubes)
      (room : length cubes < 65536) (near : AllByRecursion (IsWithin (greatest_in done)) (literals_of path)) (short : length path ≤ 64) where
    more_cubes : Cubes (greatest_in done) (cubes ++ literals_of path ∷ [])
    more_cubes = record {
      inside = all_push (AllByRecursion (IsWithin (greatest_in done))) cubes (literals_of path) small.inside near;
      short = All-push (λ c. length c ≤ 64) cubes (literals_of path) small.short (omega (arith, length-map path (λ (p : Place). p.literal)));
      count = omega (arith, length-append cubes (literals_of path ∷ []));
    }

    after_end : (o : Option (List Place)) → Closed o [] (cubes ++ literals_of path ∷ [])
        → Stepped (Number (pos 0)) (state L Inside cubes path [] done [] total) (record { limits = L; clauses = record { done = done; open_clause = []; total = total }; walk = behind_cube o (cubes ++ literals_of path ∷ []) })
    unfolding open_tokens
    after_end None h = record { good = whole part h more_cubes; content = end_content Complete cubes path [] [] done total refl }
    after_end (Some front) h = record { good = between part h more_cubes; content = end_content Outside cubes path [] front done total refl }

    end_step : (forced : List Place) (c : ReadState) → Begun [] (path ++ forced) cubes → end_cube 0 forced (state L Inside cubes path forced done [] total) ≡ Ok c → Stepped (Number (pos 0)) (state L Inside cubes path forced done [] total) c
    end_step [] c b e =
        let begun : Begun [] path cubes = subst (λ (p : List Place). Begun [] p cubes) (append-nil path) b in
        subst (λ (x : ReadState). Stepped (Number (pos 0)) (state L Inside cubes path [] done [] total) x) (ok_same _ c e) (after_end (next_front path) (closed path [] cubes begun))
    end_step (p ∷ forced) c b e = absurd (fault≢ok _ _ _ e)

    further : (p : Place) (forced rest : List Place) → Begun [] ((path ++ p ∷ []) ++ rest) cubes → IsWithin (greatest_in done) p.literal → length path < 64
        → Stepped (Number (number_of p.literal)) (state L Inside cubes path forced done [] total) (state L Inside cubes (path ++ p ∷ []) rest done [] total)
    further p forced rest b w size = record {
      good = within part b small room
          (subst (λ (c : Cube). AllByRecursion (IsWithin (greatest_in done)) c) (sym (map_push (λ (q : Place). q.literal) path p)) (all_push (IsWithin (greatest_in done)) (literals_of path) p.literal near w))
          (omega (arith, length-append path (p ∷ [])));
      content = literal_content cubes path forced rest done total p;
    }

    literal_step : (l : Literal) (forced : List Place) (c : ReadState) → Begun [] (path ++ forced) cubes → IsWithin (greatest_in done) l → names path (var_of l) ≡ false → fits l forced ≡ true → length path < 64
        → (let r : Result ReadState IcnfFault = Ok (record { limits = L; clauses = record { done = done; open_clause = []; total = total }; walk = advanced_by l forced (record { stage = Inside; cubes = cubes; path = path; forced = forced }) }) in r ≡ Ok c)
        → Stepped (Number (number_of l)) (state L Inside cubes path forced done [] total) c
    literal_step l [] c b w other fit size e =
        let begun : Begun [] path cubes = subst (λ (p : List Place). Begun [] p cubes) (append-nil path) b in
        let next : Begun [] ((path ++ free_place l ∷ []) ++ []) cubes = subst (λ (p : List Place). Begun [] p cubes) (sym (append-nil (path ++ free_place l ∷ []))) (begun_push path [] cubes l begun (names_free path (var_of l) other)) in
        subst (λ (x : ReadState). Stepped (Number (number_of l)) (state L Inside cubes path [] done [] total) x) (ok_same _ c e) (further (free_place l) [] [] next w size)
    literal_step l (p ∷ forced) c b w other fit size e =
        let is : l ≡ p.literal = same-true l p.literal fit in
        let next : Begun [] ((path ++ p ∷ []) ++ forced) cubes = subst (λ (q : List Place). Begun [] q cubes) (sym (append_assoc path (p ∷ []) forced)) b in
        let near : IsWithin (greatest_in done) p.literal = subst (λ (k : Literal). IsWithin (greatest_in done) k) is w in
        subst (λ (x : ReadState). Stepped (Number (number_of l)) (state L Inside cubes path (p ∷ forced) done [] total) x) (ok_same _ c e)
        (subst (λ (k : Literal). Stepped (Number (number_of k)) (state L Inside cubes path (p ∷ forced) done [] total) (state L Inside cubes (path ++ p ∷ []) forced done [] total)) (sym is) (further p (p ∷ forced) forced next near size))

    cube_step : (z : ℤ) (forced : List Place) (c : ReadState) → Begun [] (path ++ forced) cubes → in_cube 0 z (state L Inside cubes path forced done [] total) ≡ Ok c → Stepped (Number z) (state L Inside cubes path forced done [] total) c
    cube_step z forced c b e = by_zero (eqb (nat_abs z) 0) refl e where
      by_zero : (t : Bool) → eqb (nat_abs z) 0 ≡ t
          → cond t (end_cube 0 forced (state L Inside cubes path forced done [] total)) (cond (ltb (greatest_in done) (nat_abs z)) (fault VariableAboveClauses 0) (literal_in_cube 0 (literal_of_number z) (state L Inside cubes path forced done [] total))) ≡ Ok c
          → Stepped (Number z) (state L Inside cubes path forced done [] total) c
      by_zero true q e = subst (λ (x : ℤ). Stepped (Number x) (state L Inside cubes path forced done [] total) c) (sym (zero_is z (eqb-true _ _ q))) (end_step forced c b e)
      by_zero false q e =
          let below = past (ltb (greatest_in done) (nat_abs z)) VariableAboveClauses 0 _ c e in
          let other = past (names path (var_of (literal_of_number z))) RepeatedVariable 0 _ c below.1 in
          let fit = past (not (fits (literal_of_number z) forced)) NotATree 0 _ c other.1 in
          let size = past (leb 64 (length path)) CubeTooLong 0 _ c fit.1 in
          let some : (nat_abs z ≡ 0) → ⊥ = eqb-false _ _ q in
          let high : nat_abs z ≤ greatest_in done = ltb-false _ _ below.0 in
          let near : IsWithin (greatest_in done) (literal_of_number z) = (omega (arith, some, literal_size z), omega (arith, literal_size z)) in
          subst (λ (x : ℤ). Stepped (Number x) (state L Inside cubes path forced done [] total) c) (number_back z)
          (literal_step (literal_of_number z) forced c b near other.0 (not_false _ fit.0) (leb-false _ _ size.0) size.1)

  -- ---- any step

  no_cubes : (vars : ℕ) → Cubes vars []
  no_cubes vars = record { inside = tt; short = All-nil (λ c. length c ≤ 64); count = omega arith }

  mark_step : (done : List Clause) (o : Clause) (total : ℕ) (c : ReadState) → Part L done o total → begin_behind 0 o (state L Clauses [] [] [] done o total) ≡ Ok c → Stepped Mark (state L Clauses [] [] [] done o total) c
  unfolding open_tokens
  mark_step done [] total c h e =
      subst (λ (x : ReadState). Stepped Mark (state L Clauses [] [] [] done [] total) x) (ok_same _ c e) (record {
        good = within h refl (no_cubes (greatest_in done)) (omega arith) tt (omega arith);
        content = mark_content Clauses [] [] done total refl;
      })
  mark_step done (l ∷ o) total c h e = absurd (fault≢ok _ _ _ e)

  step_good : (t : Token) {s : ReadState} → Good L s → (c : ReadState) → read_found 0 (Some t) s ≡ Ok c → Stepped t s c
  unfolding open_tokens
  step_good Mark (among {done = d} {o = o} {total = n} h) c e = mark_step d o n c h e
  step_good Mark (between {cubes = cubes} {forced = forced} {done = d} {total = n} h begun small) c e =
      let room = past (leb 65536 (length cubes)) AboveLimit 0 _ c e in
      subst (λ (x : ReadState). Stepped Mark (state L Outside cubes [] forced d [] n) x) (ok_same _ c room.1) (record {
        good = within h begun small (leb-false _ _ room.0) tt (omega arith);
        content = mark_content Outside cubes forced d n refl;
      })
  step_good Mark (within h begun small room near short) c e = absurd (fault≢ok _ _ _ e)
  step_good Mark (whole h leaves small) c e = absurd (fault≢ok _ _ _ e)
  step_good (Number z) (among {done = d} {o = o} {total = n} h) c e = clause_step z d o n c h e
  step_good (Number z) (between h begun small) c e = absurd (fault≢ok _ _ _ e)
  step_good (Number z) (within {cubes = cubes} {path = path} {forced = forced} {done = d} {total = n} h begun small room near short) c e = cube_step cubes path d n h small room near short z forced c begun e
  step_good (Number z) (whole h leaves small) c e = absurd (fault≢ok _ _ _ e)

  run_good : (ts : List Token) (s c : ReadState) → Good L s → run read_one ts s ≡ Ok c → Good L c × (content c ≡ content s ++ ts)
  unfolding run
  run_good [] s c g e =
      let same = ok_same s c e in
      subst (λ (x : ReadState). Good L x × (content x ≡ content s ++ [])) same (g, sym (append-nil (content s)))
  run_good (t ∷ ts) s c g e =
      let first = bind_ok (read_found 0 (Some t) s) (run read_one ts) c e in
      let step = step_good t g first.0 first.1 in
      let rest = run_good ts first.0 c step.good first.2 in
      (rest.0, rest.1 ∙ ap (λ x. x ++ ts) step.content ∙ append_assoc (content s) (t ∷ []) ts)

  -- ---- the end

  record Whole (s : ReadState) : Type 0 where
    part : Part L s.clauses.done [] s.clauses.total
    leaves : Leaves [] s.walk.cubes
    cubes : Cubes (greatest_in s.clauses.done) s.walk.cubes
    tokens : content s ≡ map Number (flat_map ended s.clauses.done) ++ flat_map cube_tokens s.walk.cubes

  whole_is : {s : ReadState} → Good L s → s.walk.stage ≡ Complete → Whole s
  unfolding content numbers open_tokens
  whole_is (among h) e = absurd (cc)
  whole_is (between h begun small) e = absurd (cc)
  whole_is (within h begun small room near short) e = absurd (cc)
  whole_is (whole {cubes = cubes} {done = d} {total = n} h leaves small) e = record {
    part = h;
    leaves = leaves;
    cubes = small;
    tokens = ap (λ (x : List ℤ). map Number x ++ (flat_map cube_tokens cubes ++ [])) (append-nil (flat_map ended d)) ∙ ap (λ (x : List Token). map Number (flat_map ended d) ++ x) (append-nil (flat_map cube_tokens cubes));
  }

  good_start : Good L (start L)
  good_start = among (record { clauses = tt; last = tt; count = omega arith; limit = omega arith; sizes = refl })

  whole_spelled : (s : ReadState) (tokens : List (List ℕ)) (f : Cnf) (cubes : List Cube) → Whole s → f ≡ record { vars = greatest_in s.clauses.done; clauses = s.clauses.done } → cubes ≡ s.walk.cubes
      → AreNoMore L large → map token tokens ≡ map Some (content s) → IsIcnf f cubes × AreTokens tokens f cubes × FitsIn L f
  whole_spelled s tokens f cubes w ef ec no_more are =
      let top = each_greatest L.vars s.clauses.done w.part.clauses in
      rw (ef, ec) (
        record {
          formula = record { vars = omega (arith, top, no_more.0); clauses = omega (arith, w.part.count, no_more.1); literals = omega (arith, w.part.sizes, w.part.limit, no_more.2); within = clauses_within L.vars (greatest_in s.clauses.done) s.clauses.done (omega arith) (are_within L.vars s.clauses.done w.part.clauses) };
          vars = refl;
          tree = record { leaves = w.leaves; count = w.cubes.count; short = w.cubes.short };
          within = are_within (greatest_in s.clauses.done) s.walk.cubes w.cubes.inside;
        },
        are ∙ ap (map Some) w.tokens,
        record { vars = top; clauses = w.part.count; literals = omega (arith, w.part.sizes, w.part.limit) },
      )

  pub lines_spelled : (n : ℕ) (ls : List (List ℕ)) (f : Cnf) (cubes : List Cube) → read_lines format n ls (start L) ≡ Ok (f, cubes) → AreNoMore L large → IsIcnf f cubes × AreTokens (flat_map words_of ls) f cubes × FitsIn L f
  unfolding content numbers open_tokens finish
  lines_spelled n ls f cubes e no_more =
      let b = lines_body format token read_one tokens_run n ls (start L) (f, cubes) e in
      let r = run_good b.read (start L) b.end good_start b.ran in
      let last = at_complete 0 b.end.walk.stage b.end f cubes b.finished in
      whole_spelled b.end (flat_map words_of ls) f cubes (whole_is r.0 last.0) last.1 last.2 no_more (b.are ∙ ap (map Some) (sym r.1))
