-- Reading gives exactly the formulas and trees that a text spells.
use Rattle.std.proofs.Common.{◌≡◌, ◌≢◌, ℕ, suc, ◌+◌, ◌<◌, ◌≤◌, Bool, true, false, cond, List, [], ◌∷◌, ◌++◌, map, pos, nat_abs, Option, Some, None, Result, Ok, Err, length, refl, sym, ap, ◌∙◌, arith, subst, append_assoc, length-append, ltb, codes, bytes_eq, IfOk}
use Rattle.std.specs.List.{flat_map, AllByRecursion}
use Rattle.std.specs.Prelude.{⊤}
use Rattle.std.proofs.lemmas.Slice.Eq.{bytes_eq-Decides}
use Rattle.std.proofs.lemmas.Bool.{lt-leb, le-ltb, ne_eqb}
use Rattle.std.proofs.lemmas.List.{append-nil, map-append, map_push, length-map}
use Rattle.std.proofs.lemmas.List.Elements.{All-head, All-tail, recursion_from_All}
use Rattle.std.proofs.lemmas.Grind.{flat_map-append}
use Rattle.dimacs.specs.logic.Cnf.{Cnf, FitsIn, AreWithin, literal_count, greatest_in}
use Rattle.dimacs.specs.logic.Limits.{AreNoMore, Limits, large, written}
use Rattle.dimacs.specs.logic.Literal.{Literal, Clause, IsWithin, negation, var_of, number_of}
use Rattle.dimacs.specs.text.Grammar.{ended}
use Rattle.dimacs.specs.text.Words.{words_of, lines}
use Rattle.dimacs.proofs.LiteralLemmas.{same-itself, var_of-negation, literal_back, number_size}
use Rattle.icnf.specs.declared.fault.IcnfFault.{IcnfFault}
use Rattle.icnf.specs.declared.fault.Kind.{Kind}
use Rattle.icnf.specs.declared.fault.Kind.TheVariants.{NoHeader, BadHeader}
use Rattle.icnf.specs.declared.place.Place.{Place}
use Rattle.icnf.specs.declared.walk.Stage.{Stage}
use Rattle.icnf.specs.declared.walk.Stage.TheVariants.{Clauses, Outside, Inside, Complete}
use Rattle.dimacs.proofs.SpellingLemmas.{written_is_large}
use Rattle.dimacs.proofs.WithinLemmas.{EachWithin, each_within}
use Rattle.icnf.specs.Leaves.{Cube, IsFree, Leaves, leaf, fork}
use Rattle.icnf.specs.ReadState.{ReadState}
use Rattle.icnf.specs.Walk.{literals_of, free_place, other_place, next_front, names, fits, advanced_by, behind_cube}
use Rattle.icnf.specs.Parser.{Token, Mark, Number, token, read_found, read_header, header_end, finish, format, start, fault, parse, parse_within, GivesTree}
use Rattle.dimacs.specs.text.Rows.{read_lines, ◌>>=◌}
use Rattle.dimacs.proofs.RowLemmas.{bind_ok, text_spelled, spelled_text}
use Rattle.dimacs.proofs.RowRuns.{run, run_append, body_lines}
use Rattle.icnf.specs.Grammar.{cube_tokens, AreTokens, IsHeader, IsIcnf, Spells, SpellsWithin}
use Rattle.icnf.proofs.WalkLemmas.{front_closed, front_open}
use Rattle.icnf.proofs.RunLemmas.{read_one, tokens_run, fault≢ok}
use Rattle.icnf.proofs.StateLemmas.{state, clauses_within, lines_spelled}

module _ (L : Limits) where
  -- ---- what is spelled is read: the clauses

  literal_read : (done : List Clause) (o : Clause) (total : ℕ) (l : Literal) → length done < L.clauses → IsWithin L.vars l → total < L.literals
      → read_found 0 (Some (Number (number_of l))) (state L Clauses [] [] [] done o total) ≡ Ok (state L Clauses [] [] [] done (o ++ l ∷ []) (total + 1))
  literal_read done o total l room w limit =
      let size = number_size l in
      let test : ltb L.vars (nat_abs (number_of l)) ≡ false = le-ltb L.vars (nat_abs (number_of l)) (omega (arith, w.1)) in
      rw (lt-leb L.clauses (length done) room, ne_eqb (nat_abs (number_of l)) 0 (λ e. omega (arith, w.0)), test, lt-leb L.literals total limit, literal_back l w.0) refl

  end_read : (done : List Clause) (o : Clause) (total : ℕ) → length done < L.clauses → read_found 0 (Some (Number (pos 0))) (state L Clauses [] [] [] done o total) ≡ Ok (state L Clauses [] [] [] (done ++ o ∷ []) [] total)
  end_read done o total room = rw (lt-leb L.clauses (length done) room) refl

  clause_read : (c : Clause) (done : List Clause) (o : Clause) (total : ℕ) → length done < L.clauses → AllByRecursion (IsWithin L.vars) c → total + length c ≤ L.literals
      → run read_one (map Number (ended c)) (state L Clauses [] [] [] done o total) ≡ Ok (state L Clauses [] [] [] (done ++ (o ++ c) ∷ []) [] (total + length c))
  unfolding run
  clause_read [] done o total room w limit =
      let n : total + 0 ≡ total = omega arith in
      rw (end_read done o total room, append-nil o, n) refl
  clause_read (l ∷ c) done o total room w limit =
      let n : total + suc (length c) ≡ (total + 1) + length c = omega arith in
      rw (literal_read done o total l room w.0 (omega arith), n)
      (clause_read c done (o ++ l ∷ []) (total + 1) room w.1 (omega arith) ∙ ap (λ x. Ok (state L Clauses [] [] [] (done ++ x ∷ []) [] ((total + 1) + length c))) (append_assoc o (l ∷ []) c))

  clauses_read : (cs : List Clause) (done : List Clause) (total : ℕ) → length done + length cs ≤ L.clauses → EachWithin L.vars cs → total + literal_count cs ≤ L.literals
      → run read_one (map Number (flat_map ended cs)) (state L Clauses [] [] [] done [] total) ≡ Ok (state L Clauses [] [] [] (done ++ cs) [] (total + literal_count cs))
  unfolding run
  clauses_read [] done total room w limit =
      let n : total + 0 ≡ total = omega arith in
      rw (append-nil done, n) refl
  clauses_read (c ∷ cs) done total room w limit =
      let one = clause_read c done [] total (omega arith) w.0 (omega arith) in
      let n : total + (length c + literal_count cs) ≡ (total + length c) + literal_count cs = omega arith in
      let m : length (done ++ c ∷ []) + length cs ≤ L.clauses = omega (arith, length-append done (c ∷ [])) in
      ap (λ (ts : List Token). run read_one ts (state L Clauses [] [] [] done [] total)) (map-append Number (ended c) (flat_map ended cs))
      ∙ run_append read_one (map Number (ended c)) (map Number (flat_map ended cs)) (state L Clauses [] [] [] done [] total)
      ∙ ap (λ (r : Result ReadState IcnfFault). r >>= run read_one (map Number (flat_map ended cs))) one
      ∙ rw n (clauses_read cs (done ++ c ∷ []) (total + length c) m w.1 (omega arith) ∙ ap (λ x. Ok (state L Clauses [] [] [] x [] ((total + length c) + literal_count cs))) (append_assoc done (c ∷ []) cs))

  -- ---- what is spelled is read: a cube

  -- each literal is of another variable than those before
  Fresh : Cube → List Literal → Type 0
  Fresh front [] = ⊤
  Fresh front (l ∷ ls) = IsFree front (var_of l) × Fresh (front ++ l ∷ []) ls

  fresh_push : (ls : List Literal) (front : Cube) (l : Literal) → Fresh front ls → IsFree (front ++ ls) (var_of l) → Fresh front (ls ++ l ∷ [])
  unfolding Fresh
  fresh_push [] front l h free = (subst (λ (c : Cube). IsFree c (var_of l)) (append-nil front) free, tt)
  fresh_push (k ∷ ls) front l h free = (h.0, fresh_push ls (front ++ k ∷ []) l h.1 (subst (λ (c : Cube). IsFree c (var_of l)) (sym (append_assoc front (k ∷ []) ls)) free))

  free_names : (path : List Place) (v : ℕ) → IsFree (literals_of path) v → names path v ≡ false
  free_names [] v h = refl
  free_names (p ∷ path) v h =
      let here = All-head (λ l. var_of l ≢ v) p.literal (literals_of path) h in
      rw (ne_eqb (var_of p.literal) v here) (free_names path v (All-tail (λ l. var_of l ≢ v) p.literal (literals_of path) h))

  module _ (cubes : List Cube) (done : List Clause) (total : ℕ) where
    inside : List Place → List Place → ReadState
    inside path forced = state L Inside cubes path forced done [] total

    place_read : (path forced rest : List Place) (p : Place) → IsWithin (greatest_in done) p.literal → IsFree (literals_of path) (var_of p.literal) → fits p.literal forced ≡ true → length path < 64
        → advanced_by p.literal forced (record { stage = Inside; cubes = cubes; path = path; forced = forced }) ≡ record { stage = Inside; cubes = cubes; path = path ++ p ∷ []; forced = rest }
        → read_found 0 (Some (Number (number_of p.literal))) (inside path forced) ≡ Ok (inside (path ++ p ∷ []) rest)
    unfolding inside
    place_read path forced rest p w free fit size e =
        let n = number_size p.literal in
        let test : ltb (greatest_in done) (nat_abs (number_of p.literal)) ≡ false = le-ltb (greatest_in done) (nat_abs (number_of p.literal)) (omega (arith, w.1)) in
        rw (ne_eqb (nat_abs (number_of p.literal)) 0 (λ e. omega (arith, w.0)), test, literal_back p.literal w.0, free_names path (var_of p.literal) free, fit, lt-leb 64 (length path) size, e) refl

    -- the free literals at a cube's end
    frees_read : (ls : List Literal) (path : List Place) → AllByRecursion (IsWithin (greatest_in done)) ls → Fresh (literals_of path) ls → length path + length ls ≤ 64
        → run read_one (map Number (map number_of ls)) (inside path []) ≡ Ok (inside (path ++ map free_place ls) [])
    unfolding run Fresh inside
    frees_read [] path w fresh size = rw (append-nil path) refl
    frees_read (l ∷ ls) path w fresh size =
        let fresh' : Fresh (literals_of (path ++ free_place l ∷ [])) ls = subst (λ (c : Cube). Fresh c ls) (sym (map_push (λ (q : Place). q.literal) path (free_place l))) fresh.1 in
        rw (place_read path [] [] (free_place l) w.0 fresh.0 refl (omega arith) refl)
        (frees_read ls (path ++ free_place l ∷ []) w.1 fresh' (omega (arith, length-append path (free_place l ∷ []))) ∙ ap (λ (q : List Place). Ok (state L Inside cubes q [] done [] total)) (append_assoc path (free_place l ∷ []) (map free_place ls)))

    -- the forced literals before them
    places_read : (forced : List Place) (ls : List Literal) (path : List Place) → AllByRecursion (IsWithin (greatest_in done)) (literals_of (forced ++ map free_place ls)) → Fresh (literals_of path) (literals_of (forced ++ map free_place ls)) → length path + length (forced ++ map free_place ls) ≤ 64
        → run read_one (map Number (map number_of (literals_of (forced ++ map free_place ls)))) (inside path forced) ≡ Ok (inside (path ++ (forced ++ map free_place ls)) [])
    unfolding run Fresh inside
    places_read [] ls path w fresh size =
        let same : literals_of (map free_place ls) ≡ ls = frees_are ls in
        rw same (frees_read ls path (subst (λ (c : Cube). AllByRecursion (IsWithin (greatest_in done)) c) same w) (subst (λ (c : Cube). Fresh (literals_of path) c) same fresh) (omega (arith, length-map ls free_place)))
      where
        frees_are : (ls : List Literal) → literals_of (map free_place ls) ≡ ls
        frees_are [] = refl
        frees_are (l ∷ ls) = ap (λ (c : Cube). l ∷ c) (frees_are ls)
    places_read (p ∷ forced) ls path w fresh size =
        let fresh' : Fresh (literals_of (path ++ p ∷ [])) (literals_of (forced ++ map free_place ls)) = subst (λ (c : Cube). Fresh c (literals_of (forced ++ map free_place ls))) (sym (map_push (λ (q : Place). q.literal) path p)) fresh.1 in
        rw (place_read path (p ∷ forced) forced p w.0 fresh.0 (same-itself p.literal) (omega arith) refl)
        (places_read forced ls (path ++ p ∷ []) w.1 fresh' (omega (arith, length-append path (p ∷ []))) ∙ ap (λ (q : List Place). Ok (state L Inside cubes q [] done [] total)) (append_assoc path (p ∷ []) (forced ++ map free_place ls)))

  -- ---- what is spelled is read: the cubes of a tree

  -- if a cube may begin
  Enters : Stage → Type 0
  Enters Clauses = ⊤
  Enters Outside = ⊤
  Enters _ = ⊥

  mark_read : (stage : Stage) (cubes : List Cube) (forced : List Place) (done : List Clause) (total : ℕ) → Enters stage → length cubes < 65536
      → read_found 0 (Some Mark) (state L stage cubes [] forced done [] total) ≡ Ok (state L Inside cubes [] forced done [] total)
  unfolding Enters
  mark_read Clauses cubes forced done total h room = rw (lt-leb 65536 (length cubes) room) refl
  mark_read Outside cubes forced done total h room = rw (lt-leb 65536 (length cubes) room) refl
  mark_read Inside cubes forced done total h room = absurd h
  mark_read Complete cubes forced done total h room = absurd h

  abbrev after : Option (List Place) → List Cube → List Clause → ℕ → ReadState
  after o cubes done total = record { limits = L; clauses = record { done = done; open_clause = []; total = total }; walk = behind_cube o cubes }

  last_read : (cubes : List Cube) (path : List Place) (done : List Clause) (total : ℕ) → run read_one (Number (pos 0) ∷ []) (state L Inside cubes path [] done [] total) ≡ Ok (after (next_front path) (cubes ++ literals_of path ∷ []) done total)
  unfolding run
  last_read cubes path done total = refl

  cube_read : (stage : Stage) (cubes : List Cube) (forced : List Place) (ls : List Literal) (done : List Clause) (total : ℕ) → Enters stage → length cubes < 65536
      → AllByRecursion (IsWithin (greatest_in done)) (literals_of (forced ++ map free_place ls)) → Fresh [] (literals_of (forced ++ map free_place ls)) → length (forced ++ map free_place ls) ≤ 64
      → run read_one (cube_tokens (literals_of (forced ++ map free_place ls))) (state L stage cubes [] forced done [] total)
      ≡ Ok (after (next_front (forced ++ map free_place ls)) (cubes ++ literals_of (forced ++ map free_place ls) ∷ []) done total)
  unfolding run inside
  cube_read stage cubes forced ls done total enters room w fresh size =
      let literals = map Number (map number_of (literals_of (forced ++ map free_place ls))) in
      let split : map Number (ended (literals_of (forced ++ map free_place ls))) ≡ literals ++ Number (pos 0) ∷ [] = map_push Number (map number_of (literals_of (forced ++ map free_place ls))) (pos 0) in
      rw (mark_read stage cubes forced done total enters room) (
      ap (λ (ts : List Token). run read_one ts (state L Inside cubes [] forced done [] total)) split
      ∙ run_append read_one literals (Number (pos 0) ∷ []) (state L Inside cubes [] forced done [] total)
      ∙ ap (λ (r : Result ReadState IcnfFault). r >>= run read_one (Number (pos 0) ∷ [])) (places_read cubes done total forced ls [] w fresh (omega arith))
      ∙ last_read cubes (forced ++ map free_place ls) done total
      )

  all_front : {X : Type 0} (P : X → Type 0) (xs ys : List X) → AllByRecursion P (xs ++ ys) → AllByRecursion P xs
  all_front P [] ys h = tt
  all_front P (x ∷ xs) ys h = (h.0, all_front P xs ys h.1)

  all_back : {X : Type 0} (P : X → Type 0) (xs ys : List X) → AllByRecursion P (xs ++ ys) → AllByRecursion P ys
  all_back P [] ys h = h
  all_back P (x ∷ xs) ys h = all_back P xs ys h.1

  leaf_read : (path : Cube) (stage : Stage) (cubes : List Cube) (forced places : List Place) (ls : List Literal) (done : List Clause) (total : ℕ) → Enters stage → literals_of places ≡ path → places ≡ forced ++ map free_place ls
      → Fresh [] path → length cubes + 1 ≤ 65536 → AllByRecursion (IsWithin (greatest_in done)) path → length path ≤ 64
      → run read_one (cube_tokens path ++ []) (state L stage cubes [] forced done [] total) ≡ Ok (after (next_front places) (cubes ++ path ∷ []) done total)
  leaf_read path stage cubes forced places ls done total enters is from fresh room w short =
      let cube : literals_of (forced ++ map free_place ls) ≡ path = ap literals_of (sym from) ∙ is in
      let w' = subst (λ (c : Cube). AllByRecursion (IsWithin (greatest_in done)) c) (sym cube) w in
      let fresh' = subst (λ (c : Cube). Fresh [] c) (sym cube) fresh in
      let size : length (forced ++ map free_place ls) ≤ 64 = omega (arith, ap length cube, length-map (forced ++ map free_place ls) (λ (p : Place). p.literal)) in
      ap (λ (ts : List Token). run read_one ts (state L stage cubes [] forced done [] total)) (append-nil (cube_tokens path))
      ∙ subst (λ (c : Cube). run read_one (cube_tokens c) (state L stage cubes [] forced done [] total) ≡ Ok (after (next_front (forced ++ map free_place ls)) (cubes ++ c ∷ []) done total)) cube (cube_read stage cubes forced ls done total enters (omega arith) w' fresh' size)
      ∙ ap (λ (q : List Place). Ok (after (next_front q) (cubes ++ path ∷ []) done total)) (sym from)

  leaves_read : {path : Cube} {xs : List Cube} → Leaves path xs → (stage : Stage) (cubes : List Cube) (forced places : List Place) (ls : List Literal) (done : List Clause) (total : ℕ) → Enters stage → literals_of places ≡ path
      → places ≡ forced ++ map free_place ls → Fresh [] path → length cubes + length xs ≤ 65536 → EachWithin (greatest_in done) xs → AllByRecursion (λ c. length c ≤ 64) xs
      → run read_one (flat_map cube_tokens xs) (state L stage cubes [] forced done [] total) ≡ Ok (after (next_front places) (cubes ++ xs) done total)
  unfolding Enters
  leaves_read (leaf {path = path}) stage cubes forced places ls done total enters is from fresh room w short = leaf_read path stage cubes forced places ls done total enters is from fresh (omega arith) w.0 short.0
  leaves_read (fork {path = path} {left = left} {right = right} x free a b) stage cubes forced places ls done total enters is from fresh room w short =
      let size = length-append left right in
      let apart : IsFree path (var_of (negation x)) = subst (λ v. IsFree path v) (sym (var_of-negation x)) free in
      let other = other_place (free_place x) in
      let first_is : literals_of (places ++ free_place x ∷ []) ≡ path ++ x ∷ [] = map_push (λ (q : Place). q.literal) places (free_place x) ∙ ap (λ (c : Cube). c ++ x ∷ []) is in
      let first_from : places ++ free_place x ∷ [] ≡ forced ++ map free_place (ls ++ x ∷ []) = ap (λ (q : List Place). q ++ free_place x ∷ []) from ∙ append_assoc forced (map free_place ls) (free_place x ∷ []) ∙ ap (λ (q : List Place). forced ++ q) (sym (map_push free_place ls x)) in
      let one = leaves_read a stage cubes forced (places ++ free_place x ∷ []) (ls ++ x ∷ []) done total enters first_is first_from (fresh_push path [] x fresh free) (omega arith) (all_front _ left right w) (all_front _ left right short) in
      let last_is : literals_of (places ++ other ∷ []) ≡ path ++ negation x ∷ [] = map_push (λ (q : Place). q.literal) places other ∙ ap (λ (c : Cube). c ++ negation x ∷ []) is in
      let two = leaves_read b Outside (cubes ++ left) (places ++ other ∷ []) (places ++ other ∷ []) [] done total tt last_is (sym (append-nil (places ++ other ∷ []))) (fresh_push path [] (negation x) fresh apart) (omega (arith, length-append cubes left)) (all_back _ left right w) (all_back _ left right short) in
      ap (λ (ts : List Token). run read_one ts (state L stage cubes [] forced done [] total)) (flat_map-append cube_tokens left right)
      ∙ run_append read_one (flat_map cube_tokens left) (flat_map cube_tokens right) (state L stage cubes [] forced done [] total)
      ∙ ap (λ (r : Result ReadState IcnfFault). r >>= run read_one (flat_map cube_tokens right)) (one ∙ ap (λ (o : Option (List Place)). Ok (after o (cubes ++ left) done total)) (front_open places (free_place x) refl))
      ∙ two
      ∙ ap (λ (o : Option (List Place)). Ok (after o ((cubes ++ left) ++ right) done total)) (front_closed places other refl)
      ∙ ap (λ (cs : List Cube). Ok (after (next_front places) cs done total)) (append_assoc cubes left right)

  spelled_lines : (n : ℕ) (ls : List (List ℕ)) (f : Cnf) (cubes : List Cube) → IsIcnf f cubes → FitsIn L f → AreTokens (flat_map words_of ls) f cubes → read_lines format n ls (start L) ≡ Ok (f, cubes)
  unfolding finish Fresh Enters
  spelled_lines n ls f cubes is fits are =
      let total = 0 + literal_count f.clauses in
      let top : greatest_in f.clauses ≤ L.vars = omega (arith, fits.vars, is.vars) in
      let clauses = clauses_read f.clauses [] 0 (omega (arith, fits.clauses)) (each_within L.vars f.clauses (clauses_within f.vars L.vars f.clauses top is.formula.within)) (omega (arith, fits.literals)) in
      let within = each_within (greatest_in f.clauses) cubes (subst (λ v. AreWithin v cubes) is.vars is.within) in
      let tree = leaves_read is.tree.leaves Clauses [] [] [] [] f.clauses total tt refl refl tt (omega (arith, is.tree.count)) within (recursion_from_All (λ c. length c ≤ 64) cubes is.tree.short) in
      let ran = run_append read_one (map Number (flat_map ended f.clauses)) (flat_map cube_tokens cubes) (start L) ∙ ap (λ (r : Result ReadState IcnfFault). r >>= run read_one (flat_map cube_tokens cubes)) clauses ∙ tree in
      let formula : record { vars = greatest_in f.clauses; clauses = f.clauses } ≡ f = ap (λ (v : ℕ). let c : Cnf = record { vars = v; clauses = f.clauses } in c) (sym is.vars) in
      body_lines format token read_one tokens_run n ls (map Number (flat_map ended f.clauses) ++ flat_map cube_tokens cubes) (start L) (after None cubes f.clauses total) (f, cubes) are ran (ap (λ (c : Cnf). Ok (c, cubes)) formula)

-- ---- the header and the whole text

end_is : (line : ℕ) (ws : List (List ℕ)) (h : Unit {0}) → header_end line ws ≡ Ok h → ws ≡ []
end_is line [] h e = refl
end_is line (w ∷ ws) h e = absurd (fault≢ok _ _ _ e)

test_is : {A : Type 0} (xs ys : List ℕ) (k : Kind) (line : ℕ) (r : Result A IcnfFault) (y : A) → cond (bytes_eq xs ys) r (fault k line) ≡ Ok y → (xs ≡ ys) × (r ≡ Ok y)
test_is xs ys k line r y h = by_test (bytes_eq xs ys) refl h where
  by_test : (t : Bool) → bytes_eq xs ys ≡ t → cond t r (fault k line) ≡ Ok y → (xs ≡ ys) × (r ≡ Ok y)
  by_test true q h = ((bytes_eq-Decides xs ys).0 q, h)
  by_test false q h = absurd (fault≢ok _ _ _ h)

pub header_is : (line : ℕ) (ws : List (List ℕ)) (h : Unit {0}) → read_header line ws ≡ Ok h → IsHeader ws
unfolding read_header
header_is line [] h e = absurd (fault≢ok _ _ _ e)
header_is line (p ∷ []) h e = absurd (fault≢ok _ _ _ (test_is p (codes "p") NoHeader line _ h e).1)
header_is line (p ∷ w ∷ []) h e =
    let a = test_is p (codes "p") NoHeader line _ h e in
    let b = test_is w (codes "inccnf") BadHeader line _ h a.1 in
    (a.0, b.0)
header_is line (p ∷ w ∷ d ∷ more) h e =
    let a = test_is p (codes "p") NoHeader line _ h e in
    let b = test_is w (codes "inccnf") BadHeader line _ h a.1 in
    absurd (fault≢ok _ _ _ b.1)

pub spelled_header : (line : ℕ) (ws : List (List ℕ)) → IsHeader ws → read_header line ws ≡ Ok tt
unfolding read_header
spelled_header line [] h = absurd h
spelled_header line (p ∷ []) h = absurd h
spelled_header line (p ∷ w ∷ []) h = rw (h.0, h.1) refl
spelled_header line (p ∷ w ∷ d ∷ more) h = absurd h

text_is : (L : Limits) → AreNoMore L large → (f : Cnf) (cubes : List Cube) (n : ℕ) (ws more : List (List ℕ)) → (format.header L n ws >>= read_lines format n more) ≡ Ok (f, cubes)
    → (IsIcnf f cubes × FitsIn L f) × IsHeader ws × AreTokens (flat_map words_of more) f cubes
text_is L no_more f cubes n ws more e =
    let began = bind_ok (format.header L n ws) (read_lines format n more) (f, cubes) e in
    let h = bind_ok (read_header n ws) (λ h. Ok (start L)) began.0 began.1 in
    let same : start L ≡ began.0 = cc in
    let body = lines_spelled L n more f cubes (ap (read_lines format n more) same ∙ began.2) no_more in
    ((body.0, body.2), header_is n ws h.0 h.1, body.1)

pub parse_spells_within : (L : Limits) (text : List ℕ) (f : Cnf) (cubes : List Cube) → AreNoMore L large → parse_within L text ≡ Ok (f, cubes) → SpellsWithin L text f cubes
parse_spells_within L text f cubes no_more e =
    let p = text_spelled format L IsHeader (λ tokens. AreTokens tokens f cubes) (f, cubes) (IsIcnf f cubes × FitsIn L f) (text_is L no_more f cubes) 0 (lines text) e in
    (p.0.0, p.1, p.0.1)

pub spells_parse_within : (L : Limits) (text : List ℕ) (f : Cnf) (cubes : List Cube) → SpellsWithin L text f cubes → parse_within L text ≡ Ok (f, cubes)
spells_parse_within L text f cubes s =
    spelled_text format L IsHeader (λ tokens. AreTokens tokens f cubes) (f, cubes) (λ n ws more h b. rw (spelled_header n ws h) (spelled_lines L n more f cubes s.0 s.2 b)) 0 (lines text) s.1

-- what `read_within` answers, in the words of the grammar
pub found_spells_within : (L : Limits) (text : List ℕ) (r : Result (Cnf × List Cube) IcnfFault) → AreNoMore L large → GivesTree r (parse_within L text) → IfOk r (λ p. SpellsWithin L text p.0 p.1)
found_spells_within L text (Ok p) no_more h = parse_spells_within L text p.0 p.1 no_more h
found_spells_within L text (Err e) no_more h = tt

pub spelled_found_within : (L : Limits) (text : List ℕ) (r : Result (Cnf × List Cube) IcnfFault) → GivesTree r (parse_within L text) → (f : Cnf) (cubes : List Cube) → SpellsWithin L text f cubes → GivesTree r (Ok (f, cubes))
spelled_found_within L text r h f cubes s = subst (λ (x : Result (Cnf × List Cube) IcnfFault). GivesTree r x) (spells_parse_within L text f cubes s) h

-- ---- within the written limits

pub parse_spells : (text : List ℕ) (f : Cnf) (cubes : List Cube) → parse text ≡ Ok (f, cubes) → Spells text f cubes
parse_spells text f cubes e = parse_spells_within written text f cubes written_is_large e

pub spells_parse : (text : List ℕ) (f : Cnf) (cubes : List Cube) → Spells text f cubes → parse text ≡ Ok (f, cubes)
spells_parse text f cubes s = spells_parse_within written text f cubes s

pub found_spells : (text : List ℕ) (r : Result (Cnf × List Cube) IcnfFault) → GivesTree r (parse text) → IfOk r (λ p. Spells text p.0 p.1)
found_spells text r h = found_spells_within written text r written_is_large h

pub spelled_found : (text : List ℕ) (r : Result (Cnf × List Cube) IcnfFault) → GivesTree r (parse text) → (f : Cnf) (cubes : List Cube) → Spells text f cubes → GivesTree r (Ok (f, cubes))
spelled_found text r h f cubes s = spelled_found_within written text r h f cubes s
