-- Reading gives exactly the formulas that a text spells.
use Rattle.std.proofs.Common.{◌≡◌, ℕ, suc, ◌+◌, ◌<◌, ◌≤◌, true, false, cond, List, [], ◌∷◌, ◌++◌, map, ℤ, pos, negsuc, nat_abs, Some, Result, Ok, Err, length, refl, sym, ap, ◌∙◌, arith, subst, append_assoc, length-append, ltb, eqb, IfOk}
use Rattle.std.specs.List.{flat_map, AllByRecursion}
use Rattle.std.proofs.lemmas.Bool.{lt-leb, le-ltb, ne_eqb, eqb-true, eqb-false}
use Rattle.std.proofs.lemmas.List.{append-nil, map-append}
use Rattle.std.proofs.lemmas.Grind.{flat_map-append}
use Rattle.dimacs.specs.declared.fault.DimacsFault.{DimacsFault}
use Rattle.dimacs.specs.text.BodyState.{BodyState}
use Rattle.dimacs.specs.logic.Cnf.{AreWithin, Cnf, FitsIn, IsFormula, literal_count}
use Rattle.dimacs.specs.logic.Limits.{AreNoMore, Limits, large, written}
use Rattle.dimacs.specs.logic.Literal.{Literal, Clause, IsWithin, number_of, literal_of_number}
use Rattle.dimacs.specs.text.Words.{words_of, lines}
use Rattle.dimacs.specs.text.Parser.{read_number, read_header, finish, format, start, parse, parse_within, GivesFormula}
use Rattle.dimacs.specs.text.Rows.{read_lines, ◌>>=◌}
use Rattle.dimacs.specs.text.Grammar.{ended, AreClauses, IsHeader, Spells, SpellsWithin}
use Rattle.dimacs.specs.text.Numbers.{number}
use Rattle.dimacs.proofs.LiteralLemmas.{number_back, literal_back, number_size, literal_size}
use Rattle.dimacs.proofs.RowLemmas.{bind_ok, text_spelled, spelled_text}
use Rattle.dimacs.proofs.RowRuns.{run, run_append, lines_body, body_lines}
use Rattle.dimacs.proofs.RunLemmas.{added, Takes, number_takes, finish_is, numbers_run}
use Rattle.dimacs.proofs.HeaderLemmas.{header_is, spelled_header}
use Rattle.dimacs.proofs.WithinLemmas.{EachWithin, are_within, each_within}

-- ---- what was read

content : BodyState → List ℤ
content b = flat_map ended b.done ++ map number_of b.open_clause

record Good (b : BodyState) : Type 0 where
  done : EachWithin b.vars b.done
  open_clause : AllByRecursion (IsWithin b.vars) b.open_clause
  count : length b.done ≤ b.count
  total : b.total ≤ b.limit
  sizes : literal_count b.done + length b.open_clause ≡ b.total

all_push : {X : Type 0} (P : X → Type 0) (xs : List X) (y : X) → AllByRecursion P xs → P y → AllByRecursion P (xs ++ y ∷ [])
all_push P [] y h p = (p, tt)
all_push P (x ∷ xs) y h p = (h.0, all_push P xs y h.1 p)

count_push : (cs : List Clause) (c : Clause) → literal_count (cs ++ c ∷ []) ≡ literal_count cs + length c
count_push [] c = omega arith
count_push (x ∷ cs) c = omega (arith, count_push cs c)

flat_push : (cs : List Clause) (c : Clause) → flat_map ended (cs ++ c ∷ []) ≡ flat_map ended cs ++ ended c
flat_push cs c = flat_map-append ended cs (c ∷ []) ∙ ap (λ x. flat_map ended cs ++ x) (append-nil (ended c))

zero_is : (z : ℤ) → nat_abs z ≡ 0 → z ≡ pos 0
zero_is (pos n) h = ap pos h
zero_is (negsuc n) h = absurd (omega arith)

record Added (z : ℤ) (b c : BodyState) : Type 0 where
  vars : c.vars ≡ b.vars
  count : c.count ≡ b.count
  limit : c.limit ≡ b.limit
  content : content c ≡ content b ++ z ∷ []
  good : Good c

added_good : (z : ℤ) (b : BodyState) → Takes z b → Good b → Added z b (added z b)
unfolding added content
added_good z b t g = elim (eqb (nat_abs z) 0) as (λ e. eqb (nat_abs z) 0 ≡ e → Added z b (cond e (record b { done = b.done ++ b.open_clause ∷ []; open_clause = [] }) (record b { open_clause = b.open_clause ++ literal_of_number z ∷ []; total = b.total + 1 }))) [
  | true ↦ λ q. record {
    vars = refl;
    count = refl;
    limit = refl;
    content =
        append-nil _ ∙ flat_push b.done b.open_clause ∙ sym (append_assoc (flat_map ended b.done) (map number_of b.open_clause) (pos 0 ∷ []))
        ∙ ap (λ (x : ℤ). (flat_map ended b.done ++ map number_of b.open_clause) ++ x ∷ []) (sym (zero_is z (eqb-true _ _ q)));
    good = record {
      done = all_push (AllByRecursion (IsWithin b.vars)) b.done b.open_clause g.done g.open_clause;
      open_clause = tt;
      count = omega (arith, length-append b.done (b.open_clause ∷ []), t.room);
      total = g.total;
      sizes = omega (arith, count_push b.done b.open_clause, g.sizes);
    };
  }
  | false ↦ λ q. record {
    vars = refl;
    count = refl;
    limit = refl;
    content =
        ap (λ (x : List ℤ). flat_map ended b.done ++ x) (map-append number_of b.open_clause (literal_of_number z ∷ []) ∙ ap (λ (x : ℤ). map number_of b.open_clause ++ x ∷ []) (number_back z))
        ∙ sym (append_assoc (flat_map ended b.done) (map number_of b.open_clause) (z ∷ []));
    good = record {
      done = g.done;
      open_clause = all_push (IsWithin b.vars) b.open_clause (literal_of_number z) g.open_clause (omega (arith, literal_size z, nonzero z (eqb-false _ _ q)), omega (arith, literal_size z, t.within));
      count = g.count;
      total = omega (arith, t.limit (eqb-false _ _ q));
      sizes = omega (arith, length-append b.open_clause (literal_of_number z ∷ []), g.sizes);
    };
  }
] refl where
  nonzero : (z : ℤ) → (nat_abs z ≡ 0 → ⊥) → 0 < nat_abs z
  nonzero z h = omega (arith, h)

record Ran (zs : List ℤ) (b c : BodyState) : Type 0 where
  vars : c.vars ≡ b.vars
  count : c.count ≡ b.count
  limit : c.limit ≡ b.limit
  content : content c ≡ content b ++ zs
  good : Good c

run_good : (zs : List ℤ) (b c : BodyState) → run (read_number 0) zs b ≡ Ok c → Good b → Ran zs b c
unfolding run
run_good [] b c h g =
    let same : b ≡ c = cc in
    subst (λ (x : BodyState). Ran [] b x) same (record { vars = refl; count = refl; limit = refl; content = sym (append-nil (content b)); good = g })
run_good (z ∷ zs) b c h g =
    let first = bind_ok (read_number 0 z b) (run (read_number 0) zs) c h in
    let t = number_takes 0 z b first.0 first.1 in
    let a : Added z b first.0 = subst (λ (x : BodyState). Added z b x) t.1 (added_good z b t.0 g) in
    let r = run_good zs first.0 c first.2 a.good in
    record {
      vars = r.vars ∙ a.vars;
      count = r.count ∙ a.count;
      limit = r.limit ∙ a.limit;
      content = r.content ∙ ap (λ x. x ++ zs) a.content ∙ append_assoc (content b) (z ∷ []) zs;
      good = r.good;
    }

-- ---- what is spelled is read

abbrev state : ℕ → ℕ → ℕ → List Clause → Clause → ℕ → BodyState
state vars count most done open_clause total = record { vars = vars; count = count; limit = most; done = done; open_clause = open_clause; total = total }

step_literal : (vars count most total : ℕ) (done : List Clause) (o : Clause) (l : Literal) → length done < count → IsWithin vars l → total < most
    → read_number 0 (number_of l) (state vars count most done o total) ≡ Ok (state vars count most done (o ++ l ∷ []) (total + 1))
step_literal vars count most total done o l room w limit =
    let size = number_size l in
    let test : ltb vars (nat_abs (number_of l)) ≡ false = le-ltb vars (nat_abs (number_of l)) (omega (arith, w.1)) in
    rw (lt-leb count (length done) room, ne_eqb (nat_abs (number_of l)) 0 (λ e. omega (arith, w.0)), test, lt-leb most total limit, literal_back l w.0) refl

step_end : (vars count most total : ℕ) (done : List Clause) (o : Clause) → length done < count
    → read_number 0 (pos 0) (state vars count most done o total) ≡ Ok (state vars count most (done ++ o ∷ []) [] total)
step_end vars count most total done o room = rw (lt-leb count (length done) room) refl

run_clause : (c : Clause) (vars count most total : ℕ) (done : List Clause) (o : Clause) → length done < count → AllByRecursion (IsWithin vars) c → total + length c ≤ most
    → run (read_number 0) (ended c) (state vars count most done o total) ≡ Ok (state vars count most (done ++ (o ++ c) ∷ []) [] (total + length c))
unfolding run
run_clause [] vars count most total done o room w limit =
    let n : total + 0 ≡ total = omega arith in
    rw (step_end vars count most total done o room, append-nil o, n) refl
run_clause (l ∷ c) vars count most total done o room w limit =
    let n : total + suc (length c) ≡ (total + 1) + length c = omega arith in
    rw (step_literal vars count most total done o l room w.0 (omega arith), n)
    (run_clause c vars count most (total + 1) done (o ++ l ∷ []) room w.1 (omega arith) ∙ ap (λ x. Ok (state vars count most (done ++ x ∷ []) [] ((total + 1) + length c))) (append_assoc o (l ∷ []) c))

run_clauses : (cs : List Clause) (vars count most total : ℕ) (done : List Clause) → length done + length cs ≤ count → EachWithin vars cs → total + literal_count cs ≤ most
    → run (read_number 0) (flat_map ended cs) (state vars count most done [] total) ≡ Ok (state vars count most (done ++ cs) [] (total + literal_count cs))
unfolding run
run_clauses [] vars count most total done room w limit =
    let n : total + 0 ≡ total = omega arith in
    rw (append-nil done, n) refl
run_clauses (c ∷ cs) vars count most total done room w limit =
    let one = run_clause c vars count most total done [] (omega arith) w.0 (omega arith) in
    let n : total + (length c + literal_count cs) ≡ (total + length c) + literal_count cs = omega arith in
    let m : length (done ++ c ∷ []) + length cs ≤ count = omega (arith, length-append done (c ∷ [])) in
    run_append (read_number 0) (ended c) (flat_map ended cs) (state vars count most done [] total)
    ∙ ap (λ (r : Result BodyState DimacsFault). r >>= run (read_number 0) (flat_map ended cs)) one
    ∙ rw n (run_clauses cs vars count most (total + length c) (done ++ c ∷ []) m w.1 (omega arith) ∙ ap (λ x. Ok (state vars count most x [] ((total + length c) + literal_count cs))) (append_assoc done (c ∷ []) cs))

-- ---- the lines after the header

lines_spelled : (L : Limits) (n : ℕ) (ls : List (List ℕ)) (h : ℕ × ℕ) (f : Cnf) → h.0 ≤ L.vars → h.1 ≤ L.clauses → read_lines format n ls (start L h) ≡ Ok f
    → FitsIn L f × AreWithin f.vars f.clauses × (f.vars ≡ h.0) × (length f.clauses ≡ h.1) × AreClauses (flat_map words_of ls) f
unfolding content
lines_spelled L n ls h f v c e =
    let b = lines_body format number (read_number 0) numbers_run n ls (start L h) f e in
    let r = run_good b.read (start L h) b.end b.ran (record { done = tt; open_clause = tt; count = omega arith; total = omega arith; sizes = refl }) in
    let g = r.good in
    let last = finish_is 0 b.end f b.finished in
    let closed : flat_map ended b.end.done ≡ b.read = sym (append-nil _) ∙ ap (λ (x : Clause). flat_map ended b.end.done ++ map number_of x) (sym last.0) ∙ r.content in
    let vars = r.vars in
    let count = r.count in
    let limit = r.limit in
    rw last.2 (
      record { vars = omega arith; clauses = omega (arith, g.count); literals = omega (arith, g.sizes, g.total) },
      are_within b.end.vars b.end.done g.done,
      vars,
      omega (arith, g.count, last.1),
      b.are ∙ ap (map Some) (sym closed),
    )

spelled_lines : (L : Limits) (n : ℕ) (ls : List (List ℕ)) (f : Cnf) → AreWithin f.vars f.clauses → FitsIn L f → AreClauses (flat_map words_of ls) f → read_lines format n ls (start L (f.vars, length f.clauses)) ≡ Ok f
unfolding finish
spelled_lines L n ls f within fits are =
    let few : ltb (length f.clauses) (length f.clauses) ≡ false = le-ltb _ _ (omega arith) in
    body_lines format number (read_number 0) numbers_run n ls (flat_map ended f.clauses) (start L (f.vars, length f.clauses)) (state f.vars (length f.clauses) L.literals f.clauses [] (0 + literal_count f.clauses)) f are
    (run_clauses f.clauses f.vars (length f.clauses) L.literals 0 [] (omega arith) (each_within f.vars f.clauses within) (omega (arith, fits.literals))) (rw few refl)

-- ---- the whole text

-- what fits into no larger limits is a formula
is_formula_within : (L : Limits) (f : Cnf) → AreNoMore L large → FitsIn L f → AreWithin f.vars f.clauses → IsFormula f
is_formula_within L f no_more fits within = record {
  vars = omega (arith, fits.vars, no_more.0);
  clauses = omega (arith, fits.clauses, no_more.1);
  literals = omega (arith, fits.literals, no_more.2);
  within = within;
}

text_is : (L : Limits) → AreNoMore L large → (f : Cnf) (n : ℕ) (ws more : List (List ℕ)) → (format.header L n ws >>= read_lines format n more) ≡ Ok f
    → (IsFormula f × FitsIn L f) × IsHeader ws f × AreClauses (flat_map words_of more) f
text_is L no_more f n ws more e =
    let began = bind_ok (format.header L n ws) (read_lines format n more) f e in
    let h = bind_ok (read_header L n ws) (λ h. Ok (start L h)) began.0 began.1 in
    let same : start L h.0 ≡ began.0 = cc in
    let head = header_is L n ws h.0 h.1 in
    let body = lines_spelled L n more h.0 f head.vars head.count (ap (read_lines format n more) same ∙ began.2) in
    ((is_formula_within L f no_more body.0 body.1, body.0), head.spelled f body.2 body.3, body.4)

pub parse_spells_within : (L : Limits) (text : List ℕ) (f : Cnf) → AreNoMore L large → parse_within L text ≡ Ok f → SpellsWithin L text f
parse_spells_within L text f no_more e =
    let p = text_spelled format L (λ header. IsHeader header f) (λ tokens. AreClauses tokens f) f (IsFormula f × FitsIn L f) (text_is L no_more f) 0 (lines text) e in
    (p.0.0, p.1, p.0.1)

pub spells_parse_within : (L : Limits) (text : List ℕ) (f : Cnf) → SpellsWithin L text f → parse_within L text ≡ Ok f
spells_parse_within L text f s =
    spelled_text format L (λ header. IsHeader header f) (λ tokens. AreClauses tokens f) f (λ n ws more h b. rw (spelled_header L n ws f s.2 h) (spelled_lines L n more f s.0.within s.2 b)) 0 (lines text) s.1

-- what `read_within` answers, in the words of the grammar
pub found_spells_within : (L : Limits) (text : List ℕ) (r : Result Cnf DimacsFault) → AreNoMore L large → GivesFormula r (parse_within L text) → IfOk r (λ f. SpellsWithin L text f)
found_spells_within L text (Ok f) no_more h = parse_spells_within L text f no_more h
found_spells_within L text (Err e) no_more h = tt

pub spelled_found_within : (L : Limits) (text : List ℕ) (r : Result Cnf DimacsFault) → GivesFormula r (parse_within L text) → (f : Cnf) → SpellsWithin L text f → GivesFormula r (Ok f)
spelled_found_within L text r h f s = subst (λ (x : Result Cnf DimacsFault). GivesFormula r x) (spells_parse_within L text f s) h

-- ---- within the written limits

pub written_is_large : AreNoMore written large
written_is_large = (omega arith, omega arith, omega arith)

pub parse_spells : (text : List ℕ) (f : Cnf) → parse text ≡ Ok f → Spells text f
parse_spells text f e = parse_spells_within written text f written_is_large e

pub spells_parse : (text : List ℕ) (f : Cnf) → Spells text f → parse text ≡ Ok f
spells_parse text f s = spells_parse_within written text f s

pub found_spells : (text : List ℕ) (r : Result Cnf DimacsFault) → GivesFormula r (parse text) → IfOk r (λ f. Spells text f)
found_spells text r h = found_spells_within written text r written_is_large h

pub spelled_found : (text : List ℕ) (r : Result Cnf DimacsFault) → GivesFormula r (parse text) → (f : Cnf) → Spells text f → GivesFormula r (Ok f)
spelled_found text r h f s = spelled_found_within written text r h f s
