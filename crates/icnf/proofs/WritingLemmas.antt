-- What is written is spelled so.
use Rattle.std.proofs.Common.{◌≡◌, ℕ, ◌<◌, ◌≤◌, ◌^◌, Bool, true, false, eqb, List, [], ◌∷◌, ◌++◌, map, ℤ, nat_abs, Some, refl, sym, ap, ◌∙◌, arith, subst, append_assoc, codes, bytes_eq}
use Rattle.std.specs.Fmt.{signed_decimal}
use Rattle.std.specs.List.{flat_map, AllByRecursion}
use Rattle.std.proofs.lemmas.Slice.Eq.{bytes_eq-Decides}
use Rattle.std.proofs.lemmas.List.{map-append}
use Rattle.dimacs.specs.logic.Cnf.{Cnf, FitsIn, IsFormula, AreWithin, greatest_in}
use Rattle.dimacs.specs.logic.Limits.{Limits}
use Rattle.dimacs.specs.logic.Literal.{Clause, IsWithin}
use Rattle.dimacs.specs.text.Rows.{AreRows}
use Rattle.dimacs.specs.text.Words.{words, words_of, lines}
use Rattle.dimacs.specs.text.Grammar.{ended, clause_text, clause_line}
use Rattle.dimacs.proofs.WritingLemmas.{IsInk, number_text, text_ink, clause_plain, no_end, lines_line, words_of_clause, clause_words, clause_small, words_plain}
use Rattle.dimacs.proofs.WithinLemmas.{EachWithin, each_within}
use Rattle.icnf.specs.Leaves.{Cube, IsTree}
use Rattle.icnf.specs.Parser.{Token, Mark, Number, token}
use Rattle.icnf.specs.Grammar.{cube_tokens, AreTokens, IsHeader, IsIcnf, SpellsWithin, cube_line, spelling, formula_of}
use Rattle.icnf.proofs.StateLemmas.{clauses_greatest, clauses_within}

-- ---- tokens

-- what stands in a number is not the word a
not_mark : (w : List ℕ) → AllByRecursion IsInk w → bytes_eq w (codes "a") ≡ false
unfolding IsInk
not_mark w h = by_test (bytes_eq w (codes "a")) refl where
  by_test : (b : Bool) → bytes_eq w (codes "a") ≡ b → b ≡ false
  by_test true q =
      let a : AllByRecursion IsInk (97 ∷ []) = subst (λ (x : List ℕ). AllByRecursion IsInk x) ((bytes_eq-Decides w (codes "a")).0 q) h in
      absurd (omega (arith, a.0.1))
  by_test false q = refl

number_is : (z : ℤ) → nat_abs z < 2 ^ 63 → token (signed_decimal z) ≡ Some (Number z)
number_is z h = rw (not_mark (signed_decimal z) (text_ink z h), number_text z h) refl

numbers_are : (zs : List ℤ) → AllByRecursion (λ z. nat_abs z < 2 ^ 63) zs → map token (map signed_decimal zs) ≡ map Some (map Number zs)
numbers_are [] h = refl
numbers_are (z ∷ zs) h = rw (number_is z h.0, numbers_are zs h.1) refl

-- ---- lines

clause_line_words : (vars : ℕ) (c : Clause) (rest : List ℕ) → vars ≤ 99999999 → AllByRecursion (IsWithin vars) c → flat_map words_of (lines (clause_line c ++ rest)) ≡ map signed_decimal (ended c) ++ flat_map words_of (lines rest)
clause_line_words vars c rest v h =
    let regroup : clause_line c ++ rest ≡ clause_text c ++ 10 ∷ rest = append_assoc (clause_text c) (10 ∷ []) rest in
    ap (λ t. flat_map words_of (lines t)) regroup ∙ ap (flat_map words_of) (lines_line (clause_text c) rest (no_end (clause_text c) (clause_plain vars c v h)))
    ∙ ap (λ ws. ws ++ flat_map words_of (lines rest)) (words_of_clause vars c v h)

clauses_tokens : (vars : ℕ) (cs : List Clause) (rest : List ℕ) (ts : List Token) → vars ≤ 99999999 → EachWithin vars cs → map token (flat_map words_of (lines rest)) ≡ map Some ts
    → map token (flat_map words_of (lines (flat_map clause_line cs ++ rest))) ≡ map Some (map Number (flat_map ended cs) ++ ts)
clauses_tokens vars [] rest ts v h e = e
clauses_tokens vars (c ∷ cs) rest ts v h e =
    let later = clauses_tokens vars cs rest ts v h.1 e in
    ap (λ t. map token (flat_map words_of (lines t))) (append_assoc (clause_line c) (flat_map clause_line cs) rest)
    ∙ ap (map token) (clause_line_words vars c (flat_map clause_line cs ++ rest) v h.0)
    ∙ map-append token (map signed_decimal (ended c)) (flat_map words_of (lines (flat_map clause_line cs ++ rest)))
    ∙ ap (λ x. x ++ map token (flat_map words_of (lines (flat_map clause_line cs ++ rest)))) (numbers_are (ended c) (clause_small vars c v h.0))
    ∙ ap (λ x. map Some (map Number (ended c)) ++ x) later
    ∙ sym (map-append Some (map Number (ended c)) (map Number (flat_map ended cs) ++ ts))
    ∙ ap (map Some) (sym (append_assoc (map Number (ended c)) (map Number (flat_map ended cs)) ts) ∙ ap (λ x. x ++ ts) (sym (map-append Number (ended c) (flat_map ended cs))))

cube_words : (vars : ℕ) (c : Cube) → vars ≤ 99999999 → AllByRecursion (IsWithin vars) c → words_of (codes "a " ++ clause_text c) ≡ codes "a" ∷ map signed_decimal (ended c)
cube_words vars c v h = words_plain (codes "a") (clause_text c) (refl, tt) (omega arith) ∙ ap (λ ws. codes "a" ∷ ws) (clause_words vars c v h)

cube_line_words : (vars : ℕ) (c : Cube) (rest : List ℕ) → vars ≤ 99999999 → AllByRecursion (IsWithin vars) c → flat_map words_of (lines (cube_line c ++ rest)) ≡ (codes "a" ∷ map signed_decimal (ended c)) ++ flat_map words_of (lines rest)
cube_line_words vars c rest v h =
    let regroup : cube_line c ++ rest ≡ (codes "a " ++ clause_text c) ++ 10 ∷ rest = ap (λ t. codes "a " ++ t) (append_assoc (clause_text c) (10 ∷ []) rest) in
    let plain : AllByRecursion (λ b. eqb b 10 ≡ false) (codes "a " ++ clause_text c) = (refl, (refl, no_end (clause_text c) (clause_plain vars c v h))) in
    ap (λ t. flat_map words_of (lines t)) regroup ∙ ap (flat_map words_of) (lines_line (codes "a " ++ clause_text c) rest plain)
    ∙ ap (λ ws. ws ++ flat_map words_of (lines rest)) (cube_words vars c v h)

cubes_tokens : (vars : ℕ) (cs : List Cube) → vars ≤ 99999999 → EachWithin vars cs → map token (flat_map words_of (lines (flat_map cube_line cs))) ≡ map Some (flat_map cube_tokens cs)
unfolding words
cubes_tokens vars [] v h = refl
cubes_tokens vars (c ∷ cs) v h =
    let later = cubes_tokens vars cs v h.1 in
    ap (map token) (cube_line_words vars c (flat_map cube_line cs) v h.0)
    ∙ ap (λ x. Some Mark ∷ x) (
    map-append token (map signed_decimal (ended c)) (flat_map words_of (lines (flat_map cube_line cs)))
    ∙ ap (λ x. x ++ map token (flat_map words_of (lines (flat_map cube_line cs)))) (numbers_are (ended c) (clause_small vars c v h.0))
    ∙ ap (λ x. map Some (map Number (ended c)) ++ x) later
    ∙ sym (map-append Some (map Number (ended c)) (flat_map cube_tokens cs))
    )

-- ---- the header and the whole text

header_words : words_of (codes "p inccnf") ≡ codes "p" ∷ codes "inccnf" ∷ []
unfolding words
header_words = refl

pub writing_spells : (L : Limits) (f : Cnf) (cubes : List Cube) → IsFormula f → FitsIn L f → IsTree cubes → AreWithin (greatest_in f.clauses) cubes → SpellsWithin L (spelling f.clauses cubes) (formula_of f.clauses) cubes
writing_spells L f cubes is fits tree near =
    let top = clauses_greatest f.vars f.clauses is.within in
    let small : greatest_in f.clauses ≤ 99999999 = omega (arith, is.vars) in
    let body = flat_map clause_line f.clauses ++ flat_map cube_line cubes in
    let plain : AllByRecursion (λ b. eqb b 10 ≡ false) (codes "p inccnf") = (refl, (refl, (refl, (refl, (refl, (refl, (refl, (refl, tt)))))))) in
    let l : lines (spelling f.clauses cubes) ≡ codes "p inccnf" ∷ lines body = lines_line (codes "p inccnf") body plain in
    let tokens : AreTokens (flat_map words_of (lines body)) (formula_of f.clauses) cubes =
    clauses_tokens f.vars f.clauses (flat_map cube_line cubes) (flat_map cube_tokens cubes) is.vars (each_within f.vars f.clauses is.within)
    (cubes_tokens (greatest_in f.clauses) cubes small (each_within (greatest_in f.clauses) cubes near)) in
    let rows : AreRows IsHeader (λ ts. AreTokens ts (formula_of f.clauses) cubes) (codes "p inccnf" ∷ lines body) = rw header_words ((refl, refl), tokens) in
    let icnf : IsIcnf (formula_of f.clauses) cubes = record {
      formula = record { vars = small; clauses = is.clauses; literals = is.literals; within = clauses_within f.vars (greatest_in f.clauses) f.clauses (omega arith) is.within };
      vars = refl;
      tree = tree;
      within = near;
    } in
    (icnf, subst (λ (ls : List (List ℕ)). AreRows IsHeader (λ ts. AreTokens ts (formula_of f.clauses) cubes) ls) (sym l) rows, record { vars = omega (arith, fits.vars); clauses = fits.clauses; literals = fits.literals })
