-- The lines of LIDRUP text are read as they were meant.
use Rattle.std.proofs.Common.{◌≡◌, ◌≢◌, ℕ, ◌+◌, ◌-◌, ◌<◌, ◌≤◌, ◌^◌, ◌==◌, true, false, not, List, [], ◌∷◌, ◌++◌, length, take, drop, get_or, Ok, codes, decimal, inl, inr, refl, sym, ◌∙◌, ap, subst, append_assoc, arith}
use Rattle.std.specs.List.{All, Contains, flat_map, list_all, slice_range}
use Rattle.std.proofs.Math.Seq.{drop-append_seam, take-append_seam}
use Rattle.std.proofs.lemmas.Bool.{and_parts, ne_eqb, not-true}
use Rattle.std.proofs.lemmas.Fmt.{decimal_digit}
use Rattle.std.proofs.lemmas.List.{append_cancel_right, length-append}
use Rattle.std.proofs.lemmas.List.Elements.{All-cons, All-nil, All-weaker, Contains-append_left, Contains-append_right, Contains-get_or}
use Rattle.dimacs.specs.logic.Literal.{Literal, Clause, IsWithin}
use Rattle.dimacs.specs.logic.Rat.{Group}
use Rattle.dimacs.proofs.Members.{Contains-cons, Contains-cons_cases}
use Rattle.lrat_text.specs.Grammar.{IsClauseNumber, IsGroup, IsStepWithin, literal_token}
use Rattle.lrat_text.specs.Lines.{IsOpen}
use Rattle.lrat_text.specs.Parser.{step_within}
use Rattle.lrat_text.specs.WrittenLine.{line_of, line_text, literals_text}
use Rattle.lrat_text.specs.declared.step.Step.{Step}
use Rattle.lrat_text.specs.declared.step.Step.TheVariants.{Add, Delete}
use Rattle.lrat_text.specs.inner.LineParts.{number_text}
use Rattle.lrat_text.proofs.LineLemmas.{written_one_line_within, written_spells_within}
use Rattle.lrat_text.proofs.SpellingLemmas.{spelled_found_within}
use Rattle.lrat_text.proofs.WrittenLineLemmas.{line_addition, line_deletion}
use Rattle.sessions.specs.Lines.{Asks, Deletes, Fails, Gives, Learns, Shows, body_of, line_within}
use Rattle.incremental.specs.inner.LidrupLines.{addition_text, core_text, deleted_text, given_text, learnt_text, listed_text}

-- ---- bytes
open_of : (xs : List ℕ) → ¬ (Contains xs 10) → IsOpen xs
open_of xs none i d l = ne_eqb (get_or xs i d) 10 (λ e. none (subst (Contains xs) e (Contains-get_or xs i d l)))

one_text : decimal 1 ≡ codes "1"
one_text = decimal_digit 1 (omega arith)

-- literals begin with a space, and have two bytes at least
literals_begin : (lits : Clause) → (rest : List ℕ) × (literals_text lits ≡ 32 ∷ rest) × (2 ≤ length (literals_text lits))
literals_begin [] = (codes "0", refl, omega arith)
literals_begin (l ∷ lits) = (
  _,
  refl,
  (let x = length-append (flat_map (λ k. codes " " ++ literal_token k) (l ∷ lits)) (codes " 0") in omega arith),
)

-- the line of an addition, and of a deletion
addition_is : (id : ℕ) (lits : Clause) (hints : List ℕ) → line_text id (Add id lits hints []) ≡ decimal id ++ (literals_text lits ++ (flat_map number_text hints ++ codes " 0"))
addition_is id lits hints =
    append_cancel_right (line_text id (Add id lits hints [])) (decimal id ++ (literals_text lits ++ (flat_map number_text hints ++ codes " 0"))) (codes "\n") (line_addition id id lits hints [] ∙ (simp append_assoc))

deletion_is : (ids : List ℕ) → line_text 1 (Delete ids) ≡ codes "1 " ++ deleted_text ids
deletion_is ids = append_cancel_right (line_text 1 (Delete ids)) (codes "1 " ++ deleted_text ids) (codes "\n") (line_deletion 1 ids ∙ rw one_text (simp append_assoc))

-- what is written of them
pub addition_bytes : (id : ℕ) (lits : Clause) (hints : List ℕ) → line_of id (Add id lits hints []) ≡ addition_text id lits hints
addition_bytes id lits hints = line_addition id id lits hints [] ∙ (simp append_assoc)

pub addition_long : (id : ℕ) (lits : Clause) (hints : List ℕ) → 5 ≤ length (addition_text id lits hints)
addition_long id lits hints =
    let b = literals_begin lits in
    let more = flat_map number_text hints ++ codes " 0\n" in
    let x = length-append (decimal id) (literals_text lits ++ more) in
    let y = length-append (literals_text lits) more in
    let z = length-append (flat_map number_text hints) (codes " 0\n") in
    let w = b.2 in
    omega arith

pub added : (xs old : List ℕ) (id : ℕ) (lits : Clause) (hints : List ℕ) (groups : List Group) → old ≡ [] → groups ≡ [] → xs ≡ old ++ line_of id (Add id lits hints groups) → xs ≡ addition_text id lits hints
added xs old id lits hints groups none bare e =
    e ∙ ap (λ (t : List ℕ). t ++ line_of id (Add id lits hints groups)) none ∙ ap (λ (gs : List Group). line_of id (Add id lits hints gs)) bare ∙ addition_bytes id lits hints

pub listed_bytes : (lits : Clause) → addition_text 1 lits [] ≡ codes "1" ++ (literals_text lits ++ codes " 0\n")
listed_bytes lits = ap (λ (x : List ℕ). x ++ (literals_text lits ++ codes " 0\n")) one_text

pub core_bytes : (core : Clause) (hints : List ℕ) → addition_text 1 core hints ≡ codes "1" ++ ((literals_text core ++ (flat_map number_text hints ++ codes " 0")) ++ codes "\n")
core_bytes core hints = ap (λ (x : List ℕ). x ++ (literals_text core ++ (flat_map number_text hints ++ codes " 0\n"))) one_text ∙ (simp append_assoc)

pub deletion_bytes : (ids : List ℕ) → line_of 1 (Delete ids) ≡ codes "1 " ++ (deleted_text ids ++ codes "\n")
deletion_bytes ids = ap (λ (x : List ℕ). x ++ codes "\n") (deletion_is ids) ∙ append_assoc (codes "1 ") (deleted_text ids) (codes "\n")

pub deletion_long : (ids : List ℕ) → 3 ≤ length (codes "1 " ++ (deleted_text ids ++ codes "\n"))
deletion_long ids = omega arith

-- a step's line is read as that step
pub step_read : (most : ℕ) → most < 2 ^ 48 → (top : ℕ) (s : Step) → IsClauseNumber top → IsStepWithin most s → step_within most (line_text top s) ≡ Ok s
step_read most few top s n h = spelled_found_within most (line_text top s) s few (written_spells_within most few top s n h)

pub one : IsClauseNumber 1
one = (omega arith, omega arith)

-- a part of a line has no LF, and a letter before it is none
bare_within : (xs ys zs : List ℕ) → ¬ (Contains (xs ++ (ys ++ zs)) 10) → ¬ (Contains ys 10)
bare_within xs ys zs none i = none (Contains-append_right xs (ys ++ zs) 10 (Contains-append_left ys zs 10 i))

bare_letter : (b : ℕ) (xs : List ℕ) → b ≢ 10 → ¬ (Contains xs 10) → ¬ (Contains (b ∷ xs) 10)
bare_letter b xs apart none i = elim (Contains-cons_cases b 10 xs i) [ inl e ↦ apart e | inr j ↦ none j ]

-- ---- clauses that are given
module _ (most : ℕ) (few : most < 2 ^ 48) (id : ℕ) (C : Clause) (h : IsStepWithin most (Add id C [] [])) where
  given_line : line_text id (Add id C [] []) ≡ (decimal id ++ literals_text C) ++ codes " 0"
  given_line = addition_is id C [] ∙ sym (append_assoc (decimal id) (literals_text C) (codes " 0"))

  pub given_read : line_within most (given_text id C) ≡ Ok (Gives id C)
  given_read =
      let e : step_within most ((decimal id ++ literals_text C) ++ codes " 0") ≡ Ok (Add id C [] []) = ap (step_within most) (sym given_line) ∙ step_read most few id (Add id C [] []) h.0 h in
      rw e refl

  pub given_bare : IsOpen (given_text id C)
  given_bare = open_of (given_text id C) (bare_letter 105 (codes " " ++ (decimal id ++ literals_text C)) (λ e. cc) (bare_letter 32 (decimal id ++ literals_text C) (λ e. cc)
      (bare_within [] (decimal id ++ literals_text C) (codes " 0") (subst (λ xs. ¬ (Contains xs 10)) given_line (written_one_line_within most few id (Add id C [] []) h.0 h)))))

-- ---- literals after a letter
module _ (most : ℕ) (few : most < 2 ^ 48) (letter : ℕ) (lits : List Literal) (h : IsStepWithin most (Add 1 lits [] [])) where
  listed_line : line_text 1 (Add 1 lits [] []) ≡ codes "1" ++ (literals_text lits ++ codes " 0")
  listed_line = addition_is 1 lits [] ∙ ap (λ (x : List ℕ). x ++ (literals_text lits ++ codes " 0")) one_text

  -- what stands after the letter and the space
  listed_body : codes "1 " ++ body_of (listed_text letter lits) ++ codes " 0" ≡ line_text 1 (Add 1 lits [] [])
  listed_body =
      let b = literals_begin lits in
      ap (λ (x : List ℕ). codes "1 " ++ body_of (letter ∷ x) ++ codes " 0") b.1 ∙ ap (λ (x : List ℕ). codes "1" ++ (x ++ codes " 0")) (sym b.1) ∙ sym listed_line

  listed_step : step_within most (codes "1 " ++ body_of (listed_text letter lits) ++ codes " 0") ≡ Ok (Add 1 lits [] [])
  listed_step = ap (step_within most) listed_body ∙ step_read most few 1 (Add 1 lits [] []) one h

  pub listed_bare : letter ≢ 10 → IsOpen (listed_text letter lits)
  listed_bare apart = open_of (listed_text letter lits) (bare_letter letter (literals_text lits) apart
      (bare_within (codes "1") (literals_text lits) (codes " 0") (subst (λ xs. ¬ (Contains xs 10)) listed_line (written_one_line_within most few 1 (Add 1 lits [] []) one h))))

pub asked_read : (most : ℕ) → most < 2 ^ 48 → (A : List Literal) → IsStepWithin most (Add 1 A [] []) → line_within most (listed_text 113 A) ≡ Ok (Asks A)
asked_read most few A h = let e = listed_step most few 113 A h in rw e refl

pub shown_read : (most : ℕ) → most < 2 ^ 48 → (model : List Literal) → IsStepWithin most (Add 1 model [] []) → line_within most (listed_text 109 model) ≡ Ok (Shows model)
shown_read most few model h = let e = listed_step most few 109 model h in cc

-- ---- cores
module _ (most : ℕ) (few : most < 2 ^ 48) (core : List Literal) (hints : List ℕ) (h : IsStepWithin most (Add 1 core hints [])) where
  core_line : line_text 1 (Add 1 core hints []) ≡ codes "1" ++ (literals_text core ++ (flat_map number_text hints ++ codes " 0"))
  core_line = addition_is 1 core hints ∙ ap (λ (x : List ℕ). x ++ (literals_text core ++ (flat_map number_text hints ++ codes " 0"))) one_text

  core_body : codes "1 " ++ body_of (core_text core hints) ≡ line_text 1 (Add 1 core hints [])
  core_body =
      let b = literals_begin core in
      let more = flat_map number_text hints ++ codes " 0" in
      ap (λ (x : List ℕ). codes "1 " ++ body_of (codes "u" ++ (x ++ more))) b.1 ∙ ap (λ (x : List ℕ). codes "1" ++ (x ++ more)) (sym b.1) ∙ sym core_line

  pub core_read : line_within most (core_text core hints) ≡ Ok (Fails core hints)
  core_read = let e = ap (step_within most) core_body ∙ step_read most few 1 (Add 1 core hints []) one h in rw e refl

  pub core_bare : IsOpen (core_text core hints)
  core_bare = open_of (core_text core hints) (bare_letter 117 (literals_text core ++ (flat_map number_text hints ++ codes " 0")) (λ e. cc)
      (λ i. subst (λ xs. ¬ (Contains xs 10)) core_line (written_one_line_within most few 1 (Add 1 core hints []) one h) (Contains-cons 49 10 (literals_text core ++ (flat_map number_text hints ++ codes " 0")) i)))

-- ---- the lines of a log
module _ (most : ℕ) (few : most < 2 ^ 48) (ids : List ℕ) (h : IsStepWithin most (Delete ids)) where
  pub deleted_read : line_within most (deleted_text ids) ≡ Ok (Deletes ids)
  deleted_read =
      let e : step_within most (codes "1 " ++ deleted_text ids) ≡ Ok (Delete ids) = ap (step_within most) (sym (deletion_is ids)) ∙ step_read most few 1 (Delete ids) one h in
      rw e refl

  pub deleted_bare : IsOpen (deleted_text ids)
  deleted_bare = open_of (deleted_text ids) (λ i. subst (λ xs. ¬ (Contains xs 10)) (deletion_is ids) (written_one_line_within most few 1 (Delete ids) one h) (Contains-append_right (codes "1 ") (deleted_text ids) 10 i))

pub learnt_read : (most : ℕ) (line : List ℕ) (id : ℕ) (C : Clause) (hints : List ℕ) → step_within most line ≡ Ok (Add id C hints []) → line_within most (learnt_text line) ≡ Ok (Learns id C hints)
learnt_read most line id C hints e = rw e refl

pub learnt_bare : (line : List ℕ) → IsOpen line → IsOpen (learnt_text line)
learnt_bare line h = All-cons (λ b. (b == 10) ≡ false) 108 (32 ∷ line) refl (All-cons (λ b. (b == 10) ≡ false) 32 line refl h)

pub bare_by : (xs : List ℕ) → list_all (λ b. not (b == 10)) xs ≡ true → IsOpen xs
bare_by [] h = All-nil (λ b. (b == 10) ≡ false)
bare_by (x ∷ xs) h =
    let p = and_parts (not (x == 10)) (list_all (λ b. not (b == 10)) xs) h in
    All-cons (λ b. (b == 10) ≡ false) x xs (not-true (x == 10) p.0) (bare_by xs p.1)

pub core_same : {core ls : List Literal} {hints ks : List ℕ} → ls ≡ core → ks ≡ hints → core_text ls ks ≡ core_text core hints
core_same {core} {ls} {hints} {ks} e f = ap (λ (x : List Literal). core_text x ks) e ∙ ap (core_text core) f

-- ---- limits
pub given_limits : (vars most id : ℕ) (C : Clause) → IsClauseNumber id → vars ≤ most → All (IsWithin vars) C → IsStepWithin most (Add id C [] [])
given_limits vars most id C number few within = (
  number,
  All-weaker (IsWithin vars) (IsWithin most) (λ l h. (h.0, (let u = h.1 in omega arith))) C within,
  All-nil IsClauseNumber,
  All-nil IsGroup,
)

-- ---- slices
pub front_of : (xs ys zs : List ℕ) (n : ℕ) → xs ≡ ys ++ zs → n ≡ length xs - length zs → slice_range xs 0 n ≡ ys
front_of xs ys zs n e is =
    let l : length xs ≡ length ys + length zs = ap length e ∙ length-append ys zs in
    let k : n - 0 ≡ length ys = omega arith in
    ap (λ j. take j xs) k ∙ ap (take (length ys)) e ∙ take-append_seam ys zs

pub middle_of : (xs ws ys zs : List ℕ) (m n : ℕ) → xs ≡ ws ++ (ys ++ zs) → m ≡ length ws → n ≡ length xs - length zs → slice_range xs m n ≡ ys
middle_of xs ws ys zs m n e at is =
    let l : length xs ≡ length ws + (length ys + length zs) = ap length e ∙ length-append ws (ys ++ zs) ∙ ap (λ k. length ws + k) (length-append ys zs) in
    let k : n - m ≡ length ys = omega arith in
    ap (λ j. take j (drop m xs)) k ∙ ap (λ j. take (length ys) (drop j xs)) at ∙ ap (λ (t : List ℕ). take (length ys) (drop (length ws) t)) e
    ∙ ap (take (length ys)) (drop-append_seam ws (ys ++ zs)) ∙ take-append_seam ys zs
