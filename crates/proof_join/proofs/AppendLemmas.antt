-- Texts that are appended, and the lines of definitions.
use Rattle.std.proofs.Common.{◌≡◌, ℕ, ◌+◌, ◌*◌, ◌<◌, List, [], ◌∷◌, ◌++◌, length, get_or, take, drop, ap, ◌∙◌, sym, append_assoc, length-append, arith}
use Rattle.std.proofs.lemmas.List.{append-nil, length-take-le, take_more, take-append-drop}
use Rattle.dimacs.specs.logic.Base.{base_of, pure_literals}
use Rattle.dimacs.specs.logic.Cnf.{Cnf}
use Rattle.dimacs.specs.logic.Literal.{Literal, Pos, negation}
use Rattle.dimacs.specs.logic.Rat.{Group}
use Rattle.lrat_text.specs.Runs.{text_of, top_of}
use Rattle.lrat_text.specs.WrittenLine.{line_of}
use Rattle.lrat_text.specs.declared.step.Step.{Step}
use Rattle.lrat_text.specs.declared.step.Step.TheVariants.{Add}
use Rattle.lrat_text.proofs.RunLemmas.{text_append}
use Rattle.cube_split.specs.Definitions.{all_clauses, base_with, both_clause, part_clause}
use Rattle.cube_split.proofs.UnitLemmas.{definitions_len, units_len}
use Rattle.cube_split.specs.declared.pair.Pair.{Pair}
use Rattle.proof_join.specs.Definitions.{all_steps, definition_steps, preamble_steps}
use Rattle.proof_join.specs.JoinedProof.{unit_steps}
use Rattle.proof_join.proofs.WholeLemmas.{units_top}

pub after_one : (out a b : List ℕ) → (out ++ a) ++ b ≡ out ++ (a ++ b)
after_one out a b = append_assoc out a b

pub after_two : (out a b c : List ℕ) → ((out ++ a) ++ b) ++ c ≡ out ++ (a ++ (b ++ c))
after_two out a b c = append_assoc (out ++ a) b c ∙ append_assoc out a (b ++ c)

pub after_three : (out a b c : List ℕ) → ((out ++ a) ++ b) ++ c ≡ out ++ (a ++ (b ++ (c ++ [])))
after_three out a b c = after_two out a b c ∙ ap (λ (xs : List ℕ). out ++ (a ++ (b ++ xs))) (sym (append-nil c))

-- ---- the lines of a definition
pub both_line : (top v : ℕ) (p : Pair) (d a b : Literal) (groups : List Group) → d ≡ Pos v → a ≡ negation p.first → b ≡ negation p.second → groups ≡ []
    → line_of (top + 1) (Add (top + 1) (d ∷ a ∷ b ∷ []) [] groups) ≡ line_of top (Add (top + 1) (both_clause v p) [] [])
both_line top v p d a b groups e f g none =
    ap (λ (l : Literal). line_of (top + 1) (Add (top + 1) (l ∷ a ∷ b ∷ []) [] groups)) e
    ∙ ap (λ (l : Literal). line_of (top + 1) (Add (top + 1) (Pos v ∷ l ∷ b ∷ []) [] groups)) f
    ∙ ap (λ (l : Literal). line_of (top + 1) (Add (top + 1) (Pos v ∷ negation p.first ∷ l ∷ []) [] groups)) g
    ∙ ap (λ (gs : List Group). line_of (top + 1) (Add (top + 1) (both_clause v p) [] gs)) none

pub part_line : (before id v top : ℕ) (d e l : Literal) (groups front : List Group) → e ≡ negation d → d ≡ Pos v → groups ≡ front ++ (top + 1, []) ∷ [] → front ≡ []
    → line_of id (Add id (e ∷ l ∷ []) [] groups) ≡ line_of before (Add id (part_clause v l) [] ((top + 1, []) ∷ []))
part_line before id v top d e l groups front n is pushed none =
    ap (λ (k : Literal). line_of id (Add id (k ∷ l ∷ []) [] groups)) (n ∙ ap negation is)
    ∙ ap (λ (gs : List Group). line_of id (Add id (part_clause v l) [] gs)) (pushed ∙ ap (λ (gs : List Group). gs ++ (top + 1, []) ∷ []) none)

steps_more : (top d : ℕ) (xs : List Pair) (p : Pair) → all_steps top d (xs ++ p ∷ []) ≡ all_steps top d xs ++ definition_steps (top + 3 * length xs) (d + length xs) p
steps_more top d [] p =
    let e : top ≡ top + 0 = omega arith in
    let f : d ≡ d + 0 = omega arith in
    ap (λ (n : ℕ). definition_steps n d p) e ∙ ap (λ (n : ℕ). definition_steps (top + 0) n p) f
steps_more top d (x ∷ xs) p =
    let e : top + 3 + 3 * length xs ≡ top + 3 * length (x ∷ xs) = omega arith in
    let f : d + 1 + length xs ≡ d + length (x ∷ xs) = omega arith in
    ap (λ (ss : List Step). definition_steps top d x ++ ss) (steps_more (top + 3) (d + 1) xs p
    ∙ ap (λ (n : ℕ). all_steps (top + 3) (d + 1) xs ++ definition_steps n (d + 1 + length xs) p) e
    ∙ ap (λ (n : ℕ). all_steps (top + 3) (d + 1) xs ++ definition_steps (top + 3 * length (x ∷ xs)) n p) f)

steps_append : (top d : ℕ) (xs ys : List Pair) → all_steps top d (xs ++ ys) ≡ all_steps top d xs ++ all_steps (top + 3 * length xs) (d + length xs) ys
steps_append top d [] ys =
    let e : top ≡ top + 0 = omega arith in
    let f : d ≡ d + 0 = omega arith in
    ap (λ (n : ℕ). all_steps n d ys) e ∙ ap (λ (n : ℕ). all_steps (top + 0) n ys) f
steps_append top d (x ∷ xs) ys =
    let e : top + 3 + 3 * length xs ≡ top + 3 * length (x ∷ xs) = omega arith in
    let f : d + 1 + length xs ≡ d + length (x ∷ xs) = omega arith in
    ap (λ (ss : List Step). definition_steps top d x ++ ss) (steps_append (top + 3) (d + 1) xs ys
    ∙ ap (λ (n : ℕ). all_steps (top + 3) (d + 1) xs ++ all_steps n (d + 1 + length xs) ys) e
    ∙ ap (λ (n : ℕ). all_steps (top + 3) (d + 1) xs ++ all_steps (top + 3 * length (x ∷ xs)) n ys) f)

pub steps_top : (top d : ℕ) (xs : List Pair) → top_of top (all_steps top d xs) ≡ top + 3 * length xs
steps_top top d [] = let e : top ≡ top + 0 = omega arith in e
steps_top top d (x ∷ xs) = let e : top + 3 + 3 * length xs ≡ top + 3 * length (x ∷ xs) = omega arith in steps_top (top + 3) (d + 1) xs ∙ e

-- the lines of one pair more
pub pair_more : (out : List ℕ) (top d : ℕ) (pairs : List Pair) (i last v : ℕ) (p : Pair) (old : List ℕ) → i < length pairs → p ≡ get_or pairs i p → last ≡ top + 3 * i → v ≡ d + i
    → old ≡ out ++ text_of top (all_steps top d (take i pairs)) → old ++ text_of last (definition_steps last v p) ≡ out ++ text_of top (all_steps top d (take (i + 1) pairs))
pair_more out top d pairs i last v p old below is e f written =
    let front : List Pair = take i pairs in
    let long : i ≡ length front = sym (length-take-le i pairs (omega arith)) in
    let number : last ≡ top + 3 * length front = omega arith in
    let variable : v ≡ d + length front = omega arith in
    ap (λ (o : List ℕ). o ++ text_of last (definition_steps last v p)) written
    ∙ ap (λ (n : ℕ). (out ++ text_of top (all_steps top d front)) ++ text_of n (definition_steps n v p)) number
    ∙ ap (λ (n : ℕ). (out ++ text_of top (all_steps top d front)) ++ text_of (top + 3 * length front) (definition_steps (top + 3 * length front) n p)) variable
    ∙ append_assoc out (text_of top (all_steps top d front)) (text_of (top + 3 * length front) (definition_steps (top + 3 * length front) (d + length front) p))
    ∙ ap (λ (xs : List ℕ). out ++ xs)
    (ap (λ (n : ℕ). text_of top (all_steps top d front) ++ text_of n (definition_steps (top + 3 * length front) (d + length front) p)) (sym (steps_top top d front))
    ∙ sym (text_append top (all_steps top d front) (definition_steps (top + 3 * length front) (d + length front) p))
    ∙ ap (text_of top) (sym (steps_more top d front p) ∙ ap (all_steps top d) (ap (λ (q : Pair). front ++ q ∷ []) is ∙ sym (take_more pairs i p below))))

-- the lines of a front of the pairs begin those of all
pub pairs_front : (out : List ℕ) (top d n : ℕ) (pairs : List Pair)
    → (out ++ text_of top (all_steps top d (take n pairs))) ++ text_of (top_of top (all_steps top d (take n pairs))) (all_steps (top + 3 * length (take n pairs)) (d + length (take n pairs)) (drop n pairs))
    ≡ out ++ text_of top (all_steps top d pairs)
pairs_front out top d n pairs =
    append_assoc out (text_of top (all_steps top d (take n pairs))) (text_of (top_of top (all_steps top d (take n pairs))) (all_steps (top + 3 * length (take n pairs)) (d + length (take n pairs)) (drop n pairs)))
    ∙ ap (λ (xs : List ℕ). out ++ xs) (sym (text_append top (all_steps top d (take n pairs)) (all_steps (top + 3 * length (take n pairs)) (d + length (take n pairs)) (drop n pairs)))
    ∙ ap (text_of top) (sym (steps_append top d (take n pairs) (drop n pairs)) ∙ ap (all_steps top d) (take-append-drop n pairs)))

-- ---- the whole preamble
pub preamble_whole : (F : Cnf) (pairs : List Pair) (out : List ℕ)
    → (out ++ text_of (length F.clauses) (unit_steps (length F.clauses) (pure_literals F))) ++ text_of (length F.clauses + length (pure_literals F)) (all_steps (length F.clauses + length (pure_literals F)) (F.vars + 1) pairs)
    ≡ out ++ text_of (length F.clauses) (preamble_steps F pairs)
preamble_whole F pairs out =
    let m : ℕ = length F.clauses in
    let units : List Step = unit_steps m (pure_literals F) in
    let more : List Step = all_steps (m + length (pure_literals F)) (F.vars + 1) pairs in
    append_assoc out (text_of m units) (text_of (m + length (pure_literals F)) more)
    ∙ ap (λ (xs : List ℕ). out ++ xs) (ap (λ (n : ℕ). text_of m units ++ text_of n more) (sym (units_top m (pure_literals F))) ∙ sym (text_append m units more))

pub base_count : (F : Cnf) (pairs : List Pair) → length F.clauses + length (pure_literals F) + 3 * length pairs ≡ length (base_with F pairs).clauses
base_count F pairs =
    let a = length-append (base_of F).clauses (all_clauses (F.vars + 1) pairs) in
    let b = definitions_len (F.vars + 1) pairs in
    let c = units_len F (pure_literals F) in
    omega arith
