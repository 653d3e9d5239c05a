-- What is printed spells the formula and the tree.
use Rattle.std.proofs.Common.{◌≡◌, ◌≢◌, ◌∙◌, ℕ, ◌+◌, ◌*◌, ◌%◌, ◌<◌, ◌^◌, Bool, true, false, nat_eq, List, [], ◌∷◌, ◌++◌, length, codes, refl, sym, subst, arith, append_assoc}
use Rattle.std.specs.Prelude.{decimal}
use Rattle.std.specs.List.{AllByRecursion}
use Rattle.std.proofs.lemmas.Bool.{ne_eqb}
use Rattle.std.proofs.lemmas.Fmt.{decimal_by_steps}
use Rattle.dimacs.specs.logic.Cnf.{Cnf}
use Rattle.dimacs.specs.logic.Limits.{Limits}
use Rattle.dimacs.specs.text.Rows.{AreRows}
use Rattle.dimacs.proofs.WritingLemmas.{lines_line}
use Rattle.icnf.specs.Leaves.{Cube}
use Rattle.icnf.specs.Grammar.{AreTokens, IsHeader, SpellsWithin}
use Rattle.cubes_to_tree.specs.Completion.{added_line, added_lines}

-- no byte ends a line
abbrev IsOpen : List ℕ → Type 0
IsOpen text = AllByRecursion (λ b. nat_eq b 10 ≡ false) text

open_push : (xs : List ℕ) (y : ℕ) → IsOpen xs → nat_eq y 10 ≡ false → IsOpen (xs ++ y ∷ [])
open_push [] y h p = (p, tt)
open_push (x ∷ xs) y h p = (h.0, open_push xs y h.1 p)

open_append : (xs ys : List ℕ) → IsOpen xs → IsOpen ys → IsOpen (xs ++ ys)
open_append [] ys h k = k
open_append (x ∷ xs) ys h k = (h.0, open_append xs ys h.1 k)

decimal_open : (n : ℕ) → n < 2 ^ 64 → IsOpen (decimal n)
decimal_open n h = decimal_by_steps (λ k ds. IsOpen ds)
    (λ k lt. (ne_eqb (48 + k) 10 (λ e. omega arith), tt))
    (λ k ds ge e. open_push ds (48 + k % 10) e (ne_eqb (48 + k % 10) 10 (λ s. omega arith))) n h

-- a line that begins with c may come before a text
comment_ahead : (L : Limits) (body rest : List ℕ) (f : Cnf) (cubes : List Cube) → IsOpen (99 ∷ body) → SpellsWithin L rest f cubes → SpellsWithin L ((99 ∷ body) ++ 10 ∷ rest) f cubes
comment_ahead L body rest f cubes plain h =
    (h.0, subst (λ (ls : List (List ℕ)). AreRows IsHeader (λ ts. AreTokens ts f cubes) ls) (sym (lines_line (99 ∷ body) rest plain)) h.1, h.2)

-- the line of a leaf, without its first byte and its end
abbrev line_body : ℕ → List ℕ
line_body n = codes " leaf " ++ decimal n ++ codes " added"

line_open : (n : ℕ) → n < 2 ^ 64 → IsOpen (99 ∷ line_body n)
line_open n h =
    (refl, (refl, (refl, (refl, (refl, (refl, (refl, open_append (decimal n) (codes " added") (decimal_open n h) (refl, (refl, (refl, (refl, (refl, (refl, tt)))))))))))))

line_split : (n : ℕ) (more rest : List ℕ) → (added_line n ++ more) ++ rest ≡ (99 ∷ line_body n) ++ 10 ∷ (more ++ rest)
line_split n more rest =
    append_assoc (added_line n) more rest
    ∙ append_assoc (codes "c leaf " ++ decimal n) (codes " added\n") (more ++ rest)
    ∙ sym (append_assoc (codes "c leaf " ++ decimal n) (codes " added") (10 ∷ (more ++ rest)))

-- the lines of leaves may come before a text
pub lines_ahead : (L : Limits) (n : ℕ) (flags : List Bool) (rest : List ℕ) (f : Cnf) (cubes : List Cube) → n + length flags < 2 ^ 64 → SpellsWithin L rest f cubes → SpellsWithin L (added_lines n flags ++ rest) f cubes
lines_ahead L n [] rest f cubes h s = s
lines_ahead L n (true ∷ flags) rest f cubes h s =
    subst (λ (text : List ℕ). SpellsWithin L text f cubes) (sym (line_split n (added_lines (n + 1) flags) rest))
    (comment_ahead L (line_body n) (added_lines (n + 1) flags ++ rest) f cubes (line_open n (omega arith)) (lines_ahead L (n + 1) flags rest f cubes (omega arith) s))
lines_ahead L n (false ∷ flags) rest f cubes h s = lines_ahead L (n + 1) flags rest f cubes (omega arith) s
