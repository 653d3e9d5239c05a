-- An index that grows.
use Rattle.std.proofs.Common.{◌≡◌, ◌≢◌, ℕ, ◌+◌, ◌-◌, ◌*◌, ◌/◌, ◌%◌, ◌<◌, ◌≤◌, inl, inr, List, [], ◌∷◌, ◌++◌, length, get_or, set, refl, sym, ◌∙◌, ap, subst, arith}
use Rattle.std.specs.Int.{bit_at}
use Rattle.std.proofs.Math.ListN.{replicate, length-set}
use Rattle.std.proofs.lemmas.Bool.{cases_eq, cases_lt}
use Rattle.std.proofs.lemmas.List.{get_or-set_same, get_or-set_other, get_or_past, get_or_append_left, get_or-append_right, get_or_read}
use Rattle.std.proofs.lemmas.List.Elements.{Contains-append_cases}
use Rattle.dimacs.specs.logic.Literal.{Literal, Pos, Neg, IsWithin, index_of, negation, var_of}
use Rattle.dimacs.proofs.Members.{Contains-cons_cases, Contains-nil}
use Rattle.icnf.specs.Leaves.{Cube}
use Rattle.log_join.specs.Bits.{Has}
use Rattle.log_join.specs.Trees.{AreCovered, AreMet, HasPlace, block_of, row_of}
use Rattle.log_join.specs.inner.Trees.{Keeps}
use Rattle.log_join.specs.declared.leaf_index.Index.{Index}
use Rattle.log_join.specs.declared.tree.Node.{Node, Leaf as Single, Fork'}
use Rattle.log_join.proofs.BitLemmas.{none_of, past_none}

-- what is above the default stands within the list
inside_above : (xs : List ℕ) (i : ℕ) → 0 < get_or xs i 0 → i < length xs
inside_above xs i some = elim (cases_lt i (length xs)) [
  | inl below ↦ below
  | inr past ↦ absurd (let z = get_or_past xs i 0 past in omega arith)
]

-- what is put if there was nothing
pub set_keeps : (xs : List ℕ) (at n i : ℕ) → get_or xs at 0 ≡ 0 → 0 < get_or xs i 0 → get_or (set xs at n) i 0 ≡ get_or xs i 0
set_keeps xs at n i none some =
    let other : i ≢ at = λ (e : i ≡ at). (let z : get_or xs i 0 ≡ get_or xs at 0 = ap (λ (j : ℕ). get_or xs j 0) e in let y : get_or xs i 0 ≡ 0 = z ∙ none in omega arith) in
    get_or-set_other xs at i n 0 other

pub zero_read : (xs : List ℕ) (i x : ℕ) → i < length xs → x ≡ get_or xs i x → x ≤ 0 → get_or xs i 0 ≡ 0
zero_read xs i x inside e none = let z : x ≡ get_or xs i 0 = get_or_read xs i x inside e 0 in omega arith

pub append_keeps : (xs more : List ℕ) (i : ℕ) → 0 < get_or xs i 0 → get_or (xs ++ more) i 0 ≡ get_or xs i 0
append_keeps xs more i some = get_or_append_left xs more 0 i (inside_above xs i some)

pub has_appended : (words more : List ℕ) (p : ℕ) → Has words p → Has (words ++ more) p
unfolding Has
has_appended words more p h = elim (cases_lt (p / 64) (length words)) [
  | inl below ↦ ap (λ (w : ℕ). bit_at w (p % 64)) (get_or_append_left words more 0 (p / 64) below) ∙ h
  | inr past ↦ absurd (past_none words p past h)
]

-- where rows, blocks and words go on to hold what they held, so does the index
pub stands_still : (old new : Index) → ((i : ℕ) → 0 < get_or old.slots.items i 0 → get_or new.slots.items i 0 ≡ get_or old.slots.items i 0)
    → ((i : ℕ) → 0 < get_or old.blocks.items i 0 → get_or new.blocks.items i 0 ≡ get_or old.blocks.items i 0)
    → ((p : ℕ) → Has old.words.items p → Has new.words.items p) → Keeps old new
stands_still old new slots blocks words l p h =
    let row : row_of new l ≡ row_of old l = slots (index_of l) h.row in
    let block : block_of new l p ≡ block_of old l p = ap (λ (r : ℕ). get_or new.blocks.items (r * 64 + p / 1024) 0) row ∙ blocks (row_of old l * 64 + p / 1024) h.block in
    record {
      row = subst (λ (n : ℕ). 0 < n) (sym row) h.row;
      block = subst (λ (n : ℕ). 0 < n) (sym block) h.block;
      bit = subst (λ (n : ℕ). Has new.words.items (n * 1024 + p % 1024)) (sym block) (words (block_of old l p * 1024 + p % 1024) h.bit);
    }

-- ---- the rows and the blocks stay within
pub rows_within : (slots blocks new : List ℕ) (at n : ℕ) → ((i : ℕ) → get_or slots i 0 * 64 + 64 ≤ length blocks) → n * 64 + 64 ≤ length new → length blocks ≤ length new
    → (i : ℕ) → get_or (set slots at n) i 0 * 64 + 64 ≤ length new
rows_within slots blocks new at n each here longer i = elim (cases_eq i at) [
  | inl same ↦ elim (cases_lt at (length slots)) [
    | inl below ↦ subst (λ (k : ℕ). get_or (set slots at n) k 0 * 64 + 64 ≤ length new) (sym same) (let z = get_or-set_same slots at n 0 below in omega arith)
    | inr past ↦ (let z = get_or_past (set slots at n) i 0 (let s = length-set slots at n in omega arith) in omega arith)
  ]
  | inr other ↦ (let z = get_or-set_other slots at i n 0 other in let y = each i in omega arith)
]

pub zeros_within : (blocks : List ℕ) (n bound : ℕ) → ((i : ℕ) → get_or blocks i 0 * 16 + 16 ≤ bound) → (i : ℕ) → get_or (blocks ++ replicate n 0) i 0 * 16 + 16 ≤ bound
zeros_within blocks n bound each i = elim (cases_lt i (length blocks)) [
  | inl below ↦ (let z = get_or_append_left blocks (replicate n 0) 0 i below in let y = each i in omega arith)
  | inr past ↦ (let z = get_or-append_right blocks (replicate n 0) (length blocks) i 0 refl past in let y = none_of n (i - length blocks) in let x = each (length blocks) in omega arith)
]

-- the block that is read is that of the literal
pub block_read : (index : Index) (l : Literal) (p block row other : ℕ) → p / 1024 ≡ block → row ≡ row_of index l → other ≡ get_or index.blocks.items (row * 64 + block) other → HasPlace index l p
    → Has index.words.items (other * 1024 + p % 1024)
block_read index l p block row other word is read h =
    let at : row * 64 + block ≡ row_of index l * 64 + p / 1024 = ap (λ (r : ℕ). r * 64 + block) is ∙ ap (λ (b : ℕ). row_of index l * 64 + b) (sym word) in
    let inside : row * 64 + block < length index.blocks.items = subst (λ (i : ℕ). i < length index.blocks.items) (sym at) (inside_above index.blocks.items (row_of index l * 64 + p / 1024) h.block) in
    let same : other ≡ block_of index l p = get_or_read index.blocks.items (row * 64 + block) other inside read 0 ∙ ap (λ (i : ℕ). get_or index.blocks.items i 0) at in
    subst (λ (n : ℕ). Has index.words.items (n * 1024 + p % 1024)) (sym same) h.bit

-- a literal whose negation has a row
pub known_within : (l : Literal) → 2 ≤ index_of (negation l) → index_of (negation l) < 400000000 → IsWithin 199999999 l
known_within (Pos v) low high = (omega arith, omega arith)
known_within (Neg v) low high = (omega arith, omega arith)

-- ---- cubes that are covered literal by literal
pub met_more : (index : Index) (at : ℕ) (cube : Cube) (x : Literal) → AreMet index at cube → (var_of x ≤ 199999999 → HasPlace index x at) → AreMet index at (cube ++ x ∷ [])
met_more index at cube x h here l i low = elim (Contains-append_cases cube (x ∷ []) l i) [
  | inl old ↦ h l old low
  | inr new ↦ elim (Contains-cons_cases x l [] new) [
    | inl s ↦ subst (λ (k : Literal). HasPlace index k at) s (here (subst (λ (k : Literal). var_of k ≤ 199999999) (sym s) low))
    | inr z ↦ absurd (Contains-nil l z)
  ]
]

pub met_none : (index : Index) (at : ℕ) → AreMet index at []
met_none index at l i low = absurd (Contains-nil l i)

-- an index that keeps what it has covers what it covered
pub covered_more : (old new : Index) → Keeps old new → (from : ℕ) (node : Node) → AreCovered old from node → AreCovered new from node
covered_more old new keeps from (Single cube closing) h = λ l i low. keeps l from (h l i low)
covered_more old new keeps from (Fork' branch middle closed p left q right) (a, c) = (covered_more old new keeps from left a, covered_more old new keeps middle right c)
