-- Which leaves of a splitting tree clauses close, and which of them receipts close.
use Rattle.std.specs.Prelude.{◌≡◌, ◌≢◌, ◌↔◌, ℕ, Bool, true, not, ◌&&◌, List, [], ◌∷◌, ◌++◌, Contains, map, if◌then◌else◌}
use Rattle.std.specs.List.{list_any}
use Rattle.dimacs.specs.logic.Cnf.{Cnf, Sat}
use Rattle.dimacs.specs.logic.Literal.{Clause, IsTrueIn}
use Rattle.log_join.specs.ClosedLeaves.{Leaf, Numbered, closes, is_closed}
use Rattle.icnf.specs.Leaves.{Cube, Leaves}
use Rattle.receipts.specs.declared.cover.TextKind.{TextKind}
use Rattle.receipts.specs.declared.cover.TextKind.TheVariants.{Closes, ClosesNothing, OtherFormula, Refused}
use Rattle.receipts.specs.Receipts.{ReceiptContents, formula_digest, SpellsReceipt}

-- ---- clauses
-- clauses, cube of the leaf: one of the clauses closes the leaf, that is, each literal of that clause is the negation of a literal of the
-- cube
abbrev pub is_closed_by : List Clause → Cube → Bool
is_closed_by clauses q = list_any (closes q) clauses

-- cubes of the leaves, clauses before, clause: the clause closes a leaf that none of the clauses before it closes
abbrev pub closes_new_leaf : List Cube → List Clause → Clause → Bool
closes_new_leaf cubes before C = list_any (λ q. closes q C && not (is_closed_by before q)) cubes

-- cubes of the leaves, clauses before, lemmas: those of the lemmas that each close a leaf which no clause and no lemma before it closes
abbrev pub closing_of : List Cube → List Clause → List Numbered → List Numbered
closing_of cubes before [] = []
closing_of cubes before (l ∷ lemmas) =
    if closes_new_leaf cubes before l.clause then l ∷ closing_of cubes (before ++ l.clause ∷ []) lemmas else closing_of cubes (before ++ l.clause ∷ []) lemmas

-- the clause follows from the formula: every assignment that satisfies the formula makes the clause true
abbrev pub Follows : Cnf → Clause → Type 0
Follows F C = (a : ℕ → Bool) → Sat a F → IsTrueIn a C

-- a theorem: if clauses follow from the formula, and every leaf of a tree is closed by one of them, no assignment satisfies the formula
abbrev pub CoveringRefutes : Type 0
CoveringRefutes =
    (F : Cnf) (cubes : List Cube) (clauses : List Clause) → Leaves [] cubes → ((C : Clause) → Contains clauses C → Follows F C)
    → ((q : Cube) → Contains cubes q → is_closed_by clauses q ≡ true) → (a : ℕ → Bool) → Sat a F → ⊥

-- ---- receipts
-- formula, cube of the leaf, text: the text is a receipt over the formula that names a lemma which closes the leaf
pub record ClosesAsReceipt (F : Cnf) (q : Cube) (text : List ℕ) : Type 0 where
  pub told : ReceiptContents
  pub spells : SpellsReceipt text told
  pub formula : told.formula ≡ formula_digest F
  pub lemma : Numbered
  pub named : Contains told.closing lemma
  pub ends : closes q lemma.clause ≡ true

-- formula, texts, cube of the leaf: one of the texts is a receipt over the formula that closes the leaf
abbrev pub IsClosedByText : Cnf → List (List ℕ) → Cube → Type 0
IsClosedByText F texts q = (text : List ℕ) × Contains texts text × ClosesAsReceipt F q text

-- formula, cubes of the leaves, texts: every leaf is closed by one of the texts
abbrev pub AreCovered : Cnf → List Cube → List (List ℕ) → Type 0
AreCovered F cubes texts = (q : Cube) → Contains cubes q → IsClosedByText F texts q

-- the leaves of the tree, each with a bool that is true exactly if one of the texts closes the leaf
pub record LeavesClosedByTexts (F : Cnf) (cubes : List Cube) (texts : List (List ℕ)) (leaves : List Leaf) : Type 0 where
  pub cubes_are : map (λ k. k.cube) leaves ≡ cubes
  pub closed : (k : Leaf) → Contains leaves k → (is_closed k ≡ true) ↔ IsClosedByText F texts k.cube

-- ---- what a text is, after others
-- formula, cubes of the leaves, texts before, text: the text is a receipt over the formula that closes a leaf which none of the texts
-- before it closes
abbrev pub ClosesNewLeaf : Cnf → List Cube → List (List ℕ) → List ℕ → Type 0
ClosesNewLeaf F cubes texts text = (q : Cube) × Contains cubes q × ¬ (IsClosedByText F texts q) × ClosesAsReceipt F q text

-- the text is a receipt over the formula
abbrev pub IsReceiptOver : Cnf → List ℕ → Type 0
IsReceiptOver F text = (r : ReceiptContents) × SpellsReceipt text r × (r.formula ≡ formula_digest F)

-- the text is a receipt over another formula: its digest of a formula is not that of this one
abbrev pub IsReceiptOverOther : Cnf → List ℕ → Type 0
IsReceiptOverOther F text = (r : ReceiptContents) × SpellsReceipt text r × (r.formula ≢ formula_digest F)

-- formula, cubes of the leaves, texts before, text, the answer: the answer says what the text is
abbrev pub ClassifiesText : Cnf → List Cube → List (List ℕ) → List ℕ → TextKind → Type 0
ClassifiesText F cubes texts text Closes = ClosesNewLeaf F cubes texts text
ClassifiesText F cubes texts text ClosesNothing = IsReceiptOver F text × ¬ (ClosesNewLeaf F cubes texts text)
ClassifiesText F cubes texts text OtherFormula = IsReceiptOverOther F text
ClassifiesText F cubes texts text (Refused line) = (r : ReceiptContents) → ¬ (SpellsReceipt text r)
