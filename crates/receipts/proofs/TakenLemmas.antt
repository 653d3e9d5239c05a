-- Texts that a cover takes one after the other, and the leaves that they close.
use Rattle.std.proofs.Common.{◌≡◌, ◌≢◌, ◌⊎◌, inl, inr, ℕ, Bool, true, false, not, ◌&&◌, ◌||◌, List, [], ◌∷◌, ◌++◌, map, cond, refl, sym, ◌∙◌, ap, subst}
use Rattle.std.specs.List.{Contains, list_any}
use Rattle.std.proofs.lemmas.Bool.{both_ways, cases_Bool, not-true, or_cases, or_left, or_right, true≢false}
use Rattle.std.proofs.lemmas.List.Elements.{Contains-append_cases, Contains-append_left, Contains-append_right}
use Rattle.std.proofs.lemmas.List.Folds.{list_any-append}
use Rattle.dimacs.specs.logic.Cnf.{Cnf}
use Rattle.dimacs.specs.logic.Literal.{Clause}
use Rattle.dimacs.proofs.Members.{Contains-head, Contains-cons, Contains-cons_cases, Contains-nil}
use Rattle.icnf.specs.Leaves.{Cube}
use Rattle.log_join.specs.ClosedLeaves.{Numbered, closes}
use Rattle.log_join.proofs.SettleLemmas.{any_member, both}
use Rattle.receipts.specs.ClosedLeaves.{ClosesAsReceipt, ClosesNewLeaf, IsClosedByText, closes_new_leaf, closing_of, is_closed_by}
use Rattle.receipts.specs.Cover.{HasTakenTexts}
use Rattle.receipts.specs.Receipts.{SpellsReceipt, ReceiptContents, formula_digest}
use Rattle.receipts.specs.declared.cover.Cover.{Cover}
use Rattle.receipts.specs.Coverage.{HasTakenClauses}
use Rattle.receipts.specs.inner.NonEmpty.{is_some_lemma}

abbrev pub clauses_of : List Numbered → List Clause
clauses_of lemmas = map (λ l. l.clause) lemmas

any_one : {X : Type 0} (p : X → Bool) (xs : List X) → list_any p xs ≡ true → (x : X) × Contains xs x × (p x ≡ true)
any_one p [] e = absurd (true≢false (sym e))
any_one p (x ∷ xs) e = elim (or_cases (p x) (list_any p xs) e) [
  | inl here ↦ (x, Contains-head x xs, here)
  | inr later ↦ (let r = any_one p xs later in (r.0, Contains-cons x r.0 xs r.1, r.2))
]

named : (q : Cube) (lemmas : List Numbered) → is_closed_by (clauses_of lemmas) q ≡ true → (l : Numbered) × Contains lemmas l × (closes q l.clause ≡ true)
named q [] e = absurd (true≢false (sym e))
named q (l ∷ lemmas) e = elim (or_cases (closes q l.clause) (is_closed_by (clauses_of lemmas) q) e) [
  | inl here ↦ (l, Contains-head l lemmas, here)
  | inr later ↦ (let r = named q lemmas later in (r.0, Contains-cons l r.0 lemmas r.1, r.2))
]

by_named : (q : Cube) (lemmas : List Numbered) (l : Numbered) → Contains lemmas l → closes q l.clause ≡ true → is_closed_by (clauses_of lemmas) q ≡ true
by_named q [] l i e = absurd (Contains-nil l i)
by_named q (x ∷ lemmas) l i e = elim (Contains-cons_cases x l lemmas i) [
  | inl s ↦ or_left (closes q x.clause) (is_closed_by (clauses_of lemmas) q) (ap (λ (z : Numbered). closes q z.clause) s ∙ e)
  | inr later ↦ or_right (closes q x.clause) (is_closed_by (clauses_of lemmas) q) (by_named q lemmas l later e)
]

by_both : (q : Cube) (a b : List Clause) → is_closed_by (a ++ b) q ≡ (is_closed_by a q || is_closed_by b q)
by_both q a b = list_any-append (closes q) a b

-- ---- one more text
text_before : (F : Cnf) (q : Cube) (texts : List (List ℕ)) (text : List ℕ) → IsClosedByText F texts q → IsClosedByText F (texts ++ text ∷ []) q
text_before F q texts text (t, i, c) = (t, Contains-append_left texts (text ∷ []) t i, c)

text_last : (F : Cnf) (q : Cube) (texts : List (List ℕ)) (text : List ℕ) → ClosesAsReceipt F q text → IsClosedByText F (texts ++ text ∷ []) q
text_last F q texts text c = (text, Contains-append_right texts (text ∷ []) text (Contains-head text []), c)

text_cases : (F : Cnf) (q : Cube) (texts : List (List ℕ)) (text : List ℕ) → IsClosedByText F (texts ++ text ∷ []) q → IsClosedByText F texts q ⊎ ClosesAsReceipt F q text
text_cases F q texts text (t, i, c) = elim (Contains-append_cases texts (text ∷ []) t i) [
  | inl before ↦ inl (t, before, c)
  | inr last ↦ elim (Contains-cons_cases text t [] last) [
    | inl s ↦ inr (subst (ClosesAsReceipt F q) (sym s) c)
    | inr none ↦ absurd (Contains-nil t none)
  ]
]

-- the text spells one receipt
abbrev pub IsOnly : List ℕ → ReceiptContents → Type 0
IsOnly text r = (s : ReceiptContents) → SpellsReceipt text s → r ≡ s

closes_as : (F : Cnf) (q : Cube) (text : List ℕ) (r : ReceiptContents) → SpellsReceipt text r → r.formula ≡ formula_digest F → is_closed_by (clauses_of r.closing) q ≡ true → ClosesAsReceipt F q text
closes_as F q text r spells formula e =
    let l = named q r.closing e in
    record { told = r; spells = spells; formula = formula; lemma = l.0; named = l.1; ends = l.2 }

as_closes : (F : Cnf) (q : Cube) (text : List ℕ) (r : ReceiptContents) → IsOnly text r → ClosesAsReceipt F q text → (r.formula ≡ formula_digest F) × (is_closed_by (clauses_of r.closing) q ≡ true)
as_closes F q text r only c =
    let s : r ≡ c.told = only c.told c.spells in (
      ap (λ (z : ReceiptContents). z.formula) s ∙ c.formula,
      by_named q r.closing c.lemma (subst (λ (z : ReceiptContents). Contains z.closing c.lemma) (sym s) c.named) c.ends,
    )

pub holds_more : (F : Cnf) (cubes : List Cube) (texts : List (List ℕ)) (text : List ℕ) (r : ReceiptContents) (old new : Cover) (h : HasTakenTexts F cubes texts old) → SpellsReceipt text r → IsOnly text r
    → r.formula ≡ formula_digest F → new.formula ≡ old.formula → HasTakenClauses cubes (h.clauses ++ clauses_of r.closing) new.coverage → HasTakenTexts F cubes (texts ++ text ∷ []) new
holds_more F cubes texts text r old new h spells only formula same covers = record {
  formula = ap (λ z. z.bytes) same ∙ h.formula;
  clauses = h.clauses ++ clauses_of r.closing;
  covers = covers;
  are = λ q. (
    λ e. elim (or_cases (is_closed_by h.clauses q) (is_closed_by (clauses_of r.closing) q) (sym (by_both q h.clauses (clauses_of r.closing)) ∙ e)) [
      | inl before ↦ text_before F q texts text ((h.are q).0 before)
      | inr last ↦ text_last F q texts text (closes_as F q text r spells formula last)
    ],
    λ by. by_both q h.clauses (clauses_of r.closing) ∙ elim (text_cases F q texts text by) [
      | inl before ↦ or_left (is_closed_by h.clauses q) (is_closed_by (clauses_of r.closing) q) ((h.are q).1 before)
      | inr last ↦ or_right (is_closed_by h.clauses q) (is_closed_by (clauses_of r.closing) q) (as_closes F q text r only last).1
    ],
  );
}

-- a text that closes nothing over the formula
pub holds_none : (F : Cnf) (cubes : List Cube) (texts : List (List ℕ)) (text : List ℕ) (old new : Cover) → HasTakenTexts F cubes texts old → new ≡ old → ((q : Cube) → ¬ (ClosesAsReceipt F q text)) → HasTakenTexts F cubes (texts ++ text ∷ []) new
holds_none F cubes texts text old new h same none = record {
  formula = ap (λ (z : Cover). z.formula.bytes) same ∙ h.formula;
  clauses = h.clauses;
  covers = subst (λ (z : Cover). HasTakenClauses cubes h.clauses z.coverage) (sym same) h.covers;
  are = λ q. (
    λ e. text_before F q texts text ((h.are q).0 e),
    λ by. elim (text_cases F q texts text by) [
      | inl before ↦ (h.are q).1 before
      | inr last ↦ absurd (none q last)
    ],
  );
}

pub other_closes_none : (F : Cnf) (text : List ℕ) (r : ReceiptContents) → IsOnly text r → r.formula ≢ formula_digest F → (q : Cube) → ¬ (ClosesAsReceipt F q text)
other_closes_none F text r only other q c = other (as_closes F q text r only c).0

pub refused_closes_none : (F : Cnf) (text : List ℕ) → ((r : ReceiptContents) → ¬ (SpellsReceipt text r)) → (q : Cube) → ¬ (ClosesAsReceipt F q text)
refused_closes_none F text none q c = none c.told c.spells

-- ---- what a text is
pub record SomeMore (cubes : List Cube) (before : List Clause) (lemmas : List Numbered) : Type 0 where
  pub cube : Cube
  pub one : Contains cubes cube
  pub unclosed : is_closed_by before cube ≡ false
  pub closing : is_closed_by (clauses_of lemmas) cube ≡ true

not_before : (q : Cube) (before : List Clause) (C : Clause) → is_closed_by (before ++ C ∷ []) q ≡ false → is_closed_by before q ≡ false
not_before q before C e = elim (cases_Bool (is_closed_by before q)) [
  | inl t ↦ absurd (true≢false (sym (by_both q before (C ∷ []) ∙ or_left (is_closed_by before q) (is_closed_by (C ∷ []) q) t) ∙ e))
  | inr f ↦ f
]

pub some_more : (cubes : List Cube) (before : List Clause) (lemmas : List Numbered) → is_some_lemma (closing_of cubes before lemmas) ≡ true → SomeMore cubes before lemmas
some_more cubes before [] e = absurd (true≢false (sym e))
some_more cubes before (l ∷ lemmas) e = at (closes_new_leaf cubes before l.clause) refl e (some_more cubes (before ++ l.clause ∷ []) lemmas)
  where
    rest : List Numbered
    rest = closing_of cubes (before ++ l.clause ∷ []) lemmas

    at : (b : Bool) → closes_new_leaf cubes before l.clause ≡ b → is_some_lemma (cond b (l ∷ rest) rest) ≡ true
        → (is_some_lemma rest ≡ true → SomeMore cubes (before ++ l.clause ∷ []) lemmas) → SomeMore cubes before (l ∷ lemmas)
    at true is f later =
        let q = any_one (λ q. closes q l.clause && not (is_closed_by before q)) cubes is in
        let two = both (closes q.0 l.clause) (not (is_closed_by before q.0)) q.2 in
        record { cube = q.0; one = q.1; unclosed = not-true (is_closed_by before q.0) two.1; closing = or_left (closes q.0 l.clause) (is_closed_by (clauses_of lemmas) q.0) two.0 }
    at false is f later =
        let m = later f in
        record { cube = m.cube; one = m.one; unclosed = not_before m.cube before l.clause m.unclosed; closing = or_right (closes m.cube l.clause) (is_closed_by (clauses_of lemmas) m.cube) m.closing }

none_yet : (b c : Bool) → b ≡ false → c ≡ false → (b || (c || false)) ≡ false
none_yet b c e f = ap (λ x. x || (c || false)) e ∙ ap (λ x. x || false) f

pub more_some : (cubes : List Cube) (before : List Clause) (lemmas : List Numbered) (q : Cube) → Contains cubes q → is_closed_by before q ≡ false → is_closed_by (clauses_of lemmas) q ≡ true
    → is_some_lemma (closing_of cubes before lemmas) ≡ true
more_some cubes before [] q i left e = absurd (true≢false (sym e))
more_some cubes before (l ∷ lemmas) q i left e = at (closes_new_leaf cubes before l.clause) refl (more_some cubes (before ++ l.clause ∷ []) lemmas q i)
  where
    rest : List Numbered
    rest = closing_of cubes (before ++ l.clause ∷ []) lemmas

    here : closes q l.clause ≡ true → closes_new_leaf cubes before l.clause ≡ true
    here t = any_member (λ p. closes p l.clause && not (is_closed_by before p)) cubes q i (ap (λ b. b && not (is_closed_by before q)) t ∙ ap not left)

    at : (b : Bool) → closes_new_leaf cubes before l.clause ≡ b
        → (is_closed_by (before ++ l.clause ∷ []) q ≡ false → is_closed_by (clauses_of lemmas) q ≡ true → is_some_lemma rest ≡ true) → is_some_lemma (cond b (l ∷ rest) rest) ≡ true
    at true is later = refl
    at false is later = elim (cases_Bool (closes q l.clause)) [
      | inl t ↦ absurd (both_ways (closes_new_leaf cubes before l.clause) is (here t))
      | inr f ↦ later (by_both q before (l.clause ∷ []) ∙ none_yet (is_closed_by before q) (closes q l.clause) left f)
          (elim (or_cases (closes q l.clause) (is_closed_by (clauses_of lemmas) q) e) [
            | inl t ↦ absurd (both_ways (closes q l.clause) f t)
            | inr more ↦ more
          ])
    ]

-- a receipt closes a new leaf exactly if its lemmas do
pub tells_more : (F : Cnf) (cubes : List Cube) (texts : List (List ℕ)) (text : List ℕ) (r : ReceiptContents) (old : Cover) (h : HasTakenTexts F cubes texts old) → SpellsReceipt text r
    → r.formula ≡ formula_digest F → is_some_lemma (closing_of cubes h.clauses r.closing) ≡ true → ClosesNewLeaf F cubes texts text
tells_more F cubes texts text r old h spells formula e =
    let m = some_more cubes h.clauses r.closing e in
    (m.cube, m.one, λ by. both_ways (is_closed_by h.clauses m.cube) m.unclosed ((h.are m.cube).1 by), closes_as F m.cube text r spells formula m.closing)

pub tells_none : (F : Cnf) (cubes : List Cube) (texts : List (List ℕ)) (text : List ℕ) (r : ReceiptContents) (old : Cover) (h : HasTakenTexts F cubes texts old) → IsOnly text r
    → is_some_lemma (closing_of cubes h.clauses r.closing) ≡ false → ¬ (ClosesNewLeaf F cubes texts text)
tells_none F cubes texts text r old h only e (q, i, none, c) =
    let left : is_closed_by h.clauses q ≡ false = elim (cases_Bool (is_closed_by h.clauses q)) [
      | inl t ↦ absurd (none ((h.are q).0 t))
      | inr f ↦ f
    ] in
    both_ways (is_some_lemma (closing_of cubes h.clauses r.closing)) e (more_some cubes h.clauses r.closing q i left (as_closes F q text r only c).1)
