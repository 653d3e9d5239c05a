-- The rules determine what they choose.
use Rattle.std.proofs.Common.{◌≡◌, ◌≢◌, ℕ, ◌+◌, ◌≤◌, ◌⊎◌, inl, inr, List, [], ◌∷◌, ◌++◌, Option, Some, None, refl, sym, ◌∙◌, ap, subst, arith}
use Rattle.std.specs.List.{Contains}
use Rattle.std.proofs.lemmas.Bool.{cases_lt}
use Rattle.dimacs.specs.logic.Cnf.{Cnf}
use Rattle.dimacs.specs.logic.Literal.{Literal}
use Rattle.dimacs.proofs.LiteralLemmas.{same_or_not}
use Rattle.icnf.specs.Leaves.{Cube}
use Rattle.cube_split.specs.Choice.{Choice, IsChoice}
use Rattle.cube_split.specs.ChoiceWithDefinitions.{Chooses, IsChosen, holding}
use Rattle.cube_split.specs.Definitions.{Opening}
use Rattle.cube_split.specs.Pairs.{AreDefined, IsCandidate, IsNext, Precedes, together}
use Rattle.cube_split.specs.declared.pair.Pair.{Pair}
use Rattle.cube_split.proofs.TogetherLemmas.{same_pair}

-- ---- pairs
pair_or_not : (p q : Pair) → (p ≡ q) ⊎ (p ≢ q)
pair_or_not p q = elim (same_or_not p.first q.first) [
  | inl a ↦ elim (same_or_not p.second q.second) [
    | inl b ↦ inl (same_pair p q a b)
    | inr b ↦ inr (λ e. b (ap (λ (r : Pair). r.second) e))
  ]
  | inr a ↦ inr (λ e. a (ap (λ (r : Pair). r.first) e))
]

one_way : (p q : Pair) → Precedes p q → Precedes q p → ⊥
one_way p q (inl a) (inl b) = omega arith
one_way p q (inl a) (inr (b, more)) = omega arith
one_way p q (inr (a, more)) (inl b) = omega arith
one_way p q (inr (a, inl c)) (inr (b, inl d)) = omega arith
one_way p q (inr (a, inl c)) (inr (b, inr (d, more))) = omega arith
one_way p q (inr (a, inr (c, more))) (inr (b, inl d)) = omega arith
one_way p q (inr (a, inr (c, inl e))) (inr (b, inr (d, inl f))) = omega arith
one_way p q (inr (a, inr (c, inl e))) (inr (b, inr (d, inr (f, g)))) = omega arith
one_way p q (inr (a, inr (c, inr (e, g)))) (inr (b, inr (d, inl f))) = omega arith
one_way p q (inr (a, inr (c, inr (e, g)))) (inr (b, inr (d, inr (f, h)))) = omega arith

next_once : (F : Cnf) (taken : List Pair) (p q : Pair) → IsNext F taken p → IsNext F taken q → p ≡ q
next_once F taken p q h g = elim (pair_or_not p q) [
  | inl e ↦ e
  | inr ne ↦
      let a : together F.clauses q ≤ together F.clauses p = h.most q g.candidate g.new in
      let b : together F.clauses p ≤ together F.clauses q = g.most p h.candidate h.new in
      let same : together F.clauses q ≡ together F.clauses p = omega arith in
      absurd (one_way p q (h.first q g.candidate g.new same (λ e. ne (sym e))) (g.first p h.candidate h.new (sym same) ne))
]

not_both : (F : Cnf) (taken : List Pair) (p : Pair) → IsNext F taken p → ((q : Pair) → IsCandidate F q → ¬ (Contains taken q) → together F.clauses q ≡ 0) → ⊥
not_both F taken p h none = let some = h.some in let e = none p h.candidate h.new in omega arith

defined_once : (F : Cnf) (left : ℕ) (taken ps qs : List Pair) → AreDefined F left taken ps → AreDefined F left taken qs → ps ≡ qs
defined_once F _ taken _ _ AreDefined.all AreDefined.all = refl
defined_once F _ taken _ _ AreDefined.all (AreDefined.none over) = refl
defined_once F _ taken _ _ (AreDefined.none over) AreDefined.all = refl
defined_once F _ taken _ _ (AreDefined.none over) (AreDefined.none more) = refl
defined_once F _ taken _ _ (AreDefined.none over) (AreDefined.next q is rest) = absurd (not_both F taken q is over)
defined_once F _ taken _ _ (AreDefined.next p is rest) (AreDefined.none over) = absurd (not_both F taken p is over)
defined_once F _ taken _ _ (AreDefined.next {left = left} {pairs = ps} p is rest) (AreDefined.next {pairs = qs} q also others) =
    let e : q ≡ p = next_once F taken q p also is in
    ap (λ (r : Pair). r ∷ ps) (sym e)
    ∙ ap (λ (rs : List Pair). q ∷ rs) (defined_once F left (taken ++ p ∷ []) ps qs rest (subst (λ (r : Pair). AreDefined F left (taken ++ r ∷ []) qs) e others))

pub one_list : (F : Cnf) (defs : ℕ) (ps qs : List Pair) → AreDefined F defs [] ps → AreDefined F defs [] qs → ps ≡ qs
one_list F defs ps qs = defined_once F defs [] ps qs

-- ---- the split rule
least : (F : Cnf) (S : List Literal) (v w : ℕ) → IsChoice F S v → IsChoice F S w → v ≡ w
least F S v w h g =
    let a = h.most w g.free in
    let b = g.most v h.free in
    let c : v ≤ w = h.lowest w g.free (omega arith) in
    let d : w ≤ v = g.lowest v h.free (omega arith) in
    omega arith

choice_once : (F : Cnf) (S : List Literal) (v w : Option ℕ) → Choice F S v → Choice F S w → v ≡ w
choice_once F S None None h g = refl
choice_once F S None (Some w) h g = let some = g.some in let none = h.none w g.free in absurd (omega arith)
choice_once F S (Some v) None h g = let some = h.some in let none = g.none v h.free in absurd (omega arith)
choice_once F S (Some v) (Some w) h g = ap (λ (n : ℕ). Some n) (least F S v w h g)

chosen_once : (F : Cnf) (pairs : List Pair) (S : List Literal) (v w : Option ℕ) → IsChosen F pairs S v → IsChosen F pairs S w → v ≡ w
chosen_once F pairs S v w (IsChosen.defined i unknown lowest e) (IsChosen.defined j also least_one f) = elim (cases_lt i j) [
  | inl below ↦ absurd (least_one i below unknown)
  | inr up ↦ elim (cases_lt j i) [
    | inl below ↦ absurd (lowest j below also)
    | inr down ↦ let same : i ≡ j = omega arith in e ∙ ap (λ (n : ℕ). Some (F.vars + 1 + n)) same ∙ sym f
  ]
]
chosen_once F pairs S v w (IsChosen.defined i unknown lowest e) (IsChosen.plain none choice) = absurd (none i unknown)
chosen_once F pairs S v w (IsChosen.plain none choice) (IsChosen.defined i unknown lowest e) = absurd (none i unknown)
chosen_once F pairs S v w (IsChosen.plain none choice) (IsChosen.plain never also) = choice_once F S v w choice also

pub one_choice : (F : Cnf) (opening : Opening) (cube : Cube) (v w : Option ℕ) → Chooses F opening cube v → Chooses F opening cube w → v ≡ w
one_choice F opening cube v w = chosen_once F opening.pairs (holding F opening cube) v w
