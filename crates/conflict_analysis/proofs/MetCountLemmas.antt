-- How often a variable is repeated, one literal after the other.
use Rattle.std.proofs.Common.{◌≡◌, ℕ, zero, suc, ◌+◌, Bool, true, false, cond, eqb, ltb, ◌||◌, ◌<◌, zero-add, List, [], ◌∷◌, ◌++◌, length, set, refl, ap, sym, ◌∙◌, subst, arith}
use Rattle.std.specs.List.{count_by}
use Rattle.std.proofs.lemmas.Bool.{lt-ltb, eqb-true}
use Rattle.std.proofs.lemmas.List.{get_or-set_same}
use Rattle.std.proofs.lemmas.List.Sums.{sum_by-append, sum_by-cons}
use Rattle.dimacs.specs.logic.Literal.{Literal, Clause, var_of}
use Rattle.conflict_analysis.specs.Lemmas.{occurrences}
use Rattle.conflict_analysis.specs.declared.first_uip.TrailWalk.{TrailWalk}
use Rattle.conflict_analysis.specs.inner.Seen.{met}
use Rattle.conflict_analysis.specs.inner.Tallies.{HasNoted, again_of}
use Rattle.conflict_analysis.proofs.EntryLemmas.{one_if}
use Rattle.conflict_analysis.proofs.MetLiteralLemmas.{met_set}

pub times_append : (v : ℕ) (C D : Clause) → occurrences v (C ++ D) ≡ occurrences v C + occurrences v D
times_append v C D = sum_by-append (λ (k : Literal). one_if (eqb v (var_of k))) C D

-- ---- numbers
seen_further : (a : Bool) (m n : ℕ) → ((a || ltb 0 m) || ltb 0 n) ≡ (a || ltb 0 (m + n))
seen_further true m n = refl
seen_further false zero n = ap (ltb 0) (sym (zero-add n))
seen_further false (suc m) n = rw (lt-ltb 0 (suc m) (omega arith), lt-ltb 0 (suc m + n) (omega arith)) refl

again_further : (a : Bool) (m n : ℕ) → again_of a m + again_of (a || ltb 0 m) n ≡ again_of a (m + n)
again_further true m n = refl
again_further false zero n = omega arith
again_further false (suc m) n = rw (lt-ltb 0 (suc m) (omega arith)) (omega arith)

again_further_if : (b a : Bool) (m n x y z : ℕ) → y ≡ x + cond b (again_of a m) 0 → z ≡ y + cond b (again_of (a || ltb 0 m) n) 0 → z ≡ x + cond b (again_of a (m + n)) 0
again_further_if true a m n x y z h k = let f = again_further a m n in omega (arith, h, k, f)
again_further_if false a m n x y z h k = omega (arith, h, k)

-- ---- walks
pub noted_further : (a b c : TrailWalk) (C D : Clause) → HasNoted a b C → HasNoted b c D → HasNoted a c (C ++ D)
noted_further a b c C D h k = record {
  notes = k.notes ∙ h.notes;
  seen = λ v. k.seen v ∙ ap (λ s. s || ltb 0 (occurrences v D)) (h.seen v) ∙ seen_further (met a.seen v) (occurrences v C) (occurrences v D) ∙ ap (λ n. met a.seen v || ltb 0 n) (sym (times_append v C D));
  again = λ v.
      let second = subst (λ s. count_by (eqb v) c.again.items ≡ count_by (eqb v) b.again.items + cond a.notes (again_of s (occurrences v D)) 0) (h.seen v)
      (subst (λ n. count_by (eqb v) c.again.items ≡ count_by (eqb v) b.again.items + cond n (again_of (met b.seen v) (occurrences v D)) 0) h.notes (k.again v)) in
      subst (λ n. count_by (eqb v) c.again.items ≡ count_by (eqb v) a.again.items + cond a.notes (again_of (met a.seen v) n) 0) (sym (times_append v C D))
      (again_further_if a.notes (met a.seen v) (occurrences v C) (occurrences v D) _ _ _ (h.again v) second);
}

-- ---- a literal whose variable was not met before
times_one : (v : ℕ) (k : Literal) → occurrences v (k ∷ []) ≡ one_if (eqb v (var_of k))
times_one v k = let e = sum_by-cons (λ (l : Literal). one_if (eqb v (var_of l))) k [] in omega (arith, e)

seen_one : (t : Bool) → t ≡ ltb 0 (one_if t)
seen_one true = refl
seen_one false = refl

again_none : (notes before t : Bool) (x : ℕ) → (t ≡ true → before ≡ false) → x ≡ x + cond notes (again_of before (one_if t)) 0
again_none false before t x h = omega arith
again_none true true true x h = absurd (let e = h refl in cc)
again_none true false true x h = omega arith
again_none true true false x h = omega arith
again_none true false false x h = omega arith

pub noted_new : (old new : TrailWalk) (k : Literal) → var_of k < length old.seen → met old.seen (var_of k) ≡ false → new.notes ≡ old.notes → new.seen ≡ set old.seen (var_of k) true
    → new.again.items ≡ old.again.items → HasNoted old new (k ∷ [])
noted_new old new k below unmet same seen again = record {
  notes = same;
  seen = λ v.
      ap (λ (s : List Bool). met s v) seen ∙ met_set old.seen (var_of k) v below
      ∙ ap (λ b. met old.seen v || b) (seen_one (eqb v (var_of k)) ∙ ap (ltb 0) (sym (times_one v k)));
  again = λ v.
      ap (λ (xs : List ℕ). count_by (eqb v) xs) again
      ∙ subst (λ n. count_by (eqb v) old.again.items ≡ count_by (eqb v) old.again.items + cond old.notes (again_of (met old.seen v) n) 0) (sym (times_one v k))
      (again_none old.notes (met old.seen v) (eqb v (var_of k)) _ (λ t. ap (met old.seen) (eqb-true v (var_of k) t) ∙ unmet));
}

pub met_here : (old new : List Bool) (v : ℕ) → v < length old → new ≡ set old v true → met new v ≡ true
met_here old new v below is = ap (λ (s : List Bool). met s v) is ∙ get_or-set_same old v true false below
