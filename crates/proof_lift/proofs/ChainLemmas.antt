-- The hints that were unit, from one on.
use Rattle.std.proofs.Common.{◌≡◌, ℕ, zero, suc, ◌+◌, ◌<◌, true, false, List, [], ◌∷◌, ◌++◌, Option, Some, None, cond, refl, sym, ◌∙◌, ap, subst, drop, length, get_or, drop-cons, arith, reverse}
use Rattle.std.proofs.lemmas.List.{reverse-append}
use Rattle.dimacs.specs.logic.Literal.{Literal, Clause, index_of}
use Rattle.proof_lift.specs.HintWalk.{ClauseImage, Gone, Kept, ClauseImages}
use Rattle.proof_lift.specs.TrimmedLemma.{used, kept, used_before}
use Rattle.proof_lift.specs.declared.walk.Link.{Link}
use Rattle.proof_lift.specs.inner.Walks.{passed_at, passed_in, passed_by, IsPlaced, ChainFits}

unit_is : (u : Literal) (o : Option ClauseImage) → (passed_at u o).unit ≡ u
unit_is u None = refl
unit_is u (Some Gone) = refl
unit_is u (Some (Kept i D)) = refl

fits_at : (places : ℕ) (T : ClauseImages) (chain : List Link) (i : ℕ) (d : Link) → i < length chain → ChainFits places (passed_by T chain) → IsPlaced places (passed_in T (get_or chain i d))
fits_at places T [] i d below h = absurd (omega arith)
fits_at places T (x ∷ chain) zero d below h = h.0
fits_at places T (x ∷ chain) (suc i) d below h = fits_at places T chain i d (omega arith) h.1

pub chain_at : (places places' : ℕ) (T : ClauseImages) (chain : List Link) (i : ℕ) (link : Link) → i < length chain → link ≡ get_or chain i link → ChainFits places (passed_by T chain) → places' ≡ places → IsPlaced places' (passed_in T link)
chain_at places places' T chain i link below at h same = subst (λ m. IsPlaced m (passed_in T link)) (sym same) (subst (λ (x : Link). IsPlaced places (passed_in T x)) (sym at) (fits_at places T chain i link below h))

pub unit_at : (places : ℕ) (T : ClauseImages) (link : Link) → IsPlaced places (passed_in T link) → index_of link.unit < places
unit_at places T link h = subst (λ (u : Literal). index_of u < places) (unit_is link.unit (T link.hint)) h.1

-- one hint more at the front
more : (T : ClauseImages) (chain : List Link) (i j : ℕ) (link : Link) → j + 1 ≡ i → j < length chain → link ≡ get_or chain j link → passed_by T (drop j chain) ≡ passed_in T link ∷ passed_by T (drop i chain)
more T chain i j link next below at =
    ap (passed_by T) (drop-cons chain j link below)
    ∙ ap (λ (x : Link). passed_in T x ∷ passed_by T (drop (suc j) chain)) (sym at)
    ∙ ap (λ k. passed_in T link ∷ passed_by T (drop k chain)) (let e : suc j ≡ i = omega arith in e)

pub used_skip : (T : ClauseImages) (chain : List Link) (i j : ℕ) (link : Link) (conflict : Clause) → j + 1 ≡ i → j < length chain → link ≡ get_or chain j link → used (passed_by T (drop i chain)) conflict link.unit ≡ false
    → used (passed_by T (drop i chain)) conflict ≡ used (passed_by T (drop j chain)) conflict
used_skip T chain i j link conflict next below at f =
    sym (ap (λ ps. used ps conflict) (more T chain i j link next below at)
    ∙ ap (λ b. cond b (used_before (passed_in T link) (used (passed_by T (drop i chain)) conflict)) (used (passed_by T (drop i chain)) conflict)) (ap (used (passed_by T (drop i chain)) conflict) (unit_is link.unit (T link.hint)) ∙ f))

pub used_count : (T : ClauseImages) (chain : List Link) (i j : ℕ) (link : Link) (conflict : Clause) → j + 1 ≡ i → j < length chain → link ≡ get_or chain j link → used (passed_by T (drop i chain)) conflict link.unit ≡ true
    → used_before (passed_in T link) (used (passed_by T (drop i chain)) conflict) ≡ used (passed_by T (drop j chain)) conflict
used_count T chain i j link conflict next below at t =
    sym (ap (λ ps. used ps conflict) (more T chain i j link next below at)
    ∙ ap (λ b. cond b (used_before (passed_in T link) (used (passed_by T (drop i chain)) conflict)) (used (passed_by T (drop i chain)) conflict)) (ap (used (passed_by T (drop i chain)) conflict) (unit_is link.unit (T link.hint)) ∙ t))

pub kept_skip : (T : ClauseImages) (chain : List Link) (i j : ℕ) (link : Link) (conflict : Clause) (last : ℕ) → j + 1 ≡ i → j < length chain → link ≡ get_or chain j link → used (passed_by T (drop i chain)) conflict link.unit ≡ false
    → kept (passed_by T (drop i chain)) conflict last ≡ kept (passed_by T (drop j chain)) conflict last
kept_skip T chain i j link conflict last next below at f =
    sym (ap (λ ps. kept ps conflict last) (more T chain i j link next below at)
    ∙ ap (λ b. cond b ((passed_in T link).number ∷ kept (passed_by T (drop i chain)) conflict last) (kept (passed_by T (drop i chain)) conflict last)) (ap (used (passed_by T (drop i chain)) conflict) (unit_is link.unit (T link.hint)) ∙ f))

pub kept_count : (T : ClauseImages) (chain : List Link) (i j : ℕ) (link : Link) (conflict : Clause) (last : ℕ) (numbers : List ℕ) (n : ℕ) → j + 1 ≡ i → j < length chain → link ≡ get_or chain j link
    → used (passed_by T (drop i chain)) conflict link.unit ≡ true → n ≡ (passed_in T link).number → reverse numbers ≡ kept (passed_by T (drop i chain)) conflict last
    → reverse (numbers ++ n ∷ []) ≡ kept (passed_by T (drop j chain)) conflict last
kept_count T chain i j link conflict last numbers n next below at t is so_far =
    reverse-append numbers (n ∷ []) ∙ ap (λ ns. n ∷ ns) so_far ∙ ap (λ k. k ∷ kept (passed_by T (drop i chain)) conflict last) is
    ∙ sym (ap (λ ps. kept ps conflict last) (more T chain i j link next below at)
    ∙ ap (λ b. cond b ((passed_in T link).number ∷ kept (passed_by T (drop i chain)) conflict last) (kept (passed_by T (drop i chain)) conflict last)) (ap (used (passed_by T (drop i chain)) conflict) (unit_is link.unit (T link.hint)) ∙ t))

-- what a hint stands for
pub stands_kept : (T : ClauseImages) (link : Link) (o : Option ClauseImage) → o ≡ T link.hint → passed_at link.unit o ≡ passed_in T link
stands_kept T link o is = ap (passed_at link.unit) is
