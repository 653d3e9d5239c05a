-- The stack of finished subtrees.
use Rattle.std.proofs.Common.{◌≡◌, ℕ, suc, ◌+◌, ◌-◌, ◌<◌, Bool, true, false, MatchBool, MatchOption, Option, Some, None, List, [], ◌∷◌, ◌++◌, length, get_or, map, take, ap, sym, ◌∙◌, subst, arith, refl}
use Rattle.std.specs.Prelude.{reverse, nat_eq, option_to_list}
use Rattle.std.proofs.lemmas.Bool.{eqb-true, eq-eqb, false≢true}
use Rattle.std.specs.List.{All}
use Rattle.std.proofs.lemmas.List.{map-append, reverse-append, take_more, take_all}
use Rattle.proof_join.specs.Fronts.{Branch}
use Rattle.proof_join.specs.Fronts.{branch_of, branches}
use Rattle.proof_join.specs.inner.Fronts.{HasLeft}
use Rattle.proof_join.specs.declared.finished.Finished.{Finished}

pub branches_none : branches [] ≡ []
unfolding branches
branches_none = refl

pub branches_end : (items : List Finished) (x : Finished) → branches (items ++ x ∷ []) ≡ branch_of x ∷ branches items
unfolding branches
branches_end items x = ap reverse (map-append branch_of items (x ∷ [])) ∙ reverse-append (map branch_of items) (branch_of x ∷ [])

-- the last one stands first
pub last_first : (items : List Finished) (n : ℕ) (x : Finished) → length items ≡ n + 1 → x ≡ get_or items n x → branches items ≡ branch_of x ∷ branches (take n items)
last_first items n x long is =
    ap branches (sym (take_all (n + 1) items (omega arith)) ∙ take_more items n x (omega arith) ∙ ap (λ (y : Finished). take n items ++ y ∷ []) (sym is))
    ∙ branches_end (take n items) x

pub none_left : (depth : ℕ) → ¬ (HasLeft depth (branches []))
none_left depth h = let g : HasLeft depth [] = subst (HasLeft depth) branches_none h in g

-- what holds of the first and of the others
pub first_of : {X : Type 0} (P : X → Type 0) (x : X) (xs : List X) → All P (x ∷ xs) → P x
first_of P x xs h = h 0 x (omega arith)

pub others_of : {X : Type 0} (P : X → Type 0) (x : X) (xs : List X) → All P (x ∷ xs) → All P xs
others_of P x xs h = λ k d below. h (suc k) d (omega arith)

-- ---- whether the last one is the left one
pub no_items : (depth : ℕ) (items : List Finished) → length items ≡ 0 → ¬ (HasLeft depth (branches items))
no_items depth [] e = none_left depth
no_items depth (x ∷ items) e = absurd (omega arith)

pub no_depth : (depth : ℕ) (finished : List Branch) → depth ≡ 0 → ¬ (HasLeft depth finished)
no_depth depth [] e h = h
no_depth depth (b ∷ finished) e h = let some = h.1 in omega arith

tells : (b : Bool) (depth : ℕ) (x : Finished) (finished : List Branch) → nat_eq x.depth depth ≡ b → 0 < depth → MatchBool b (HasLeft depth (branch_of x ∷ finished)) (¬ (HasLeft depth (branch_of x ∷ finished)))
tells true depth x finished e some = (eqb-true x.depth depth e, some)
tells false depth x finished e some = λ h. false≢true (sym e ∙ eq-eqb x.depth depth h.0)

pub tells_left : (depth : ℕ) (items : List Finished) (x : Finished) → x ≡ get_or items (length items - 1) x → 0 < length items → 0 < depth
    → MatchBool (nat_eq (get_or items (length items - 1) x).depth depth) (HasLeft depth (branches items)) (¬ (HasLeft depth (branches items)))
tells_left depth items x is some deep =
    subst (λ (bs : List Branch). MatchBool (nat_eq (get_or items (length items - 1) x).depth depth) (HasLeft depth bs) (¬ (HasLeft depth bs)))
    (sym (last_first items (length items - 1) x (omega arith) is))
    (subst (λ (y : Finished). MatchBool (nat_eq y.depth depth) (HasLeft depth (branch_of x ∷ branches (take (length items - 1) items))) (¬ (HasLeft depth (branch_of x ∷ branches (take (length items - 1) items))))) is
    (tells (nat_eq x.depth depth) depth x (branches (take (length items - 1) items)) refl deep))

-- the left one is taken
pub takes_left : (o : Option Finished) (depth count left_count : ℕ) (items rest : List Finished) → items ≡ rest ++ option_to_list o → MatchOption o ((count ≡ 0) × (left_count ≡ 0)) (λ _. left_count + 1 ≡ count) → length items ≡ count
    → HasLeft depth (branches items)
    → MatchOption o ((rest ≡ items) × ¬ (HasLeft depth (branches items))) (λ left. (0 < depth) × (branches items ≡ branch_of left ∷ branches rest) × (left.depth ≡ depth))
takes_left None depth count left_count items rest e cases long h = absurd (no_items depth items (let none = cases.0 in omega arith) h)
takes_left (Some x) depth count left_count items rest e cases long h =
    let is : branches items ≡ branch_of x ∷ branches rest = ap branches e ∙ branches_end rest x in
    let left : HasLeft depth (branch_of x ∷ branches rest) = subst (HasLeft depth) is h in
    (left.1, is, left.0)
