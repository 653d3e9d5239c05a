-- An assignment goes down a tree to a leaf, where it makes false the lemma that closes the leaf.
use Rattle.std.proofs.Common.{◌≡◌, ℕ, inl, inr, Bool, true, List, [], ◌∷◌, ◌++◌, sym, ◌∙◌, subst}
use Rattle.std.specs.List.{Contains}
use Rattle.std.proofs.lemmas.Bool.{both_ways, not-true}
use Rattle.std.proofs.lemmas.List.Elements.{Contains-append_cases, Contains-append_left, Contains-append_right}
use Rattle.dimacs.specs.logic.Literal.{Literal, literal_true, negation}
use Rattle.dimacs.proofs.LiteralLemmas.{literal_true-negation}
use Rattle.dimacs.proofs.Members.{Contains-head, Contains-cons_cases, Contains-nil}
use Rattle.icnf.specs.Leaves.{Cube, Leaves, leaf, fork}
use Rattle.lrat_check.proofs.Truth.{one_true}
use Rattle.shared_logs.specs.SharedLeaves.{SharedLeavesRefute}
use Rattle.shared_logs.proofs.TruthLemmas.{lemmas_follow}

-- every literal of the cube is true
abbrev AllHold : (ℕ → Bool) → Cube → Type 0
AllHold a q = (l : Literal) → Contains q l → literal_true a l ≡ true

one_more : (a : ℕ → Bool) (path : Cube) (x : Literal) → AllHold a path → literal_true a x ≡ true → AllHold a (path ++ x ∷ [])
one_more a path x all t l i = elim (Contains-append_cases path (x ∷ []) l i) [
  | inl before ↦ all l before
  | inr last ↦ elim (Contains-cons_cases x l [] last) [
    | inl e ↦ subst (λ (k : Literal). literal_true a k ≡ true) e t
    | inr none ↦ absurd (Contains-nil l none)
  ]
]

reached : {path : Cube} {cubes : List Cube} (a : ℕ → Bool) → Leaves path cubes → AllHold a path → (q : Cube) × Contains cubes q × AllHold a q
reached {path} a leaf all = (path, Contains-head path [], all)
reached {path} a (fork {left = left} {right = right} x free first second) all = elim (one_true a x) [
  | inl t ↦
      let r = reached a first (one_more a path x all t) in
      (r.0, Contains-append_left left right r.0 r.1, r.2)
  | inr t ↦
      let r = reached a second (one_more a path (negation x) all t) in
      (r.0, Contains-append_right left right r.0 r.1, r.2)
]

pub leaves_refute : SharedLeavesRefute
leaves_refute F cell cubes is tree closed a sat =
    let r = reached {path = []} a tree (λ l i. absurd (Contains-nil l i)) in
    let c = closed r.0 r.1 in
    let (l, i, t) = lemmas_follow F cell is c.log c.within c.number c.clause c.time c.writes a sat in
    let f : literal_true a (negation l) ≡ true = r.2 (negation l) (c.negates l i) in
    both_ways (literal_true a l) (not-true (literal_true a l) (sym (literal_true-negation a l) ∙ f)) t
