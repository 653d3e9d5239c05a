-- Unit clauses of a cube's literals.
use Rattle.std.proofs.Common.{◌≡◌, ◌∙◌, ℕ, ◌+◌, ◌<◌, ◌≤◌, List, [], ◌∷◌, ◌++◌, length, map, take, get_or, length-take-le, ap, sym, arith}
use Rattle.std.specs.List.{All}
use Rattle.std.proofs.lemmas.List.{length-map, map-append, take_more}
use Rattle.std.proofs.lemmas.List.Elements.{All-cons, All-nil, All-head, All-tail}
use Rattle.dimacs.specs.logic.Cnf.{Cnf, AreWithin}
use Rattle.dimacs.specs.logic.Literal.{Clause, Literal, IsWithin}

-- the units of literals within some variables are within them
pub units_within : (vars : ℕ) (q : List Literal) → All (IsWithin vars) q → AreWithin vars (map (λ x. x ∷ []) q)
units_within vars [] w = All-nil (All (IsWithin vars))
units_within vars (x ∷ q) w =
    All-cons (All (IsWithin vars)) (x ∷ []) (map (λ x. x ∷ []) q) (All-cons (IsWithin vars) x [] (All-head (IsWithin vars) x q w) (All-nil (IsWithin vars)))
    (units_within vars q (All-tail (IsWithin vars) x q w))

-- the units of literals up to one more
unit_more : (q : List Literal) (i : ℕ) (l : Literal) → i < length q → l ≡ get_or q i l → map (λ x. x ∷ []) (take (i + 1) q) ≡ map (λ x. x ∷ []) (take i q) ++ (l ∷ []) ∷ []
unit_more q i l at is =
    ap (map (λ x. x ∷ [])) (take_more q i l at) ∙ (map-append (λ x. x ∷ []) (take i q) (get_or q i l ∷ [])
    ∙ ap (λ (k : Literal). map (λ x. x ∷ []) (take i q) ++ (k ∷ []) ∷ []) (sym is))

-- a literal is put into the open clause, which is ended
pub unit_done : (q : List Literal) (i : ℕ) (l : Literal) (before pushed after : List Clause) (empty unit : Clause) → i < length q → l ≡ get_or q i l
    → before ≡ map (λ x. x ∷ []) (take i q) → empty ≡ [] → pushed ≡ before → unit ≡ empty ++ l ∷ [] → after ≡ pushed ++ unit ∷ []
    → after ≡ map (λ x. x ∷ []) (take (i + 1) q)
unit_done q i l before pushed after empty unit at is so_far closed same put ended =
    let one : unit ≡ l ∷ [] = put ∙ ap (λ (o : Clause). o ++ l ∷ []) closed in
    ended ∙ (ap (λ (o : Clause). pushed ++ o ∷ []) one ∙ (ap (λ (done : List Clause). done ++ (l ∷ []) ∷ []) (same ∙ so_far) ∙ sym (unit_more q i l at is)))

-- they are few
pub units_few : (q : List Literal) (i : ℕ) (before pushed : List Clause) → i < length q → length q ≤ 64 → before ≡ map (λ x. x ∷ []) (take i q) → pushed ≡ before → length pushed < 99999999
units_few q i before pushed at short so_far same =
    let e = ap (λ (done : List Clause). length done) (same ∙ so_far) in
    let n = length-map (take i q) (λ (x : Literal). x ∷ []) in
    let m = length-take-le i q (omega (arith, at)) in
    omega (arith, e, n, m, at, short)

pub extension_is : (vars : ℕ) (q : List Literal) (done : List Clause) (F : Cnf) → F ≡ record { vars = vars; clauses = done } → done ≡ map (λ x. x ∷ []) q
    → F ≡ record { vars = vars; clauses = map (λ x. x ∷ []) q }
extension_is vars q done F is same = is ∙ ap (λ (clauses : List Clause). record { vars = vars; clauses = clauses }) same
