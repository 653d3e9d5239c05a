-- The trail of a descent: the path's literals, each followed by the pair that it defines.
use Rattle.std.proofs.Common.{◌≡◌, ◌≢◌, ℕ, zero, suc, ◌+◌, ◌<◌, ◌≤◌, Bool, true, false, ◌||◌, ◌&&◌, cond, List, [], ◌∷◌, ◌++◌, length, Some, refl, sym, ◌∙◌, ap, subst, arith, inr, append_assoc, length-append}
use Rattle.std.specs.List.{All, slice_get}
use Rattle.std.proofs.lemmas.Bool.{cond-true, cond-false, eq-eqb, ne_eqb, or_from}
use Rattle.std.proofs.lemmas.List.Elements.{All-append, All-cons, All-get_or, All-nil}
use Rattle.std.proofs.lemmas.Option.{slice_get_within, get_or_from_slice_get}
use Rattle.dimacs.specs.logic.Cnf.{Cnf, AreWithin}
use Rattle.dimacs.specs.logic.Literal.{Literal, Pos, Neg, same, has, var_of}
use Rattle.dimacs.proofs.LiteralLemmas.{same-false}
use Rattle.icnf.specs.Leaves.{Cube, IsFree}
use Rattle.cube_split.specs.ChoiceWithDefinitions.{Chooses, IsChosen, held_by, holding}
use Rattle.cube_split.specs.Definitions.{IsPairOf, Opening}
use Rattle.cube_split.specs.inner.DescentInvariant.{IsTrailOf}
use Rattle.cube_split.specs.inner.WalkInvariant.{from_start}
use Rattle.cube_split.specs.declared.pair.Pair.{Pair}
use Rattle.cube_split.proofs.ChoiceLemmas.{free_from, free_positive, free_negative, stands_nowhere}
use Rattle.cube_split.proofs.HeldLemmas.{brings, has_append}

-- ---- what several literals hold

has_brought : (b : Bool) (two : List Literal) (x : Literal) → has (cond b two []) x ≡ (b && has two x)
has_brought true two x = refl
has_brought false two x = refl

over_both : (s t w g h : Bool) → (((s || t) && w) || (g || h)) ≡ (((s && w) || g) || ((t && w) || h))
over_both true true true g h = refl
over_both true false true g h = refl
over_both false true true true h = refl
over_both false true true false h = refl
over_both false false true g h = refl
over_both true true false g h = refl
over_both true false false g h = refl
over_both false true false g h = refl
over_both false false false g h = refl

-- what two lists hold is what the one and the other hold
pub held_both : (S T : List Literal) (d : ℕ) (pairs : List Pair) (x : Literal) → has (held_by (S ++ T) d pairs) x ≡ (has (held_by S d pairs) x || has (held_by T d pairs) x)
held_both S T d [] x = refl
held_both S T d (p ∷ pairs) x =
    let two : List Literal = p.first ∷ p.second ∷ [] in
    let each = λ (R : List Literal). has_append (brings R d p) (held_by R (d + 1) pairs) x ∙ ap (λ (b : Bool). b || has (held_by R (d + 1) pairs) x) (has_brought (has R (Pos d)) two x) in
    each (S ++ T)
    ∙ ap (λ (b : Bool). (b && has two x) || has (held_by (S ++ T) (d + 1) pairs) x) (has_append S T (Pos d))
    ∙ ap (λ (b : Bool). ((has S (Pos d) || has T (Pos d)) && has two x) || b) (held_both S T (d + 1) pairs x)
    ∙ over_both (has S (Pos d)) (has T (Pos d)) (has two x) (has (held_by S (d + 1) pairs) x) (has (held_by T (d + 1) pairs) x)
    ∙ ap (λ (b : Bool). b || ((has T (Pos d) && has two x) || has (held_by T (d + 1) pairs) x)) (sym (each S))
    ∙ ap (λ (b : Bool). has (held_by S d (p ∷ pairs)) x || b) (sym (each T))

-- ---- what one literal holds

-- a literal that is no variable from d on holds nothing
pub held_nothing : (l : Literal) (d : ℕ) (pairs : List Pair) → ((i : ℕ) → i < length pairs → l ≢ Pos (d + i)) → held_by (l ∷ []) d pairs ≡ []
held_nothing l d [] other = refl
held_nothing l d (p ∷ pairs) other =
    let here : has (l ∷ []) (Pos d) ≡ false = or_from (same (Pos d) l) false (same-false (Pos d) l (λ e. other 0 (omega arith) (sym e ∙ ap Pos (let z : d ≡ d + 0 = omega arith in z)))) refl in
    let behind : held_by (l ∷ []) (d + 1) pairs ≡ [] = held_nothing l (d + 1) pairs (λ i below e. other (suc i) (omega arith) (e ∙ ap Pos (let z : d + 1 + i ≡ d + suc i = omega arith in z))) in
    ap (λ (ls : List Literal). ls ++ held_by (l ∷ []) (d + 1) pairs) (cond-false (has (l ∷ []) (Pos d)) (p.first ∷ p.second ∷ []) [] here) ∙ behind

-- a defined variable holds its pair
held_pair : (v d i : ℕ) (pairs : List Pair) (p : Pair) → v ≡ d + i → slice_get pairs i ≡ Some p → held_by (Pos v ∷ []) d pairs ≡ p.first ∷ p.second ∷ []
held_pair v d i [] p e there = let none = slice_get_within [] i p there in absurd (omega arith)
held_pair v d zero (q ∷ pairs) p e there =
    let is : q ≡ p = cc in
    let here : has (Pos v ∷ []) (Pos d) ≡ true = ap (λ (b : Bool). b || false) (eq-eqb d v (omega arith)) in
    let behind : held_by (Pos v ∷ []) (d + 1) pairs ≡ [] = held_nothing (Pos v) (d + 1) pairs (λ i below f. let n : v ≡ d + 1 + i = ap var_of f in omega arith) in
    ap (λ (ls : List Literal). ls ++ held_by (Pos v ∷ []) (d + 1) pairs) (cond-true (has (Pos v ∷ []) (Pos d)) (q.first ∷ q.second ∷ []) [] here)
    ∙ ap (λ (ls : List Literal). q.first ∷ q.second ∷ ls) behind
    ∙ ap (λ (r : Pair). r.first ∷ r.second ∷ []) is
held_pair v d (suc i) (q ∷ pairs) p e there =
    let here : has (Pos v ∷ []) (Pos d) ≡ false = ap (λ (b : Bool). b || false) (ne_eqb d v (λ f. let n : d ≡ v = f in omega arith)) in
    ap (λ (ls : List Literal). ls ++ held_by (Pos v ∷ []) (d + 1) pairs) (cond-false (has (Pos v ∷ []) (Pos d)) (q.first ∷ q.second ∷ []) [] here)
    ∙ held_pair v (d + 1) i pairs p (omega arith) there

pub held_one : (l : Literal) (vars i : ℕ) (pairs : List Pair) (p : Pair) → l ≡ Pos (vars + 1 + i) → slice_get pairs i ≡ Some p → held_by (l ∷ []) (vars + 1) pairs ≡ p.first ∷ p.second ∷ []
held_one l vars i pairs p e there = ap (λ (k : Literal). held_by (k ∷ []) (vars + 1) pairs) e ∙ held_pair (vars + 1 + i) (vars + 1) i pairs p refl there

-- ---- the trail

in_turn : (a h s g : Bool) → ((a || h) || (s || g)) ≡ ((a || (s || false)) || (h || g))
in_turn true h s g = refl
in_turn false true true g = refl
in_turn false true false g = refl
in_turn false false true g = refl
in_turn false false false g = refl

pub trail_more : (F : Cnf) (o : Opening) (path trail : Cube) (l : Literal) → length (held_by (l ∷ []) (F.vars + 1) o.pairs) ≤ 2 → IsTrailOf F o path trail
    → IsTrailOf F o (path ++ l ∷ []) (trail ++ l ∷ held_by (l ∷ []) (F.vars + 1) o.pairs)
trail_more F o path trail l two h = record {
  holds = λ x.
      let d : ℕ = F.vars + 1 in
      let U : List Literal = from_start F o in
      let S : List Literal = o.units ++ path in
      let T : List Literal = S ++ l ∷ [] in
      let held : List Literal = held_by (l ∷ []) d o.pairs in
      ap (λ (R : List Literal). has R x) (sym (append_assoc U trail (l ∷ held)))
      ∙ has_append (U ++ trail) (l ∷ held) x
      ∙ ap (λ (b : Bool). b || has (l ∷ held) x) (h.holds x ∙ has_append S (held_by S d o.pairs) x)
      ∙ in_turn (has S x) (has (held_by S d o.pairs) x) (same x l) (has held x)
      ∙ ap (λ (b : Bool). b || (has (held_by S d o.pairs) x || has held x)) (sym (has_append S (l ∷ []) x))
      ∙ ap (λ (b : Bool). has T x || b) (sym (held_both S (l ∷ []) d o.pairs x))
      ∙ sym (has_append T (held_by T d o.pairs) x)
      ∙ ap (λ (R : List Literal). has (R ++ held_by R d o.pairs) x) (append_assoc o.units path (l ∷ []));
  short = let a = h.short in omega (arith, length-append trail (l ∷ held_by (l ∷ []) (F.vars + 1) o.pairs), length-append path (l ∷ []));
}

-- ---- what is free

-- a variable is free of two lists alike, if they have the same literals
pub free_same : (S T : List Literal) (w : ℕ) → ((x : Literal) → has S x ≡ has T x) → IsFree T w → IsFree S w
free_same S T w e h = free_from S w (e (Pos w) ∙ free_positive T w h) (e (Neg w) ∙ free_negative T w h)

free_push : (S : List Literal) (l : Literal) (w : ℕ) → IsFree S w → var_of l ≢ w → IsFree (S ++ l ∷ []) w
free_push S l w h ne = All-append (λ x. var_of x ≢ w) S (l ∷ []) h (All-cons (λ x. var_of x ≢ w) l [] ne (All-nil (λ x. var_of x ≢ w)))

-- the chosen variable is free of the trail
pub variable_free : (F : Cnf) (o : Opening) (path trail : Cube) (v : ℕ) → IsTrailOf F o path trail → Chooses F o path (Some v) → IsFree (from_start F o ++ trail) v
variable_free F o path trail v t (IsChosen.defined i unknown lowest e) =
    let is : v ≡ F.vars + 1 + i = cc in
    free_same (from_start F o ++ trail) (holding F o path) v t.holds (subst (IsFree (holding F o path)) (sym is) unknown.itself)
variable_free F o path trail v t (IsChosen.plain none choice) = free_same (from_start F o ++ trail) (holding F o path) v t.holds choice.free

-- the variables of the pair that it holds are free of what stands before them
pub record IsFreePair (F : Cnf) (o : Opening) (trail : Cube) (l : Literal) (p : Pair) : Type 0 where
  pub first : IsFree (from_start F o ++ (trail ++ l ∷ [])) (var_of p.first)
  pub second : IsFree (from_start F o ++ ((trail ++ l ∷ []) ++ p.first ∷ [])) (var_of p.second)

pair_free : (F : Cnf) (o : Opening) (path trail : Cube) (l : Literal) (p : Pair) → IsTrailOf F o path trail → IsPairOf F.vars p → F.vars < var_of l
    → IsFree (holding F o path) (var_of p.first) → IsFree (holding F o path) (var_of p.second) → IsFreePair F o trail l p
pair_free F o path trail l p t is above one two =
    let U : List Literal = from_start F o in
    let rise = is.rise in
    let up_to = is.up_to in
    let first : IsFree (U ++ trail) (var_of p.first) = free_same (U ++ trail) (holding F o path) (var_of p.first) t.holds one in
    let second : IsFree (U ++ trail) (var_of p.second) = free_same (U ++ trail) (holding F o path) (var_of p.second) t.holds two in
    let behind : IsFree ((U ++ trail) ++ l ∷ []) (var_of p.second) = free_push (U ++ trail) l (var_of p.second) second (λ e. omega arith) in
    record {
      first = subst (λ (S : List Literal). IsFree S (var_of p.first)) (append_assoc U trail (l ∷ [])) (free_push (U ++ trail) l (var_of p.first) first (λ e. omega arith));
      second = subst (λ (S : List Literal). IsFree S (var_of p.second))
          (ap (λ (S : List Literal). S ++ p.first ∷ []) (append_assoc U trail (l ∷ [])) ∙ append_assoc U (trail ++ l ∷ []) (p.first ∷ []))
          (free_push ((U ++ trail) ++ l ∷ []) p.first (var_of p.second) behind (λ e. omega arith));
    }

pub pair_is_free : (F : Cnf) (o : Opening) (path trail : Cube) (l : Literal) (i : ℕ) (p : Pair) → AreWithin F.vars F.clauses → All (IsPairOf F.vars) o.pairs → IsTrailOf F o path trail
    → Chooses F o path (Some (var_of l)) → l ≡ Pos (F.vars + 1 + i) → slice_get o.pairs i ≡ Some p → IsFreePair F o trail l p
pair_is_free F o path trail l i p within are t (IsChosen.defined j unknown lowest e) is there =
    let number : var_of l ≡ F.vars + 1 + i = ap var_of is in
    let chosen : var_of l ≡ F.vars + 1 + j = cc in
    let place : j ≡ i = omega arith in
    let same_pair : unknown.pair ≡ p = same_element o.pairs j i unknown.pair p place unknown.there there in
    let below = slice_get_within o.pairs i p there in
    let formed : IsPairOf F.vars p = subst (IsPairOf F.vars) (get_or_from_slice_get o.pairs i p p there) (All-get_or (IsPairOf F.vars) o.pairs i p below are) in
    pair_free F o path trail l p t formed (omega arith)
    (subst (λ (q : Pair). IsFree (holding F o path) (var_of q.first)) same_pair unknown.first)
    (subst (λ (q : Pair). IsFree (holding F o path) (var_of q.second)) same_pair unknown.second)
  where
    same_element : (pairs : List Pair) (j i : ℕ) (q p : Pair) → j ≡ i → slice_get pairs j ≡ Some q → slice_get pairs i ≡ Some p → q ≡ p
    same_element pairs j i q p e a b = cc
pair_is_free F o path trail l i p within are t (IsChosen.plain none choice) is there =
    let number : var_of l ≡ F.vars + 1 + i = ap var_of is in
    let nowhere = stands_nowhere F.vars (var_of l) F.clauses (holding F o path) (inr (let above : F.vars < var_of l = omega arith in above)) within in
    absurd (omega (arith, choice.some))
