-- The walk over a tree: where it goes on, and where it goes back.
use Rattle.std.proofs.Common.{◌≡◌, ◌≢◌, ℕ, ◌+◌, ◌*◌, ◌<◌, ◌≤◌, Bool, ◌&&◌, not, List, [], ◌∷◌, ◌++◌, length, count_by, Option, Some, None, IfSome, refl, sym, ◌∙◌, ap, subst, arith, append_assoc}
use Rattle.std.specs.List.{list_any, slice_get}
use Rattle.std.proofs.Math.Path.{fun_ext}
use Rattle.std.proofs.lemmas.List.Elements.{All-get_or}
use Rattle.std.proofs.lemmas.Option.{slice_get_within, get_or_from_slice_get}
use Rattle.dimacs.specs.logic.Cnf.{Cnf}
use Rattle.dimacs.specs.logic.Literal.{Literal, Pos, Clause, has, var_of}
use Rattle.icnf.specs.Leaves.{Cube, IsFree}
use Rattle.cube_split.specs.Choice.{Choice, has_variable, stands_in}
use Rattle.cube_split.specs.ChoiceWithDefinitions.{Chooses, held_by, holding}
use Rattle.cube_split.specs.Definitions.{IsPairOf, Opening}
use Rattle.cube_split.specs.inner.DescentInvariant.{IsDescentAt, IsTrailOf}
use Rattle.cube_split.specs.inner.Marks.{AreMarked, IsUndecidedBy}
use Rattle.cube_split.specs.inner.WalkInvariant.{IsWalkAt, from_start, widened}
use Rattle.cube_split.specs.declared.descent.Descent.{Descent}
use Rattle.cube_split.specs.declared.pair.Pair.{Pair}
use Rattle.cube_split.specs.declared.walk.Walk.{Walk}
use Rattle.cube_split.proofs.HeldLemmas.{defined_by, plain_by}
use Rattle.cube_split.proofs.MarkLemmas.{marked_same}
use Rattle.cube_split.proofs.TrailLemmas.{IsFreePair, free_same, held_nothing, held_one, pair_is_free, trail_more, variable_free}

-- ---- the choice

-- two lists with the same literals leave the same clauses open
stands_same : (clauses : List Clause) (S T : List Literal) (w : ℕ) → ((x : Literal) → has S x ≡ has T x) → stands_in clauses S w ≡ stands_in clauses T w
stands_same clauses S T w e = ap (λ (test : Literal → Bool). count_by (λ C. not (list_any test C) && has_variable C w) clauses) (fun_ext e)

-- so the choice is the same, however many variables there are beside those of the clauses
choice_same : (F : Cnf) (o : Opening) (S T : List Literal) (v : Option ℕ) → ((x : Literal) → has S x ≡ has T x) → Choice (widened F o) S v → Choice F T v
choice_same F o S T None e h = record { none = λ w free. sym (stands_same F.clauses S T w e) ∙ h.none w (free_same S T w e free) }
choice_same F o S T (Some v) e h = record {
  free = free_same T S v (λ x. sym (e x)) h.free;
  some = let n = stands_same F.clauses S T v e in omega (arith, h.some);
  most = λ w free. let n = stands_same F.clauses S T v e in let m = stands_same F.clauses S T w e in omega (arith, h.most w (free_same S T w e free));
  lowest = λ w free same. h.lowest w (free_same S T w e free) (stands_same F.clauses S T w e ∙ same ∙ sym (stands_same F.clauses S T v e));
}

room_at : (F : Cnf) (o : Opening) (path trail : Cube) (s : Descent) → IsDescentAt F o path trail s → 2 * (F.vars + length o.pairs + 1) ≤ length s.walk.marks.items
room_at F o path trail s h = let a = h.stands.rows in let b = h.stands.marks in omega arith

holding_marked : (F : Cnf) (o : Opening) (path trail : Cube) (s : Descent) → IsDescentAt F o path trail s → AreMarked s.walk.marks.items (has (holding F o path))
holding_marked F o path trail s h = marked_same s.walk.marks.items (has (from_start F o ++ trail)) (has (holding F o path)) h.along.holds h.stands.marked

-- the lowest open defined variable is chosen
pub defined_at : (F : Cnf) (o : Opening) (path trail : Cube) (s : Descent) (v : ℕ) → IsDescentAt F o path trail s
    → (i : ℕ) × (v ≡ s.vars + 1 + i) × IsUndecidedBy s.walk.marks.items s.vars s.pairs.items i × ((j : ℕ) → j < i → ¬ (IsUndecidedBy s.walk.marks.items s.vars s.pairs.items j)) → Chooses F o path (Some v)
defined_at F o path trail s v h found =
    defined_by F o.pairs (holding F o path) s.walk.marks.items s.vars v h.vars h.formed (holding_marked F o path trail s h) (room_at F o path trail s h)
    (subst (λ (ps : List Pair). (i : ℕ) × (v ≡ s.vars + 1 + i) × IsUndecidedBy s.walk.marks.items s.vars ps i × ((j : ℕ) → j < i → ¬ (IsUndecidedBy s.walk.marks.items s.vars ps j))) h.pairs found)

-- if there is none, the choice is that of the tables
pub plain_at : (F : Cnf) (o : Opening) (path trail : Cube) (s : Descent) (v : Option ℕ) → IsDescentAt F o path trail s → ((j : ℕ) → ¬ (IsUndecidedBy s.walk.marks.items s.vars s.pairs.items j))
    → Choice (widened F o) (from_start F o ++ trail) v → Chooses F o path v
plain_at F o path trail s v h none choice =
    plain_by F o.pairs (holding F o path) s.walk.marks.items s.vars v h.vars h.formed (holding_marked F o path trail s h) (room_at F o path trail s h)
    (subst (λ (ps : List Pair). (j : ℕ) → ¬ (IsUndecidedBy s.walk.marks.items s.vars ps j)) h.pairs none)
    (choice_same F o (from_start F o ++ trail) (holding F o path) v h.along.holds choice)

-- a choice that is made if some levels are left
pub some_at : (levels : ℕ) (s : Descent) (r : Option ℕ) → 0 < levels → ((F : Cnf) (o : Opening) (path trail : Cube) → IsDescentAt F o path trail s → Chooses F o path r)
    → IfSome r (λ v. (F : Cnf) (o : Opening) (path trail : Cube) → IsDescentAt F o path trail s → (0 < levels) × Chooses F o path (Some v))
some_at levels s None some h = tt
some_at levels s (Some v) some h = λ F o path trail is. (some, h F o path trail is)

-- ---- what a literal holds

-- the literal is the variable that is defined by this pair
abbrev pub IsOf : ℕ → List Pair → Literal → Pair → Type 0
IsOf vars pairs l p = (i : ℕ) × (l ≡ Pos (vars + 1 + i)) × (slice_get pairs i ≡ Some p)

abbrev pub IsNone : ℕ → List Pair → Literal → Type 0
IsNone vars pairs l = (i : ℕ) → i < length pairs → l ≢ Pos (vars + 1 + i)

of_opening : (F : Cnf) (o : Opening) (path trail : Cube) (s : Descent) (l : Literal) (p : Pair) → IsDescentAt F o path trail s → IsOf s.vars s.pairs.items l p → IsOf F.vars o.pairs l p
of_opening F o path trail s l p h is = subst (λ (n : ℕ). IsOf n o.pairs l p) h.vars (subst (λ (ps : List Pair). IsOf s.vars ps l p) h.pairs is)

pub formed_at : (F : Cnf) (o : Opening) (path trail : Cube) (s : Descent) (l : Literal) (p : Pair) → IsDescentAt F o path trail s → IsOf s.vars s.pairs.items l p → IsPairOf F.vars p
formed_at F o path trail s l p h is =
    let here : IsOf F.vars o.pairs l p = of_opening F o path trail s l p h is in
    subst (IsPairOf F.vars) (get_or_from_slice_get o.pairs here.0 p p here.2) (All-get_or (IsPairOf F.vars) o.pairs here.0 p (slice_get_within o.pairs here.0 p here.2) h.formed)

held_at : (F : Cnf) (o : Opening) (path trail : Cube) (s : Descent) (l : Literal) (p : Pair) → IsDescentAt F o path trail s → IsOf s.vars s.pairs.items l p → held_by (l ∷ []) (F.vars + 1) o.pairs ≡ p.first ∷ p.second ∷ []
held_at F o path trail s l p h is =
    let here : IsOf F.vars o.pairs l p = of_opening F o path trail s l p h is in
    held_one l F.vars here.0 o.pairs p here.1 here.2

none_at : (F : Cnf) (o : Opening) (path trail : Cube) (s : Descent) (l : Literal) → IsDescentAt F o path trail s → IsNone s.vars s.pairs.items l → held_by (l ∷ []) (F.vars + 1) o.pairs ≡ []
none_at F o path trail s l h none =
    held_nothing l (F.vars + 1) o.pairs (subst (λ (n : ℕ). IsNone n o.pairs l) h.vars (subst (λ (ps : List Pair). IsNone s.vars ps l) h.pairs none))

-- one literal after the other
in_a_row : (trail : Cube) (l x y : Literal) → ((trail ++ l ∷ []) ++ x ∷ []) ++ y ∷ [] ≡ trail ++ l ∷ x ∷ y ∷ []
in_a_row trail l x y =
    ap (λ (ls : Cube). ls ++ y ∷ []) (append_assoc trail (l ∷ []) (x ∷ [])) ∙ append_assoc trail (l ∷ x ∷ []) (y ∷ [])

-- ---- on

pub goes_on : (F : Cnf) (o : Opening) (path trail : Cube) (s t : Descent) (l : Literal) (p : Pair) → t.vars ≡ s.vars → t.pairs ≡ s.pairs → IsDescentAt F o path trail s → IsOf s.vars s.pairs.items l p
    → IsWalkAt (widened F o) (from_start F o) (((trail ++ l ∷ []) ++ p.first ∷ []) ++ p.second ∷ []) t.walk
    → IsDescentAt F o (path ++ l ∷ []) (trail ++ l ∷ held_by (l ∷ []) (F.vars + 1) o.pairs) t
goes_on F o path trail s t l p vars pairs h is stands =
    let held : held_by (l ∷ []) (F.vars + 1) o.pairs ≡ p.first ∷ p.second ∷ [] = held_at F o path trail s l p h is in
    record {
      vars = vars ∙ h.vars;
      pairs = rw pairs h.pairs;
      few = h.few;
      formed = h.formed;
      within = h.within;
      along = trail_more F o path trail l (let n = ap (λ (ls : List Literal). length ls) held in omega arith) h.along;
      stands = subst (λ (q : Cube). IsWalkAt (widened F o) (from_start F o) q t.walk) (in_a_row trail l p.first p.second ∙ ap (λ (ls : List Literal). trail ++ l ∷ ls) (sym held)) stands;
    }

pub goes_alone : (F : Cnf) (o : Opening) (path trail : Cube) (s t : Descent) (l : Literal) → t.vars ≡ s.vars → t.pairs ≡ s.pairs → IsDescentAt F o path trail s → IsNone s.vars s.pairs.items l
    → IsWalkAt (widened F o) (from_start F o) (trail ++ l ∷ []) t.walk → IsDescentAt F o (path ++ l ∷ []) (trail ++ l ∷ held_by (l ∷ []) (F.vars + 1) o.pairs) t
goes_alone F o path trail s t l vars pairs h none stands =
    let held : held_by (l ∷ []) (F.vars + 1) o.pairs ≡ [] = none_at F o path trail s l h none in
    record {
      vars = vars ∙ h.vars;
      pairs = rw pairs h.pairs;
      few = h.few;
      formed = h.formed;
      within = h.within;
      along = trail_more F o path trail l (let n = ap (λ (ls : List Literal). length ls) held in omega arith) h.along;
      stands = subst (λ (ls : List Literal). IsWalkAt (widened F o) (from_start F o) (trail ++ l ∷ ls) t.walk) (sym held) stands;
    }

-- ---- and back

-- where a walk stands after a literal, which stands before what it holds
pub behind_pair : (F : Cnf) (o : Opening) (path trail : Cube) (s : Descent) (l : Literal) (p : Pair) → IsDescentAt F o (path ++ l ∷ []) (trail ++ l ∷ held_by (l ∷ []) (F.vars + 1) o.pairs) s → IsOf s.vars s.pairs.items l p
    → IsWalkAt (widened F o) (from_start F o) (((trail ++ l ∷ []) ++ p.first ∷ []) ++ p.second ∷ []) s.walk
behind_pair F o path trail s l p h is =
    let held : held_by (l ∷ []) (F.vars + 1) o.pairs ≡ p.first ∷ p.second ∷ [] = held_at F o (path ++ l ∷ []) (trail ++ l ∷ held_by (l ∷ []) (F.vars + 1) o.pairs) s l p h is in
    subst (λ (q : Cube). IsWalkAt (widened F o) (from_start F o) q s.walk) (ap (λ (ls : List Literal). trail ++ l ∷ ls) held ∙ sym (in_a_row trail l p.first p.second)) h.stands

behind_alone : (F : Cnf) (o : Opening) (path trail : Cube) (s : Descent) (l : Literal) → IsDescentAt F o (path ++ l ∷ []) (trail ++ l ∷ held_by (l ∷ []) (F.vars + 1) o.pairs) s → IsNone s.vars s.pairs.items l
    → IsWalkAt (widened F o) (from_start F o) (trail ++ l ∷ []) s.walk
behind_alone F o path trail s l h none =
    let held : held_by (l ∷ []) (F.vars + 1) o.pairs ≡ [] = none_at F o (path ++ l ∷ []) (trail ++ l ∷ held_by (l ∷ []) (F.vars + 1) o.pairs) s l h none in
    subst (λ (ls : List Literal). IsWalkAt (widened F o) (from_start F o) (trail ++ l ∷ ls) s.walk) held h.stands

-- what it holds was free before it
pub free_at : (F : Cnf) (o : Opening) (path trail q r : Cube) (s : Descent) (l : Literal) (p : Pair) → IsTrailOf F o path trail → Chooses F o path (Some (var_of l)) → IsDescentAt F o q r s → IsOf s.vars s.pairs.items l p → IsFreePair F o trail l p
free_at F o path trail q r s l p t chosen h is =
    let here : IsOf F.vars o.pairs l p = of_opening F o q r s l p h is in
    pair_is_free F o path trail l here.0 p h.within h.formed t chosen here.1 here.2

-- what it holds was left, and the literal was not yet
pub record HasLeft (F : Cnf) (o : Opening) (trail : Cube) (l : Literal) (s t : Descent) : Type 0 where
  pub vars : t.vars ≡ s.vars
  pub pairs : t.pairs ≡ s.pairs
  pub stands : IsWalkAt (widened F o) (from_start F o) (trail ++ l ∷ []) t.walk

-- what a call of `leave` promises
abbrev Leaving : Walk → Literal → Walk → Type 0
Leaving s l t = (f : Cnf) (units : List Literal) (trail : Cube) → IsWalkAt f units (trail ++ l ∷ []) s → IsFree (units ++ trail) (var_of l) → IsWalkAt f units trail t

pub left_pair : (F : Cnf) (o : Opening) (path trail : Cube) (s : Descent) (l : Literal) (p : Pair) (u v : Walk) → IsTrailOf F o path trail → Chooses F o path (Some (var_of l))
    → IsDescentAt F o (path ++ l ∷ []) (trail ++ l ∷ held_by (l ∷ []) (F.vars + 1) o.pairs) s → IsOf s.vars s.pairs.items l p → Leaving s.walk p.second u → Leaving u p.first v → HasLeft F o trail l s (record s { walk = v })
left_pair F o path trail s l p u v t chosen h is second first =
    let free : IsFreePair F o trail l p = free_at F o path trail (path ++ l ∷ []) (trail ++ l ∷ held_by (l ∷ []) (F.vars + 1) o.pairs) s l p t chosen h is in
    record {
      vars = refl;
      pairs = refl;
      stands = first (widened F o) (from_start F o) (trail ++ l ∷ [])
          (second (widened F o) (from_start F o) ((trail ++ l ∷ []) ++ p.first ∷ []) (behind_pair F o path trail s l p h is) free.second) free.first;
    }

pub left_alone : (F : Cnf) (o : Opening) (path trail : Cube) (s : Descent) (l : Literal) → IsDescentAt F o (path ++ l ∷ []) (trail ++ l ∷ held_by (l ∷ []) (F.vars + 1) o.pairs) s → IsNone s.vars s.pairs.items l
    → HasLeft F o trail l s s
left_alone F o path trail s l h none = record { vars = refl; pairs = refl; stands = behind_alone F o path trail s l h none }

pub goes_back : (F : Cnf) (o : Opening) (path trail q r : Cube) (l : Literal) (s t : Descent) (u : Walk) → IsDescentAt F o q r s → IsTrailOf F o path trail → Chooses F o path (Some (var_of l)) → HasLeft F o trail l s t → Leaving t.walk l u
    → IsDescentAt F o path trail (record t { walk = u })
goes_back F o path trail q r l s t u h along chosen left leaves = record {
  vars = left.vars ∙ h.vars;
  pairs = rw left.pairs h.pairs;
  few = h.few;
  formed = h.formed;
  within = h.within;
  along = along;
  stands = leaves (widened F o) (from_start F o) trail left.stands (variable_free F o path trail (var_of l) along chosen);
}
