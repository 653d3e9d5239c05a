-- The tables of a walk, as its path goes on and back.
use Rattle.std.proofs.Common.{◌≡◌, ℕ, ◌+◌, ◌*◌, ◌<◌, ◌≤◌, Bool, true, false, ◌||◌, List, [], ◌∷◌, ◌++◌, length, get_or, set, take, All, Option, IfSome, IfNone, ◌-◌, if◌then◌else◌, not, refl, sym, ap, ◌∙◌, arith, ⊎_elim, append_assoc, get_or-set_same, get_or-set_other, length-set, length-append}
use Rattle.std.specs.List.{list_any}
use Rattle.std.proofs.lemmas.Bool.{cases_eq, cases_lt, ne_eqb}
use Rattle.std.proofs.Math.Seq.{get_or-append_seam}
use Rattle.std.proofs.lemmas.List.{get_or_append_left, get_or-take, length-take-le, append-nil}
use Rattle.std.proofs.lemmas.List.Elements.{All-weaker}
use Rattle.std.proofs.lemmas.List.Folds.{list_any-append}
use Rattle.dimacs.specs.logic.Cnf.{Cnf, AreWithin, IsFormula}
use Rattle.dimacs.specs.inner.Codes.{index_of-literal_of}
use Rattle.dimacs.specs.logic.Literal.{Literal, Pos, Neg, Clause, IsWithin, same, has, var_of, index_of, literal_of}
use Rattle.icnf.specs.Leaves.{Cube, IsFree}
use Rattle.cube_split.specs.Choice.{Choice, stands_in}
use Rattle.cube_split.specs.Definitions.{Opening}
use Rattle.cube_split.specs.inner.Marks.{AreMarked, IsUnmarked, IsGreatest}
use Rattle.cube_split.specs.inner.OpenClauses.{AreTurned, open_count}
use Rattle.cube_split.specs.inner.Places.{clause_of, ArePlaced, AreChained}
use Rattle.cube_split.specs.inner.Tallies.{AreListed}
use Rattle.cube_split.specs.inner.WalkInvariant.{IsWalkAt, IsClosedBy, closed_at, from_start, widened}
use Rattle.cube_split.specs.declared.walk.Walk.{Walk}
use Rattle.cube_split.proofs.ChoiceLemmas.{free_positive, free_negative, AreTables, choice_is}
use Rattle.cube_split.proofs.LevelLemmas.{closed_more, closed_less, stands_are, stands_less}
use Rattle.cube_split.proofs.PlaceLemmas.{indexed}
use Rattle.cube_split.proofs.MarkLemmas.{mark_one, mark_none, marked_same, literal_of-index_of, same_by_place}

-- the clauses of a walk, by their places
abbrev pub clauses_of : Walk → ℕ → Clause
clauses_of s = clause_of s.places.places.items s.places.starts.items

-- the levels, over the clauses by their places
pub closed_by : (f : Cnf) (units : List Literal) (path : Cube) (s : Walk) → IsWalkAt f units path s → (i : ℕ) → i < length f.clauses → get_or s.closed.items i 0 ≡ closed_at units path (clauses_of s i)
closed_by f units path s h i b = h.closed i b ∙ ap (closed_at units path) (sym (h.clauses i b))

-- the counts are those of the open clauses
pub walk_counted : (f : Cnf) (units : List Literal) (path : Cube) (s : Walk) → IsWalkAt f units path s → (w : ℕ) → w < length s.counts.items → get_or s.counts.items w 0 ≡ open_count (length s.closed.items) (clauses_of s) s.closed.items w
walk_counted f units path s h w b =
    h.counted w b ∙ sym (stands_are f.clauses (clauses_of s) units path s.closed.items w h.clauses (closed_by f units path s h)) ∙ ap (λ (n : ℕ). open_count n (clauses_of s) s.closed.items w) (sym h.size)

longer : (units path : List Literal) (l x : Literal) → (has (units ++ path) x || has (l ∷ []) x) ≡ has (units ++ (path ++ l ∷ [])) x
longer units path l x = sym (list_any-append (same x) (units ++ path) (l ∷ [])) ∙ ap (λ (S : List Literal). has S x) (append_assoc units path (l ∷ []))

-- a literal is marked
marked_more : (marks : List Bool) (units path : List Literal) (l : Literal) → index_of l < length marks → AreMarked marks (has (units ++ path)) → AreMarked (set marks (index_of l) true) (has (units ++ (path ++ l ∷ [])))
marked_more marks units path l inside h =
    marked_same (set marks (index_of l) true) (λ x. has (units ++ path) x || has (l ∷ []) x) (has (units ++ (path ++ l ∷ []))) (longer units path l)
    (mark_one marks (has (units ++ path)) (l ∷ []) 0 l (omega arith) refl inside (mark_none marks (has (units ++ path)) h))

free_has : (S : List Literal) (l : Literal) → IsFree S (var_of l) → has S l ≡ false
free_has S (Pos v) h = free_positive S v h
free_has S (Neg v) h = free_negative S v h

-- and marked no more
marked_less : (marks : List Bool) (units path : List Literal) (l : Literal) → index_of l < length marks → IsFree (units ++ path) (var_of l) → AreMarked marks (has (units ++ (path ++ l ∷ []))) → AreMarked (set marks (index_of l) false) (has (units ++ path))
marked_less marks units path l inside free h = record {
  marked = λ k b. ⊎_elim
      (λ (e : k ≡ index_of l).
      ap (λ (j : ℕ). get_or (set marks (index_of l) false) j false) e ∙ get_or-set_same marks (index_of l) false false inside
      ∙ sym (ap (λ (j : ℕ). has (units ++ path) (literal_of j)) e ∙ ap (has (units ++ path)) (literal_of-index_of l) ∙ free_has (units ++ path) l free))
      (λ (ne : k ≡ index_of l → ⊥).
      let other : same (literal_of k) l ≡ false = same_by_place (literal_of k) l ∙ ne_eqb _ _ (λ e. ne (sym (index_of-literal_of k) ∙ e)) in
      get_or-set_other marks (index_of l) k false false ne ∙ h.marked k (omega (arith, length-set marks (index_of l) false)) ∙ sym (longer units path l (literal_of k)) ∙ drop_last (has (units ++ path) (literal_of k)) (same (literal_of k) l) other)
      (cases_eq k (index_of l));
} where
  drop_last : (a b : Bool) → b ≡ false → (a || (b || false)) ≡ a
  drop_last true b e = refl
  drop_last false true e = e
  drop_last false false e = refl

-- one literal on
pub entered : (f : Cnf) (units : List Literal) (path : Cube) (l : Literal) (s t : Walk) → IsWalkAt f units path s → index_of l < length s.marks.items → t.places ≡ s.places → t.variables ≡ s.variables
    → t.level ≡ s.level + 1 → t.marks.items ≡ set s.marks.items (index_of l) true → AreTurned (length s.closed.items) (clauses_of s) l 0 s.level s.closed.items t.closed.items → length t.counts.items ≡ length s.counts.items
    → ((w : ℕ) → w < length s.counts.items → get_or t.counts.items w 0 ≡ open_count (length s.closed.items) (clauses_of s) t.closed.items w) → IsWalkAt f units (path ++ l ∷ []) t
entered f units path l s t h inside places variables level marks turned size counted =
    let rows : (i : ℕ) → i < length f.clauses → get_or t.closed.items i 0 ≡ closed_at units (path ++ l ∷ []) (clauses_of s i) =
    closed_more (length f.clauses) (clauses_of s) units path l s.closed.items t.closed.items (rw (← h.level, ← h.size) turned) (closed_by f units path s h) in
    record {
      vars = h.vars;
      few = h.few;
      within = h.within;
      rows = size ∙ h.rows;
      marks = omega (arith, ap (λ (m : List Bool). length m) marks, length-set s.marks.items (index_of l) true, h.marks);
      latest = rw places (h.latest ∙ ap (λ (n : ℕ). 2 * n) (sym size));
      size = turned.size ∙ h.size;
      indexed = rw places h.indexed;
      clauses = rw places h.clauses;
      inside = rw (places, size) h.inside;
      listed = rw variables h.listed;
      marked = rw marks (marked_more s.marks.items units path l inside h.marked);
      closed = λ i b. rows i b ∙ ap (closed_at units (path ++ l ∷ [])) (h.clauses i b);
      level = omega (arith, level, h.level, length-append path (l ∷ []));
      counted = λ w b. counted w (omega arith) ∙ ap (λ (n : ℕ). open_count n (clauses_of s) t.closed.items w) h.size ∙ stands_are f.clauses (clauses_of s) units (path ++ l ∷ []) t.closed.items w h.clauses rows;
    }

-- and back
pub left : (f : Cnf) (units : List Literal) (path : Cube) (l : Literal) (s t : Walk) → IsWalkAt f units (path ++ l ∷ []) s → IsFree (units ++ path) (var_of l) → index_of l < length s.marks.items → t.places ≡ s.places → t.variables ≡ s.variables
    → t.level + 1 ≡ s.level → t.marks.items ≡ set s.marks.items (index_of l) false → AreTurned (length s.closed.items) (clauses_of s) l t.level 0 s.closed.items t.closed.items → length t.counts.items ≡ length s.counts.items
    → ((w : ℕ) → w < length s.counts.items → get_or t.counts.items w 0 ≡ open_count (length s.closed.items) (clauses_of s) t.closed.items w) → IsWalkAt f units path t
left f units path l s t h free inside places variables level marks turned size counted =
    let here : t.level ≡ length path + 2 = omega (arith, level, h.level, length-append path (l ∷ [])) in
    let rows : (i : ℕ) → i < length f.clauses → get_or t.closed.items i 0 ≡ closed_at units path (clauses_of s i) =
    closed_less (length f.clauses) (clauses_of s) units path l s.closed.items t.closed.items (rw (← here, ← h.size) turned) (closed_by f units (path ++ l ∷ []) s h) in
    record {
      vars = h.vars;
      few = h.few;
      within = h.within;
      rows = size ∙ h.rows;
      marks = omega (arith, ap (λ (m : List Bool). length m) marks, length-set s.marks.items (index_of l) false, h.marks);
      latest = rw places (h.latest ∙ ap (λ (n : ℕ). 2 * n) (sym size));
      size = turned.size ∙ h.size;
      indexed = rw places h.indexed;
      clauses = rw places h.clauses;
      inside = rw (places, size) h.inside;
      listed = rw variables h.listed;
      marked = rw marks (marked_less s.marks.items units path l inside free h.marked);
      closed = λ i b. rows i b ∙ ap (closed_at units path) (h.clauses i b);
      level = here;
      counted = λ w b. counted w (omega arith) ∙ ap (λ (n : ℕ). open_count n (clauses_of s) t.closed.items w) h.size ∙ stands_are f.clauses (clauses_of s) units path t.closed.items w h.clauses rows;
    }

-- a literal of the formula's variables has its place
pub index_fits : (l : Literal) (vars n m : ℕ) → var_of l ≤ vars → n ≡ vars + 1 → m ≡ 2 * n → index_of l < m
index_fits (Pos v) vars n m h e x = omega arith
index_fits (Neg v) vars n m h e x = omega arith

-- the same, where the tables were lent
pub entered_by : (f : Cnf) (units : List Literal) (path : Cube) (l : Literal) (s t : Walk) (oc on nc nn : List ℕ) → IsWalkAt f units path s → index_of l < length s.marks.items → t.places ≡ s.places → t.variables ≡ s.variables
    → t.level ≡ s.level + 1 → t.marks.items ≡ set s.marks.items (index_of l) true → oc ≡ s.closed.items → on ≡ s.counts.items → t.closed.items ≡ nc → t.counts.items ≡ nn → AreTurned (length oc) (clauses_of s) l 0 s.level oc nc → length nn ≡ length on
    → ((w : ℕ) → w < length on → get_or nn w 0 ≡ open_count (length oc) (clauses_of s) nc w) → IsWalkAt f units (path ++ l ∷ []) t
entered_by f units path l s t oc on nc nn h inside places variables level marks olds oldn news newn turned size counted =
    entered f units path l s t h inside places variables level marks
    (rw (news, ← olds) turned)
    (rw (newn, ← oldn) size)
    (rw (newn, news, ← olds, ← oldn) counted)

pub left_by : (f : Cnf) (units : List Literal) (path : Cube) (l : Literal) (s t : Walk) (oc on nc nn : List ℕ) → IsWalkAt f units (path ++ l ∷ []) s → IsFree (units ++ path) (var_of l) → index_of l < length s.marks.items → t.places ≡ s.places → t.variables ≡ s.variables
    → t.level + 1 ≡ s.level → t.marks.items ≡ set s.marks.items (index_of l) false → oc ≡ s.closed.items → on ≡ s.counts.items → t.closed.items ≡ nc → t.counts.items ≡ nn → AreTurned (length oc) (clauses_of s) l t.level 0 oc nc → length nn ≡ length on
    → ((w : ℕ) → w < length on → get_or nn w 0 ≡ open_count (length oc) (clauses_of s) nc w) → IsWalkAt f units path t
left_by f units path l s t oc on nc nn h free inside places variables level marks olds oldn news newn turned size counted =
    left f units path l s t h free inside places variables level marks
    (rw (news, ← olds) turned)
    (rw (newn, ← oldn) size)
    (rw (newn, news, ← olds, ← oldn) counted)

-- ---- the choice

-- the variables of a walk are all that have a count
pub listed_at : (f : Cnf) (units : List Literal) (path : Cube) (s : Walk) → IsWalkAt f units path s → AreListed s.counts.items s.variables.items
listed_at f units path s h = record {
  inside = λ k b. let was = h.listed.inside k b in (was.0, omega (arith, was.1, h.rows));
  listed = λ w a b some. ⊎_elim
      (λ (none : stands_in f.clauses units w ≡ 0). let z = stands_less f.clauses units path w none in absurd (omega (arith, h.counted w b)))
      (λ (more : stands_in f.clauses units w ≡ 0 → ⊥). h.listed.listed w a (omega (arith, h.rows)) (omega arith))
      (cases_eq (stands_in f.clauses units w) 0);
}

-- the greatest count is the choice
pub choice_at : (f : Cnf) (units : List Literal) (path : Cube) (s : Walk) (r : Option ℕ) → IsWalkAt f units path s → IfSome r (IsGreatest s.marks.items s.counts.items (length s.counts.items - 1))
    → IfNone r ((w : ℕ) → 0 < w → w < length s.counts.items → IsUnmarked s.marks.items w → get_or s.counts.items w 0 ≡ 0) → Choice f (units ++ path) r
choice_at f units path s r h some none =
    let tables : AreTables f (units ++ path) s.marks.items s.counts.items = record {
      within = h.within;
      size = h.marks;
      room = omega (arith, h.rows);
      marked = h.marked;
      counted = h.counted;
    } in
    choice_is f (units ++ path) s.marks.items s.counts.items r tables some none

-- ---- where a walk begins

pub closed_push : (test : Literal → Bool) (clauses : List Clause) (i x : ℕ) (closed : List ℕ) → i < length clauses → x ≡ (if list_any test (get_or clauses i []) then 1 else 0)
    → IsClosedBy test (take i clauses) closed → IsClosedBy test (take (i + 1) clauses) (closed ++ x ∷ [])
closed_push test clauses i x closed below is h =
    let old = length-take-le i clauses (omega arith) in
    let new = length-take-le (i + 1) clauses (omega arith) in
    record {
      size = omega (arith, length-append closed (x ∷ []), h.size);
      level = λ k b. ⊎_elim
          (λ (lt : k < i).
          let same : get_or (take (i + 1) clauses) k [] ≡ get_or (take i clauses) k [] = get_or-take (i + 1) clauses k [] (omega arith) ∙ sym (get_or-take i clauses k [] lt) in
          rw (get_or_append_left closed (x ∷ []) 0 k (omega (arith, h.size)), same) (h.level k (omega arith)))
          (λ (ge : i ≤ k).
          let last : k ≡ length closed = omega (arith, h.size) in
          let here : get_or (closed ++ x ∷ []) k 0 ≡ x = ap (λ (j : ℕ). get_or (closed ++ x ∷ []) j 0) last ∙ get_or-append_seam closed x [] 0 in
          let clause : get_or (take (i + 1) clauses) k [] ≡ get_or clauses i [] = get_or-take (i + 1) clauses k [] (omega arith) ∙ ap (λ (j : ℕ). get_or clauses j []) (omega (arith, h.size)) in
          rw (here, clause) is)
          (cases_lt k i);
    }

pub closed_none : (test : Literal → Bool) (clauses : List Clause) → IsClosedBy test (take 0 clauses) []
closed_none test clauses = record { size = refl; level = λ k b. absurd (omega arith) }

within_more : (n m : ℕ) (clauses : List Clause) → n ≤ m → AreWithin n clauses → AreWithin m clauses
within_more n m clauses le h = All-weaker (All (IsWithin n)) (All (IsWithin m)) (λ C w. All-weaker (IsWithin n) (IsWithin m) (λ l i. (i.0, omega (arith, i.1))) C w) clauses h

-- a walk at the empty trail
pub begins : (F : Cnf) (o : Opening) (rows : ℕ) (s : Walk) → IsFormula F → length o.pairs ≤ 64 → rows ≡ F.vars + length o.pairs + 1
    → ArePlaced F.clauses (length F.clauses) s.places.places.items s.places.starts.items → AreChained s.places.places.items s.places.latest.items
    → All (λ e. var_of e.literal < rows) s.places.places.items → length s.places.latest.items ≡ 2 * rows → AreMarked s.marks.items (has (from_start F o)) → length s.marks.items ≡ 2 * rows
    → IsClosedBy (has (from_start F o)) F.clauses s.closed.items → ((w : ℕ) → w < rows → get_or s.counts.items w 0 ≡ stands_in F.clauses (from_start F o) w) → length s.counts.items ≡ rows
    → AreListed s.counts.items s.variables.items → s.level ≡ 2 → IsWalkAt (widened F o) (from_start F o) [] s
begins F o rows s valid few number placed chained within latest marked marks closed counted size listed level =
    let units : List Literal = from_start F o in
    let all : units ++ [] ≡ units = append-nil units in
    record {
      vars = omega (arith, valid.vars);
      few = valid.clauses;
      within = within_more F.vars (F.vars + length o.pairs) F.clauses (omega arith) valid.within;
      rows = size ∙ number;
      marks = omega arith;
      latest = omega arith;
      size = closed.size;
      indexed = indexed F.clauses s.places.places.items s.places.starts.items s.places.latest.items placed chained;
      clauses = λ i b. (placed.here i b).literals;
      inside = rw size within;
      listed = record {
        inside = λ k b. let was = listed.inside k b in (was.0, omega (arith, was.1));
        listed = λ w a b some. listed.listed w a (omega arith) (omega (arith, counted w (omega arith)));
      };
      marked = rw all marked;
      closed = λ i b. closed.level i b ∙ at_start (list_any (has units) (get_or F.clauses i []));
      level = level;
      counted = λ w b. rw all (counted w (omega arith));
    } where
      at_start : (b : Bool) → ◌≡◌ {A = ℕ} (if b then 1 else 0) (if not b then 0 else 1)
      at_start true = refl
      at_start false = refl
