-- The joined fragments of the first leaves stay so, whatever changes after these leaves.
use Rattle.std.proofs.Common.{◌≡◌, ◌≢◌, ℕ, zero, suc, ◌+◌, ◌<◌, ◌≤◌, List, [], ◌∷◌, length, take, get_or, Option, Some, None, Result, Ok, Err, IfOk, refl, sym, ap, ◌∙◌, subst, arith, inl, inr}
use Rattle.std.specs.Prelude.{position, slice_get, slice_set}
use Rattle.std.proofs.lemmas.Bool.{cases_lt}
use Rattle.std.proofs.lemmas.List.{take-set-le}
use Rattle.std.proofs.lemmas.List.Quantifiers.{position-Some}
use Rattle.std.proofs.lemmas.Option.{get_or_from_slice_get}
use Rattle.dimacs.specs.logic.Cnf.{Cnf}
use Rattle.icnf.specs.Leaves.{Cube, branched}
use Rattle.cube_split.specs.Definitions.{base_with}
use Rattle.cube_split.specs.declared.pair.Pair.{Pair}
use Rattle.proof_join.specs.Fronts.{Front, IsFrontOf, appended}
use Rattle.proof_join.specs.Steps.{steps_in}
use Rattle.proof_join.specs.declared.fault.JoinFault.{JoinFault}
use Rattle.proof_join.proofs.FrontLemmas.{front_next, front_count}
use Rattle.coordinator_core.specs.Coordinator.{is_open}
use Rattle.coordinator_core.specs.Splits.{doubled}
use Rattle.coordinator_core.specs.inner.Fronts.{IsFrontOfTree, IsJoined}
use Rattle.coordinator_core.specs.inner.LeafTable.{LeafRows}
use Rattle.coordinator_core.specs.declared.job_state.LeafState.{LeafState}
use Rattle.coordinator_core.specs.declared.job_state.LeafState.TheVariants.{Open, Closed}
use Rattle.coordinator_core.proofs.TableLemmas.{open_leaf}

-- ---- lists that change after a prefix
slice_get_set : {X : Type 0} (xs : List X) (i k : ℕ) (x : X) → k < i → slice_get (slice_set xs i x) k ≡ slice_get xs k
slice_get_set [] i k x h = refl
slice_get_set (y ∷ xs) zero k x h = absurd (omega arith)
slice_get_set (y ∷ xs) (suc i) zero x h = refl
slice_get_set (y ∷ xs) (suc i) (suc k) x h = slice_get_set xs i k x (omega arith)

slice_get_doubled : {X : Type 0} (xs : List X) (i k : ℕ) (x : X) → k < i → slice_get (doubled i x xs) k ≡ slice_get xs k
slice_get_doubled [] i k x h = refl
slice_get_doubled (y ∷ xs) zero k x h = absurd (omega arith)
slice_get_doubled (y ∷ xs) (suc i) zero x h = refl
slice_get_doubled (y ∷ xs) (suc i) (suc k) x h = slice_get_doubled xs i k x (omega arith)

take_doubled : {X : Type 0} (k : ℕ) (xs : List X) (i : ℕ) (x : X) → k ≤ i → take k (doubled i x xs) ≡ take k xs
take_doubled zero xs i x h = refl
take_doubled (suc k) [] i x h = refl
take_doubled (suc k) (y ∷ xs) zero x h = absurd (omega arith)
take_doubled (suc k) (y ∷ xs) (suc i) x h = ap (λ zs. y ∷ zs) (take_doubled k xs i x (omega arith))

take_branched : (k : ℕ) (cubes : List Cube) (i v : ℕ) → k ≤ i → take k (branched i v cubes) ≡ take k cubes
take_branched zero cubes i v h = refl
take_branched (suc k) [] i v h = refl
take_branched (suc k) (q ∷ cubes) zero v h = absurd (omega arith)
take_branched (suc k) (q ∷ cubes) (suc i) v h = ap (λ (cs : List Cube). q ∷ cs) (take_branched k cubes i v (omega arith))

length_branched : (cubes : List Cube) (i v : ℕ) → length cubes ≤ length (branched i v cubes)
length_branched [] i v = omega arith
length_branched (q ∷ cubes) zero v = omega arith
length_branched (q ∷ cubes) (suc i) v = let up = length_branched cubes i v in omega arith

-- a leaf that is not closed comes after those that are joined
module _ (F : Cnf) (pairs : List Pair) (tree : List Cube) (leaves : List LeafState) (fragments : List (List ℕ)) where
  behind : (f : Front) (leaf : ℕ) → IsFrontOfTree F pairs tree leaves fragments f → get_or leaves leaf Closed ≢ Closed → f.count ≤ leaf
  behind f leaf h unclosed = elim (cases_lt leaf f.count) [
    | inl before ↦ absurd (unclosed (get_or_from_slice_get leaves leaf Closed Closed (h.closed leaf before)))
    | inr after ↦ after
  ]

  front_set : (f : Front) (leaf : ℕ) (l : LeafState) (text : List ℕ) → get_or leaves leaf Closed ≢ Closed → IsFrontOfTree F pairs tree leaves fragments f
      → IsFrontOfTree F pairs tree (slice_set leaves leaf l) (slice_set fragments leaf text) f
  front_set f leaf l text unclosed h =
      let after = behind f leaf h unclosed in
      record {
        inside = h.inside;
        closed = λ i below. slice_get_set leaves leaf i l (omega arith) ∙ h.closed i below;
        front = subst (λ (ts : List (List ℕ)). IsFrontOf F pairs (take f.count tree) ts f) (sym (take-set-le f.count fragments leaf text after)) h.front;
      }

  front_state : (f : Front) (leaf : ℕ) (l : LeafState) → get_or leaves leaf Closed ≢ Closed → IsFrontOfTree F pairs tree leaves fragments f → IsFrontOfTree F pairs tree (slice_set leaves leaf l) fragments f
  front_state f leaf l unclosed h =
      let after = behind f leaf h unclosed in
      record { inside = h.inside; closed = λ i below. slice_get_set leaves leaf i l (omega arith) ∙ h.closed i below; front = h.front }

  front_split : (f : Front) (leaf v : ℕ) → get_or leaves leaf Closed ≢ Closed → IsFrontOfTree F pairs tree leaves fragments f
      → IsFrontOfTree F pairs (branched leaf v tree) (doubled leaf Open leaves) (doubled leaf [] fragments) f
  front_split f leaf v unclosed h =
      let after = behind f leaf h unclosed in
      let inside = h.inside in
      let up = length_branched tree leaf v in
      record {
        inside = omega arith;
        closed = λ i below. slice_get_doubled leaves leaf i Open (omega arith) ∙ h.closed i below;
        front = subst (λ (cs : List Cube). IsFrontOf F pairs cs (take f.count (doubled leaf [] fragments)) f) (sym (take_branched f.count tree leaf v after))
            (subst (λ (ts : List (List ℕ)). IsFrontOf F pairs (take f.count tree) ts f) (sym (take_doubled f.count fragments leaf [] after)) h.front);
      }

  set_joined : (o : Option Front) (leaf : ℕ) (l : LeafState) (text : List ℕ) → get_or leaves leaf Closed ≢ Closed → IsJoined F pairs tree leaves fragments o
      → IsJoined F pairs tree (slice_set leaves leaf l) (slice_set fragments leaf text) o
  set_joined None leaf l text unclosed h = tt
  set_joined (Some f) leaf l text unclosed h = front_set f leaf l text unclosed h

  state_joined : (o : Option Front) (leaf : ℕ) (l : LeafState) → get_or leaves leaf Closed ≢ Closed → IsJoined F pairs tree leaves fragments o → IsJoined F pairs tree (slice_set leaves leaf l) fragments o
  state_joined None leaf l unclosed h = tt
  state_joined (Some f) leaf l unclosed h = front_state f leaf l unclosed h

  split_joined : (o : Option Front) (leaf v : ℕ) → get_or leaves leaf Closed ≢ Closed → IsJoined F pairs tree leaves fragments o
      → IsJoined F pairs (branched leaf v tree) (doubled leaf Open leaves) (doubled leaf [] fragments) o
  split_joined None leaf v unclosed h = tt
  split_joined (Some f) leaf v unclosed h = front_split f leaf v unclosed h

-- ---- the same over a table of leaves
module _ (F : Cnf) (pairs : List Pair) (tree : List Cube) (rows new : LeafRows) (o : Option Front) (leaf : ℕ) where
  -- a leaf is closed, or given again
  pub rows_set : (l : LeafState) (text : List ℕ) → new ≡ record rows { states = slice_set rows.states leaf l; fragments = slice_set rows.fragments leaf text } → get_or rows.states leaf Closed ≢ Closed
      → IsJoined F pairs tree rows.states rows.fragments o → IsJoined F pairs tree new.states new.fragments o
  rows_set l text e unclosed h =
      subst (λ (r : LeafRows). IsJoined F pairs tree r.states r.fragments o) (sym e) (set_joined F pairs tree rows.states rows.fragments o leaf l text unclosed h)

  -- it is opened, or given to a worker
  pub rows_state : (l : LeafState) → new ≡ record rows { states = slice_set rows.states leaf l } → get_or rows.states leaf Closed ≢ Closed
      → IsJoined F pairs tree rows.states rows.fragments o → IsJoined F pairs tree new.states new.fragments o
  rows_state l e unclosed h =
      subst (λ (r : LeafRows). IsJoined F pairs tree r.states r.fragments o) (sym e) (state_joined F pairs tree rows.states rows.fragments o leaf l unclosed h)

  pub rows_given : (l : LeafState) → new ≡ record rows { states = slice_set rows.states leaf l } → position is_open rows.states ≡ Some leaf
      → IsJoined F pairs tree rows.states rows.fragments o → IsJoined F pairs tree new.states new.fragments o
  rows_given l e first h = rows_state l e (λ closed_there. open_apart (open_leaf (get_or rows.states leaf Closed) (position-Some is_open rows.states leaf Closed first).1) closed_there) h
    where
      open_apart : get_or rows.states leaf Closed ≡ Open → get_or rows.states leaf Closed ≡ Closed → ⊥
      open_apart a b = let both : Open ≡ Closed = sym a ∙ b in cc

  -- it is split
  pub rows_split : (v : ℕ) (branches : List Cube) → new ≡ record { states = doubled leaf Open rows.states; fragments = doubled leaf [] rows.fragments } → branches ≡ branched leaf v tree → get_or rows.states leaf Closed ≢ Closed
      → IsJoined F pairs tree rows.states rows.fragments o → IsJoined F pairs branches new.states new.fragments o
  rows_split v branches e tree_is unclosed h =
      subst (λ (cs : List Cube). IsJoined F pairs cs new.states new.fragments o) (sym tree_is)
      (subst (λ (r : LeafRows). IsJoined F pairs (branched leaf v tree) r.states r.fragments o) (sym e) (split_joined F pairs tree rows.states rows.fragments o leaf v unclosed h))

  -- what was held when a leaf was closed
  pub held_joined : (l : LeafState) (text : List ℕ) (held : Option Front) (fragments : List (List ℕ)) → new ≡ record rows { states = slice_set rows.states leaf l; fragments = slice_set rows.fragments leaf text }
      → get_or rows.states leaf Closed ≢ Closed → held ≡ o → fragments ≡ new.fragments → IsJoined F pairs tree rows.states rows.fragments o → IsJoined F pairs tree new.states fragments held
  held_joined l text held fragments e unclosed same are h =
      subst (λ (ts : List (List ℕ)). IsJoined F pairs tree new.states ts held) (sym are) (subst (IsJoined F pairs tree new.states new.fragments) (sym same) (rows_set l text e unclosed h))

-- nothing is joined
pub none_joined : (F : Cnf) (pairs : List Pair) (tree : List Cube) (leaves : List LeafState) (fragments : List (List ℕ)) (o : Option Front) → o ≡ None → IsJoined F pairs tree leaves fragments o
none_joined F pairs tree leaves fragments o e = subst (IsJoined F pairs tree leaves fragments) (sym e) tt

-- the leaves that are joined
pub some_joined_of : (F : Cnf) (pairs : List Pair) (tree : List Cube) (leaves : List LeafState) (fragments : List (List ℕ)) (o : Option Front) (f : Front) → o ≡ Some f → IsJoined F pairs tree leaves fragments o → IsFrontOfTree F pairs tree leaves fragments f
some_joined_of F pairs tree leaves fragments o f e h = let g : IsJoined F pairs tree leaves fragments (Some f) = subst (IsJoined F pairs tree leaves fragments) e h in g

-- ---- what calls return
pub at_ok : {A E : Type 0} (r : Result A E) (x : A) (P : A → Type 0) → r ≡ Ok x → IfOk r P → P x
at_ok (Ok y) x P e h = let same : y ≡ x = cc in subst P same h
at_ok (Err y) x P e h = absurd cc

pub begun_joined : (F : Cnf) (pairs : List Pair) (tree : List Cube) (leaves : List LeafState) (fragments : List (List ℕ)) (r : Result Front JoinFault) → IfOk r (IsFrontOf F pairs [] []) → IfOk r (IsFrontOfTree F pairs tree leaves fragments)
begun_joined F pairs tree leaves fragments (Err e) h = tt
begun_joined F pairs tree leaves fragments (Ok f) h =
    let none : f.count ≡ 0 = h.count in
    record {
      inside = omega arith;
      closed = λ i below. absurd (omega arith);
      front = subst (λ (k : ℕ). IsFrontOf F pairs (take k tree) (take k fragments) f) (sym none) h;
    }

pub begun_count : (F : Cnf) (pairs : List Pair) (r : Result Front JoinFault) → IfOk r (IsFrontOf F pairs [] []) → IfOk r (λ j. j.count ≡ 0)
begun_count F pairs (Err e) h = tt
begun_count F pairs (Ok f) h = h.count

-- the fragment of the next leaf is appended
pub next_joined : (F : Cnf) (pairs : List Pair) (tree : List Cube) (leaves : List LeafState) (fragments : List (List ℕ)) (f : Front) (q : Cube) (text : List ℕ) (place : ℕ) (r : Result Front JoinFault)
    → IsFrontOfTree F pairs tree leaves fragments f → f.count ≡ place → place < length tree → place < length fragments → slice_get leaves place ≡ Some Closed → q ≡ get_or tree place [] → text ≡ get_or fragments place []
    → IfOk r (λ j. j ≡ appended f q (steps_in text)) → IfOk r (IsFrontOfTree F pairs tree leaves fragments)
next_joined F pairs tree leaves fragments f q text place (Err e) h at inside below closed_there q_is text_is is = tt
next_joined F pairs tree leaves fragments f q text place (Ok new) h at inside below closed_there q_is text_is is =
    let here : IsFrontOf F pairs (take place tree) (take place fragments) f = subst (λ (k : ℕ). IsFrontOf F pairs (take k tree) (take k fragments) f) at h.front in
    let now : IsFrontOf F pairs (take (place + 1) tree) (take (place + 1) fragments) new = front_next F pairs tree fragments place f new q text here inside below q_is text_is is in
    let count : new.count ≡ place + 1 = front_count F pairs tree fragments (place + 1) new now (omega arith) in
    record {
      inside = omega arith;
      closed = λ i low. elim (cases_lt i place) [
        | inl before ↦ h.closed i (omega arith)
        | inr after ↦ (let same : place ≡ i = omega arith in subst (λ (k : ℕ). slice_get leaves k ≡ Some Closed) same closed_there)
      ];
      front = subst (λ (k : ℕ). IsFrontOf F pairs (take k tree) (take k fragments) new) (sym count) now;
    }

pub joined_base : (F : Cnf) (pairs : List Pair) (tree : List Cube) (leaves : List LeafState) (fragments : List (List ℕ)) (r : Result Front JoinFault) → IfOk r (IsFrontOfTree F pairs tree leaves fragments)
    → IfOk r (λ j. j.base ≡ length (base_with F pairs).clauses)
joined_base F pairs tree leaves fragments (Err e) h = tt
joined_base F pairs tree leaves fragments (Ok f) h = h.front.base
