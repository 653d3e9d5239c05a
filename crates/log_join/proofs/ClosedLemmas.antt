-- A leaf is closed exactly if one of the accepted logs closes it.
use Rattle.std.proofs.Common.{◌≡◌, ℕ, ◌+◌, ◌≤◌, inl, inr, ◌⊎◌, Bool, true, false, cond, List, [], ◌∷◌, ◌++◌, length, map, Option, Some, None, refl, sym, ◌∙◌, ap, subst, arith}
use Rattle.std.specs.Prelude.{fold, is_some}
use Rattle.std.specs.List.{Contains}
use Rattle.std.proofs.lemmas.Bool.{true≢false}
use Rattle.std.proofs.lemmas.List.Elements.{All-head, All-tail, Contains-append_cases, Contains-append_left, Contains-append_right}
use Rattle.dimacs.specs.logic.ClauseMap.{ClauseMap, map_of}
use Rattle.dimacs.specs.logic.Cnf.{Cnf}
use Rattle.dimacs.specs.logic.Literal.{negation}
use Rattle.dimacs.proofs.Members.{Contains-head, Contains-cons, Contains-cons_cases, Contains-nil}
use Rattle.icnf.specs.Leaves.{Cube, Leaves}
use Rattle.icnf.specs.Leaves as icnf
use Rattle.lrat_text.specs.Log.{IsLog, additions}
use Rattle.lrat_text.specs.Runs.{after_steps, top_of}
use Rattle.lrat_text.specs.declared.step.Step.{Step}
use Rattle.proof_join.specs.RenumberedSteps.{behind}
use Rattle.proof_join.proofs.MapLemmas.{between_formula}
use Rattle.log_join.specs.ClosedLeaves.{Numbered, Leaf, is_closed, closed_by, can_close, settled, all_settled, closes}
use Rattle.log_join.specs.JoinedLogs.{Handed, Ended, leaf, fork, ends, AreFree, forks, lemmas_of, left_by, JoinState, nothing, with_log, joined_so_far, IsJoinOf, AreLogs, ClosesLeaf, IsClosedBy}
use Rattle.log_join.proofs.SettleLemmas.{IsClosedIn, all_stay_closed, one_closes, from_map, from_settled}
use Rattle.log_join.proofs.LiveLemmas.{live_has, live_only, IsLive}
use Rattle.log_join.proofs.PlacedLemmas.{counted_top, log_between}

-- ---- a closed leaf is closed by one of the logs
module _ (M : ClauseMap) where
  -- what a lemma among those of a log closes
  from_lemma : (F : Cnf) (t : ℕ) (log : List Step) (k : Leaf) (l : Numbered) → Contains (lemmas_of F t log) l → closes k.cube l.clause ≡ true → ClosesLeaf F k.cube log
  from_lemma F t log k l i e =
      let r : IsLive (behind (length F.clauses) t) (after_steps (map_of F) log) (length F.clauses + 1) (additions log) l = live_only (behind (length F.clauses) t) (after_steps (map_of F) log) (length F.clauses + 1) (additions log) l i in
      let a = r.low in
      record { id = r.number; clause = l.clause; own = omega arith; lives = r.lives; ends = e }

-- a leaf among those after lemmas: as it was, or closed by one of them
settled_from : (leaves : List Leaf) (lemmas : List Numbered) (k : Leaf) → Contains (all_settled leaves lemmas) k
    → Contains leaves k ⊎ ((l : Numbered) × Contains lemmas l × (closes k.cube l.clause ≡ true))
settled_from leaves [] k i = inl i
settled_from leaves (l ∷ lemmas) k i = elim (settled_from (settled l leaves) lemmas k i) [
  | inr c ↦ inr (c.0, Contains-cons l c.0 lemmas c.1, c.2)
  | inl before ↦ elim (from_settled l leaves k before) [
    | inl old ↦ inl old
    | inr c ↦ inr (l, Contains-head l lemmas, c.ends)
  ]
]

left_from : (F : Cnf) (g : JoinState) (h : Handed) (k : Leaf) → Contains (with_log F g h).leaves k → Contains g.leaves k ⊎ ((h.accepted ≡ true) × ClosesLeaf F k.cube h.steps)
left_from F g h k i = at h.accepted refl i
  where
    at : (b : Bool) → h.accepted ≡ b → Contains (left_by b g.leaves (lemmas_of F g.top h.steps)) k → Contains g.leaves k ⊎ ((h.accepted ≡ true) × ClosesLeaf F k.cube h.steps)
    at false e j = inl j
    at true e j = elim (settled_from g.leaves (lemmas_of F g.top h.steps) k j) [
      | inl old ↦ inl old
      | inr c ↦ inr (e, from_lemma (map_of F) F g.top h.steps k c.0 c.1 c.2)
    ]

closed_from : (F : Cnf) (g : JoinState) (logs : List Handed) (k : Leaf) → Contains (fold (with_log F) g logs).leaves k → Contains g.leaves k ⊎ IsClosedBy F logs k.cube
closed_from F g [] k i = inl i
closed_from F g (h ∷ logs) k i = elim (closed_from F (with_log F g h) logs k i) [
  | inr c ↦ inr (record { log = c.log; one = Contains-cons h c.log logs c.one; accepted = c.accepted; closes = c.closes })
  | inl before ↦ elim (left_from F g h k before) [
    | inl old ↦ inl old
    | inr c ↦ inr (record { log = h; one = Contains-head h logs; accepted = c.0; closes = c.1 })
  ]
]

pub closed_only : (F : Cnf) (cubes : List Cube) (logs : List Handed) (k : Leaf) → Contains (joined_so_far F cubes logs).leaves k → is_closed k ≡ true → IsClosedBy F logs k.cube
closed_only F cubes logs k i e = elim (closed_from F (nothing F cubes) logs k i) [
  | inr c ↦ c
  | inl first ↦
      let r = from_map (λ (q : Cube). record { cube = q; closing = None }) cubes k first in
      let open_leaf : is_closed k ≡ false = ap (λ (z : Leaf). is_closed z) (sym r.2) in
      absurd (true≢false (sym e ∙ open_leaf))
]

-- ---- and one that a log closes is closed
has_lemma : (F : Cnf) (t : ℕ) (log : List Step) (q : Cube) → IsLog F log → ClosesLeaf F q log → (l : Numbered) × Contains (lemmas_of F t log) l × (closes q l.clause ≡ true)
has_lemma F t log q is_log c =
    let m : ℕ = length F.clauses in
    let up : c.id ≤ top_of m log = (log_between m (map_of F) m log is_log (between_formula F) c.id c.clause c.lives).1 in
    let top : top_of m log ≡ m + additions log = counted_top m (map_of F) m log is_log in
    let own = c.own in (
      record { id = behind m t c.id; clause = c.clause },
      live_has (behind m t) (after_steps (map_of F) log) (m + 1) (additions log) c.id c.clause (omega arith) (omega arith) c.lives,
      c.ends,
    )

left_stays : (F : Cnf) (g : JoinState) (h : Handed) (q : Cube) → IsClosedIn g.leaves q → IsClosedIn (with_log F g h).leaves q
left_stays F g h q c = at h.accepted
  where
    at : (b : Bool) → IsClosedIn (left_by b g.leaves (lemmas_of F g.top h.steps)) q
    at false = c
    at true = all_stay_closed g.leaves (lemmas_of F g.top h.steps) q c

log_closes : (F : Cnf) (g : JoinState) (h : Handed) (q : Cube) → IsLog F h.steps → h.accepted ≡ true → ClosesLeaf F q h.steps → IsClosedIn (with_log F g h).leaves q
log_closes F g h q is_log accepted c =
    let l = has_lemma F g.top h.steps q is_log c in
    subst (λ b. IsClosedIn (left_by b g.leaves (lemmas_of F g.top h.steps)) q) (sym accepted) (one_closes g.leaves (lemmas_of F g.top h.steps) q l.0 l.1 l.2)

logs_stay : (F : Cnf) (g : JoinState) (logs : List Handed) (q : Cube) → IsClosedIn g.leaves q → IsClosedIn (fold (with_log F) g logs).leaves q
logs_stay F g [] q c = c
logs_stay F g (h ∷ logs) q c = logs_stay F (with_log F g h) logs q (left_stays F g h q c)

logs_close : (F : Cnf) (g : JoinState) (logs : List Handed) (q : Cube) → AreLogs F logs → (h : Handed) → Contains logs h → h.accepted ≡ true → ClosesLeaf F q h.steps → IsClosedIn (fold (with_log F) g logs).leaves q
logs_close F g [] q are h i a c = absurd (Contains-nil h i)
logs_close F g (x ∷ logs) q are h i a c = elim (Contains-cons_cases x h logs i) [
  | inl s ↦ logs_stay F (with_log F g x) logs q
      (log_closes F g x q (All-head (λ (z : Handed). IsLog F z.steps) x logs are) (ap (λ (z : Handed). z.accepted) s ∙ a) (subst (λ (z : Handed). ClosesLeaf F q z.steps) (sym s) c))
  | inr later ↦ logs_close F (with_log F g x) logs q (All-tail (λ (z : Handed). IsLog F z.steps) x logs are) h later a c
]

pub closed_all : (F : Cnf) (cubes : List Cube) (logs : List Handed) (k : Leaf) → AreLogs F logs → Contains (joined_so_far F cubes logs).leaves k → IsClosedBy F logs k.cube → is_closed k ≡ true
closed_all F cubes logs k are i c = logs_close F (nothing F cubes) logs k.cube are c.log c.one c.accepted c.closes k i refl

-- ---- the leaves keep their cubes
turned_cube : (l : Numbered) (k : Leaf) → (closed_by l k).cube ≡ k.cube
turned_cube l k = at (can_close l k)
  where
    at : (b : Bool) → (cond {A = Leaf} b (record { cube = k.cube; closing = Some l }) k).cube ≡ k.cube
    at true = refl
    at false = refl

settled_cubes : (l : Numbered) (leaves : List Leaf) → map (λ (k : Leaf). k.cube) (settled l leaves) ≡ map (λ (k : Leaf). k.cube) leaves
settled_cubes l [] = refl
settled_cubes l (k ∷ leaves) = ap (λ (q : Cube). q ∷ map (λ (z : Leaf). z.cube) (settled l leaves)) (turned_cube l k) ∙ ap (λ (qs : List Cube). k.cube ∷ qs) (settled_cubes l leaves)

all_settled_cubes : (leaves : List Leaf) (lemmas : List Numbered) → map (λ (k : Leaf). k.cube) (all_settled leaves lemmas) ≡ map (λ (k : Leaf). k.cube) leaves
all_settled_cubes leaves [] = refl
all_settled_cubes leaves (l ∷ lemmas) = all_settled_cubes (settled l leaves) lemmas ∙ settled_cubes l leaves

logs_cubes : (F : Cnf) (g : JoinState) (logs : List Handed) → map (λ (k : Leaf). k.cube) (fold (with_log F) g logs).leaves ≡ map (λ (k : Leaf). k.cube) g.leaves
logs_cubes F g [] = refl
logs_cubes F g (h ∷ logs) = logs_cubes F (with_log F g h) logs ∙ at h.accepted
  where
    at : (b : Bool) → map (λ (k : Leaf). k.cube) (left_by b g.leaves (lemmas_of F g.top h.steps)) ≡ map (λ (k : Leaf). k.cube) g.leaves
    at false = refl
    at true = all_settled_cubes g.leaves (lemmas_of F g.top h.steps)

nothing_cubes : (cubes : List Cube) → map (λ (k : Leaf). k.cube) (map (λ (q : Cube). record { cube = q; closing = None }) cubes) ≡ cubes
nothing_cubes [] = refl
nothing_cubes (q ∷ cubes) = ap (λ (qs : List Cube). q ∷ qs) (nothing_cubes cubes)

pub gathered_cubes : (F : Cnf) (cubes : List Cube) (logs : List Handed) → map (λ (k : Leaf). k.cube) (joined_so_far F cubes logs).leaves ≡ cubes
gathered_cubes F cubes logs = logs_cubes F (nothing F cubes) logs ∙ nothing_cubes cubes

-- ---- the tree of leaves that are all closed
split_map : {X Y : Type 0} (f : X → Y) (xs : List X) (a b : List Y) → map f xs ≡ a ++ b → (ys : List X) × (zs : List X) × (xs ≡ ys ++ zs) × (map f ys ≡ a) × (map f zs ≡ b)
split_map f xs [] b e = ([], xs, refl, refl, e)
split_map f [] (y ∷ a) b e = absurd cc
split_map {X} {Y} f (x ∷ xs) (y ∷ a) b e =
    let r = split_map f xs a b (same_tail (f x) y (map f xs) (a ++ b) e) in
    (x ∷ r.0, r.1, ap (λ (zs : List X). x ∷ zs) r.2, ap (λ (z : Y). z ∷ map f r.0) (same_first (f x) y (map f xs) (a ++ b) e) ∙ ap (λ (zs : List Y). y ∷ zs) r.3, r.4)
  where
    same_tail : {Z : Type 0} (u v : Z) (us vs : List Z) → ◌≡◌ {A = List Z} (u ∷ us) (v ∷ vs) → us ≡ vs
    same_tail u v us vs h = cc

    same_first : {Z : Type 0} (u v : Z) (us vs : List Z) → ◌≡◌ {A = List Z} (u ∷ us) (v ∷ vs) → u ≡ v
    same_first u v us vs h = cc

pub record IsEndedAs (path : Cube) (leaves : List Leaf) : Type 0 where
  pub tree : Ended
  pub free : AreFree path tree
  pub leaves_are : ends path tree ≡ leaves

one_leaf : (path : Cube) (leaves : List Leaf) → map (λ (k : Leaf). k.cube) leaves ≡ path ∷ [] → ((k : Leaf) → Contains leaves k → is_closed k ≡ true) → IsEndedAs path leaves
one_leaf path [] e h = absurd cc
one_leaf path (k ∷ x ∷ leaves) e h = absurd cc
one_leaf path (k ∷ []) e h = at k.closing refl (h k (Contains-head k []))
  where
    same_cube : k.cube ≡ path
    same_cube = cc

    at : (o : Option Numbered) → k.closing ≡ o → is_some o ≡ true → IsEndedAs path (k ∷ [])
    at None f some = absurd (true≢false (sym some))
    at (Some l) f some = record {
      tree = leaf l.id l.clause;
      free = tt;
      leaves_are = ap (λ (o : Option Numbered). record { cube = path; closing = o } ∷ []) (sym f) ∙ ap (λ (q : Cube). record { cube = q; closing = k.closing } ∷ []) (sym same_cube);
    }

pub all_ended : {path : Cube} {cubes : List Cube} → Leaves path cubes → (leaves : List Leaf) → map (λ (k : Leaf). k.cube) leaves ≡ cubes → ((k : Leaf) → Contains leaves k → is_closed k ≡ true) → IsEndedAs path leaves
all_ended (icnf.leaf {path = path}) leaves e h = one_leaf path leaves e h
all_ended (icnf.fork {path = path} {left = a} {right = b} x free first second) leaves e h =
    let r = split_map (λ (k : Leaf). k.cube) leaves a b e in
    let one = all_ended first r.0 r.3 (λ k i. h k (subst (λ (ks : List Leaf). Contains ks k) (sym r.2) (Contains-append_left r.0 r.1 k i))) in
    let two = all_ended second r.1 r.4 (λ k i. h k (subst (λ (ks : List Leaf). Contains ks k) (sym r.2) (Contains-append_right r.0 r.1 k i))) in
    record {
      tree = fork x one.tree two.tree;
      free = (free, one.free, two.free);
      leaves_are = ap (λ (ks : List Leaf). ks ++ ends (path ++ negation x ∷ []) two.tree) one.leaves_are ∙ ap (λ (ks : List Leaf). r.0 ++ ks) two.leaves_are ∙ sym r.2;
    }

-- ---- logs that close every leaf can be gathered
in_cubes : (leaves : List Leaf) (k : Leaf) → Contains leaves k → Contains (map (λ (z : Leaf). z.cube) leaves) k.cube
in_cubes [] k i = absurd (Contains-nil k i)
in_cubes (x ∷ leaves) k i = elim (Contains-cons_cases x k leaves i) [
  | inl s ↦ subst (λ (z : Leaf). Contains (map (λ (y : Leaf). y.cube) (x ∷ leaves)) z.cube) s (Contains-head x.cube (map (λ (y : Leaf). y.cube) leaves))
  | inr later ↦ Contains-cons x.cube k.cube (map (λ (y : Leaf). y.cube) leaves) (in_cubes leaves k later)
]

pub gathered_some : (F : Cnf) (cubes : List Cube) (logs : List Handed) → Leaves [] cubes → AreLogs F logs → ((q : Cube) → Contains cubes q → IsClosedBy F logs q)
    → (steps : List Step) × IsJoinOf F cubes logs steps
gathered_some F cubes logs tree are closed =
    let g : JoinState = joined_so_far F cubes logs in
    let same_cubes : map (λ (k : Leaf). k.cube) g.leaves ≡ cubes = gathered_cubes F cubes logs in
    let e = all_ended tree g.leaves same_cubes (λ k i. closed_all F cubes logs k are i (closed k.cube (subst (λ (qs : List Cube). Contains qs k.cube) same_cubes (in_cubes g.leaves k i)))) in
    (g.steps ++ (forks [] g.top e.tree).steps, record { tree = e.tree; free = e.free; leaves_are = e.leaves_are; is = refl })

-- and only those
ends_closed : (path : Cube) (tree : Ended) (k : Leaf) → Contains (ends path tree) k → is_closed k ≡ true
ends_closed path (leaf id C) k i = elim (Contains-cons_cases (record { cube = path; closing = Some (record { id = id; clause = C }) }) k [] i) [
  | inl s ↦ ap (λ (z : Leaf). is_closed z) (sym s)
  | inr z ↦ absurd (Contains-nil k z)
]
ends_closed path (fork x left right) k i = elim (Contains-append_cases (ends (path ++ x ∷ []) left) (ends (path ++ negation x ∷ []) right) k i) [
  | inl j ↦ ends_closed (path ++ x ∷ []) left k j
  | inr j ↦ ends_closed (path ++ negation x ∷ []) right k j
]

pub gathered_only : (F : Cnf) (cubes : List Cube) (logs : List Handed) (steps : List Step) → IsJoinOf F cubes logs steps → (q : Cube) → Contains cubes q → IsClosedBy F logs q
gathered_only F cubes logs steps g q i =
    let leaves : List Leaf = (joined_so_far F cubes logs).leaves in
    let r = from_map (λ (k : Leaf). k.cube) leaves q (subst (λ (qs : List Cube). Contains qs q) (sym (gathered_cubes F cubes logs)) i) in
    subst (IsClosedBy F logs) r.2 (closed_only F cubes logs r.0 r.1 (ends_closed [] g.tree r.0 (subst (λ (ks : List Leaf). Contains ks r.0) (sym g.leaves_are) r.1)))
