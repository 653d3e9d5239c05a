-- If every leaf is closed, the lines of the forks complete a proof.
use Rattle.std.proofs.Common.{◌≡◌, ℕ, ◌^◌, ◌<◌, ◌≤◌, true, ◌&&◌, List, [], ◌∷◌, ◌++◌, length, Some, None, refl, sym, ◌∙◌, ap, arith}
use Rattle.std.specs.List.{list_all}
use Rattle.std.proofs.lemmas.Bool.{true≢false}
use Rattle.std.proofs.lemmas.List.Folds.{list_all-append}
use Rattle.dimacs.specs.logic.ClauseMap.{map_of}
use Rattle.dimacs.specs.logic.Cnf.{Cnf}
use Rattle.dimacs.specs.logic.Literal.{negation}
use Rattle.icnf.specs.Leaves.{Cube}
use Rattle.lrat_text.specs.Proof.{Accepts}
use Rattle.lrat_text.specs.Runs.{top_of, text_of}
use Rattle.lrat_text.specs.declared.step.Step.{Step}
use Rattle.lrat_text.proofs.RunLemmas.{text_append, top_append}
use Rattle.proof_join.specs.RenumberedProof.{RefutesByRup}
use Rattle.proof_join.proofs.KeptLemmas.{rup_accepted}
use Rattle.proof_join.proofs.MapLemmas.{between_formula}
use Rattle.log_join.specs.ClosedLeaves.{Leaf, is_closed}
use Rattle.log_join.specs.JoinedLogs.{Handed, Ended, leaf, fork, ends, forks, AreFree, JoinState, joined_so_far, IsJoinOf, IsJoinTextOf}
use Rattle.log_join.specs.Written.{BetweenLogs}
use Rattle.log_join.specs.Trees.{IsSubtree, leaves_in, lemma_of}
use Rattle.log_join.specs.inner.Trees.{ended}
use Rattle.log_join.specs.declared.log_joiner.LogJoiner.{LogJoiner}
use Rattle.log_join.specs.declared.tree.Node.{Node, Leaf as Single, Fork'}
use Rattle.log_join.proofs.SettleLemmas.{both}
use Rattle.log_join.proofs.SmallLemmas.{log_some}
use Rattle.log_join.proofs.PlacedLemmas.{IsSound, gathered_sound}
use Rattle.log_join.proofs.JoinLemmas.{gathered_log, gathered_empty, gathered_text_refutes}
use Rattle.log_join.proofs.ForkLemmas.{forks_top}
use Rattle.log_join.proofs.OneTree.{gathered_once}

ended_free : (path : Cube) (node : Node) → IsSubtree path node → AreFree path (ended node)
ended_free path (Single cube None) h = tt
ended_free path (Single cube (Some l)) h = tt
ended_free path (Fork' branch middle closed p left q right) (free, marked, a, c) = (free, ended_free (path ++ branch ∷ []) left a, ended_free (path ++ negation branch ∷ []) right c)

ended_leaves : (path : Cube) (node : Node) → IsSubtree path node → list_all is_closed (leaves_in node) ≡ true → ends path (ended node) ≡ leaves_in node
ended_leaves path (Single cube None) h e = absurd (true≢false (sym e))
ended_leaves path (Single cube (Some l)) h e = ap (λ (q : Cube). record { cube = q; closing = Some (lemma_of l) } ∷ []) (sym h)
ended_leaves path (Fork' branch middle closed p left q right) (free, marked, a, c) e =
    let two = both (list_all is_closed (leaves_in left)) (list_all is_closed (leaves_in right)) (sym (list_all-append is_closed (leaves_in left) (leaves_in right)) ∙ e) in
    ap (λ (ks : List Leaf). ks ++ ends (path ++ negation branch ∷ []) (ended right)) (ended_leaves (path ++ branch ∷ []) left a two.0)
    ∙ ap (λ (ks : List Leaf). leaves_in left ++ ks) (ended_leaves (path ++ negation branch ∷ []) right c two.1)

pub whole_text : (F : Cnf) (cubes : List Cube) (logs : List Handed) (written more : List ℕ) (g : LogJoiner) → BetweenLogs F cubes logs g written → list_all is_closed (leaves_in g.tree) ≡ true
    → more ≡ text_of g.top (forks [] g.top (ended g.tree)).steps → (forks [] g.top (ended g.tree)).top < 2 ^ 48
    → IsJoinTextOf F cubes logs (written ++ more) × RefutesByRup F (written ++ more) × Accepts F (written ++ more)
whole_text F cubes logs written more g b closed more_is few =
    let m : ℕ = length F.clauses in
    let s : JoinState = joined_so_far F cubes logs in
    let tree : Ended = ended g.tree in
    let sound : IsSound F s = gathered_sound F cubes logs b.are in
    let steps : List Step = s.steps ++ (forks [] s.top tree).steps in
    let made : IsJoinOf F cubes logs steps = record { tree = tree; free = ended_free [] g.tree b.stands.tree; leaves_are = ended_leaves [] g.tree b.stands.tree closed ∙ b.stands.leaves; is = refl } in
    let some : 1 ≤ m = log_some m (map_of F) m steps [] (gathered_log F cubes logs b.are steps made) (between_formula F) (gathered_empty F cubes logs b.are steps made) in
    let tops : top_of m s.steps ≡ s.top = sound.top in
    let whole : written ++ more ≡ text_of m steps =
    ap (λ (t : List ℕ). t ++ more) (b.stands.text some)
    ∙ ap (λ (t : List ℕ). text_of m s.steps ++ t) (more_is ∙ ap (λ (t : ℕ). text_of t (forks [] t tree).steps) b.stands.top)
    ∙ ap (λ (t : ℕ). text_of m s.steps ++ text_of t (forks [] s.top tree).steps) (sym tops)
    ∙ sym (text_append m s.steps (forks [] s.top tree).steps) in
    let last : top_of m steps ≡ (forks [] g.top tree).top =
    top_append m s.steps (forks [] s.top tree).steps ∙ ap (λ (t : ℕ). top_of t (forks [] s.top tree).steps) tops ∙ forks_top [] s.top tree ∙ ap (λ (t : ℕ). (forks [] t tree).top) (sym b.stands.top) in
    let text : IsJoinTextOf F cubes logs (written ++ more) = record { steps = steps; join_of = made; numbers = omega arith; is = whole } in
    let refutes : RefutesByRup F (written ++ more) = gathered_text_refutes F cubes logs (written ++ more) b.vars b.are b.limits text in
    (text, refutes, rup_accepted F (written ++ more) refutes)

ends_closed : (path : Cube) (tree : Ended) → list_all is_closed (ends path tree) ≡ true
ends_closed path (leaf id C) = refl
ends_closed path (fork x l r) =
    list_all-append is_closed (ends (path ++ x ∷ []) l) (ends (path ++ negation x ∷ []) r)
    ∙ ap (λ b. b && list_all is_closed (ends (path ++ negation x ∷ []) r)) (ends_closed (path ++ x ∷ []) l)
    ∙ ends_closed (path ++ negation x ∷ []) r

-- the numbers of any proof that is gathered are those of the tree in memory
pub whole_top : (F : Cnf) (cubes : List Cube) (logs : List Handed) (written : List ℕ) (steps : List Step) (g : LogJoiner) → BetweenLogs F cubes logs g written → IsJoinOf F cubes logs steps
    → top_of (length F.clauses) steps ≡ (forks [] g.top (ended g.tree)).top
whole_top F cubes logs written steps g b made =
    let m : ℕ = length F.clauses in
    let s : JoinState = joined_so_far F cubes logs in
    let tree : Ended = ended g.tree in
    let tops : top_of m s.steps ≡ s.top = (gathered_sound F cubes logs b.are).top in
    let closed : list_all is_closed (leaves_in g.tree) ≡ true = ap (list_all is_closed) (b.stands.leaves ∙ sym made.leaves_are) ∙ ends_closed [] made.tree in
    let other : List Step = s.steps ++ (forks [] s.top tree).steps in
    let also : IsJoinOf F cubes logs other = record { tree = tree; free = ended_free [] g.tree b.stands.tree; leaves_are = ended_leaves [] g.tree b.stands.tree closed ∙ b.stands.leaves; is = refl } in
    ap (top_of m) (gathered_once F cubes logs steps other made also)
    ∙ top_append m s.steps (forks [] s.top tree).steps ∙ ap (λ (t : ℕ). top_of t (forks [] s.top tree).steps) tops ∙ forks_top [] s.top tree ∙ ap (λ (t : ℕ). (forks [] t tree).top) (sym b.stands.top)
