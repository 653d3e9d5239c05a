-- The end of a log: what each of its lemmas does, by rising numbers.
use Rattle.std.proofs.Common.{◌≡◌, ℕ, zero, suc, ◌+◌, ◌-◌, ◌<◌, ◌≤◌, inl, inr, Bool, true, false, cond, List, [], ◌∷◌, ◌++◌, length, max, Option, Some, None, refl, sym, ◌∙◌, ap, subst, arith}
use Rattle.std.specs.List.{All, list_any}
use Rattle.std.specs.FinMap.{get}
use Rattle.std.proofs.lemmas.Bool.{cases_lt}
use Rattle.std.proofs.lemmas.List.{append-nil}
use Rattle.std.proofs.lemmas.List.Elements.{All-nil, All-cons, All-append, All-contains}
use Rattle.std.proofs.lemmas.List.Sums.{fold-append}
use Rattle.dimacs.specs.logic.ClauseMap.{ClauseMap, map_of}
use Rattle.dimacs.specs.logic.Cnf.{Cnf}
use Rattle.dimacs.specs.logic.Literal.{Clause, IsWithin}
use Rattle.icnf.specs.Leaves.{Cube}
use Rattle.lrat_text.specs.Grammar.{IsStepWithin}
use Rattle.lrat_text.specs.Log.{IsLog, additions, log_top}
use Rattle.lrat_text.specs.Runs.{after_steps, top_of, text_of}
use Rattle.lrat_text.specs.declared.step.Step.{Step}
use Rattle.lrat_text.specs.declared.step.Step.TheVariants.{Add}
use Rattle.lrat_text.proofs.LineLemmas.{step_more}
use Rattle.lrat_text.proofs.RunLemmas.{text_append}
use Rattle.proof_join.specs.RenumberedSteps.{behind}
use Rattle.proof_join.proofs.MapLemmas.{between_formula}
use Rattle.log_join.specs.ClosedLeaves.{Numbered, Leaf, can_close, settled, all_settled, spent}
use Rattle.log_join.specs.JoinedLogs.{Handed, JoinState, joined_so_far, nothing, with_log, deletions, deleted, left_by, lemmas_of, live_from, with_live}
use Rattle.log_join.specs.Written.{IsInStep, BetweenLogs, IsUnderWay, WithinLog, AtLogEnd, NoneLive, lemmas_below, leaves_of, steps_within}
use Rattle.log_join.specs.Trees.{IsSubtree, IsIndexed, leaves_in}
use Rattle.log_join.specs.inner.Trees.{HasSettled}
use Rattle.log_join.specs.inner.JoinerSteps.{Closes, Spends}
use Rattle.log_join.specs.declared.log_joiner.LogJoiner.{LogJoiner}
use Rattle.log_join.specs.declared.leaf_index.Index.{Index}
use Rattle.log_join.specs.declared.tree.Node.{Node}
use Rattle.log_join.proofs.SmallLemmas.{live_added}
use Rattle.log_join.proofs.PlacedLemmas.{IsSound, gathered_sound, sound_low, within_top, counted_top, log_between}

-- ---- one lemma more
pub live_append : (f : ℕ → ℕ) (N : ClauseMap) (first a b : ℕ) → live_from f N first (a + b) ≡ live_from f N first a ++ live_from f N (first + a) b
live_append f N first zero b = ap (λ (n : ℕ). live_from f N first n) (let e : 0 + b ≡ b = omega arith in e) ∙ ap (λ (n : ℕ). live_from f N n b) (let e : first ≡ first + 0 = omega arith in e)
live_append f N first (suc a) b =
    ap (live_from f N first) (let e : suc a + b ≡ suc (a + b) = omega arith in e)
    ∙ ap (with_live (f first) (get N first)) (live_append f N (first + 1) a b ∙ ap (λ (n : ℕ). live_from f N (first + 1) a ++ live_from f N n b) (let e : (first + 1) + a ≡ first + suc a = omega arith in e))
    ∙ at (get N first)
  where
    at : (o : Option Clause) → with_live (f first) o (live_from f N (first + 1) a ++ live_from f N (first + suc a) b) ≡ with_live (f first) o (live_from f N (first + 1) a) ++ live_from f N (first + suc a) b
    at None = refl
    at (Some C) = refl

live_none : (f : ℕ → ℕ) (N : ClauseMap) (first count : ℕ) → NoneLive N first (first + count) → live_from f N first count ≡ []
live_none f N first zero h = refl
live_none f N first (suc count) h =
    ap (λ (o : Option Clause). with_live (f first) o (live_from f N (first + 1) count)) (h first (omega arith) (omega arith))
    ∙ live_none f N (first + 1) count (λ k low up. h k (omega arith) (omega arith))

live_one : (f : ℕ → ℕ) (N : ClauseMap) (first : ℕ) (C : Clause) → get N first ≡ Some C → live_from f N first 1 ≡ record { id = f first; clause = C } ∷ []
live_one f N first C e = ap (λ (o : Option Clause). with_live (f first) o []) e

-- the lemmas below a number, and the next one that is live
pub lemmas_longer : (f : ℕ → ℕ) (N : ClauseMap) (first n number : ℕ) (C : Clause) → first ≤ n → n ≤ number → NoneLive N n number → get N number ≡ Some C
    → live_from f N first ((number + 1) - first) ≡ live_from f N first (n - first) ++ record { id = f number; clause = C } ∷ []
lemmas_longer f N first n number C low up none live =
    let whole : (number + 1) - first ≡ (n - first) + ((number - n) + 1) = omega arith in
    let here : first + (n - first) ≡ n = omega arith in
    let there : n + (number - n) ≡ number = omega arith in
    ap (live_from f N first) whole
    ∙ live_append f N first (n - first) ((number - n) + 1)
    ∙ ap (λ (k : ℕ). live_from f N first (n - first) ++ live_from f N k ((number - n) + 1)) here
    ∙ ap (λ (ls : List Numbered). live_from f N first (n - first) ++ ls)
    (live_append f N n (number - n) 1
    ∙ ap (λ (ls : List Numbered). ls ++ live_from f N (n + (number - n)) 1) (live_none f N n (number - n) (λ k a b. none k a (omega arith)))
    ∙ ap (λ (k : ℕ). live_from f N k 1) there
    ∙ live_one f N number C live)

-- all of them, if no more is live
pub lemmas_all : (f : ℕ → ℕ) (N : ClauseMap) (first n count : ℕ) → first ≤ n → ((k : ℕ) → n ≤ k → get N k ≡ None) → ((k : ℕ) → first + count ≤ k → get N k ≡ None)
    → live_from f N first (n - first) ≡ live_from f N first count
lemmas_all f N first n count low none beyond = elim (cases_lt (n - first) count) [
  | inl less ↦
      let d : (n - first) + (count - (n - first)) ≡ count = omega arith in
      sym (ap (live_from f N first) (sym d) ∙ live_append f N first (n - first) (count - (n - first))
      ∙ ap (λ (ls : List Numbered). live_from f N first (n - first) ++ ls) (live_none f N (first + (n - first)) (count - (n - first)) (λ k a b. none k (omega arith)))
      ∙ append-nil (live_from f N first (n - first)))
  | inr more ↦
      let d : count + ((n - first) - count) ≡ n - first = omega arith in
      ap (live_from f N first) (sym d) ∙ live_append f N first count ((n - first) - count)
      ∙ ap (λ (ls : List Numbered). live_from f N first count ++ ls) (live_none f N (first + count) ((n - first) - count) (λ k a b. beyond k a))
      ∙ append-nil (live_from f N first count)
]

settled_append : (leaves : List Leaf) (xs : List Numbered) (l : Numbered) → all_settled leaves (xs ++ l ∷ []) ≡ settled l (all_settled leaves xs)
settled_append leaves [] l = refl
settled_append leaves (x ∷ xs) l = settled_append (settled x leaves) xs l

-- the number of a lemma that closes nothing
abbrev pub if_spent : Bool → ℕ → List ℕ
if_spent true id = []
if_spent false id = id ∷ []

spent_append : (leaves : List Leaf) (xs : List Numbered) (l : Numbered) → spent leaves (xs ++ l ∷ []) ≡ spent leaves xs ++ if_spent (list_any (can_close l) (all_settled leaves xs)) l.id
spent_append leaves [] l = at (list_any (can_close l) leaves)
  where
    at : (b : Bool) → cond b [] (l.id ∷ []) ≡ if_spent b l.id
    at true = refl
    at false = refl
spent_append leaves (x ∷ xs) l = at (list_any (can_close x) leaves) (spent_append (settled x leaves) xs l)
  where
    at : (b : Bool) → spent (settled x leaves) (xs ++ l ∷ []) ≡ spent (settled x leaves) xs ++ if_spent (list_any (can_close l) (all_settled (settled x leaves) xs)) l.id
        → cond b (spent (settled x leaves) (xs ++ l ∷ [])) (x.id ∷ spent (settled x leaves) (xs ++ l ∷ []))
        ≡ cond b (spent (settled x leaves) xs) (x.id ∷ spent (settled x leaves) xs) ++ if_spent (list_any (can_close l) (all_settled (settled x leaves) xs)) l.id
    at true e = e
    at false e = ap (λ (ns : List ℕ). x.id ∷ ns) e

no_leaves : (xs : List Numbered) → all_settled [] xs ≡ []
no_leaves [] = refl
no_leaves (x ∷ xs) = no_leaves xs

-- a clause of the log's own that is live has literals within the limits
pub own_small : (F : Cnf) (log : List Step) (number : ℕ) (C : Clause) → F.vars ≤ 199999999 → All (IsStepWithin (log_top F)) log → length F.clauses < number → get (after_steps (map_of F) log) number ≡ Some C → All (IsWithin 199999999) C
own_small F log number C vars limits own live = elim (live_added (map_of F) log number C live) [
  | inl before ↦ let r = (between_formula F number C before).1 in absurd (omega arith)
  | inr a ↦
      let z : IsStepWithin (log_top F) (Add a.0 C a.1 a.2) = All-contains (IsStepWithin (log_top F)) log (Add a.0 C a.1 a.2) limits a.3 in
      let more : max 2000000 F.vars ≤ 199999999 = omega arith in
      let y : IsStepWithin 199999999 (Add a.0 C a.1 a.2) = step_more (log_top F) 199999999 more (Add a.0 C a.1 a.2) z in
      y.1
]

pub same_indexed : (old new : LogJoiner) → new.index ≡ old.index → new.unclosed.items ≡ old.unclosed.items → new.tree ≡ old.tree → IsIndexed old.index old.unclosed.items old.tree
    → IsIndexed new.index new.unclosed.items new.tree
same_indexed old new index unclosed tree h =
    subst (λ (n : Node). IsIndexed new.index new.unclosed.items n) (sym tree)
    (subst (λ (ps : List ℕ). IsIndexed new.index ps old.tree) (sym unclosed) (subst (λ (i : Index). IsIndexed i old.unclosed.items old.tree) (sym index) h))

-- ---- what a call does to a gatherer that is under way
module _ (F : Cnf) (cubes : List Cube) (logs : List Handed) (log : List Step) (some : List Leaf) (ids : List ℕ) (written : List ℕ) (old new : LogJoiner) (way : IsUnderWay F cubes logs log some ids old written) where
  pub tried : (l : Numbered) (b : Bool) → All (IsWithin 199999999) l.clause → Closes old new l b → (b ≡ list_any (can_close l) some) × IsUnderWay F cubes logs log (settled l some) ids new written
  tried l b small c =
      let h : HasSettled l [] old.tree new.tree b = (c.tree small way.stands.tree way.stands.indexed).0 in (
        h.told ∙ ap (λ (ks : List Leaf). list_any (can_close l) ks) way.stands.leaves,
        record {
          are = way.are;
          before = way.before;
          is_log = way.is_log;
          limits = way.limits;
          begun = c.begun ∙ way.begun;
          stands = record {
            base = c.base ∙ way.stands.base;
            top = c.top ∙ way.stands.top;
            tree = h.tree;
            indexed = (c.tree small way.stands.tree way.stands.indexed).1;
            leaves = h.leaves ∙ ap (settled l) way.stands.leaves;
            text = way.stands.text;
          };
          spent_are = c.spent ∙ way.spent_are;
          vars = way.vars;
        },
      )

  pub deleted_more : (id : ℕ) → Spends old new id → IsUnderWay F cubes logs log some (ids ++ id ∷ []) new written
  deleted_more id s = record {
    are = way.are;
    before = way.before;
    is_log = way.is_log;
    limits = way.limits;
    begun = s.begun ∙ way.begun;
    stands = record {
      base = s.base ∙ way.stands.base;
      top = s.top ∙ way.stands.top;
      tree = subst (IsSubtree []) (sym s.tree) way.stands.tree;
      indexed = same_indexed old new s.index s.unclosed s.tree way.stands.indexed;
      leaves = ap (λ (n : Node). leaves_in n) s.tree ∙ way.stands.leaves;
      text = way.stands.text;
    };
    spent_are = s.spent ∙ ap (λ (ns : List ℕ). ns ++ id ∷ []) way.spent_are;
    vars = way.vars;
  }

-- ---- an accepted log
module _ (F : Cnf) (cubes : List Cube) (logs : List Handed) (log : List Step) (n number : ℕ) (C : Clause) (written : List ℕ) (old mid : LogJoiner)
    (e : AtLogEnd F cubes logs (record { steps = log; accepted = true }) n old written) (up : n ≤ number) (live : get (after_steps (map_of F) log) number ≡ Some C)
    (id : ℕ) (id_is : id ≡ behind old.base old.begun number) (b : Bool) (c : Closes old mid (record { id = id; clause = C }) b) where
  abbrev one : Numbered
  one = record { id = behind (length F.clauses) (joined_so_far F cubes logs).top number; clause = C }

  abbrev below : List Numbered
  below = lemmas_below F cubes logs log n

  abbrev first : List Leaf
  first = (joined_so_far F cubes logs).leaves

  same_id : id ≡ behind (length F.clauses) (joined_so_far F cubes logs).top number
  same_id = id_is ∙ ap (λ (x : ℕ). behind x old.begun number) e.way.stands.base ∙ ap (λ (x : ℕ). behind (length F.clauses) x number) e.way.begun

  same_lemma : ◌≡◌ {A = Numbered} (record { id = id; clause = C }) one
  same_lemma = ap (λ (x : ℕ). record { id = x; clause = C }) same_id

  small : All (IsWithin 199999999) C
  small = own_small F log number C e.way.vars e.way.limits (let l = e.low in omega arith) live

  after_try : (b ≡ list_any (can_close one) (all_settled first below)) × IsUnderWay F cubes logs log (settled one (all_settled first below)) (spent first below) mid written
  after_try = tried F cubes logs log (all_settled first below) (spent first below) written old mid e.way one b small (subst (λ (l : Numbered). Closes old mid l b) same_lemma c)

  pub told_is : b ≡ list_any (can_close (record { id = behind old.base old.begun number; clause = C })) (leaves_of old)
  told_is =
      after_try.0 ∙ ap (λ (ks : List Leaf). list_any (can_close one) ks) (sym e.way.stands.leaves)
      ∙ ap (λ (x : ℕ). list_any (can_close (record { id = x; clause = C })) (leaves_of old)) (sym same_id ∙ id_is)

  module _ (none : NoneLive (after_steps (map_of F) log) n number) where
    longer : lemmas_below F cubes logs log (number + 1) ≡ below ++ one ∷ []
    longer = lemmas_longer (behind (length F.clauses) (joined_so_far F cubes logs).top) (after_steps (map_of F) log) (length F.clauses + 1) n number C (let l = e.low in omega arith) up none live

    ends_at : (g : LogJoiner) → IsUnderWay F cubes logs log (settled one (all_settled first below)) (spent first below ++ if_spent b id) g written → AtLogEnd F cubes logs (record { steps = log; accepted = true }) (number + 1) g written
    ends_at g way = record {
      low = (let l = e.low in omega arith);
      way = subst (λ (ls : List Numbered). IsUnderWay F cubes logs log (all_settled first ls) (spent first ls) g written) (sym longer)
          (subst (λ (ks : List Leaf). IsUnderWay F cubes logs log ks (spent first (below ++ one ∷ [])) g written) (sym (settled_append first below one))
          (subst (λ (ns : List ℕ). IsUnderWay F cubes logs log (settled one (all_settled first below)) ns g written)
          (ap (λ (x : ℕ). spent first below ++ if_spent b x) same_id ∙ ap (λ (q : Bool). spent first below ++ if_spent q one.id) after_try.0 ∙ sym (spent_append first below one)) way));
    }

    pub closed_one : b ≡ true → AtLogEnd F cubes logs (record { steps = log; accepted = true }) (number + 1) mid written
    closed_one t = ends_at mid (subst (λ (ns : List ℕ). IsUnderWay F cubes logs log (settled one (all_settled first below)) ns mid written)
        (sym (append-nil (spent first below)) ∙ ap (λ (q : Bool). spent first below ++ if_spent q id) (sym t)) after_try.1)

    pub spent_one : b ≡ false → (new : LogJoiner) → Spends mid new id → AtLogEnd F cubes logs (record { steps = log; accepted = true }) (number + 1) new written
    spent_one f new s = ends_at new (subst (λ (ns : List ℕ). IsUnderWay F cubes logs log (settled one (all_settled first below)) ns new written)
        (ap (λ (q : Bool). spent first below ++ if_spent q id) (sym f))
        (deleted_more F cubes logs log (settled one (all_settled first below)) (spent first below) written mid new after_try.1 id s))

-- ---- a refused log
pub refused_one : (F : Cnf) (cubes : List Cube) (logs : List Handed) (log : List Step) (n number : ℕ) (written : List ℕ) (old new : LogJoiner)
    → AtLogEnd F cubes logs (record { steps = log; accepted = false }) n old written → n ≤ number → NoneLive (after_steps (map_of F) log) n number → ¬ (get (after_steps (map_of F) log) number ≡ None)
    → (id : ℕ) → id ≡ behind old.base old.begun number → Spends old new id → AtLogEnd F cubes logs (record { steps = log; accepted = false }) (number + 1) new written
refused_one F cubes logs log n number written old new e up none some id id_is s = at (get (after_steps (map_of F) log) number) refl
  where
    at : (o : Option Clause) → get (after_steps (map_of F) log) number ≡ o → AtLogEnd F cubes logs (record { steps = log; accepted = false }) (number + 1) new written
    at None z = absurd (some z)
    at (Some C) live =
        let m : ℕ = length F.clauses in
        let t : ℕ = (joined_so_far F cubes logs).top in
        let below : List Numbered = lemmas_below F cubes logs log n in
        let one : Numbered = record { id = behind m t number; clause = C } in
        let same_id : id ≡ behind m t number = id_is ∙ ap (λ (x : ℕ). behind x old.begun number) e.way.stands.base ∙ ap (λ (x : ℕ). behind m x number) e.way.begun in
        let longer : lemmas_below F cubes logs log (number + 1) ≡ below ++ one ∷ [] = lemmas_longer (behind m t) (after_steps (map_of F) log) (m + 1) n number C (let l = e.low in omega arith) up none live in
        let ids : spent [] below ++ id ∷ [] ≡ spent [] (lemmas_below F cubes logs log (number + 1)) =
        ap (λ (x : ℕ). spent [] below ++ x ∷ []) same_id ∙ ap (λ (ks : List Leaf). spent [] below ++ if_spent (list_any (can_close one) ks) one.id) (sym (no_leaves below)) ∙ sym (spent_append [] below one) ∙ ap (spent []) (sym longer) in
        record {
          low = (let l = e.low in omega arith);
          way = subst (λ (ns : List ℕ). IsUnderWay F cubes logs log (joined_so_far F cubes logs).leaves ns new written) ids
              (deleted_more F cubes logs log (joined_so_far F cubes logs).leaves (spent [] below) written old new e.way id s);
        }

-- ---- the log has ended
pub begins_to_end : (F : Cnf) (cubes : List Cube) (logs : List Handed) (log : List Step) (accepted : Bool) (g : LogJoiner) (written : List ℕ) → WithinLog F cubes logs log g written
    → AtLogEnd F cubes logs (record { steps = log; accepted = accepted }) (length F.clauses + 1) g written
begins_to_end F cubes logs log accepted g written way = record {
  low = omega arith;
  way = subst (λ (ls : List Numbered). IsUnderWay F cubes logs log (left_by accepted (joined_so_far F cubes logs).leaves ls) (deleted accepted (joined_so_far F cubes logs).leaves ls) g written) (sym none_yet) (at accepted);
}
  where
    none_yet : lemmas_below F cubes logs log (length F.clauses + 1) ≡ []
    none_yet = ap (live_from (behind (length F.clauses) (joined_so_far F cubes logs).top) (after_steps (map_of F) log) (length F.clauses + 1)) (let z : (length F.clauses + 1) - (length F.clauses + 1) ≡ 0 = omega arith in z)

    at : (a : Bool) → IsUnderWay F cubes logs log (left_by a (joined_so_far F cubes logs).leaves []) (deleted a (joined_so_far F cubes logs).leaves []) g written
    at true = way
    at false = way

pub log_ended : (F : Cnf) (cubes : List Cube) (logs : List Handed) (h : Handed) (n : ℕ) (written : List ℕ) (old new : LogJoiner) (more : List ℕ)
    → AtLogEnd F cubes logs h n old written → ((k : ℕ) → n ≤ k → get (after_steps (map_of F) h.steps) k ≡ None)
    → new.base ≡ old.base → new.top ≡ old.top → new.tree ≡ old.tree → new.index ≡ old.index → new.unclosed.items ≡ old.unclosed.items → new.spent.items ≡ [] → more ≡ text_of (max 1 old.top) (deletions old.spent.items)
    → BetweenLogs F cubes (logs ++ h ∷ []) new (written ++ more)
log_ended F cubes logs h n written old new more e none base top tree index unclosed spent_none more_is =
    let m : ℕ = length F.clauses in
    let g : JoinState = joined_so_far F cubes logs in
    let sound : IsSound F g = gathered_sound F cubes logs e.way.are in
    let beyond : (k : ℕ) → (m + 1) + additions h.steps ≤ k → get (after_steps (map_of F) h.steps) k ≡ None = λ k far. not_live k far (get (after_steps (map_of F) h.steps) k) refl in
    let all : lemmas_below F cubes logs h.steps n ≡ lemmas_of F g.top h.steps =
    lemmas_all (behind m g.top) (after_steps (map_of F) h.steps) (m + 1) n (additions h.steps) (let l = e.low in omega arith) none beyond in
    let ids : List ℕ = deleted h.accepted g.leaves (lemmas_of F g.top h.steps) in
    let ids_are : old.spent.items ≡ ids = e.way.spent_are ∙ ap (deleted h.accepted g.leaves) all in
    let one_more : joined_so_far F cubes (logs ++ h ∷ []) ≡ with_log F g h = fold-append (with_log F) (nothing F cubes) logs (h ∷ []) in
    let steps_top : top_of m (steps_within F cubes logs h.steps) ≡ old.top = within_top F g sound h e.way.is_log ∙ sym e.way.stands.top in
    record {
      are = All-append (λ (x : Handed). IsLog F x.steps) logs (h ∷ []) e.way.are (All-cons (λ (x : Handed). IsLog F x.steps) h [] e.way.is_log (All-nil (λ (x : Handed). IsLog F x.steps)));
      limits = All-append (λ (x : Handed). All (IsStepWithin (log_top F)) x.steps) logs (h ∷ []) e.way.before (All-cons (λ (x : Handed). All (IsStepWithin (log_top F)) x.steps) h [] e.way.limits (All-nil (λ (x : Handed). All (IsStepWithin (log_top F)) x.steps)));
      stands = subst (λ (z : JoinState). IsInStep F cubes new z.steps z.top z.leaves (written ++ more)) (sym one_more) (record {
        base = base ∙ e.way.stands.base;
        top = top ∙ e.way.stands.top;
        tree = subst (IsSubtree []) (sym tree) e.way.stands.tree;
        indexed = same_indexed old new index unclosed tree e.way.stands.indexed;
        leaves = ap (λ (x : Node). leaves_in x) tree ∙ e.way.stands.leaves ∙ ap (left_by h.accepted g.leaves) all;
        text = λ some.
            let low : m ≤ g.top = sound_low F g sound in
            let high : max 1 old.top ≡ old.top = (let t = e.way.stands.top in omega arith) in
            ap (λ (t : List ℕ). t ++ more) (e.way.stands.text some)
            ∙ ap (λ (t : List ℕ). text_of m (steps_within F cubes logs h.steps) ++ t) (more_is ∙ ap (λ (k : ℕ). text_of k (deletions old.spent.items)) (high ∙ sym steps_top) ∙ ap (λ (ns : List ℕ). text_of (top_of m (steps_within F cubes logs h.steps)) (deletions ns)) ids_are)
            ∙ sym (text_append m (steps_within F cubes logs h.steps) (deletions ids));
      });
      none_spent = spent_none;
      vars = e.way.vars;
    }
  where
    not_live : (k : ℕ) → (length F.clauses + 1) + additions h.steps ≤ k → (o : Option Clause) → get (after_steps (map_of F) h.steps) k ≡ o → get (after_steps (map_of F) h.steps) k ≡ None
    not_live k far None z = z
    not_live k far (Some C) z =
        let r = (log_between (length F.clauses) (map_of F) (length F.clauses) h.steps e.way.is_log (between_formula F) k C z).1 in
        let t = counted_top (length F.clauses) (map_of F) (length F.clauses) h.steps e.way.is_log in
        absurd (omega arith)
