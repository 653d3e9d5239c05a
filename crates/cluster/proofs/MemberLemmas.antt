-- Steps of the nodes of a closed cluster, as steps of its state.
use Rattle.std.proofs.Common.{◌≡◌, ℕ, zero, suc, ◌+◌, ◌-◌, ◌<◌, ◌≤◌, true, false, nat_eq, List, [], ◌∷◌, ◌++◌, length, map, Contains, Some, slice_get, get_or, refl, subst, sym, ap, ◌∙◌, inl, inr, arith}
use Rattle.std.specs.List.{HoldsAt, AllWithin}
use Rattle.std.proofs.lemmas.Bool.{eqb-true, eq-eqb, false≢true}
use Rattle.std.proofs.lemmas.List.{map-append, set-get_or}
use Rattle.std.proofs.lemmas.Option.{get_or_from_slice_get}
use Rattle.dimacs.specs.logic.Base.{numbers_from}
use Rattle.dimacs.specs.logic.Cnf.{Cnf}
use Rattle.lrat_check.specs.declared.verdict.Reaction.TheVariants as reaction
use Rattle.frames.specs.declared.frame.Frame.{Frame}
use Rattle.cube_split.specs.Definitions.{base_with}
use Rattle.cube_split.specs.Pairs.{AreDefined, AreOf, Definitions, IsBaseWith}
use Rattle.cube_split.specs.declared.pair.Pair.{Pair}
use Rattle.evidence.specs.Events.{Event, Polled, Given, Reacted}
use Rattle.worker_core.specs.Worker.{WorkerState, WorkerStep, WorkerPolls, new_worker}
use Rattle.coordinator_core.specs.Coordinator.{CoordinatorPolls}
use Rattle.honest_cluster.specs.ClosedSchedule.{ClosedState, StepsAt, IsNoPoll, first_worker, with_coordinator, with_worker}
use Rattle.cluster.specs.Members.{closed_of}
use Rattle.cluster.specs.inner.Members.{new_workers, MayBePolled}
use Rattle.cluster.specs.declared.members.Members.{Members}

-- one number more
numbers_push : (first count : ℕ) → numbers_from first (suc count) ≡ numbers_from first count ++ (first + count) ∷ []
numbers_push first zero = ap (λ (n : ℕ). n ∷ []) (omega arith)
numbers_push first (suc count) =
    let last : (first + 1) + count ≡ first + suc count = omega arith in
    ap (λ (ns : List ℕ). first ∷ ns) (numbers_push (first + 1) count ∙ ap (λ (n : ℕ). numbers_from (first + 1) count ++ n ∷ []) last)

pub numbers_more : (count : ℕ) → numbers_from 1 (count + 1) ≡ numbers_from 1 count ++ (count + 1) ∷ []
numbers_more count =
    let next : count + 1 ≡ suc count = omega arith in
    let last : 1 + count ≡ count + 1 = omega arith in
    ap (numbers_from 1) next ∙ numbers_push 1 count ∙ ap (λ (n : ℕ). numbers_from 1 count ++ n ∷ []) last

-- one formula and one number of definitions have one list of pairs
abbrev pub AreSettled : Type 0
AreSettled = (F : Cnf) (defs : ℕ) (ps qs : List Pair) → AreDefined F defs [] ps → AreDefined F defs [] qs → ps ≡ qs

-- so a worker with as many definitions searches over the base with these pairs
pub same_base : AreSettled → (F B : Cnf) (defs : ℕ) (d : Definitions) → IsBaseWith F defs B → AreOf F d → d.wanted ≡ defs → B ≡ base_with F d.pairs
same_base settled F B defs d is defined wanted =
    is.is ∙ ap (base_with F) (settled F defs is.pairs d.pairs is.defined (subst (λ (n : ℕ). AreDefined F n [] d.pairs) wanted defined.defined))

-- one worker more
pub same_worker : (F G B C : Cnf) (a b i j m n : ℕ) → F ≡ G → a ≡ b → i ≡ j → m ≡ n → B ≡ C → record (new_worker F a i) { wanted = m; base = B } ≡ record (new_worker G b j) { wanted = n; base = C }
same_worker F G B C a b i j m n e h k p q = cc

pub new_workers_more : (F : Cnf) (d : Definitions) (n : ℕ) → new_workers F d (n + 1) ≡ new_workers F d n ++ first_worker F d (n + 1) ∷ []
new_workers_more F d n =
    ap (map (first_worker F d)) (numbers_more n) ∙ map-append (first_worker F d) (numbers_from 1 n) ((n + 1) ∷ [])

-- the worker at a place is the node after it
pub worker_steps : (s : ClosedState) (node : ℕ) (event : Event) (given : Given) (w v : WorkerState) → 1 ≤ node → slice_get s.workers (node - 1) ≡ Some w → WorkerStep w event given v
    → StepsAt s node event given (with_worker s (node - 1) v)
worker_steps s node event given w v some at step =
    let is : suc (node - 1) ≡ node = omega (arith, some) in
    subst (λ (k : ℕ). StepsAt s k event given (with_worker s (node - 1) v)) is (w, v, at, step, refl)

-- a number is used if the list has it
pub is_used : (used : List ℕ) (number : ℕ) → (k : ℕ) × (k < length used) × HoldsAt (λ y. nat_eq y number ≡ true) used k → Contains used number
is_used used number (k, within, same) = (k, within, eqb-true _ number (same number))

pub is_unused : (used : List ℕ) (number : ℕ) → AllWithin (λ y. nat_eq y number ≡ false) used 0 (length used) → ¬ (Contains used number)
is_unused used number others (k, within, same) = absurd (false≢true (sym (others k number (omega arith) within) ∙ eq-eqb _ number same))

-- a poll at a node that may be polled is not ignored
pub may_be_polled : (m : Members) (node worker : ℕ) → MayBePolled m node worker → (frames : List Frame) (used : List ℕ) → ¬ (IsNoPoll (closed_of m frames used) node worker)
may_be_polled m node worker may frames used (inl none) = absurd (omega (arith, none, may.member))
may_be_polled m node worker may frames used (inr stray) = stray.1 (may.known stray.0)

-- a poll for which memory was refused changes nothing
pub poll_rests : (s : ClosedState) (node worker : ℕ) (new : ClosedState) → StepsAt s node (Polled worker) (Reacted reaction.NoMemory) new → new ≡ s
poll_rests s zero worker new (c, (known, polls), now) = now ∙ ap (with_coordinator s) (same polls)
  where
    same : CoordinatorPolls s.coordinator worker (Reacted reaction.NoMemory) c → c ≡ s.coordinator
    same (CoordinatorPolls.sends is after) = absurd (cc)
    same (CoordinatorPolls.no_memory grows is rests) = rests
poll_rests s (suc place) worker new (w, v, at, polls, now) =
    let stands : get_or s.workers place w ≡ w = get_or_from_slice_get s.workers place w w at in
    now ∙ ap (with_worker s place) (same polls ∙ sym stands) ∙ ap (λ (ws : List WorkerState). record s { workers = ws }) (set-get_or s.workers place w)
  where
    same : WorkerPolls w (Reacted reaction.NoMemory) v → v ≡ w
    same (WorkerPolls.sends is after) = absurd (cc)
    same (WorkerPolls.no_memory grows is rests) = rests
