-- Sound nodes agree.
use Rattle.std.proofs.Common.{◌≡◌, ℕ, zero, suc, Bool, List, [], ◌∷◌, ◌++◌, All, refl, sym, ap, subst, ◌∙◌}
use Rattle.std.proofs.lemmas.List.Elements.{All-contains, All-nil, All-cons, All-head, All-tail}
use Rattle.dimacs.specs.logic.Cnf.{Cnf, Sat, assignment_of}
use Rattle.dimacs.specs.logic.Extension.{extended}
use Rattle.dimacs.specs.logic.Literal.{Clause, IsTrueIn}
use Rattle.lrat_check.specs.Soundness.{IsUnsatisfiable}
use Rattle.lrat_check.specs.Verdicts.{Right, Agreement, Truth, IsTrueOf}
use Rattle.lrat_check.specs.declared.verdict.Reaction.{Reaction}
use Rattle.lrat_check.specs.declared.verdict.Reaction.TheVariants as reaction
use Rattle.evidence.specs.KeptVerdict.{formula_after}
use Rattle.cluster.specs.declared.event.OpenEvent.{OpenEvent}
use Rattle.cluster.specs.declared.event.OpenEvent.TheVariants.{Deliver, Work, Poll, Restart, Extend}
use Rattle.cluster.specs.declared.node.Node.{Node}
use Rattle.cluster.specs.declared.node.Node.TheVariants.{Worker, Coordinator}
use Rattle.cluster.specs.Nodes.{formula_of, verdict_of, IsSound, AreSound, AreRight, AreTrue}
use Rattle.cluster.specs.OpenSchedule.{Runs, node_of}
use Rattle.cluster.specs.Formulas.{formula_after_event, changed_at, formulas_after_event, FormulasAlong, grown, AreGrown}
use Rattle.cluster.specs.Agreement.{Agree, RulesOut, AgreeOnMore}
use Rattle.cluster.proofs.ScheduleLemmas.{Keeping, runs_sound}

pub sound_right : (n : Node) → IsSound n → Right (formula_of n) (verdict_of n)
sound_right (Worker w) sound = sound
sound_right (Coordinator c) sound = sound.right

pub are_right : (nodes : List Node) → AreSound nodes → AreRight nodes
are_right nodes sound i d within = sound_right _ (sound i d within)

pub are_true : Truth → (nodes : List Node) → AreSound nodes → AreTrue nodes
are_true truth nodes sound i d within = truth _ _ (are_right nodes sound i d within)

-- sound nodes agree, since right verdicts on one formula do not differ
pub sound_nodes_agree : Agreement → (early late : List Node) → AreSound early → AreSound late → Agree early late
sound_nodes_agree agreement early late early_sound late_sound n m in_early in_late same differ =
    let n_right : Right (formula_of n) (verdict_of n) = sound_right n (All-contains IsSound early n early_sound in_early) in
    let m_right : Right (formula_of m) (verdict_of m) = sound_right m (All-contains IsSound late m late_sound in_late) in
    agreement (formula_of n) (verdict_of n) (verdict_of m) n_right (subst (λ (F : Cnf). Right F (verdict_of m)) (sym same) m_right) differ

-- the nodes at two moments of a run agree
pub moments_agree : Keeping → Agreement
    → (start early late : List Node) (before after : List OpenEvent) → AreSound start → Runs start before early → Runs early after late → Agree early late
moments_agree keeping agreement start early late before after sound first then =
    let early_sound : AreSound early = runs_sound keeping start before early first sound in
    sound_nodes_agree agreement early late early_sound (runs_sound keeping early after late then early_sound)

-- ---- formulas with added clauses
all_front : (P : Clause → Type 0) (xs ys : List Clause) → All P (xs ++ ys) → All P xs
all_front P [] ys h = All-nil P
all_front P (x ∷ xs) ys h = All-cons P x xs (All-head P x (xs ++ ys) h) (all_front P xs ys (All-tail P x (xs ++ ys) h))

sat_grown : (F : Cnf) (xs : List Cnf) (a : ℕ → Bool) → Sat a (grown F xs) → Sat a F
sat_grown F [] a sat = sat
sat_grown F (x ∷ xs) a sat = all_front (IsTrueIn a) F.clauses x.clauses (sat_grown (extended F x) xs a sat)

-- no assignment is right for a refuted formula with added clauses
rules_out : Truth → (n m : Node) → Right (formula_of n) (verdict_of n) → Right (formula_of m) (verdict_of m) → RulesOut n m
rules_out truth n m n_right m_right xs text values proof longer model =
    let refuted : IsUnsatisfiable (formula_of n) = subst (IsTrueOf (formula_of n)) proof (truth (formula_of n) (verdict_of n) n_right) in
    let held : Sat (assignment_of values) (formula_of m) = subst (IsTrueOf (formula_of m)) model (truth (formula_of m) (verdict_of m) m_right) in
    refuted (assignment_of values) (sat_grown (formula_of n) xs (assignment_of values) (subst (λ (F : Cnf). Sat (assignment_of values) F) longer held))

pub sound_nodes_agree_on_more : Truth → (early late : List Node) → AreSound early → AreSound late → AgreeOnMore early late
sound_nodes_agree_on_more truth early late early_sound late_sound n m in_early in_late =
    let n_right : Right (formula_of n) (verdict_of n) = sound_right n (All-contains IsSound early n early_sound in_early) in
    let m_right : Right (formula_of m) (verdict_of m) = sound_right m (All-contains IsSound late m late_sound in_late) in
    (rules_out truth n m n_right m_right, rules_out truth m n m_right n_right)

pub moments_agree_on_more : Keeping → Truth
    → (start early late : List Node) (before after : List OpenEvent) → AreSound start → Runs start before early → Runs early after late → AgreeOnMore early late
moments_agree_on_more keeping truth start early late before after sound first then =
    let early_sound : AreSound early = runs_sound keeping start before early first sound in
    sound_nodes_agree_on_more truth early late early_sound (runs_sound keeping early after late then early_sound)

-- ---- formulas only grow
same_grown : (Fs : List Cnf) → AreGrown Fs Fs
same_grown [] = refl
same_grown (F ∷ Fs) = ([], Fs, refl, same_grown Fs)

-- extensions of an extended formula are extensions of the formula
then_grown : (event : OpenEvent) (answer : Reaction) (F G : Cnf) (xs : List Cnf) → G ≡ grown (formula_after_event event answer F) xs → (ys : List Cnf) × (G ≡ grown F ys)
then_grown (Deliver node bytes) answer F G xs is = (xs, is)
then_grown (Work node) answer F G xs is = (xs, is)
then_grown (Poll node worker) answer F G xs is = (xs, is)
then_grown (Restart node number) answer F G xs is = (xs, is)
then_grown (Extend node x number) answer F G xs is = taken answer is
  where
    taken : (r : Reaction) → G ≡ grown (formula_after x r F) xs → (ys : List Cnf) × (G ≡ grown F ys)
    taken reaction.Taken now = (x ∷ xs, now)
    taken reaction.Ignored now = (xs, now)
    taken reaction.Finished now = (xs, now)
    taken reaction.Verdict now = (xs, now)
    taken (reaction.Refused kind) now = (xs, now)
    taken reaction.NoMemory now = (xs, now)

changed_grown : (event : OpenEvent) (answer : Reaction) (k : ℕ) (Fs Gs : List Cnf) → AreGrown (changed_at k (formula_after_event event answer) Fs) Gs → AreGrown Fs Gs
changed_grown event answer k [] Gs h = h
changed_grown event answer zero (F ∷ Fs) Gs (xs, rest, is, more) =
    let at = then_grown event answer F (grown (formula_after_event event answer F) xs) xs refl in
    (at.0, rest, is ∙ ap (λ (G : Cnf). G ∷ rest) at.1, more)
changed_grown event answer (suc k) (F ∷ Fs) Gs (xs, rest, is, more) = (xs, rest, is, changed_grown event answer k Fs rest more)

pub along_grown : (old new : List Cnf) (events : List OpenEvent) → FormulasAlong old events new → AreGrown old new
along_grown old new [] same = subst (AreGrown old) (sym same) (same_grown old)
along_grown old new (event ∷ events) (answer, along) = changed_grown event answer (node_of event) old new (along_grown (formulas_after_event event answer old) new events along)
