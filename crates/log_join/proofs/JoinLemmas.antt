-- The join of logs refutes the formula.
use Rattle.std.proofs.Common.{◌≡◌, ℕ, max, ◌+◌, ◌*◌, ◌<◌, ◌≤◌, ◌^◌, inl, inr, true, Option, None, List, [], ◌∷◌, ◌++◌, length, Some, refl, sym, subst, arith}
use Rattle.std.specs.Prelude.{is_some}
use Rattle.std.specs.List.{Contains}
use Rattle.std.specs.FinMap.{get}
use Rattle.std.proofs.lemmas.Bool.{true≢false}
use Rattle.dimacs.specs.logic.ClauseMap.{ClauseMap, map_of}
use Rattle.dimacs.specs.logic.Cnf.{Cnf}
use Rattle.dimacs.specs.logic.Literal.{Clause, IsTautology, negation}
use Rattle.dimacs.proofs.Members.{Contains-head, Contains-cons_cases, Contains-nil}
use Rattle.icnf.specs.Leaves.{Cube}
use Rattle.lrat_text.specs.Grammar.{LineSpellsWithin}
use Rattle.lrat_text.specs.Log.{after_step, AreLogSteps, IsLog, log_top}
use Rattle.lrat_text.specs.Proof.{proof_top}
use Rattle.lrat_text.specs.Runs.{after_steps, top_of, text_of}
use Rattle.lrat_text.specs.declared.step.Step.{Step}
use Rattle.lrat_text.specs.declared.step.Step.TheVariants.{Add, Delete}
use Rattle.lrat_text.proofs.LineLemmas.{spells_more}
use Rattle.lrat_text.proofs.RunLemmas.{log_append}
use Rattle.proof_join.specs.JoinedProof.{Part}
use Rattle.proof_join.specs.RenumberedProof.{RupRefutation, RefutesByRup}
use Rattle.proof_join.proofs.LogLemmas.{log_weaker, Adds, adds_left, adds_right}
use Rattle.proof_join.proofs.MapLemmas.{between_formula}
use Rattle.proof_join.proofs.NodeLemmas.{Negating}
use Rattle.proof_join.proofs.TextLemmas.{log_spells}
use Rattle.proof_join.proofs.TreeLemmas.{AreSmall}
use Rattle.log_join.specs.ClosedLeaves.{Leaf, Numbered, is_closed}
use Rattle.log_join.specs.JoinedLogs.{ClosesLeaf, Handed, forks, JoinState, joined_so_far, IsJoinOf, AreLogs, AreWritten, IsJoinTextOf}
use Rattle.log_join.specs.Written.{BetweenLogs, leaves_of}
use Rattle.log_join.specs.declared.log_joiner.LogJoiner.{LogJoiner}
use Rattle.log_join.proofs.BranchLemmas.{IsBranch, forks_are, AllCloseLive}
use Rattle.log_join.proofs.PlacedLemmas.{IsSound, gathered_sound, sound_low, sound_between}
use Rattle.log_join.proofs.SmallLemmas.{gathered_small, live_added, log_some, small_append}

-- a log that adds the empty clause refutes by reverse unit propagation
log_refutes_by_rup : (m : ℕ) (M : ClauseMap) (top : ℕ) (steps : List Step) → AreLogSteps m M top steps → Adds [] steps → RupRefutation M top steps
log_refutes_by_rup m M top [] h a = absurd (Contains-nil (Add a.0 [] a.1 a.2) a.3)
log_refutes_by_rup m M top (Add id lits hints groups ∷ steps) ((next, none, rup), rest) a = (
  omega arith,
  rup,
  none,
  elim (Contains-cons_cases (Add id lits hints groups) (Add a.0 [] a.1 a.2) steps a.3) [
    | inl e ↦ inl cc
    | inr later ↦ inr (log_refutes_by_rup m (after_step M (Add id lits hints groups)) id steps rest (a.0, a.1, a.2, later))
  ],
)
log_refutes_by_rup m M top (Delete ids ∷ steps) ((own, live, distinct), rest) a = (
  live,
  distinct,
  log_refutes_by_rup m (after_step M (Delete ids)) top steps rest (elim (Contains-cons_cases (Delete ids) (Add a.0 [] a.1 a.2) steps a.3) [
    | inl e ↦ absurd cc
    | inr later ↦ (a.0, a.1, a.2, later)
  ]),
)

no_pair_none : ¬ (IsTautology [])
no_pair_none (l, here, there) = Contains-nil l here

none_left : (C : Clause) → Negating [] C → C ≡ []
none_left [] h = refl
none_left (l ∷ C) h = absurd (Contains-nil (negation l) (h l (Contains-head l C)))

module _ (F : Cnf) (cubes : List Cube) (logs : List Handed) (are : AreLogs F logs) (steps : List Step) (g : IsJoinOf F cubes logs steps) where
  abbrev front : JoinState
  front = joined_so_far F cubes logs

  abbrev L : ClauseMap
  L = after_steps (map_of F) (joined_so_far F cubes logs).steps

  sound : IsSound F (joined_so_far F cubes logs)
  sound = gathered_sound F cubes logs are

  own_added : (n : ℕ) (C : Clause) → get L n ≡ Some C → length F.clauses + 1 ≤ n → Adds C front.steps
  own_added n C e up = elim (live_added (map_of F) front.steps n C e) [
    | inr a ↦ a
    | inl before ↦ let r = (between_formula F n C before).1 in absurd (omega arith)
  ]

  branch : IsBranch front.steps [] front.top L (forks [] front.top g.tree)
  branch = forks_are front.steps (length F.clauses) front.top L (sound_between F front sound) own_added [] front.top L g.tree (omega arith) (λ n C e. e) no_pair_none g.free
      (subst (AllCloseLive (length F.clauses) L) (sym g.leaves_are) sound.closings)

  pub gathered_log : AreLogSteps (length F.clauses) (map_of F) (length F.clauses) steps
  gathered_log = subst (AreLogSteps (length F.clauses) (map_of F) (length F.clauses)) (sym g.is)
      (log_append (length F.clauses) (map_of F) (length F.clauses) front.steps (forks [] front.top g.tree).steps sound.log
      (subst (λ (t : ℕ). AreLogSteps (length F.clauses) L t (forks [] front.top g.tree).steps) (sym sound.top)
      (log_weaker (length F.clauses) front.top L front.top (forks [] front.top g.tree).steps (sound_low F front sound) branch.log)))

  pub gathered_empty : Adds [] steps
  gathered_empty =
      let p : Part = forks [] front.top g.tree in
      subst (Adds []) (sym g.is) (subst (λ (C : Clause). Adds C (front.steps ++ p.steps)) (none_left p.clause branch.negates) (elim branch.added [
        | inl a ↦ adds_left p.clause front.steps p.steps a
        | inr a ↦ adds_right p.clause front.steps p.steps a
      ]))

  pub whole_small : AreWritten F logs → AreSmall (log_top F) steps
  whole_small limits =
      let small : AreSmall (log_top F) front.steps = gathered_small F cubes logs limits in
      subst (AreSmall (log_top F)) (sym g.is) (small_append (log_top F) front.steps (forks [] front.top g.tree).steps small (branch.small (log_top F) small))

-- the law over steps
pub gathered_refutes : (F : Cnf) (cubes : List Cube) (logs : List Handed) (steps : List Step) → AreLogs F logs → IsJoinOf F cubes logs steps → RupRefutation (map_of F) (length F.clauses) steps
gathered_refutes F cubes logs steps are g =
    log_refutes_by_rup (length F.clauses) (map_of F) (length F.clauses) steps (gathered_log F cubes logs are steps g) (gathered_empty F cubes logs are steps g)

-- the law over texts
pub gathered_text_refutes : (F : Cnf) (cubes : List Cube) (logs : List Handed) (text : List ℕ) → F.vars ≤ 199999999 → AreLogs F logs → AreWritten F logs → IsJoinTextOf F cubes logs text → RefutesByRup F text
gathered_text_refutes F cubes logs text vars are limits g =
    let m : ℕ = length F.clauses in
    let fits : max 2000000 F.vars < 2 ^ 48 = omega arith in
    let more : max 2000000 F.vars ≤ max 2000000 (2 * F.vars) = omega arith in
    let log : AreLogSteps m (map_of F) m g.steps = gathered_log F cubes logs are g.steps g.join_of in
    let some : 1 ≤ m = log_some m (map_of F) m g.steps [] log (between_formula F) (gathered_empty F cubes logs are g.steps g.join_of) in (
      g.steps,
      subst (λ (t : List ℕ). LineSpellsWithin (proof_top F) t g.steps) (sym g.is)
          (spells_more (log_top F) (proof_top F) more (text_of m g.steps) g.steps
          (log_spells (log_top F) fits m (top_of m g.steps) (map_of F) m g.steps log (between_formula F) some (omega arith) g.numbers (whole_small F cubes logs are g.steps g.join_of limits))),
      gathered_refutes F cubes logs g.steps are g.join_of,
    )

-- between two logs the text is a log, and closes what is closed
pub lines_close : (F : Cnf) (cubes : List Cube) (logs : List Handed) (g : LogJoiner) (written : List ℕ) → BetweenLogs F cubes logs g written
    → (k : Leaf) → Contains (leaves_of g) k → is_closed k ≡ true → (steps : List Step) × LineSpellsWithin (log_top F) written steps × IsLog F steps × ClosesLeaf F k.cube steps
lines_close F cubes logs g written b k i e = at k.closing refl e
  where
    at : (o : Option Numbered) → k.closing ≡ o → is_some o ≡ true → (steps : List Step) × LineSpellsWithin (log_top F) written steps × IsLog F steps × ClosesLeaf F k.cube steps
    at None f some = absurd (true≢false (sym some))
    at (Some l) f some =
        let m : ℕ = length F.clauses in
        let s : JoinState = joined_so_far F cubes logs in
        let sound : IsSound F s = gathered_sound F cubes logs b.are in
        let here : Contains s.leaves k = subst (λ (ks : List Leaf). Contains ks k) b.stands.leaves i in
        let stands = sound.closings k l here f in
        let own = stands.own in
        let added : Adds l.clause s.steps = elim (live_added (map_of F) s.steps l.id l.clause stands.lives) [
          | inr a ↦ a
          | inl before ↦ (let r = (between_formula F l.id l.clause before).1 in absurd (omega arith))
        ] in
        let base : 1 ≤ m = log_some m (map_of F) m s.steps l.clause sound.log (between_formula F) added in
        let vars = b.vars in
        let fits : max 2000000 F.vars < 2 ^ 48 = omega arith in
        let few : top_of m s.steps < 2 ^ 48 = (let t = sound.top in let u = b.stands.top in let v = g.limit in omega arith) in (
          s.steps,
          subst (λ (t : List ℕ). LineSpellsWithin (log_top F) t s.steps) (sym (b.stands.text base))
              (log_spells (log_top F) fits m (top_of m s.steps) (map_of F) m s.steps sound.log (between_formula F) base (omega arith) few (gathered_small F cubes logs b.limits)),
          sound.log,
          record { id = l.id; clause = l.clause; own = own; lives = stands.lives; ends = stands.ends },
        )
