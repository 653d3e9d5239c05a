-- The renumbered text is unique, and an accepted proof of the extended formula.
use Rattle.std.proofs.Common.{◌≡◌, ℕ, ◌+◌, ◌*◌, ◌^◌, ◌<◌, ◌≤◌, inl, inr, List, [], ◌∷◌, ◌++◌, length, refl, sym, ◌∙◌, ap, subst, arith, length-append}
use Rattle.std.specs.Prelude.{max}
use Rattle.std.specs.FinMap.{insert}
use Rattle.dimacs.specs.logic.ClauseMap.{ClauseMap, map_of}
use Rattle.dimacs.specs.logic.Cnf.{Cnf}
use Rattle.dimacs.specs.logic.Extension.{extended}
use Rattle.lrat_text.specs.Grammar.{LineSpells, LineSpellsWithin}
use Rattle.lrat_text.specs.Proof.{without, Refutation, Accepts, proof_top}
use Rattle.lrat_text.specs.declared.step.Step.{Step}
use Rattle.lrat_text.specs.declared.step.Step.TheVariants.{Add, Delete}
use Rattle.proof_join.specs.RenumberedProof.{lines_from, raised_steps, LinesFit, Renumbers, RupRefutation, RefutesByRup}
use Rattle.lrat_text.proofs.LineLemmas.{spells_more}
use Rattle.proof_join.proofs.JoinLemmas.{spelled_once}
use Rattle.proof_join.proofs.RaisedLemmas.{refutation_raised}
use Rattle.proof_join.proofs.TextLemmas.{spells_cons}

-- the lines of steps spell them
pub lines_spell : (top : ℕ) (steps : List Step) → LinesFit top steps → LineSpells (lines_from top steps) steps
lines_spell top [] fit = refl
lines_spell top (Add id lits hints groups ∷ steps) (here, more) =
    spells_cons 2000000 (omega arith) (max 1 top) id (Add id lits hints groups) (lines_from (max top id) steps) steps refl here.0 here (lines_spell (max top id) steps more)
lines_spell top (Delete ids ∷ steps) (here, more) =
    spells_cons 2000000 (omega arith) (max 1 top) (max 1 top) (Delete ids) (lines_from top steps) steps refl here.0 here.1 (lines_spell top steps more)

pub renumbered_spells : (m e : ℕ) (text new : List ℕ) (steps : List Step) → Renumbers m e text new → LineSpells text steps → LineSpells new (raised_steps m e steps)
renumbered_spells m e text new steps h spelled =
    let same : steps ≡ h.steps = spelled_once 2000000 (omega arith) text steps h.steps spelled h.spelled in
    subst (λ (xs : List Step). LineSpells new (raised_steps m e xs)) (sym same)
    (subst (λ (t : List ℕ). LineSpells t (raised_steps m e h.steps)) (sym h.is) (lines_spell (m + e) (raised_steps m e h.steps) h.fit))

pub renumbered_once : (m e : ℕ) (text s t : List ℕ) → Renumbers m e text s → Renumbers m e text t → s ≡ t
renumbered_once m e text s t h g =
    h.is ∙ ap (λ (xs : List Step). lines_from (m + e) (raised_steps m e xs)) (spelled_once 2000000 (omega arith) text h.steps g.steps h.spelled g.spelled) ∙ sym g.is

pub renumbered_accepted : (F x : Cnf) (text new : List ℕ) → F.vars ≤ 99999999 → RefutesByRup F text → Renumbers (length F.clauses) (length x.clauses) text new → Accepts (extended F x) new
renumbered_accepted F x text new vars (steps, spelled, refuted) h =
    let m : ℕ = length F.clauses in
    let e : ℕ = length x.clauses in
    let few : max 2000000 (2 * F.vars) < 2 ^ 48 = omega arith in
    let more : 2000000 ≤ max 2000000 (2 * F.vars) = omega arith in
    let other : 2000000 ≤ max 2000000 (2 * (extended F x).vars) = omega arith in
    let same : steps ≡ h.steps = spelled_once (proof_top F) few text steps h.steps spelled (spells_more 2000000 (proof_top F) more text h.steps h.spelled) in
    let sum : length (F.clauses ++ x.clauses) ≡ m + e = length-append F.clauses x.clauses in (
      raised_steps m e steps,
      subst (λ (xs : List Step). LineSpellsWithin (proof_top (extended F x)) new (raised_steps m e xs)) (sym same)
          (spells_more 2000000 (proof_top (extended F x)) other new (raised_steps m e h.steps) (renumbered_spells m e text new h.steps h h.spelled)),
      refutation_raised F (extended F x).vars e (length (F.clauses ++ x.clauses)) x.clauses steps sum refuted,
    )

rup_refutes : (M : ClauseMap) (top : ℕ) (steps : List Step) → RupRefutation M top steps → Refutation M top steps
rup_refutes M top [] r = r
rup_refutes M top (Add id lits hints groups ∷ steps) (above, rup, none, more) =
    (insert M id lits, id, (above, inl (rup, none), refl, refl), elim more [ inl e ↦ inl e | inr later ↦ inr (rup_refutes (insert M id lits) id steps later) ])
rup_refutes M top (Delete ids ∷ steps) (live, distinct, later) =
    (without M ids, top, (live, distinct, refl, refl), inr (rup_refutes (without M ids) top steps later))

pub rup_accepted : (F : Cnf) (text : List ℕ) → RefutesByRup F text → Accepts F text
rup_accepted F text (steps, spelled, refuted) = (steps, spelled, rup_refutes (map_of F) (length F.clauses) steps refuted)
