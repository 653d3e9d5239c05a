-- Clauses are added to the formula of a coordinator.
use Rattle.std.proofs.Common.{◌≡◌, ℕ, ◌<◌, ◌≤◌, ◌^◌, [], ◌∷◌, length, map, refl, sym, ap, subst, ◌∙◌, arith}
use Rattle.std.specs.Prelude.{All}
use Rattle.std.proofs.lemmas.List.Elements.{All-nil, All-cons}
use Rattle.std.proofs.lemmas.List.{length-map}
use Rattle.dimacs.specs.logic.Cnf.{Cnf, IsFormula}
use Rattle.dimacs.specs.logic.Extension.{extended}
use Rattle.dimacs.specs.logic.Literal.{IsWithin}
use Rattle.icnf.specs.Leaves.{Leaves, IsTree}
use Rattle.cube_split.specs.Definitions.{base_with}
use Rattle.cube_split.specs.Pairs.{AreOf, Definitions}
use Rattle.lrat_check.specs.Judgement.{value_byte}
use Rattle.lrat_check.specs.Verdicts.{Right}
use Rattle.lrat_check.specs.declared.verdict.Reaction.{Reaction}
use Rattle.lrat_check.specs.declared.verdict.Reaction.TheVariants.{Taken}
use Rattle.lrat_check.specs.declared.verdict.Verdict.{Verdict}
use Rattle.lrat_check.specs.declared.verdict.Verdict.TheVariants.{Model}
use Rattle.evidence.specs.Evidence.{bytes_in}
use Rattle.evidence.specs.Jobs.{IsOverBase}
use Rattle.evidence.specs.KeptVerdict.{IsGrown, KeptVerdict, values_in}
use Rattle.evidence.specs.declared.kept_verdict.Grown.{Grown}
use Rattle.coordinator_core.specs.Coordinator.{CoordinatorState, IsDeciding}
use Rattle.coordinator_core.specs.AddedClauses.{ExtendsCoordinator}
use Rattle.coordinator_core.specs.Invariant.{IsCoordinator}
use Rattle.coordinator_core.proofs.NewCoordinatorLemmas.{beginning, begins}
use Rattle.coordinator_core.proofs.InvariantLemmas.{is_decided}

-- ---- the tree of one leaf
one_leaf : IsTree ([] ∷ [])
one_leaf = record { leaves = Leaves.leaf; count = omega arith; short = All-cons (λ c. length c ≤ 64) [] [] (omega arith) (All-nil (λ c. length c ≤ 64)) }

pub leaf_inside : (B : Cnf) → All (IsOverBase B) ([] ∷ [])
leaf_inside B = All-cons (IsOverBase B) [] [] (All-nil (IsWithin B.vars)) (All-nil (IsOverBase B))

pub leaf_narrow : All (All (IsWithin 2000000)) ([] ∷ [])
leaf_narrow = All-cons (All (IsWithin 2000000)) [] [] (All-nil (IsWithin 2000000)) (All-nil (All (IsWithin 2000000)))

-- ---- what is kept fits a frame
short_of : (F x : Cnf) (old new : Verdict) → IsFormula (extended F x) → Right (extended F x) new → KeptVerdict F x old new → length (bytes_in new) < 2 ^ 32
short_of F x old new limits right (KeptVerdict.nothing e n) = subst (λ (v : Verdict). length (bytes_in v) < 2 ^ 32) (sym n) (omega arith)
short_of F x old new limits right (KeptVerdict.model_kept values e sat n) =
    let was : Right (extended F x) (Model (values_in F x values)) = subst (Right (extended F x)) n right in
    let long : length (values_in F x values) ≡ (extended F x).vars = was.0 in
    let count : length (map value_byte (values_in F x values)) ≡ (extended F x).vars = simp length-map long in
    subst (λ (v : Verdict). length (bytes_in v) < 2 ^ 32) (sym n) (omega (arith, count, limits.vars))
short_of F x old new limits right (KeptVerdict.model_dropped values e wrong n) = subst (λ (v : Verdict). length (bytes_in v) < 2 ^ 32) (sym n) (omega arith)
short_of F x old new limits right (KeptVerdict.proof_kept text kept e renumbered ok n) = subst (λ (v : Verdict). length (bytes_in v) < 2 ^ 32) (sym n) renumbered.short
short_of F x old new limits right (KeptVerdict.proof_dropped text e none n) = subst (λ (v : Verdict). length (bytes_in v) < 2 ^ 32) (sym n) (omega arith)

pub grown_short : (F x : Cnf) (held : Verdict) (g : Grown) → IsGrown F x held g → Right g.formula g.verdict → length (bytes_in g.verdict) < 2 ^ 32
grown_short F x held g is right = short_of F x held g.verdict is.limits (subst (λ (G : Cnf). Right G g.verdict) is.formula right) is.stays

-- ---- a coordinator that is restarted with the longer formula
pub begins_grown : (c : CoordinatorState) (x : Cnf) (session : ℕ) (g : Grown) (new : CoordinatorState) → IsGrown c.formula x c.verdict g
    → (d : Definitions) × AreOf g.formula d × (d.wanted ≡ c.definitions.wanted) × (new ≡ record (beginning g.formula d ([] ∷ []) c.limit (length c.jobs) session) { verdict = g.verdict })
    → ExtendsCoordinator c x session Taken new
begins_grown c x session g new is (d, defined, wanted, now) =
    ExtendsCoordinator.taken (is.limits, is.fits) g.verdict is.stays refl (record {
      definitions = d;
      wanted = wanted;
      defined = subst (λ (F : Cnf). AreOf F d) is.formula defined;
      made = now ∙ ap (λ (F : Cnf). record (beginning F d ([] ∷ []) c.limit (length c.jobs) session) { verdict = g.verdict }) is.formula;
    })

-- what is kept of a right verdict is right
abbrev pub KeepsRight : Type 0
KeepsRight = (F x : Cnf) (old new : Verdict) → Right F old → KeptVerdict F x old new → Right (extended F x) new

pub extended_sound : KeepsRight → (old : CoordinatorState) (x : Cnf) (session : ℕ) (answer : Reaction) (new : CoordinatorState) → ExtendsCoordinator old x session answer new → IsCoordinator old → IsCoordinator new
extended_sound keeps old x session answer new (ExtendsCoordinator.too_large large a now) is = subst IsCoordinator (sym now) is
extended_sound keeps old x session answer new (ExtendsCoordinator.taken limits held stays a made) is =
    let F : Cnf = extended old.formula x in
    let right : Right F held = keeps old.formula x old.verdict held is.right stays in
    let d : Definitions = made.definitions in
    let fresh : CoordinatorState = beginning F d ([] ∷ []) old.limit (length old.jobs) session in
    let begun : IsCoordinator fresh =
    begins F d ([] ∷ []) old.limit (length old.jobs) session limits.0 made.defined (record { is_tree = one_leaf; inside = leaf_inside (base_with F d.pairs); narrow = leaf_narrow }) is.tables.some_worker is.tables.few_workers in
    let deciding : IsDeciding fresh = record { undecided = refl; going = refl } in
    subst IsCoordinator (sym made.made) (is_decided fresh held deciding right (short_of old.formula x old.verdict held limits.0 right stays) begun)
extended_sound keeps old x session answer new (ExtendsCoordinator.no_memory limits a now) is = subst IsCoordinator (sym now) is
