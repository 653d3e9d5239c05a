-- What is kept of a right verdict is right, and is determined.
use Rattle.std.proofs.Common.{◌≡◌, ℕ, ◌-◌, ◌≤◌, inl, inr, Bool, false, List, length, refl, sym, ◌∙◌, ap, subst, arith, length-append}
use Rattle.std.specs.Prelude.{max, replicate, Option, None, Some, IfSome, MatchOption, Result, Ok, Err, IfOk}
use Rattle.std.proofs.Math.Nat.{le-max_left}
use Rattle.std.proofs.lemmas.List.{length-replicate}
use Rattle.dimacs.specs.logic.Cnf.{Cnf, FitsIn, Sat, assignment_of}
use Rattle.dimacs.specs.logic.Extension.{extended}
use Rattle.dimacs.specs.logic.Limits.{written}
use Rattle.lrat_text.specs.Proof.{Accepts}
use Rattle.lrat_check.specs.Verdicts.{Right}
use Rattle.lrat_check.specs.declared.verdict.Verdict.{Verdict}
use Rattle.lrat_check.specs.declared.verdict.Verdict.TheVariants.{Nothing, Model, Proof}
use Rattle.proof_join.specs.RenumberedProof.{Renumbers, RefutesByRup}
use Rattle.proof_join.proofs.KeptLemmas.{renumbered_once, renumbered_accepted}
use Rattle.evidence.specs.declared.kept_verdict.Grown.{Grown}
use Rattle.evidence.specs.KeptVerdict.{IsGrown, lengthened, values_in, IsTextIn, KeptVerdict}
use Rattle.evidence.specs.inner.KeptProof.{IsHeldIfAccepted}

not_model : (text : List ℕ) (values : List Bool) → ◌≡◌ {A = Verdict} (Proof text) (Model values) → ⊥
not_model text values e = cc

not_nothing : (text : List ℕ) → ◌≡◌ {A = Verdict} (Proof text) Nothing → ⊥
not_nothing text e = cc

model_some : (values : List Bool) → ◌≡◌ {A = Verdict} (Model values) Nothing → ⊥
model_some values e = cc

same_text : (text other : List ℕ) → ◌≡◌ {A = Verdict} (Proof text) (Proof other) → text ≡ other
same_text text other e = cc

same_values : (values other : List Bool) → ◌≡◌ {A = Verdict} (Model values) (Model other) → values ≡ other
same_values values other e = cc

-- a text is renumbered in one way
once : (F x : Cnf) (text other s t : List ℕ) → other ≡ text → IsTextIn F x text s → IsTextIn F x other t → s ≡ t
once F x text other s t same one two =
    renumbered_once (length F.clauses) (length x.clauses) text s t one (subst (λ (w : List ℕ). IsTextIn F x w t) same two)

-- a proof by reverse unit propagation alone is kept
pub rup_kept : (F x : Cnf) (text kept : List ℕ) (new : Verdict) → F.vars ≤ 99999999 → RefutesByRup F text → IsTextIn F x text kept → KeptVerdict F x (Proof text) new → new ≡ Proof kept
rup_kept F x text kept new vars r h (KeptVerdict.nothing e n) = absurd (not_nothing text e)
rup_kept F x text kept new vars r h (KeptVerdict.model_kept values e sat n) = absurd (not_model text values e)
rup_kept F x text kept new vars r h (KeptVerdict.model_dropped values e sat n) = absurd (not_model text values e)
rup_kept F x text kept new vars r h (KeptVerdict.proof_kept other found e g ok n) = n ∙ ap (λ (t : List ℕ). Proof t) (sym (once F x text other kept found (sym (same_text text other e)) h g))
rup_kept F x text kept new vars r h (KeptVerdict.proof_dropped other e none n) =
    absurd (none kept (subst (λ (t : List ℕ). IsTextIn F x t kept) (same_text text other e) h) (renumbered_accepted F x text kept vars r h))

pub long_enough : (vars : ℕ) (values : List Bool) → length values ≤ vars → length (lengthened vars values) ≡ vars
long_enough vars values low =
    let a = length-append values (replicate (vars - length values) false) in
    let b = length-replicate (vars - length values) false in
    omega arith

-- what is kept of a right verdict is right
pub stays_right : (F x : Cnf) (old new : Verdict) → Right F old → KeptVerdict F x old new → Right (extended F x) new
stays_right F x old new right (KeptVerdict.nothing e n) = subst (Right (extended F x)) (sym n) tt
stays_right F x old new right (KeptVerdict.model_kept values e sat n) =
    let was : Right F (Model values) = subst (Right F) e right in
    let long : length values ≡ F.vars = was.0 in
    let most = le-max_left F.vars x.vars in
    subst (Right (extended F x)) (sym n) (long_enough (max F.vars x.vars) values (omega arith), sat)
stays_right F x old new right (KeptVerdict.model_dropped values e sat n) = subst (Right (extended F x)) (sym n) tt
stays_right F x old new right (KeptVerdict.proof_kept text kept e h ok n) = subst (Right (extended F x)) (sym n) ok
stays_right F x old new right (KeptVerdict.proof_dropped text e none n) = subst (Right (extended F x)) (sym n) tt

-- what is kept is one verdict
pub stays_once : (F x : Cnf) (old new other : Verdict) → KeptVerdict F x old new → KeptVerdict F x old other → new ≡ other
stays_once F x old new other (KeptVerdict.nothing e n) (KeptVerdict.nothing f k) = n ∙ sym k
stays_once F x old new other (KeptVerdict.nothing e n) (KeptVerdict.model_kept values f sat k) = absurd (model_some values (sym f ∙ e))
stays_once F x old new other (KeptVerdict.nothing e n) (KeptVerdict.model_dropped values f sat k) = n ∙ sym k
stays_once F x old new other (KeptVerdict.nothing e n) (KeptVerdict.proof_kept text kept f h ok k) = absurd (not_nothing text (sym f ∙ e))
stays_once F x old new other (KeptVerdict.nothing e n) (KeptVerdict.proof_dropped text f none k) = n ∙ sym k
stays_once F x old new other (KeptVerdict.model_kept values e sat n) (KeptVerdict.nothing f k) = absurd (model_some values (sym e ∙ f))
stays_once F x old new other (KeptVerdict.model_kept values e sat n) (KeptVerdict.model_kept more f sat' k) = n ∙ ap (λ (vs : List Bool). Model (values_in F x vs)) (same_values values more (sym e ∙ f)) ∙ sym k
stays_once F x old new other (KeptVerdict.model_kept values e sat n) (KeptVerdict.model_dropped more f none k) =
    absurd (none (subst (λ (vs : List Bool). Sat (assignment_of (values_in F x vs)) (extended F x)) (same_values values more (sym e ∙ f)) sat))
stays_once F x old new other (KeptVerdict.model_kept values e sat n) (KeptVerdict.proof_kept text kept f h ok k) = absurd (not_model text values (sym f ∙ e))
stays_once F x old new other (KeptVerdict.model_kept values e sat n) (KeptVerdict.proof_dropped text f none k) = absurd (not_model text values (sym f ∙ e))
stays_once F x old new other (KeptVerdict.model_dropped values e wrong n) (KeptVerdict.nothing f k) = n ∙ sym k
stays_once F x old new other (KeptVerdict.model_dropped values e wrong n) (KeptVerdict.model_kept more f sat k) =
    absurd (wrong (subst (λ (vs : List Bool). Sat (assignment_of (values_in F x vs)) (extended F x)) (same_values more values (sym f ∙ e)) sat))
stays_once F x old new other (KeptVerdict.model_dropped values e wrong n) (KeptVerdict.model_dropped more f none k) = n ∙ sym k
stays_once F x old new other (KeptVerdict.model_dropped values e wrong n) (KeptVerdict.proof_kept text kept f h ok k) = absurd (not_model text values (sym f ∙ e))
stays_once F x old new other (KeptVerdict.model_dropped values e wrong n) (KeptVerdict.proof_dropped text f none k) = n ∙ sym k
stays_once F x old new other (KeptVerdict.proof_kept text kept e h ok n) (KeptVerdict.nothing f k) = absurd (not_nothing text (sym e ∙ f))
stays_once F x old new other (KeptVerdict.proof_kept text kept e h ok n) (KeptVerdict.model_kept values f sat k) = absurd (not_model text values (sym e ∙ f))
stays_once F x old new other (KeptVerdict.proof_kept text kept e h ok n) (KeptVerdict.model_dropped values f sat k) = absurd (not_model text values (sym e ∙ f))
stays_once F x old new other (KeptVerdict.proof_kept text kept e h ok n) (KeptVerdict.proof_kept more found f g fine k) =
    n ∙ ap (λ (t : List ℕ). Proof t) (once F x text more kept found (same_text more text (sym f ∙ e)) h g) ∙ sym k
stays_once F x old new other (KeptVerdict.proof_kept text kept e h ok n) (KeptVerdict.proof_dropped more f none k) =
    absurd (none kept (subst (λ (t : List ℕ). IsTextIn F x t kept) (same_text text more (sym e ∙ f)) h) ok)
stays_once F x old new other (KeptVerdict.proof_dropped text e none n) (KeptVerdict.nothing f k) = n ∙ sym k
stays_once F x old new other (KeptVerdict.proof_dropped text e none n) (KeptVerdict.model_kept values f sat k) = absurd (not_model text values (sym e ∙ f))
stays_once F x old new other (KeptVerdict.proof_dropped text e none n) (KeptVerdict.model_dropped values f sat k) = n ∙ sym k
stays_once F x old new other (KeptVerdict.proof_dropped text e none n) (KeptVerdict.proof_kept more found f g fine k) =
    absurd (none found (subst (λ (t : List ℕ). IsTextIn F x t found) (same_text more text (sym f ∙ e)) g) fine)
stays_once F x old new other (KeptVerdict.proof_dropped text e none n) (KeptVerdict.proof_dropped more f none' k) = n ∙ sym k

-- ---- what is kept, in the names of the code
pub values_kept : (F x G : Cnf) (values longer : List Bool) → G ≡ extended F x → longer ≡ lengthened G.vars values → Sat (assignment_of longer) G → KeptVerdict F x (Model values) (Model longer)
values_kept F x G values longer grown long sat =
    let is : longer ≡ values_in F x values = long ∙ ap (λ (H : Cnf). lengthened H.vars values) grown in
    let both : Sat (assignment_of (values_in F x values)) (extended F x) = subst (λ (H : Cnf). Sat (assignment_of (values_in F x values)) H) grown (subst (λ (vs : List Bool). Sat (assignment_of vs) G) is sat) in
    KeptVerdict.model_kept values refl both (ap (λ (vs : List Bool). Model vs) is)

pub values_dropped : (F x G : Cnf) (values longer : List Bool) → G ≡ extended F x → longer ≡ lengthened G.vars values → ¬ (Sat (assignment_of longer) G) → KeptVerdict F x (Model values) Nothing
values_dropped F x G values longer grown long wrong =
    let is : longer ≡ values_in F x values = long ∙ ap (λ (H : Cnf). lengthened H.vars values) grown in
    KeptVerdict.model_dropped values refl
    (λ sat. wrong (subst (λ (vs : List Bool). Sat (assignment_of vs) G) (sym is) (subst (λ (H : Cnf). Sat (assignment_of (values_in F x values)) H) (sym grown) sat))) refl

pub text_kept : (F x G : Cnf) (old more : ℕ) (text new : List ℕ) → G ≡ extended F x → old ≡ length F.clauses → more ≡ length x.clauses → Renumbers old more text new → Accepts G new → KeptVerdict F x (Proof text) (Proof new)
text_kept F x G old more text new grown o m h ok =
    let is : IsTextIn F x text new = subst (λ (k : ℕ). Renumbers (length F.clauses) k text new) m (subst (λ (k : ℕ). Renumbers k more text new) o h) in
    KeptVerdict.proof_kept text new refl is (subst (λ (H : Cnf). Accepts H new) grown ok) refl

pub text_dropped : (F x G : Cnf) (old more : ℕ) (text new : List ℕ) → G ≡ extended F x → old ≡ length F.clauses → more ≡ length x.clauses → Renumbers old more text new → ¬ (Accepts G new) → KeptVerdict F x (Proof text) Nothing
text_dropped F x G old more text new grown o m h wrong =
    let is : IsTextIn F x text new = subst (λ (k : ℕ). Renumbers (length F.clauses) k text new) m (subst (λ (k : ℕ). Renumbers k more text new) o h) in
    KeptVerdict.proof_dropped text refl (λ kept found ok. wrong (subst (λ (H : Cnf). Accepts H new) (sym grown) (subst (Accepts (extended F x)) (once F x text text kept new refl found is) ok))) refl

pub no_text : (F x : Cnf) (old more : ℕ) (text : List ℕ) → old ≡ length F.clauses → more ≡ length x.clauses → ((new : List ℕ) → ¬ (Renumbers old more text new)) → KeptVerdict F x (Proof text) Nothing
no_text F x old more text o m none =
    KeptVerdict.proof_dropped text refl
    (λ kept found ok. none kept (subst (λ (k : ℕ). Renumbers k more text kept) (sym o) (subst (λ (k : ℕ). Renumbers (length F.clauses) k text kept) (sym m) found))) refl

-- what is known of a call's option, once its case is known
pub of_none : {T : Type 0} (P : Type 0) (Q : T → Type 0) (o : Option T) → o ≡ None → MatchOption o P Q → P
of_none {T} P Q o is h = subst (λ (found : Option T). MatchOption found P Q) is h

pub of_some : {T : Type 0} (P : Type 0) (Q : T → Type 0) (o : Option T) (found : T) → o ≡ Some found → MatchOption o P Q → Q found
of_some {T} P Q o found is h = subst (λ (some : Option T). MatchOption some P Q) is h

-- what a call keeps of a text that it checked after renumbering
pub text_judged : {E : Type 0} (G : Cnf) (old more : ℕ) (text new : List ℕ) (r : Result Verdict E) → Renumbers old more text new → IfOk r (λ held. IsHeldIfAccepted G new held)
    → IfOk r (λ kept. (F x : Cnf) → G ≡ extended F x → old ≡ length F.clauses → more ≡ length x.clauses → KeptVerdict F x (Proof text) kept)
text_judged G old more text new (Err e) h judged = tt
text_judged G old more text new (Ok held) h judged =
    λ F x grown o m. elim judged [
      | inl (ok, is) ↦ subst (KeptVerdict F x (Proof text)) (sym is) (text_kept F x G old more text new grown o m h ok)
      | inr (wrong, is) ↦ subst (KeptVerdict F x (Proof text)) (sym is) (text_dropped F x G old more text new grown o m h wrong)
    ]

-- what holds of a text or an assignment holds of the verdict that has it
pub of_verdict : {E : Type 0} (F x G : Cnf) (old is : Verdict) (r : Result Verdict E) → old ≡ is → G ≡ extended F x
    → IfOk r (λ kept. (H y : Cnf) → G ≡ extended H y → KeptVerdict H y is kept) → IfOk r (λ kept. KeptVerdict F x old kept)
of_verdict F x G old is (Err e) same grown h = tt
of_verdict F x G old is (Ok kept) same grown h = subst (λ (v : Verdict). KeptVerdict F x v kept) (sym same) (h F x grown)

pub of_text : {E : Type 0} (F x G : Cnf) (old : Verdict) (text : List ℕ) (m e : ℕ) (r : Result Verdict E) → old ≡ Proof text → G ≡ extended F x → m ≡ length F.clauses → e ≡ length x.clauses
    → IfOk r (λ kept. (H y : Cnf) → G ≡ extended H y → m ≡ length H.clauses → e ≡ length y.clauses → KeptVerdict H y (Proof text) kept) → IfOk r (λ kept. KeptVerdict F x old kept)
of_text F x G old text m e (Err f) same grown o p h = tt
of_text F x G old text m e (Ok kept) same grown o p h = subst (λ (v : Verdict). KeptVerdict F x v kept) (sym same) (h F x grown o p)

-- what a machine learns from `grow`
pub grown_is : (F x : Cnf) (held : Verdict) (o : Option Grown) (g : Grown) → o ≡ Some g → MatchOption o (¬ (FitsIn written (extended F x))) (λ found. IsGrown F x held found) → IsGrown F x held g
grown_is F x held o g is h = of_some (¬ (FitsIn written (extended F x))) (λ found. IsGrown F x held found) o g is h

pub grown_right : (o : Option Grown) (g : Grown) → o ≡ Some g → IfSome o (λ found. Right found.formula found.verdict) → Right g.formula g.verdict
grown_right o g is h = subst (λ (some : Option Grown). IfSome some (λ found. Right found.formula found.verdict)) is h
