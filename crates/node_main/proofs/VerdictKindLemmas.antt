-- Kinds of verdicts.
use Rattle.std.proofs.Common.{◌≡◌, ℕ, zero, suc, ◌+◌, ◌<◌, Bool, true, false, ◌||◌, ◌&&◌, List, length, Option, Some, None, slice_get, MatchBool, refl, subst, inl, inr, ◌⊎◌, arith}
use Rattle.std.proofs.lemmas.Bool.{cases_lt}
use Rattle.std.proofs.lemmas.Option.{slice_get_within}
use Rattle.lrat_check.specs.Verdicts.{Differ}
use Rattle.lrat_check.specs.declared.verdict.Verdict.{Verdict}
use Rattle.lrat_check.specs.declared.verdict.Verdict.TheVariants.{Nothing, Model, Proof}
use Rattle.worker_core.specs.Worker.{WorkerState}
use Rattle.honest_cluster.specs.ClosedSchedule.{ClosedState, held_by, verdict_at}
use Rattle.honest_cluster.proofs.Places.{none_some}
use Rattle.node_main.specs.DrillSchedule.{Holds}
use Rattle.node_main.specs.inner.VerdictKinds.{AreKinds, are_at_odds, joined}
use Rattle.node_main.specs.declared.commands.drill.verdict_kinds.Kinds.{Kinds}

-- a flag tells of either of two facts
either : {X : Type 0} (a b : Bool) (P Q : X → Type 0) → MatchBool a ((x : X) × P x) ((x : X) → ¬ (P x)) → MatchBool b ((x : X) × Q x) ((x : X) → ¬ (Q x))
    → MatchBool (a || b) ((x : X) × (P x ⊎ Q x)) ((x : X) → ¬ (P x ⊎ Q x))
either true b P Q p q = (p.0, inl p.1)
either false true P Q p q = (q.0, inr q.1)
either false false P Q p q = λ x h. elim h [ inl left ↦ p x left | inr right ↦ q x right ]

-- and of another that is as good
as_good : {X : Type 0} (a : Bool) (P Q : X → Type 0) → ((x : X) → P x → Q x) → ((x : X) → Q x → P x) → MatchBool a ((x : X) × P x) ((x : X) → ¬ (P x)) → MatchBool a ((x : X) × Q x) ((x : X) → ¬ (Q x))
as_good true P Q there back p = (p.0, there p.0 p.1)
as_good false P Q there back p = λ x h. p x (back x h)

-- no verdict is held
pub no_kinds : (P : Verdict → Type 0) → ((values : List Bool) → ¬ (P (Model values))) → ((text : List ℕ) → ¬ (P (Proof text))) → AreKinds (record { assignment = false; proof = false }) P
no_kinds P none never = record { assignment = none; proof = never }

-- the kinds of both
pub both_kinds : (k l : Kinds) (P Q : Verdict → Type 0) → AreKinds k P → AreKinds l Q → AreKinds (joined k l) (λ v. P v ⊎ Q v)
both_kinds k l P Q p q = record {
  assignment = either k.assignment l.assignment (λ values. P (Model values)) (λ values. Q (Model values)) p.assignment q.assignment;
  proof = either k.proof l.proof (λ text. P (Proof text)) (λ text. Q (Proof text)) p.proof q.proof;
}

pub same_kinds : (k : Kinds) (P Q : Verdict → Type 0) → ((v : Verdict) → P v → Q v) → ((v : Verdict) → Q v → P v) → AreKinds k P → AreKinds k Q
same_kinds k P Q there back p = record {
  assignment = as_good k.assignment (λ values. P (Model values)) (λ values. Q (Model values)) (λ values. there (Model values)) (λ values. back (Model values)) p.assignment;
  proof = as_good k.proof (λ text. P (Proof text)) (λ text. Q (Proof text)) (λ text. there (Proof text)) (λ text. back (Proof text)) p.proof;
}

-- one is an assignment and the other a proof, or the other way round
split_differ : (P Q : Verdict → Type 0) (v w : Verdict) → P v → Q w → Differ v w
    → (((values : List Bool) × P (Model values)) × ((text : List ℕ) × Q (Proof text))) ⊎ (((text : List ℕ) × P (Proof text)) × ((values : List Bool) × Q (Model values)))
split_differ P Q (Model values) (Proof text) p q differ = inl ((values, p), (text, q))
split_differ P Q (Proof text) (Model values) p q differ = inr ((text, p), (values, q))
split_differ P Q Nothing w p q differ = absurd differ
split_differ P Q (Model values) Nothing p q differ = absurd differ
split_differ P Q (Model values) (Model others) p q differ = absurd differ
split_differ P Q (Proof text) Nothing p q differ = absurd differ
split_differ P Q (Proof text) (Proof other) p q differ = absurd differ

crossed : (a b c d : Bool) (S : Type 0) (A B C D : Type 0) → MatchBool a A (¬ A) → MatchBool b B (¬ B) → MatchBool c C (¬ C) → MatchBool d D (¬ D)
    → (A → D → S) → (B → C → S) → (S → (A × D) ⊎ (B × C)) → MatchBool ((a && d) || (b && c)) S (¬ S)
crossed true b c true S A B C D p q r t one other back = one p t
crossed true true true false S A B C D p q r t one other back = other q r
crossed true true false false S A B C D p q r t one other back = λ s. elim (back s) [ inl h ↦ t h.1 | inr h ↦ r h.1 ]
crossed true false c false S A B C D p q r t one other back = λ s. elim (back s) [ inl h ↦ t h.1 | inr h ↦ q h.0 ]
crossed false true true d S A B C D p q r t one other back = other q r
crossed false true false d S A B C D p q r t one other back = λ s. elim (back s) [ inl h ↦ p h.0 | inr h ↦ r h.1 ]
crossed false false c d S A B C D p q r t one other back = λ s. elim (back s) [ inl h ↦ p h.0 | inr h ↦ q h.0 ]

-- a flag that tells of none tells that there is no pair
no_pair : {X : Type 0} (a : Bool) (P : X → Type 0) → MatchBool a ((x : X) × P x) ((x : X) → ¬ (P x)) → MatchBool a ((x : X) × P x) (¬ ((x : X) × P x))
no_pair true P p = p
no_pair false P p = λ h. p h.0 h.1

pub odds_are : (k l : Kinds) (P Q : Verdict → Type 0) → AreKinds k P → AreKinds l Q
    → MatchBool (are_at_odds k l) ((v w : Verdict) × P v × Q w × Differ v w) (¬ ((v w : Verdict) × P v × Q w × Differ v w))
odds_are k l P Q p q =
    crossed k.assignment k.proof l.assignment l.proof ((v w : Verdict) × P v × Q w × Differ v w) _ _ _ _
    (no_pair k.assignment (λ (values : List Bool). P (Model values)) p.assignment) (no_pair k.proof (λ (text : List ℕ). P (Proof text)) p.proof)
    (no_pair l.assignment (λ (values : List Bool). Q (Model values)) q.assignment) (no_pair l.proof (λ (text : List ℕ). Q (Proof text)) q.proof)
    (λ a d. (Model a.0, Proof d.0, a.1, d.1, tt)) (λ b c. (Proof b.0, Model c.0, b.1, c.1, tt))
    (λ h. split_differ P Q h.0 h.1 h.2 h.3 h.4)

-- if there are three workers, a node that holds a verdict is one of four
pub holds_below : (s : ClosedState) (v : Verdict) (node : ℕ) → length s.workers ≡ 3 → verdict_at s node ≡ Some v → node < 4
holds_below s v zero three held = omega arith
holds_below s v (suc place) three held = go (slice_get s.workers place) refl held
  where
    go : (o : Option WorkerState) → slice_get s.workers place ≡ o → held_by o ≡ Some v → suc place < 4
    go None at h = absurd (none_some v h)
    go (Some w) at h = let within : place < length s.workers = slice_get_within s.workers place w at in omega (arith, within, three)

-- the kinds of the first nodes and of the next one
pub kinds_more : (s : ClosedState) (bound : ℕ) (k l : Kinds) → AreKinds k (λ v. (node : ℕ) × (node < bound) × (verdict_at s node ≡ Some v)) → AreKinds l (λ v. verdict_at s bound ≡ Some v)
    → AreKinds (joined k l) (λ v. (node : ℕ) × (node < bound + 1) × (verdict_at s node ≡ Some v))
kinds_more s bound k l before here =
    same_kinds (joined k l) (λ v. ((node : ℕ) × (node < bound) × (verdict_at s node ≡ Some v)) ⊎ (verdict_at s bound ≡ Some v)) (λ v. (node : ℕ) × (node < bound + 1) × (verdict_at s node ≡ Some v))
    there back (both_kinds k l (λ v. (node : ℕ) × (node < bound) × (verdict_at s node ≡ Some v)) (λ v. verdict_at s bound ≡ Some v) before here)
  where
    there : (v : Verdict) → ((node : ℕ) × (node < bound) × (verdict_at s node ≡ Some v)) ⊎ (verdict_at s bound ≡ Some v) → (node : ℕ) × (node < bound + 1) × (verdict_at s node ≡ Some v)
    there v (inl (node, lt, held)) = (node, omega (arith, lt), held)
    there v (inr held) = (bound, omega arith, held)

    back : (v : Verdict) → (node : ℕ) × (node < bound + 1) × (verdict_at s node ≡ Some v) → ((node : ℕ) × (node < bound) × (verdict_at s node ≡ Some v)) ⊎ (verdict_at s bound ≡ Some v)
    back v (node, lt, held) =
        elim (cases_lt node bound) [ inl below ↦ inl (node, below, held) | inr above ↦ (let last : node ≡ bound = omega (arith, lt, above) in inr (subst (λ (k : ℕ). verdict_at s k ≡ Some v) last held)) ]

-- four nodes are all
pub kinds_all : (s : ClosedState) (k : Kinds) → length s.workers ≡ 3 → AreKinds k (λ v. (node : ℕ) × (node < 4) × (verdict_at s node ≡ Some v)) → AreKinds k (Holds s)
kinds_all s k three are =
    same_kinds k (λ v. (node : ℕ) × (node < 4) × (verdict_at s node ≡ Some v)) (Holds s) (λ v h. (h.0, h.2)) (λ v h. (h.0, holds_below s v h.0 three h.1, h.1)) are
