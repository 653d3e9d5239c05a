-- The kinds of the verdicts that are held. Verdicts differ by their kinds, so nothing else is kept of them.
use Rattle.std.specs.Prelude.{ℕ, Bool, ◌||◌, ◌&&◌, List, MatchBool}
use Rattle.lrat_check.specs.declared.verdict.Verdict.{Verdict}
use Rattle.lrat_check.specs.declared.verdict.Verdict.TheVariants.{Model, Proof}
use Rattle.node_main.specs.declared.commands.drill.verdict_kinds.Kinds.{Kinds}

-- the flags tell whether an assignment is among the verdicts that are held, and whether a proof is
pub record AreKinds (kinds : Kinds) (IsHeld : Verdict → Type 0) : Type 0 where
  pub assignment : MatchBool kinds.assignment ((values : List Bool) × IsHeld (Model values)) ((values : List Bool) → ¬ (IsHeld (Model values)))
  pub proof : MatchBool kinds.proof ((text : List ℕ) × IsHeld (Proof text)) ((text : List ℕ) → ¬ (IsHeld (Proof text)))

-- the kinds among two collections of verdicts together
abbrev pub joined : Kinds → Kinds → Kinds
joined k l = record { assignment = k.assignment || l.assignment; proof = k.proof || l.proof }

-- there is an assignment in one of two collections of verdicts, and a proof in the other
abbrev pub are_at_odds : Kinds → Kinds → Bool
are_at_odds k l = (k.assignment && l.proof) || (k.proof && l.assignment)
