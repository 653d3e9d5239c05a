-- A tally keeps count of a drill.
use Rattle.std.proofs.Common.{◌≡◌, ℕ, zero, suc, ◌+◌, Bool, true, false, List, [], ◌∷◌, ◌++◌, length, Contains, Option, None, Result, Ok, Err, IfOk, MatchBool, refl, subst, sym, ap, ap₂, ◌∙◌, inl, inr, ◌⊎◌, arith}
use Rattle.std.proofs.lemmas.List.Elements.{Contains-append_left, Contains-append_right, Contains-append_cases}
use Rattle.lrat_check.specs.declared.verdict.Reaction.{Reaction}
use Rattle.lrat_check.specs.declared.verdict.Verdict.{Verdict}
use Rattle.honest_cluster.specs.ClosedSchedule.{ClosedState}
use Rattle.node_main.specs.DrillSchedule.{DrillState, Counts, Drills, HasHeld, Holds, IsRefusedReaction, Occurs, TakesTurn, begun, drawn_event, next_after}
use Rattle.node_main.specs.DrillReports.{IsCalm, ReportsDrill, drill_status, drill_text}
use Rattle.node_main.specs.inner.VerdictKinds.{AreKinds, are_at_odds, joined}
use Rattle.node_main.specs.inner.Tallies.{IsTally, counted}
use Rattle.node_main.specs.declared.commands.drill.verdict_kinds.Kinds.{Kinds}
use Rattle.node_main.specs.declared.commands.drill.tally.Tally.{Tally}
use Rattle.reports.specs.declared.report.Report.{Report}
use Rattle.node_main.proofs.VerdictKindLemmas.{both_kinds, odds_are, same_kinds}

-- what is counted by a flag that tells of it
counts : (old new kept : ℕ) (flag : Bool) (P : Type 0) → MatchBool flag P (¬ P) → kept ≡ old → new ≡ counted kept flag → Counts P old new
counts old new kept true P so same is = Counts.counted so (is ∙ ap (λ (k : ℕ). k + 1) same)
counts old new kept false P so same is = Counts.passed so (is ∙ same)

-- what was held before, and what is held now
held_more : (moments : List ClosedState) (s : ClosedState) (k l : Kinds) → AreKinds k (HasHeld moments) → AreKinds l (Holds s) → AreKinds (joined k l) (HasHeld (moments ++ s ∷ []))
held_more moments s k l before here = same_kinds (joined k l) (λ v. HasHeld moments v ⊎ Holds s v) (HasHeld (moments ++ s ∷ [])) there back (both_kinds k l (HasHeld moments) (Holds s) before here)
  where
    there : (v : Verdict) → HasHeld moments v ⊎ Holds s v → HasHeld (moments ++ s ∷ []) v
    there v (inl (t, among, holds)) = (t, Contains-append_left moments (s ∷ []) t among, holds)
    there v (inr holds) = (s, Contains-append_right moments (s ∷ []) s (0, omega arith, refl), holds)

    only : (t : ClosedState) (v : Verdict) → Contains (s ∷ []) t → Holds t v → Holds s v
    only t v (zero, lt, at) holds = subst (λ (k : ClosedState). Holds k v) (sym at) holds
    only t v (suc k, lt, at) holds = absurd (omega (arith, lt))

    back : (v : Verdict) → HasHeld (moments ++ s ∷ []) v → HasHeld moments v ⊎ Holds s v
    back v (t, among, holds) = elim (Contains-append_cases moments (s ∷ []) t among) [ inl old ↦ inl (t, old, holds) | inr last ↦ inr (only t v last holds) ]

-- a turn, and the tally after it
pub turn_is : (old : DrillState) (words : List ℕ) (t u : Tally) (s new : ClosedState) (answer : Option Reaction) (refusal : Bool) (kinds : Kinds)
    → IsTally t old → old.cluster ≡ s → Occurs s (drawn_event words (length s.frames) t.next) answer new → MatchBool refusal (IsRefusedReaction answer) (¬ (IsRefusedReaction answer)) → AreKinds kinds (Holds new)
    → u.next ≡ next_after (drawn_event words (length s.frames) t.next) t.next → u.held ≡ joined t.held kinds → u.refused ≡ counted t.refused refusal → u.disagreements ≡ counted t.disagreements (are_at_odds kinds u.held)
    → (after : DrillState) × TakesTurn old words after × IsTally u after × (after.cluster ≡ new)
turn_is old words t u s new answer refusal kinds tally at occurs refused are next_is held_is refused_is disagreements_is =
    (after, turn, record { next = refl; held = held; refused = refl; disagreements = refl }, refl)
  where
    after : DrillState
    after = record { cluster = new; next = u.next; moments = old.moments ++ new ∷ []; refused = u.refused; disagreements = u.disagreements }

    held : AreKinds u.held (HasHeld (old.moments ++ new ∷ []))
    held = subst (λ (k : Kinds). AreKinds k (HasHeld (old.moments ++ new ∷ []))) (sym held_is) (held_more old.moments new t.held kinds tally.held are)

    happened : Occurs old.cluster (drawn_event words (length old.cluster.frames) old.next) answer new
    happened =
        subst (λ (n : ℕ). Occurs old.cluster (drawn_event words (length old.cluster.frames) n) answer new) tally.next
        (subst (λ (k : ClosedState). Occurs k (drawn_event words (length k.frames) t.next) answer new) (sym at) occurs)

    numbered : u.next ≡ next_after (drawn_event words (length old.cluster.frames) old.next) old.next
    numbered =
        subst (λ (n : ℕ). u.next ≡ next_after (drawn_event words (length old.cluster.frames) n) n) tally.next
        (subst (λ (k : ClosedState). u.next ≡ next_after (drawn_event words (length k.frames) t.next) t.next) (sym at) next_is)

    turn : TakesTurn old words after
    turn = record {
      answer = answer;
      occurs = happened;
      next = numbered;
      moments = refl;
      refused = counts old.refused u.refused t.refused refusal _ refused tally.refused refused_is;
      disagreements = counts old.disagreements u.disagreements t.disagreements (are_at_odds kinds u.held) _
          (odds_are kinds u.held (Holds new) (HasHeld (old.moments ++ new ∷ [])) are held) tally.disagreements disagreements_is;
    }

-- what is reported of the turns that were taken
pub reported : {E : Type 0} (result : Result Report E) (old new : ClosedState) (words : List (List ℕ)) (t : Tally) (d : DrillState) → Drills (begun old) words d → IsTally t d → d.cluster ≡ new
    → IfOk result (λ r. r.stdout.items ≡ drill_text (length words) t.refused t.disagreements) → IfOk result (λ r. r.status ≡ drill_status t.refused t.disagreements) → IfOk result (λ r. r.proof ≡ None)
    → IfOk result (ReportsDrill old words new)
reported (Ok r) old new words t d drills tally at text status proof = record {
  drilled = record { last = d; drills = drills; cluster = at };
  text = text ∙ ap₂ (drill_text (length words)) tally.refused tally.disagreements;
  status = status ∙ ap₂ drill_status tally.refused tally.disagreements;
  proof = proof;
}
reported (Err e) old new words t d drills tally at text status proof = tt

-- and of turns that brought nothing
pub calm : {E : Type 0} (result : Result Report E) (turns refused disagreements : ℕ) → refused ≡ 0 → disagreements ≡ 0
    → IfOk result (λ r. r.stdout.items ≡ drill_text turns refused disagreements) → IfOk result (λ r. r.status ≡ drill_status refused disagreements) → IfOk result (λ r. r.proof ≡ None)
    → IfOk result (IsCalm turns)
calm (Ok r) turns refused disagreements none never text status proof =
    record { text = text ∙ ap₂ (drill_text turns) none never; status = status ∙ ap₂ drill_status none never; proof = proof }
calm (Err e) turns refused disagreements none never text status proof = tt
