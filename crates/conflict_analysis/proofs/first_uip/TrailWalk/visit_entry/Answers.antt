use Rattle.std.specs.Prelude.{max}
use Rattle.std.proofs.Common.{◌≡◌, ◌++◌, ◌∷◌, [], ℕ, inl, inr, true, take, get_or, List, ap, sym, ◌∙◌, subst, refl, None}
use Rattle.std.proofs.lemmas.Bool.{OnTrue_at}
use Rattle.std.proofs.lemmas.Result.{on_ok_weaker}
use Rattle.dimacs.specs.logic.Literal.{Pos, negation, var_of}
use Rattle.watches.specs.declared.trail.Assigned.{Assigned}
use Rattle.conflict_analysis.specs.inner.Seen.{met}
use Rattle.clause_arena.specs.Clauses.{live_of}
use Rattle.conflict_analysis.specs.inner.Tallies.{IsTallied}
use Rattle.conflict_analysis.specs.inner.TrailWalk.{AreKnown, HasMet, IsWalk}
use Rattle.conflict_analysis.proofs.EntryStepLemmas.{past_unmet, reason_can_be_met, reason_lives, past_resolved, past_kept}
use Rattle.conflict_analysis.proofs.MetLemmas.{met_none}
use Rattle.conflict_analysis.proofs.TallyLemmas.{tally_passes, tally_resolves}
use Rattle.conflict_analysis.proofs.WalkLemmas.{ok_both}
use Rattle.conflict_analysis.proofs.first_uip.TrailWalk.visit_entry.Goals as goal
use Rattle.conflict_analysis.proofs.first_uip.TrailWalk.visit_entry.Goals.{After-index-entries-i}

default : Assigned
default = record { literal = Pos 1; level = 0; reason = None }

pub returns-then-not-step_past-clause-way : goal.returns-then-not-step_past-clause-way
returns-then-not-step_past-clause-way c =
    past_unmet c.args.arena.now c.args.trail.now c.args.i c.requires.within c.requires.built default c.args.self.now c.step_past.new.self c.args.lemma.now
    c.requires.way c.step_past.ensures.walk c.step_past.ensures.seen (c.step_past.ensures.lower default) (sym (c.step_past.ensures.here default) ∙ c.if-not-step_past.true) c.if-not-step_past.ensures.passed

-- the entry, by its place
entry_is : (es xs : List Assigned) (i : ℕ) (e : Assigned) → xs ≡ es → e ≡ get_or xs i e → e ≡ get_or es i e
entry_is es xs i e q h = subst (λ ys. e ≡ get_or ys i e) q h

is : (c : After-index-entries-i) → c.index-entries-i.result ≡ get_or c.args.trail.now.entries c.args.i c.index-entries-i.result
is c = entry_is c.args.trail.now.entries c.entries-entries.result.now c.args.i c.index-entries-i.result c.entries-entries.ensures.entries c.index-entries-i.is

seen : (c : After-index-entries-i) → met c.args.self.now.seen (var_of (get_or c.args.trail.now.entries c.args.i c.index-entries-i.result).literal) ≡ true
seen c = sym (c.step_past.ensures.here c.index-entries-i.result) ∙ c.if-not-step_past.false

pub analyse_number-requires-clause-live : goal.analyse_number-requires-clause-live
analyse_number-requires-clause-live c =
    let b = (goal.at.analyse_number-requires-clause-live c).After-index-entries-i in
    reason_lives c.args.arena.now c.args.trail.now c.args.i c.requires.within c.requires.built c.index-entries-i.result c.args.self.now c.step_past.new.self c.args.lemma.now
    c.requires.way c.step_past.ensures.walk c.step_past.ensures.seen (c.step_past.ensures.lower c.index-entries-i.result) c.in-Some.number (ap (λ (x : Assigned). x.reason) (sym (is b)) ∙ c.in-Some.ensures.choice.0)

pub analyse_number-requires-clause-known : goal.analyse_number-requires-clause-known
analyse_number-requires-clause-known c = λ C h k j.
    let b = (goal.at.analyse_number-requires-clause-known c).After-index-entries-i in
    subst (λ xs. AreKnown (take c.args.i xs) (met c.step_past.new.self.seen) C) (sym c.entries-entries.ensures.entries)
    (reason_can_be_met c.args.arena.now c.args.trail.now c.args.i c.requires.within c.requires.built c.index-entries-i.result c.args.self.now c.step_past.new.self c.args.lemma.now
    c.requires.way c.step_past.ensures.walk c.step_past.ensures.seen (c.step_past.ensures.lower c.index-entries-i.result) (seen b) c.in-Some.number (ap (λ (x : Assigned). x.reason) (sym (is b)) ∙ c.in-Some.ensures.choice.0) C h) k j

pub returns-in_ok-push-in-Some-clause-way : goal.returns-in_ok-push-in-Some-clause-way
returns-in_ok-push-in-Some-clause-way c =
    let b = (goal.at.returns-in_ok-push-in-Some-clause-way c).After-index-entries-i in
    let e = c.in_ok-analyse_number-in-Some.ensures in
    let q = is b in
    past_resolved c.args.arena.now c.args.trail.now c.args.i c.requires.within c.requires.built c.index-entries-i.result c.args.self.now c.step_past.new.self c.args.lemma.now
    c.requires.way c.step_past.ensures.walk c.step_past.ensures.seen (c.step_past.ensures.lower c.index-entries-i.result) (seen b) c.in-Some.number (ap (λ (x : Assigned). x.reason) (sym q) ∙ c.in-Some.ensures.choice.0)
    (λ l. c.in-Some.ensures.choice.1 (ap (λ (x : Assigned). x.level) q ∙ l)) c.analyse_number.new.self
    (subst (λ xs. IsWalk c.args.trail.now (take c.args.i xs) c.analyse_number.new.self) c.entries-entries.ensures.entries e.walk)
    (subst (λ xs. HasMet (take c.args.i xs) c.step_past.new.self.seen c.analyse_number.new.self.seen) c.entries-entries.ensures.entries e.seen)
    e.all _ refl c.in_ok-push-in-Some.ensures.items refl

pub returns-in-None-clause-way : goal.returns-in-None-clause-way
returns-in-None-clause-way c =
    let b = (goal.at.returns-in-None-clause-way c).After-index-entries-i in
    let q = is b in
    let level = ap (λ (x : Assigned). x.level) q in
    let lits = c.args.lemma.now.lits.items in
    let p = (c.step_past.ensures.walk).level in
    on_ok_weaker c.keep.result (λ k.
    past_kept c.args.arena.now c.args.trail.now c.args.i c.requires.within c.requires.built c.index-entries-i.result c.args.self.now c.step_past.new.self c.args.lemma.now
    c.requires.way c.step_past.ensures.walk c.step_past.ensures.seen (c.step_past.ensures.lower c.index-entries-i.result) (seen b)
    (λ l. elim (c.in-None.ensures.choice (level ∙ l)) [ inl z ↦ inl z | inr r ↦ inr (ap (λ (x : Assigned). x.reason) (sym q) ∙ r) ])
    c.keep.new.self (k.0 ∙ ap (λ (x : Assigned). lits ++ negation x.literal ∷ []) q) c.keep.ensures.hints
    (λ l. k.1.0 (level ∙ l ∙ sym p)) (λ n. k.1.1 (λ l. n (sym level ∙ l ∙ p)) ∙ ap (λ m. max c.args.lemma.now.level m) level))
    (ok_both _ _ c.keep.result c.keep.ensures.lits (ok_both _ _ c.keep.result c.keep.ensures.same c.keep.ensures.lower))

pub returns-in_ok-push-in-Some-clause-tally : goal.returns-in_ok-push-in-Some-clause-tally
returns-in_ok-push-in-Some-clause-tally c = λ number h.
    let b = (goal.at.returns-in_ok-push-in-Some-clause-tally c).After-index-entries-i in
    let x = c.in_ok-analyse_number-in-Some.ensures.noted in
    let live = live_of c.args.arena.now in
    subst (IsTallied live c.args.trail.now number c.args.i c.analyse_number.new.self) (sym c.in_ok-push-in-Some.ensures.items)
    (tally_resolves live c.args.trail.now number c.args.i c.args.self.now c.step_past.new.self c.args.lemma.now.hints.items h c.step_past.ensures.seen c.step_past.ensures.again
    (c.step_past.ensures.walk).valid c.index-entries-i.result c.requires.within c.in-Some.number x.0 x.1 (ap (λ (y : Assigned). y.reason) (sym (is b)) ∙ c.in-Some.ensures.choice.0)
    c.analyse_number.new.self (OnTrue_at c.if-not-step_past.false (c.step_past.ensures.notes c.index-entries-i.result)) x.2)

pub returns-then-not-step_past-clause-seen : goal.returns-then-not-step_past-clause-seen
returns-then-not-step_past-clause-seen c = subst (HasMet (take c.args.i c.args.trail.now.entries) c.args.self.now.seen) (sym c.step_past.ensures.seen) (met_none _ c.args.self.now.seen)

pub returns-in_ok-push-in-Some-clause-seen : goal.returns-in_ok-push-in-Some-clause-seen
returns-in_ok-push-in-Some-clause-seen c =
    subst (λ s. HasMet (take c.args.i c.args.trail.now.entries) s c.analyse_number.new.self.seen) c.step_past.ensures.seen
    (subst (λ xs. HasMet (take c.args.i xs) c.step_past.new.self.seen c.analyse_number.new.self.seen) c.entries-entries.ensures.entries c.in_ok-analyse_number-in-Some.ensures.seen)

pub returns-in-None-clause-seen : goal.returns-in-None-clause-seen
returns-in-None-clause-seen c = on_ok_weaker c.keep.result
    (λ kept. subst (HasMet (take c.args.i c.args.trail.now.entries) c.args.self.now.seen) (sym c.step_past.ensures.seen) (met_none _ c.args.self.now.seen)) c.keep.ensures.lits

pub returns-then-not-step_past-clause-tally : goal.returns-then-not-step_past-clause-tally
returns-then-not-step_past-clause-tally c = λ number h.
    tally_passes (live_of c.args.arena.now) c.args.trail.now number c.args.i c.args.self.now c.step_past.new.self c.args.lemma.now.hints.items h c.step_past.ensures.seen c.step_past.ensures.again

pub returns-in-None-clause-tally : goal.returns-in-None-clause-tally
returns-in-None-clause-tally c = on_ok_weaker c.keep.result (λ kept number h.
    let live = live_of c.args.arena.now in
    subst (IsTallied live c.args.trail.now number c.args.i c.step_past.new.self) (sym c.keep.ensures.hints)
    (tally_passes live c.args.trail.now number c.args.i c.args.self.now c.step_past.new.self c.args.lemma.now.hints.items h c.step_past.ensures.seen c.step_past.ensures.again)) c.keep.ensures.lits
