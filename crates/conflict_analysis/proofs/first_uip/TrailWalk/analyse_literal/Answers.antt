use Rattle.std.proofs.Common.{◌≡◌, ◌<◌, length, arith, [], ◌∷◌, ◌++◌, true, false, refl, sym, ◌∙◌, ap, set, get_or, subst}
use Rattle.std.proofs.lemmas.Result.{on_ok_weaker}
use Rattle.dimacs.specs.logic.Literal.{negation, var_of}
use Rattle.watches.specs.Trails.{holds}
use Rattle.watches.specs.declared.trail.Assigned.{Assigned}
use Rattle.conflict_analysis.specs.inner.Seen.{met}
use Rattle.conflict_analysis.proofs.MetCountLemmas.{noted_new, met_here}
use Rattle.conflict_analysis.proofs.MetStepLemmas.{meets_here, meets_below, meets_only, unmet_false}
use Rattle.conflict_analysis.proofs.first_uip.TrailWalk.analyse_literal.Goals as goal
use Rattle.conflict_analysis.proofs.first_uip.TrailWalk.analyse_literal.Goals.{In_ok-push}

pub returns-then-has-clause-walk : goal.returns-then-has-clause-walk
returns-then-has-clause-walk c = on_ok_weaker c.note.result (λ w. w c.args.trail.now c.args.front.now c.requires.walk) c.note.ensures.walk

pub entry_of-entry-requires : goal.entry_of-entry-requires
entry_of-entry-requires c = subst (λ l. holds c.args.trail.now.entries l ≡ true) (sym c.negate-negated.ensures)
    (unmet_false c.args.trail.now c.args.front.now c.args.self.now c.args.literal c.requires.walk c.requires.known
    (ap (met c.args.self.now.seen) (sym c.var-var.ensures) ∙ sym c.has.ensures ∙ c.if-has.false))

new : (c : In_ok-push) → met c.args.self.now.seen (var_of c.args.literal) ≡ false
new c = ap (met c.args.self.now.seen) (sym c.var-var.ensures) ∙ sym c.has.ensures ∙ c.if-has.false

is : (c : In_ok-push) → c.entry_of-entry.result.literal ≡ negation c.args.literal
is c = c.entry_of-entry.ensures.literal ∙ c.negate-negated.ensures

stands : (c : In_ok-push) (d : Assigned) → (get_or c.args.trail.now.entries c.place_of-place.result d).literal ≡ negation c.args.literal
stands c d = c.place_of-place.ensures.literal d ∙ c.negate-negated.ensures

listed : (c : In_ok-push) → c.push.new.self.items ≡ c.args.self.now.met.items ++ var_of c.args.literal ∷ []
listed c = c.in_ok-push.ensures.items ∙ ap (λ v. c.args.self.now.met.items ++ v ∷ []) c.var-var.ensures

pub returns-then-entry-self-clause-walk : goal.returns-then-entry-self-clause-walk
returns-then-entry-self-clause-walk c =
    let b = (goal.at.returns-then-entry-self-clause-walk c).In_ok-push in
    meets_here c.args.trail.now c.args.front.now c.args.self.now c.args.literal c.entry_of-entry.result c.requires.walk c.requires.within c.requires.known (new b) c.entry_of-entry.ensures.member (is b)
    c.place_of-place.result c.place_of-place.ensures.within (stands b)
    _ (c.insert.ensures ∙ ap (λ v. set c.args.self.now.seen v true) c.var-var.ensures) c.insert_at.ensures c.insert_at-2.ensures refl refl refl (listed b) refl c.if-entry-self.true

pub returns-else-entry-self-clause-walk : goal.returns-else-entry-self-clause-walk
returns-else-entry-self-clause-walk c =
    let b = (goal.at.returns-else-entry-self-clause-walk c).In_ok-push in
    meets_below c.args.trail.now c.args.front.now c.args.self.now c.args.literal c.entry_of-entry.result c.requires.walk c.requires.within c.requires.known (new b) c.entry_of-entry.ensures.member (is b)
    c.place_of-place.result c.place_of-place.ensures.within (stands b)
    _ (c.insert.ensures ∙ ap (λ v. set c.args.self.now.seen v true) c.var-var.ensures) c.insert_at.ensures c.insert_at-2.ensures refl refl refl (listed b) refl c.if-entry-self.false

pub returns-then-entry-self-clause-seen : goal.returns-then-entry-self-clause-seen
returns-then-entry-self-clause-seen c =
    let b = (goal.at.returns-then-entry-self-clause-seen c).In_ok-push in
    meets_only c.args.trail.now c.args.front.now c.args.self.now c.args.literal c.entry_of-entry.result c.requires.walk c.requires.within c.requires.known (new b) c.entry_of-entry.ensures.member (is b)
    c.place_of-place.result c.place_of-place.ensures.within (stands b)
    _ (c.insert.ensures ∙ ap (λ v. set c.args.self.now.seen v true) c.var-var.ensures)

pub returns-else-entry-self-clause-seen : goal.returns-else-entry-self-clause-seen
returns-else-entry-self-clause-seen c =
    let b = (goal.at.returns-else-entry-self-clause-seen c).In_ok-push in
    meets_only c.args.trail.now c.args.front.now c.args.self.now c.args.literal c.entry_of-entry.result c.requires.walk c.requires.within c.requires.known (new b) c.entry_of-entry.ensures.member (is b)
    c.place_of-place.result c.place_of-place.ensures.within (stands b)
    _ (c.insert.ensures ∙ ap (λ v. set c.args.self.now.seen v true) c.var-var.ensures)

-- there is room for the variable
room : (c : In_ok-push) → var_of c.args.literal < length c.args.self.now.seen
room c = let r = (c.requires.walk).room in let w = c.requires.within in omega arith

marked : (c : In_ok-push) → set c.args.self.now.seen c.var-var.result true ≡ set c.args.self.now.seen (var_of c.args.literal) true
marked c = ap (λ v. set c.args.self.now.seen v true) c.var-var.ensures

pub returns-then-entry-self-clause-noted : goal.returns-then-entry-self-clause-noted
returns-then-entry-self-clause-noted c =
    let b = (goal.at.returns-then-entry-self-clause-noted c).In_ok-push in
    noted_new c.args.self.now _ c.args.literal (room b) (new b) refl (c.insert.ensures ∙ marked b) refl

pub returns-else-entry-self-clause-noted : goal.returns-else-entry-self-clause-noted
returns-else-entry-self-clause-noted c =
    let b = (goal.at.returns-else-entry-self-clause-noted c).In_ok-push in
    noted_new c.args.self.now _ c.args.literal (room b) (new b) refl (c.insert.ensures ∙ marked b) refl

pub returns-then-entry-self-clause-here : goal.returns-then-entry-self-clause-here
returns-then-entry-self-clause-here c =
    let b = (goal.at.returns-then-entry-self-clause-here c).In_ok-push in
    met_here c.args.self.now.seen _ (var_of c.args.literal) (room b) (c.insert.ensures ∙ marked b)

pub returns-else-entry-self-clause-here : goal.returns-else-entry-self-clause-here
returns-else-entry-self-clause-here c =
    let b = (goal.at.returns-else-entry-self-clause-here c).In_ok-push in
    met_here c.args.self.now.seen _ (var_of c.args.literal) (room b) (c.insert.ensures ∙ marked b)
