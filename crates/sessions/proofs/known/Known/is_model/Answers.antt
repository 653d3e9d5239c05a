use Rattle.std.proofs.Common.{◌≡◌, ◌&&◌, ◌∙◌, refl, sym, ap, subst}
use Rattle.std.specs.Bool.{OnFalse}
use Rattle.std.specs.FinMap.{get}
use Rattle.std.specs.List.{list_all}
use Rattle.dimacs.specs.logic.Literal.{has}
use Rattle.sessions.specs.Texts.{is_met}
use Rattle.sessions.specs.View.{state_of}
use Rattle.sessions.specs.inner.Sets.{set_in}
use Rattle.sessions.proofs.ModelLemmas.{model_is}
use Rattle.sessions.proofs.known.Known.is_model.Goals as goal

pub returns-then-not-are_met-clause-is : goal.returns-then-not-are_met-clause-is
returns-then-not-are_met-clause-is c =
    let set = c.hold_apart.new.self in
    let held = set_in set.stamps.items set.stamp in
    let s = state_of c.args.self.now in
    let same = subst (λ b. OnFalse b (held ≡ has c.args.model.now)) c.if-pair.false c.in_ok-pair.ensures.holds in
    let met = c.are_met.ensures ∙ ap (λ ids. list_all (λ id. is_met held (get s.live id)) ids) c.given.ensures in
    sym (ap (λ b. b && list_all held s.query) c.if-not-are_met.true)
    ∙ model_is s c.args.model.now c.in_ok-pair.pair c.are_met.result (list_all held s.query) held c.in_ok-pair.ensures.pair c.if-pair.false same met refl

pub returns-clause-is : goal.returns-clause-is
returns-clause-is c =
    let set = c.hold_apart.new.self in
    let held = set_in set.stamps.items set.stamp in
    let s = state_of c.args.self.now in
    let same = subst (λ b. OnFalse b (held ≡ has c.args.model.now)) c.if-pair.false c.in_ok-pair.ensures.holds in
    let met = c.are_met.ensures ∙ ap (λ ids. list_all (λ id. is_met held (get s.live id)) ids) c.given.ensures in
    let all = c.has_all.ensures ∙ ap (λ lits. list_all held lits) c.deref.ensures.value in
    sym (ap (λ b. b && c.has_all.result) c.if-not-are_met.false)
    ∙ model_is s c.args.model.now c.in_ok-pair.pair c.are_met.result c.has_all.result held c.in_ok-pair.ensures.pair c.if-pair.false same met all
