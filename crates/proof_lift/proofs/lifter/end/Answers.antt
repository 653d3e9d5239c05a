use Rattle.proof_lift.specs.View.{held_of}
use Rattle.std.proofs.Common.{◌+◌, ◌≤◌, [], inl, inr, refl, sym, subst, true, false, arith}
use Rattle.std.specs.Bool.{MatchBool}
use Rattle.std.proofs.lemmas.List.{append-nil}
use Rattle.lrat_text.specs.Runs.{text_of}
use Rattle.proof_lift.specs.inner.EmptyLemma.{IsClosed, NothingCloses}
use Rattle.proof_lift.proofs.StreamLemmas.{some_begun, none_begun, end_is, closed_by, nothing_ends, other_fault}
use Rattle.proof_lift.proofs.lifter.end.Goals as goal

pub returns-then-not-is_empty : goal.returns-then-not-is_empty
returns-then-not-is_empty c = inr (other_fault _ _ (λ e. absurd (omega arith)) (some_begun (held_of c.args.lifting.now) c.args.line c.args.rest.now c.is_empty.result c.requires.open c.is_empty.ensures c.if-not-is_empty.true))

pub returns-then-lifting : goal.returns-then-lifting
returns-then-lifting c =
    let none = none_begun c.args.rest.now c.is_empty.result c.is_empty.ensures c.if-not-is_empty.false in
    ([], sym (append-nil c.args.out.now.items), inl (end_is (held_of c.args.lifting.now) c.args.line c.args.rest.now true none c.if-lifting.true, refl))

pub returns-in-Ok-true : goal.returns-in-Ok-true
returns-in-Ok-true c =
    let h = held_of c.args.lifting.now in
    let none = none_begun c.args.rest.now c.is_empty.result c.is_empty.ensures c.if-not-is_empty.false in
    let closed : IsClosed c.args.lifting.now c.close.new.self c.args.out.now.items c.close.new.out.items
    = subst (λ b. MatchBool b (IsClosed c.args.lifting.now c.close.new.self c.args.out.now.items c.close.new.out.items) (NothingCloses c.args.lifting.now)) c.in-Ok-true.field-0-test c.in-Ok-true.ensures.closed in
    let w = closed.writes in
    let few : h.formula.vars ≤ 199999999 = omega (arith, c.vars.ensures.valid.vars) in
    (text_of h.own w.0, w.2, closed_by h c.args.line (h.top + 1) c.args.rest.now closed.hints w.0 _ few none c.if-lifting.false closed.limits w.1)

pub returns-in-Ok-false : goal.returns-in-Ok-false
returns-in-Ok-false c =
    let none = none_begun c.args.rest.now c.is_empty.result c.is_empty.ensures c.if-not-is_empty.false in
    let h = held_of c.args.lifting.now in
    let nothing : NothingCloses c.args.lifting.now
    = subst (λ b. MatchBool b (IsClosed c.args.lifting.now c.close.new.self c.args.out.now.items c.close.new.out.items) (NothingCloses c.args.lifting.now)) c.in-Ok-false.field-0-test c.in-Ok-false.ensures.closed in
    let few : h.formula.vars ≤ 199999999 = omega (arith, c.vars.ensures.valid.vars) in
    inr (record {
      first = end_is h c.args.line c.args.rest.now false none c.if-lifting.false;
      wanting = λ e out. nothing_ends h c.args.line c.args.rest.now out few none c.if-lifting.false nothing;
    })
