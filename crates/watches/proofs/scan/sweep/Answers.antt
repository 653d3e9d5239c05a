use Rattle.std.proofs.Common.{sym, ap, subst, get_or, Some}
use Rattle.std.specs.List.{All, Contains}
use Rattle.std.proofs.lemmas.List.Elements.{All-contains}
use Rattle.std.proofs.lemmas.List.{get_or_default}
use Rattle.dimacs.specs.logic.Literal.{IsWithin}
use Rattle.dimacs.specs.logic.Propagation.{IsFalse, IsUnit}
use Rattle.watches.specs.Law.{NeitherFalseNorUnit}
use Rattle.watches.specs.Trails.{holds}
use Rattle.watches.proofs.ScanLemmas.{none, among, standing, lives, calm, swept_calm, swept_push, swept_all}
use Rattle.watches.proofs.scan.sweep.Goals.{in-Unit, in-Other}
use Rattle.watches.proofs.scan.sweep.Goals as goal

pub clause-requires : goal.clause-requires
clause-requires c =
    let st = standing c.args.clauses.now c.args.arena.now c.args.trail.now.vars c.loop-at.at-index none c.requires c.loop-at-test.true in
    record { live = (st.0, st.1) }

pub test_clause-requires : goal.test_clause-requires
test_clause-requires c =
    let st = standing c.args.clauses.now c.args.arena.now c.args.trail.now.vars c.loop-at.at-index none c.requires c.loop-at-test.true in
    let e = c.clause.ensures.literals st.0 st.1 in
    subst (λ v. All (IsWithin v) c.clause.result.now) (sym c.loop-at.invariant.grows.vars) (subst (All (IsWithin c.args.trail.now.vars)) (sym e) st.2)

pub returns-in-False-clause-conflict : goal.returns-in-False-clause-conflict
returns-in-False-clause-conflict c =
    let st = standing c.args.clauses.now c.args.arena.now c.args.trail.now.vars c.loop-at.at-index none c.requires c.loop-at-test.true in
    let e = c.clause.ensures.literals st.0 st.1 in (
      st.0,
      subst (λ n. among c.args.clauses.now c.args.arena.now n st.0) (sym c.number.ensures) (lives c.args.clauses.now c.args.arena.now c.args.trail.now.vars c.loop-at.at-index none c.requires c.loop-at-test.true),
      subst (IsFalse (holds c.loop-at.trail.entries)) e c.in-False.ensures,
    )

pub push-requires-clause-within : goal.push-requires-clause-within
push-requires-clause-within c =
    let st = standing c.args.clauses.now c.args.arena.now c.args.trail.now.vars c.loop-at.at-index none c.requires c.loop-at-test.true in
    let e = c.clause.ensures.literals st.0 st.1 in
    let u : IsUnit (holds c.loop-at.trail.entries) c.clause.result.now c.in-Unit.literal = c.in-Unit.ensures in
    subst (λ v. IsWithin v c.in-Unit.literal) (sym c.loop-at.invariant.grows.vars) (All-contains (IsWithin c.args.trail.now.vars) st.0 c.in-Unit.literal st.2 (subst (λ xs. Contains xs c.in-Unit.literal) e u.member))

pub loop-at-preserved : goal.loop-at-preserved
loop-at-preserved c =
    let st = standing c.args.clauses.now c.args.arena.now c.args.trail.now.vars c.loop-at.at-index none c.requires c.loop-at-test.true in
    let e = c.clause.ensures.literals st.0 st.1 in
    elim c.match-test_clause.branch [
      | in-Unit w ↦
          let u : IsUnit (holds c.loop-at.trail.entries) st.0 w.in-Unit.literal = subst (λ xs. IsUnit (holds c.loop-at.trail.entries) xs w.in-Unit.literal) e w.in-Unit.ensures in
          rw w.trail-is (swept_push c.args.clauses.now c.args.arena.now c.args.trail.now c.loop-at.trail w.push.new.self c.loop-at.at-index _ c.loop-at.invariant
          (record {
            number = (get_or c.args.clauses.now c.loop-at.at-index none).number;
            clause = st.0;
            reason = ap Some w.number-in-Unit.ensures;
            lives = lives c.args.clauses.now c.args.arena.now c.args.trail.now.vars c.loop-at.at-index none c.requires c.loop-at-test.true;
            unit = u;
            level = w.level.ensures.present;
          }) w.push.ensures.vars w.push.ensures.entries)
      | in-Other w ↦ rw w.trail-is (swept_calm c.args.clauses.now c.args.arena.now c.args.trail.now c.loop-at.trail c.loop-at.at-index (get_or c.args.clauses.now c.loop-at.at-index none) c.loop-at.invariant
          (λ d. get_or_default c.args.clauses.now c.loop-at.at-index d none c.loop-at-test.true)
          (calm c.args.arena.now c.loop-at.trail.entries (get_or c.args.clauses.now c.loop-at.at-index none) st.0 st.1 (subst (λ xs. NeitherFalseNorUnit (holds c.loop-at.trail.entries) xs) e w.in-Other.ensures)))
    ]

pub returns-clause-quiet : goal.returns-clause-quiet
returns-clause-quiet c = swept_all c.args.clauses.now c.args.arena.now c.args.trail.now c.loop-at.trail c.args.trail.now.vars c.loop-at.at-index c.requires c.loop-at.invariant c.loop-at-test.false
