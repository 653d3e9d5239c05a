use Rattle.std.proofs.Common.{◌≡◌, ◌<◌, ℕ, List, [], Option, None, ◌∙◌, sym, subst}
use Rattle.std.specs.Option.{IfNone, IfSome}
use Rattle.dimacs.specs.logic.Literal.{IsTautology}
use Rattle.lrat_text.specs.Log.{Cube}
use Rattle.sharing.specs.Sharing.{HaveClosed, IsRightShare}
use Rattle.sharing.specs.declared.run.Shared.{Shared}
use Rattle.sharing.proofs.LeafLemmas.{have_closed, no_pair_at, tells_longer, tells_nothing, told_on, whole_fits}
use Rattle.sharing.proofs.WritingLemmas.{beginning_whole}
use Rattle.sharing.proofs.run.share.Goals as goal

-- nothing was handed out if nothing was decided
quiet : {S : Type 0} (has_logged : S → List ℕ → Type 0) (found : Option Shared) (old new : S) → found ≡ None → IfNone found (new ≡ old) → has_logged old [] → has_logged new []
quiet has_logged found old new is same h = subst (λ x. has_logged x []) (sym (subst (λ (o : Option Shared). IfNone o (new ≡ old)) is same)) h

pub returns-in-Err-clause-log : goal.returns-in-Err-clause-log
returns-in-Err-clause-log g c = λ f.
    c.begin.ensures.log (quiet g.F.Folder.has_logged c.in_ok-alone.field-0 c.args.folder.now c.search_alone.new.folder c.in_default.is c.in_ok-alone.ensures.quiet f)

pub returns-in_err-worker-clause-log : goal.returns-in_err-worker-clause-log
returns-in_err-worker-clause-log g c = λ f.
    c.begin.ensures.log (quiet g.F.Folder.has_logged c.in_ok-alone.field-0 c.args.folder.now c.search_alone.new.folder c.in_default.is c.in_ok-alone.ensures.quiet f)

pub returns-in-Some-clause-ended : goal.returns-in-Some-clause-ended
returns-in-Some-clause-ended g c = λ f t.
    let F = c.args.cell.formula.now in
    let x = subst (λ o. IfSome o (λ end. g.F.Folder.has_logged c.args.folder.now [] → (bytes : List ℕ) × g.F.Folder.has_logged c.search_alone.new.folder bytes × IsRightShare F c.args.cell.tree.now bytes [] end)) c.in-Some.is
    c.in_ok-alone.ensures.ended f in
    (x.0, [], x.1, t, x.2)

pub leaves-init : goal.leaves-init
leaves-init g c =
    let e = c.in_ok-worker.ensures in (
      e.ready,
      e.vars,
      c.requires.first,
      λ f.
          let x = e.stands (quiet g.F.Folder.has_logged c.in_ok-alone.field-0 c.args.folder.now c.search_alone.new.folder c.in_default.is c.in_ok-alone.ensures.quiet f) in
          (x.0, x.1, x.2, x.3, λ t. ([], t, tells_nothing c.args.cell.tree.now x.2)),
    )

pub search-requires-clause-consistent : goal.search-requires-clause-consistent
search-requires-clause-consistent g c =
    subst (λ (q : Cube). ¬ (IsTautology q)) (sym c.cube-query.ensures.cube) (no_pair_at c.args.cell.tree.now c.leaves.place c.leaves-leaves.ensures.valid c.leaves.invariant.2)

pub returns-in_err-end-clause-log : goal.returns-in_err-end-clause-log
returns-in_err-end-clause-log g c = λ f.
    let p = c.leaves.invariant.3 f in
    c.search.ensures.log c.args.cell.formula.now p.2 p.0 p.3 p.1

pub returns-then-not-goes_on-clause-log : goal.returns-then-not-goes_on-clause-log
returns-then-not-goes_on-clause-log g c = λ f.
    let p = c.leaves.invariant.3 f in
    c.search.ensures.log c.args.cell.formula.now p.2 p.0 p.3 p.1

pub returns-then-not-goes_on-clause-ended : goal.returns-then-not-goes_on-clause-ended
returns-then-not-goes_on-clause-ended g c = λ f t.
    let F = c.args.cell.formula.now in
    let tree = c.args.cell.tree.now in
    let p = c.leaves.invariant.3 f in
    let x = c.in_ok-end.ensures.ended F p.2 p.0 p.3 p.1 in
    let told = p.4 t in (
      x.0,
      told.0,
      x.1,
      told.1,
      record {
        names = x.2.stands.names;
        steps = x.2.longer;
        text = x.2.stands.is;
        tells = tells_longer tree p.2 x.2.longer told.0 x.2.extends told.2;
        fits = whole_fits F c.cube-query.result.now x.2.longer c.in_ok-end.end c.if-not-goes_on.ensures x.2.fits;
      },
    )

pub returns-in_err-tell-clause-log : goal.returns-in_err-tell-clause-log
returns-in_err-tell-clause-log g c = λ f.
    let F = c.args.cell.formula.now in
    let p = c.leaves.invariant.3 f in
    let x = c.in_ok-end.ensures.ended F p.2 p.0 p.3 p.1 in
    (x.0, x.1, beginning_whole F x.2.stands.names x.2.longer x.0 x.2.stands.is)

pub leaves-preserved : goal.leaves-preserved
leaves-preserved g c =
    let F = c.args.cell.formula.now in
    let tree = c.args.cell.tree.now in
    let e = c.in_ok-end.ensures in
    let i = c.leaves.invariant in (
      e.ready,
      e.vars ∙ i.1,
      subst (λ n. c.next_place-place.result < n) c.leaves-leaves.ensures.value c.next_place-place.ensures,
      λ f.
          let p = i.3 f in
          let x = e.ended F p.2 p.0 p.3 p.1 in
          let closed = subst (λ (q : Cube). HaveClosed q x.2.longer) c.cube-query.ensures.cube
          (have_closed F c.cube-query.result.now x.2.longer c.in_ok-end.end c.if-not-goes_on.ensures x.2.fits) in (
            x.0,
            x.1,
            x.2.longer,
            x.2.stands,
            λ t.
                let told = p.4 t in
                told_on g.T.Teller.has_told c.args.cell.asked.quiet c.leaves.teller c.tell.new.teller tree p.2 x.2.longer told.0 c.leaves.place c.in_ok-tell.ensures x.2.extends i.2 closed told.1 told.2,
          ),
    )

pub returns-in_err-last-clause-log : goal.returns-in_err-last-clause-log
returns-in_err-last-clause-log g c = λ f.
    let p = c.leaves.invariant.3 f in
    c.search-2.ensures.log c.args.cell.formula.now p.2 p.0 p.3 p.1

pub returns-clause-log : goal.returns-clause-log
returns-clause-log g c = λ f.
    let p = c.leaves.invariant.3 f in
    c.search-2.ensures.log c.args.cell.formula.now p.2 p.0 p.3 p.1

pub returns-clause-ended : goal.returns-clause-ended
returns-clause-ended g c = λ f t.
    let F = c.args.cell.formula.now in
    let p = c.leaves.invariant.3 f in
    let x = c.in_ok-last.ensures.ended F p.2 p.0 p.3 p.1 in
    let told = p.4 t in (
      x.0,
      told.0,
      x.1,
      told.1,
      record {
        names = x.2.stands.names;
        steps = x.2.longer;
        text = x.2.stands.is;
        tells = tells_longer c.args.cell.tree.now p.2 x.2.longer told.0 x.2.extends told.2;
        fits = x.2.fits;
      },
    )
