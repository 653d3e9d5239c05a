use Rattle.std.proofs.Common.{◌∙◌, subst}
use Rattle.sharing.specs.declared.run.Shared.{Shared}
use Rattle.sharing.specs.inner.Writing.{HasEnded}
use Rattle.sharing.proofs.WritingLemmas.{beginning_whole, further}
use Rattle.sharing.proofs.run.search.Goals as goal

pub returns-in_err-end-clause-log : goal.returns-in_err-end-clause-log
returns-in_err-end-clause-log g c = λ C steps log h f.
    let i = c.turns.invariant.2 C steps log h f in
    c.take_turn.ensures.log C i.0 (i.2.longer, i.2.stands.writing) i.1

pub returns-in_default : goal.returns-in_default
returns-in_default g c =
    let e = c.in_ok-end.ensures in
    record {
      ready = e.ready;
      vars = e.vars ∙ c.turns.invariant.1;
      log = λ C steps log h f.
          let i = c.turns.invariant.2 C steps log h f in
          c.take_turn.ensures.log C i.0 (i.2.longer, i.2.stands.writing) i.1;
      ended = λ C steps log h f.
          let i = c.turns.invariant.2 C steps log h f in
          let x = e.ended C i.2.longer i.0 i.2.stands.writing i.1 in
          (x.0, x.1, further C c.args.query.now steps i.2.longer x.0 c.in_ok-end.end c.take_turn.new.worker i.2.extends x.2);
    }

pub turns-preserved : goal.turns-preserved
turns-preserved g c =
    let e = c.in_ok-end.ensures in (
      e.ready,
      e.vars ∙ c.turns.invariant.1,
      λ C steps log h f.
          let i = c.turns.invariant.2 C steps log h f in
          let x = e.ended C i.2.longer i.0 i.2.stands.writing i.1 in
          let Ends : Shared → Type 0 = λ k. HasEnded C c.args.query.now steps x.0 k c.take_turn.new.worker in
          (x.0, x.1, subst Ends c.in-Limit.is (further C c.args.query.now steps i.2.longer x.0 c.in_ok-end.end c.take_turn.new.worker i.2.extends x.2)),
    )

pub returns-clause-log : goal.returns-clause-log
returns-clause-log g c = λ C steps log h f.
    let i = c.turns.invariant.2 C steps log h f in
    (i.0, i.1, beginning_whole C i.2.stands.names i.2.longer i.0 i.2.stands.is)
