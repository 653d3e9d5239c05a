use Rattle.std.proofs.Common.{rules, ◌<◌, length, inl, inr, refl, subst, arith}
use Rattle.std.proofs.lemmas.Bool.{false≢true}
use Rattle.std.proofs.lemmas.Result.{err_from_is_err_and}
use Rattle.runs.specs.inner.Accounts.{IsOver}
use Rattle.runs.proofs.Closings.{turned}
use Rattle.runs.proofs.Counts.{one_more, within}
use Rattle.runs.proofs.Turns.{comes_on, none_behind, some_turn}
use Rattle.runs.proofs.rounds.round.Goals as goal

pub loop-i-preserved : goal.loop-i-preserved
loop-i-preserved g c =
    let at : c.loop-i.i < length c.loop-i.connections = search rules in
    record {
      goes_on = search rules;
      connections = search rules;
      calls = one_more 0 0 _ _ _ _ _ c.loop-i.invariant.calls c.turn.ensures.calls;
      some = some_turn g.P.Peer.least _ _ _ _ _ _ c.loop-i.connections c.loop-i.i c.turn.new.self c.index-connections-i.result at c.loop-i.invariant.calls.rises c.turn.ensures.calls.rises
          c.in_ok-turn.ensures.turned c.loop-i.invariant.some;
      served = λ base served. comes_on g.P.Peer.HANDS_OUT g.P.Peer.least base _ _ c.loop-i.coordinator c.turn.new.coordinator c.loop-i.connections c.loop-i.i c.turn.new.self
          c.index-connections-i.result at c.turn.ensures.calls.rises c.in_ok-turn.ensures.turned g.met.P.Peer.earned (c.loop-i.invariant.served base served);
      refusals = turned g.L.Links.refusal_count g.L.Links.refused_at c.args.links.now c.loop-i.links c.turn.new.links c.args.connections.now c.loop-i.connections c.loop-i.i _
          c.turn.new.self c.index-connections-i.result c.new-worker.ensures at c.turn.ensures.refusals c.loop-i.invariant.refusals;
    }

pub returns-in_err-turn-clause-refusals : goal.returns-in_err-turn-clause-refusals
returns-in_err-turn-clause-refusals g c =
    let at : c.loop-i.i < length c.loop-i.connections = search rules in
    turned g.L.Links.refusal_count g.L.Links.refused_at c.args.links.now c.loop-i.links c.turn.new.links c.args.connections.now c.loop-i.connections c.loop-i.i _
    c.turn.new.self c.index-connections-i.result c.new-worker.ensures at c.turn.ensures.refusals c.loop-i.invariant.refusals

pub returns-in_err-turn-clause-calls : goal.returns-in_err-turn-clause-calls
returns-in_err-turn-clause-calls g c =
    within 0 0 _ _ _ _ _ (one_more 0 0 _ c.loop-i.i _ _ _ c.loop-i.invariant.calls c.turn.ensures.calls) (omega arith) (omega (arith, c.loop-i-test.true))

pub returns-in_err-turn-clause-served : goal.returns-in_err-turn-clause-served
returns-in_err-turn-clause-served g c = λ base way.
    let p = err_from_is_err_and c.from_residual.result c.from_residual.ensures.1 in
    rw p.1 tt

pub returns-then-is_over : goal.returns-then-is_over
returns-then-is_over g c =
    let so_far = c.loop-i.invariant in
    record {
      goes_on = so_far.goes_on;
      calls = within 0 0 _ c.loop-i.i _ _ _ so_far.calls (omega arith) (omega (arith, c.loop-i-test.true));
      some = λ any. inl refl;
      over = λ is. subst (λ h. IsOver h c.loop-i.coordinator) c.HANDS_OUT.ensures (c.is_over.ensures c.if-is_over.true);
      served = so_far.served;
      refusals = so_far.refusals;
    }

pub returns : goal.returns
returns g c =
    let so_far = c.loop-i.invariant in
    let none = none_behind c.loop-i.connections c.loop-i.i (omega (arith, so_far.connections, c.loop-i-test.false)) in
    record {
      goes_on = so_far.goes_on;
      calls = within 0 0 _ c.loop-i.i _ _ _ so_far.calls (omega arith) c.loop-i.auto.i-end;
      some = λ any. elim so_far.some [ inl same ↦ absurd (omega (arith, any, same, none)) | inr rose ↦ inr rose ];
      over = λ is. absurd (false≢true is);
      served = so_far.served;
      refusals = so_far.refusals;
    }
