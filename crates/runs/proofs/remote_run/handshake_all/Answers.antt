use Rattle.std.proofs.Common.{rules, ◌<◌, length}
use Rattle.runs.specs.inner.Connections.{IsNew}
use Rattle.runs.proofs.Closings.{behind, first_of, turned}
use Rattle.runs.proofs.Counts.{one_more}
use Rattle.runs.proofs.remote_run.handshake_all.Goals as goal

pub handshake-requires-clause-new : goal.handshake-requires-clause-new
handshake-requires-clause-new g c = first_of IsNew c.loop-i.connections c.loop-i.i c.index-connections-i.result (search rules) c.loop-i.invariant.new

pub returns-in_err-handshake-clause-refusals : goal.returns-in_err-handshake-clause-refusals
returns-in_err-handshake-clause-refusals g c =
    let at : c.loop-i.i < length c.loop-i.connections = search rules in
    turned g.L.Links.refusal_count g.L.Links.refused_at c.args.links.now c.loop-i.links c.handshake.new.links c.args.connections.now c.loop-i.connections c.loop-i.i _
    c.handshake.new.connection c.index-connections-i.result c.new-worker.ensures at c.handshake.ensures.refusals c.loop-i.invariant.refusals

pub loop-i-preserved : goal.loop-i-preserved
loop-i-preserved g c =
    let at : c.loop-i.i < length c.loop-i.connections = search rules in
    record {
      goes_on = search rules;
      verdict = search rules;
      connections = search rules;
      new = behind IsNew c.loop-i.connections c.loop-i.i c.handshake.new.connection c.index-connections-i.result at c.loop-i.invariant.new;
      calls = one_more _ 1 _ _ _ _ _ c.loop-i.invariant.calls c.handshake.ensures.calls;
      refusals = turned g.L.Links.refusal_count g.L.Links.refused_at c.args.links.now c.loop-i.links c.handshake.new.links c.args.connections.now c.loop-i.connections c.loop-i.i _
          c.handshake.new.connection c.index-connections-i.result c.new-worker.ensures at c.handshake.ensures.refusals c.loop-i.invariant.refusals;
    }
