use Rattle.std.proofs.Common.{rules, inr, inl}
use Rattle.runs.proofs.Closings.{counted, goes_on, once}
use Rattle.runs.proofs.remote_run.serve_rounds.Goals as goal

pub returns-in_err-handshake_all-clause-refusals : goal.returns-in_err-handshake_all-clause-refusals
returns-in_err-handshake_all-clause-refusals g c =
    counted g.L.Links.refusal_count g.L.Links.refused_at c.args.links.now c.handshake_all.new.links c.args.connections.now c.handshake_all.new.connections c.handshake_all.ensures.refusals

pub returns-in_err-handshake_all-clause-each : goal.returns-in_err-handshake_all-clause-each
returns-in_err-handshake_all-clause-each g c =
    once g.L.Links.refusal_count g.L.Links.refused_at c.args.links.now c.handshake_all.new.links c.args.connections.now c.handshake_all.new.connections c.handshake_all.ensures.refusals

pub returns-clause-refusals : goal.returns-clause-refusals
returns-clause-refusals g c =
    let whole = goes_on g.L.Links.refusal_count g.L.Links.refused_at c.args.links.now c.handshake_all.new.links c.run_rounds.new.links c.args.connections.now c.handshake_all.new.connections c.run_rounds.new.connections
    c.handshake_all.ensures.refusals c.run_rounds.ensures.refusals in
    counted g.L.Links.refusal_count g.L.Links.refused_at c.args.links.now c.run_rounds.new.links c.args.connections.now c.run_rounds.new.connections whole

pub returns-clause-each : goal.returns-clause-each
returns-clause-each g c =
    let whole = goes_on g.L.Links.refusal_count g.L.Links.refused_at c.args.links.now c.handshake_all.new.links c.run_rounds.new.links c.args.connections.now c.handshake_all.new.connections c.run_rounds.new.connections
    c.handshake_all.ensures.refusals c.run_rounds.ensures.refusals in
    once g.L.Links.refusal_count g.L.Links.refused_at c.args.links.now c.run_rounds.new.links c.args.connections.now c.run_rounds.new.connections whole

pub returns-clause-begun : goal.returns-clause-begun
returns-clause-begun g c =
    c.run_rounds.ensures.begun (g.L.Links.call_count c.args.links.now) (record {
      account = inr (record { one = search rules; three = inl (search rules) });
    })
