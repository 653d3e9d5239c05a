use Rattle.std.proofs.Common.{rules, ◌≡◌, ℕ, inl, refl, arith, length, subst, sym}
use Rattle.runs.specs.Accounts.{HasBegun}
use Rattle.runs.proofs.Closings.{counted, once}
use Rattle.runs.proofs.local_run.solve_of.Goals as goal

pub returns-in_err-run_rounds-clause-refusals : goal.returns-in_err-run_rounds-clause-refusals
returns-in_err-run_rounds-clause-refusals g c =
    let most = counted g.L.Links.refusal_count g.L.Links.refused_at c.args.links.now c.run_rounds.new.links c.deref_mut.result.now c.run_rounds.new.connections c.run_rounds.ensures.refusals in
    let long : length c.deref_mut.result.now ≡ c.args.plan.now.workers = search rules in
    omega (arith, most, long)

pub returns-in_err-run_rounds-clause-each : goal.returns-in_err-run_rounds-clause-each
returns-in_err-run_rounds-clause-each g c =
    once g.L.Links.refusal_count g.L.Links.refused_at c.args.links.now c.run_rounds.new.links c.deref_mut.result.now c.run_rounds.new.connections c.run_rounds.ensures.refusals

pub returns-clause-used : goal.returns-clause-used
returns-clause-used g c =
    let begun = c.in_ok-run_rounds.ensures.begun (g.L.Links.call_count c.args.links.now) (record {
      account = inl (record { none = refl; verdict = search rules; stuck = search rules; some = search rules; untouched = search rules });
    }) in
    subst (λ v. HasBegun (g.L.Links.call_count c.args.links.now) (g.L.Links.call_count c.run_rounds.new.links) v) (sym c.into_verdict.ensures.value) begun

pub returns-clause-refusals : goal.returns-clause-refusals
returns-clause-refusals g c =
    let most = counted g.L.Links.refusal_count g.L.Links.refused_at c.args.links.now c.run_rounds.new.links c.deref_mut.result.now c.run_rounds.new.connections c.run_rounds.ensures.refusals in
    let long : length c.deref_mut.result.now ≡ c.args.plan.now.workers = search rules in
    omega (arith, most, long)

pub returns-clause-each : goal.returns-clause-each
returns-clause-each g c =
    once g.L.Links.refusal_count g.L.Links.refused_at c.args.links.now c.run_rounds.new.links c.deref_mut.result.now c.run_rounds.new.connections c.run_rounds.ensures.refusals
