use Rattle.std.proofs.Common.{◌≤◌, refl, ap, sym, subst}
use Rattle.incremental.specs.SessionHistory.{vars_in}
use Rattle.incremental.proofs.HistoryLemmas.{stands_grown}
use Rattle.incremental.proofs.proved_session.Session.grown.Goals as goal

pub returns-clause-stands : goal.returns-clause-stands
returns-clause-stands g c = λ L E told text few.
    let p = c.into_parts-search in
    let e = c.in_ok-grown.ensures in
    stands_grown {L = L} c.args.self (record { alloc = c.args.self.alloc; search = c.in_ok-grown.field-0; out = p.result.1; scratch = p.result.2 }) p.result.0 p.result.1.items (ap (λ x. x.0) p.ensures) (ap (λ x. x.1.items) p.ensures) refl
    (subst (λ n. vars_in c.args.self ≤ n) (sym e.vars) c.requires.more) e.last e.log e.given e.known E told text (subst (λ n. n ≤ L.vars) (sym e.vars) few)
