use Rattle.std.proofs.Common.{ℕ, List, ◌∷◌, sym, subst, arith}
use Rattle.std.specs.List.{Contains}
use Rattle.cell_worker.specs.WorkerLog.{names_in}
use Rattle.sharing.proofs.WritingLemmas.{extends_self, named_more}
use Rattle.sharing.proofs.exchange.Exchange.number_of.Goals as goal

pub returns-clause-stands : goal.returns-clause-stands
returns-clause-stands g c = λ F steps text h.
    let e = c.in_ok-peer.ensures in
    let names = h.names in
    let name = c.deref-2.result.now in
    let top = names_in c.args.worker.now in (
      steps,
      extends_self steps,
      record {
        names = (c.in_ok-peer.field-0, name) ∷ names;
        written = e.stands F names steps text h.written;
        named = λ n low high. subst (λ (k : ℕ). (m : List ℕ) × Contains ((k, name) ∷ names) (n, m)) (sym e.number)
            (named_more names top name h.named n low (let a = e.number in let b = e.names in omega (arith, high, a, b)));
      },
    )
