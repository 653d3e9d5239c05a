use Rattle.std.proofs.Common.{ℕ, ◌+◌, ◌<◌, ◌≤◌, inl, inr, arith}
use Rattle.std.proofs.lemmas.List.Elements.{All-contains}
use Rattle.dimacs.specs.logic.Literal.{Clause}
use Rattle.cube_solve.specs.Session.{live_in_session}
use Rattle.cube_solve.proofs.session.Session.skip_to.Goals as goal

pub returns-clause-ready : goal.returns-clause-ready
returns-clause-ready g c =
    let h = c.requires.ready in
    let above = c.requires.above in
    record {
      steady = h.steady;
      below = λ j D i. let b = h.below j D i in let up = b.1 in (b.0, omega arith);
      lemmas = h.lemmas;
      noted = h.noted;
      few = h.few;
      bounded = c.requires.most;
      stamped = h.stamped;
    }

pub returns-clause-known : goal.returns-clause-known
returns-clause-known g c = λ given more M h each.
    let s = c.args.self.now in
    let above = c.requires.above in
    let live = live_in_session s in
    record {
      linked = h.linked;
      before = λ n i. elim (each n i) [ inl k ↦ (let b = h.before n k in omega arith) | inr b ↦ b.1 ];
      apart = λ n i j. elim (each n i) [
        | inl k ↦ h.apart n k j
        | inr b ↦
            let l = All-contains (λ m. (D : Clause) × live m D) s.search.lemmas.items n ((c.requires.ready).lemmas).lives j in
            let up = ((c.requires.ready).below n l.0 l.1).1 in
            let low = b.0 in
            omega arith
      ];
    }
