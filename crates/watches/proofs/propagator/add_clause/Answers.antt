use Rattle.std.proofs.Common.{ℕ, ap, sym, subst, ◌∙◌, List}
use Rattle.std.specs.List.{All, Contains}
use Rattle.std.specs.FinMap as fin
use Rattle.dimacs.specs.logic.Literal.{IsWithin}
use Rattle.clause_arena.specs.Clauses.{Clauses}
use Rattle.watches.proofs.Added.{others, stands, still, live_again, same_again, on_err}
use Rattle.watches.specs.Law.{SameUpToOrder}
use Rattle.watches.proofs.ScanLemmas.{same_clause, SameUpToOrder-refl}
use Rattle.watches.proofs.propagator.add_clause.Goals as goal

pub attach-requires-clause-live : goal.attach-requires-clause-live
attach-requires-clause-live g c = (c.args.literals.now, stands c.args.arena.now c.add.new.self c.in_ok-at.at c.args.number c.args.literals.now c.in_ok-at.ensures.ok)

pub attach-requires-clause-within : goal.attach-requires-clause-within
attach-requires-clause-within g c = λ C h.
    let s = stands c.args.arena.now c.add.new.self c.in_ok-at.at c.args.number c.args.literals.now c.in_ok-at.ensures.ok in
    subst (All (IsWithin c.args.trail.now.vars)) (same_clause c.add.new.self _ _ _ c.args.literals.now C s.0 h.0) c.requires.within

pub attach-requires-clause-ready : goal.attach-requires-clause-ready
attach-requires-clause-ready g c = g.met.P.Propagator.elsewhere c.args.propagator.now c.args.arena.now c.add.new.self c.args.trail.now c.requires.ready
    (λ n i. ap (λ (m : Clauses). fin.get m n) c.in_ok-at.ensures.ok.2 ∙ others c.args.arena.now c.args.number n (c.in_ok-at.at.place, c.args.literals.now) (λ e. c.requires.apart (subst (λ (x : ℕ). Contains (g.P.Propagator.attached c.args.propagator.now) x) e i)))

pub returns-in_err-at-clause-err_clauses : goal.returns-in_err-at-clause-err_clauses
returns-in_err-at-clause-err_clauses g c = on_err c.from_residual.result (SameUpToOrder c.args.arena.now c.add.new.self)
    (subst (SameUpToOrder c.args.arena.now) (sym c.in_err-at.ensures.err) (SameUpToOrder-refl c.args.arena.now))

pub remove-requires : goal.remove-requires
remove-requires g c = live_again c.add.new.self c.attach.new.arena c.in_ok-at.at c.args.number c.args.literals.now
    (stands c.args.arena.now c.add.new.self c.in_ok-at.at c.args.number c.args.literals.now c.in_ok-at.ensures.ok) c.in-Err.ensures.clauses

pub returns-in-Err-clause-ready : goal.returns-in-Err-clause-ready
returns-in-Err-clause-ready g c = g.met.P.Propagator.elsewhere c.attach.new.self c.attach.new.arena c.remove.new.self c.args.trail.now c.in-Err.ensures.ready
    (λ n i. ap (λ (m : Clauses). fin.get m n) c.remove.ensures ∙ still c.attach.new.arena c.in_ok-at.at.number n
    (λ e. c.requires.apart (subst (Contains (g.P.Propagator.attached c.args.propagator.now)) (e ∙ c.in_ok-at.ensures.ok.0)
    (subst (λ (xs : List ℕ). Contains xs n) c.in-Err.ensures.err i))))

pub returns-in-Err-clause-err_clauses : goal.returns-in-Err-clause-err_clauses
returns-in-Err-clause-err_clauses g c =
    subst (SameUpToOrder c.args.arena.now) (sym c.remove.ensures)
    (subst (λ (n : ℕ). SameUpToOrder c.args.arena.now (fin.remove c.attach.new.arena n)) (sym c.in_ok-at.ensures.ok.0)
    (same_again c.args.arena.now c.attach.new.arena c.args.number (c.in_ok-at.at.place, c.args.literals.now) c.requires.fresh
    (subst (λ (m : Clauses). SameUpToOrder m c.attach.new.arena) c.in_ok-at.ensures.ok.2 c.in-Err.ensures.clauses)))
