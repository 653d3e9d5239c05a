use Rattle.std.proofs.Common.{◌<◌, true, length, refl, sym, arith}
use Rattle.std.proofs.lemmas.Bool.{true≢false}
use Rattle.elimination.specs.inner.Indexed.{clause_at, lists_in}
use Rattle.elimination.proofs.IndexLemmas.{active_read, answer_true, answer_false, subsumed}
use Rattle.elimination.proofs.clauses.Clauses.subsume.Goals as goal

pub returns-then-not-is_subset-clause-tells : goal.returns-then-not-is_subset-clause-tells
returns-then-not-is_subset-clause-tells c =
    let s = c.args.self.now in (
      λ t. absurd (true≢false (sym t)),
      λ p. absurd (answer_false c.is_subset.result c.clause.result.now c.clause-2.result.now (clause_at s.all.clauses c.args.by) (clause_at s.all.clauses c.args.i) c.is_subset.ensures
          c.clause.ensures.clause c.clause-2.ensures.clause c.if-not-is_subset.true p.3),
    )

pub returns-clause-indexed : goal.returns-clause-indexed
returns-clause-indexed c =
    let s = c.args.self.now in
    let b : c.args.by < length s.active.items = omega (arith, c.requires.indexed.stored.truths, c.requires.by_within) in
    subsumed s.all s.literals s.active.items (lists_in s.occurs.items) s.gone.items c.args.i c.args.by c.requires.indexed c.if-i-by.false c.requires.by_within
    (active_read s.active.items c.args.by c.index-else-not-index.result.now true b c.index-else-not-index.ensures c.if-not-index-2.false)
    (answer_true c.is_subset.result c.clause.result.now c.clause-2.result.now (clause_at s.all.clauses c.args.by) (clause_at s.all.clauses c.args.i) c.is_subset.ensures
    c.clause.ensures.clause c.clause-2.ensures.clause c.if-not-is_subset.false)

pub returns-clause-tells : goal.returns-clause-tells
returns-clause-tells c =
    let s = c.args.self.now in
    let a : c.args.i < length s.active.items = omega (arith, c.requires.indexed.stored.truths, c.requires.within) in
    let b : c.args.by < length s.active.items = omega (arith, c.requires.indexed.stored.truths, c.requires.by_within) in (
      λ t. (
        c.if-i-by.false,
        active_read s.active.items c.args.i c.index.result.now true a c.index.ensures c.if-not-index.false,
        active_read s.active.items c.args.by c.index-else-not-index.result.now true b c.index-else-not-index.ensures c.if-not-index-2.false,
        answer_true c.is_subset.result c.clause.result.now c.clause-2.result.now (clause_at s.all.clauses c.args.by) (clause_at s.all.clauses c.args.i) c.is_subset.ensures
            c.clause.ensures.clause c.clause-2.ensures.clause c.if-not-is_subset.false,
      ),
      λ p. refl,
    )
