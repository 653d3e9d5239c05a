use Rattle.std.proofs.Common.{◌<◌, length, subst, sym}
use Rattle.std.specs.List.{All, Contains}
use Rattle.elimination.specs.inner.Indexed.{clause_at, lists_in}
use Rattle.elimination.proofs.IndexLemmas.{held_all, read_within}
use Rattle.elimination.proofs.clauses.Clauses.with.Goals as goal

pub returns-clause-held : goal.returns-clause-held
returns-clause-held c =
    let s = c.args.self.now in
    let h = c.requires.indexed.stored in
    let e = read_within s.all.vars s.occurs.items c.args.literal c.index.result c.index-2.result.now c.deref.result.now h.lists c.requires.within c.index.ensures.value c.index-2.ensures
    c.deref.ensures.value in
    subst (All (λ i. (i < length s.all.clauses) × Contains (clause_at s.all.clauses i) c.args.literal)) (sym e)
    (held_all s.all.clauses s.active.items (lists_in s.occurs.items) c.args.literal h.are_listed)
