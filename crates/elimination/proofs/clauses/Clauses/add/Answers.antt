use Rattle.std.proofs.Common.{◌+◌, ◌<◌, ◌≤◌, length, refl, subst, arith}
use Rattle.dimacs.specs.logic.Cnf.{literal_count}
use Rattle.elimination.specs.inner.Indexed.{lists_in, AreListsWith}
use Rattle.elimination.proofs.IndexLemmas.{added}
use Rattle.elimination.proofs.clauses.Clauses.add.Goals as goal

pub returns-clause-added : goal.returns-clause-added
returns-clause-added c =
    let s = c.args.self.now in
    let C = c.args.lits.now in
    let old = lists_in s.occurs.items in
    let new = lists_in c.list_clause.new.occurs.items in
    let h = c.requires.indexed.stored in
    let w : AreListsWith old new C (length s.all.clauses) = subst (AreListsWith old new C) c.len-i.ensures c.in_ok-list_clause.ensures in
    let room : length s.all.clauses < 200000190 = omega (arith, c.len-i.ensures, c.if-i-ge-MOST_CLAUSES.false) in
    let literals : literal_count s.all.clauses + length C ≤ 1100000446 = omega (arith, h.count, h.base.literals, c.if-lits-self.false) in
    let is = added s.all s.literals s.active.items old new s.gone.items C c.requires.indexed w c.requires.some c.requires.free c.requires.within room literals in
    record {
      indexed = rw (c.in_ok-push_clause.ensures.ok, c.in_ok-push.ensures.items) is;
      all = c.in_ok-push_clause.ensures.ok;
      active = c.in_ok-push.ensures.items;
      gone = refl;
    }
