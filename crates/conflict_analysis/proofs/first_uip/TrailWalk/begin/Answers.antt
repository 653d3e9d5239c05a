use Rattle.std.proofs.Common.{[], arith, sym, get_or}
use Rattle.std.proofs.lemmas.Bool.{both_ways}
use Rattle.dimacs.specs.logic.Literal.{var_of}
use Rattle.std.proofs.lemmas.List.{append-nil}
use Rattle.dimacs.proofs.Members.{Contains-nil}
use Rattle.conflict_analysis.specs.inner.Seen.{met}
use Rattle.conflict_analysis.proofs.WalkEndLemmas.{begins}
use Rattle.conflict_analysis.proofs.MetLiteralLemmas.{lists_none}
use Rattle.conflict_analysis.proofs.first_uip.TrailWalk.begin.Goals as goal

pub returns-clause-walk : goal.returns-clause-walk
returns-clause-walk c = record {
  valid = c.requires;
  before = ([], sym (append-nil c.args.trail.now.entries));
  room = let r = c.in_ok-restart.ensures.room in let v = c.vars.ensures in omega (arith, r, v);
  level = c.level-self.ensures.present;
  counted = begins c.args.trail.now.entries (met c.restart.new.self) c.in_ok-restart.ensures.none;
  listed = rw c.clear.ensures.items (lists_none c.args.trail.now.vars (met c.restart.new.self) c.in_ok-restart.ensures.none);
  again = rw c.clear-2.ensures.items (λ v h. absurd (Contains-nil v h));
  wide = let r = c.in_ok-restart-2.ensures.room in let n = c.len.ensures.value in omega (arith, r, n);
  marked = λ k d lt h. absurd (both_ways (met c.restart.new.self (var_of (get_or c.args.trail.now.entries k d).literal)) (c.in_ok-restart.ensures.none (var_of (get_or c.args.trail.now.entries k d).literal)) h);
  whole = let r = c.in_ok-restart-3.ensures.room in let n = c.len-2.ensures.value in omega (arith, r, n);
  placed = λ k d lt h. absurd (both_ways (met c.restart.new.self (var_of (get_or c.args.trail.now.entries k d).literal)) (c.in_ok-restart.ensures.none (var_of (get_or c.args.trail.now.entries k d).literal)) h);
}
