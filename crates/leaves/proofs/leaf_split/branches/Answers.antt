use Rattle.std.proofs.Common.{ℕ, List, ◌++◌, sym, subst, ap, ◌∙◌}
use Rattle.icnf.specs.Leaves.{Cube, IsFree}
use Rattle.icnf.specs.Grammar.{spelling}
use Rattle.dimacs.specs.logic.Cnf.{AreWithin, greatest_in}
use Rattle.leaves.specs.LeafSplit.{PrintsBranches, SplitsOn}
use Rattle.leaves.proofs.SplitLemmas.{cut_within}
use Rattle.leaves.proofs.leaf_split.branches.Goals as goal

pub split-requires-clause-free : goal.split-requires-clause-free
split-requires-clause-free c =
    let here = rw c.in-Some.is at c.in_ok-variable.ensures.sound in
    subst (λ (q : Cube). IsFree q c.in-Some.variable) c.cube-cube.ensures.cube here.free

pub write-requires : goal.write-requires
write-requires c =
    let here = rw c.in-Some.is at c.in_ok-variable.ensures.sound in
    subst (AreWithin (greatest_in c.args.formula.now.clauses)) (sym c.in_ok-split.ensures.ok)
    (cut_within c.args.formula.now c.args.tree.now c.args.place c.in-Some.variable c.cube-cube.result.now c.requires.within here)

pub returns : goal.returns
returns c =
    let here = rw c.in-Some.is at c.in_ok-variable.ensures.some in
    PrintsBranches.splits c.in-Some.variable (subst (λ (q : Cube). SplitsOn c.args.formula.now q c.args.on c.in-Some.variable) c.cube-cube.ensures.cube here) (record {
      status_is = c.in_ok-report.ensures.status;
      text_is =
          c.in_ok-write.ensures.ok ∙ ap (λ (o : List ℕ). o ++ spelling c.args.formula.now.clauses c.split.new.self) c.in_ok-report.ensures.text
          ∙ ap (spelling c.args.formula.now.clauses) c.in_ok-split.ensures.ok;
      no_proof = c.in_ok-report.ensures.proof;
    })
