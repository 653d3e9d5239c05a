use Rattle.std.proofs.Common.{inr, subst}
use Rattle.cubes_to_tree.specs.inner.Nodes.{PutOutcome}
use Rattle.cubes_to_tree.proofs.LineLemmas.{put_reads, put_refused}
use Rattle.cubes_to_tree.proofs.cube_reader.put_cube.Goals as goal

pub returns-then-branch : goal.returns-then-branch
returns-then-branch c = λ greatest cubes h q.
    put_reads greatest c.args.line cubes c.args.cube.now c.args.root.now c.put.new.node h q
    (subst (λ b. PutOutcome c.args.cube.now c.args.root.now b c.put.new.node) c.if-branch.true c.in_ok-put.ensures)

pub returns : goal.returns
returns c = λ greatest cubes h q.
    inr (put_refused greatest c.args.line cubes c.args.cube.now c.args.root.now c.put.new.node h
    (subst (λ b. PutOutcome c.args.cube.now c.args.root.now b c.put.new.node) c.if-branch.false c.in_ok-put.ensures))
