use Rattle.std.proofs.Common.{◌-◌, ◌∷◌, ◌∙◌, List, All, length, arith, ap, sym, subst}
use Rattle.std.proofs.lemmas.List.Elements.{All-weaker}
use Rattle.std.proofs.lemmas.Result.{err_from_is_err_and}
use Rattle.proof_join.specs.Fronts.{Branch, Standing}
use Rattle.proof_join.specs.Fronts.{branch_of, branches}
use Rattle.proof_join.specs.inner.Fronts.{IsUpTo}
use Rattle.proof_join.specs.inner.Steps.{Writes}
use Rattle.proof_join.specs.declared.subtree.Subtree.{Subtree}
use Rattle.proof_join.proofs.BranchLemmas.{first_of, others_of}
use Rattle.proof_join.proofs.FrontLemmas.{fork_step, fork_goes}
use Rattle.proof_join.proofs.SubtreeLemmas.{ok_gives, writes_more}
use Rattle.proof_join.proofs.joiner.+settle.Goals as goal

pub put_fork-requires-clause-left : goal.put_fork-requires-clause-left
put_fork-requires-clause-left t c =
    let all : All (IsUpTo c.args.growing.now.writer.top) (branch_of c.in-Some.left ∷ branches c.take_left.new.finished.items) = subst (λ (bs : List Branch). All (IsUpTo c.args.growing.now.writer.top) bs) c.in-Some.ensures.1 c.requires.finished in
    first_of (IsUpTo c.args.growing.now.writer.top) (branch_of c.in-Some.left) (branches c.take_left.new.finished.items) all

pub settle-requires : goal.settle-requires
settle-requires t c =
    let some = c.in-Some.ensures.0 in
    let down = c.decreases in
    let inside = c.requires.inside in
    let few = c.requires.few in
    let few0 = few.0 in
    let few1 = few.1 in
    let up = c.in_ok-fork.ensures.few in
    let up0 = up.0 in
    let up1 = up.1 in
    let wrote = c.in_ok-fork.ensures.text in
    let same = ap length wrote.0 in
    let below = wrote.1 in
    let top = c.args.growing.now.writer.top in
    let all : All (IsUpTo c.args.growing.now.writer.top) (branch_of c.in-Some.left ∷ branches c.take_left.new.finished.items) = subst (λ (bs : List Branch). All (IsUpTo c.args.growing.now.writer.top) bs) c.in-Some.ensures.1 c.requires.finished in (
      omega arith,
      (
        omega arith,
        (
          c.in_ok-fork.ensures.small,
          (
            All-weaker (IsUpTo c.args.growing.now.writer.top) (IsUpTo c.put_fork.new.writer.top) (λ b h. let h1 = h.1 in (h.0, omega arith, h.2)) (branches c.take_left.new.finished.items)
                (others_of (IsUpTo c.args.growing.now.writer.top) (branch_of c.in-Some.left) (branches c.take_left.new.finished.items) all),
            ((omega arith, omega arith), omega arith),
          ),
        ),
      ),
    )

pub returns-clause-text : goal.returns-clause-text
returns-clause-text t c =
    let some = c.in-Some.ensures.0 in
    let inside = c.requires.inside in
    let step = fork_step c.args.cube.now c.args.depth (c.args.depth - 1) c.args.growing.now.writer.out c.args.growing.now.writer.top c.args.subtree.id c.args.subtree.clause.items (branch_of c.in-Some.left) (branches c.take_left.new.finished.items) (branches c.args.growing.now.finished.items) c.negate-branch.result c.index-cube-above.result
    c.in-Some.ensures.1 c.in-Some.ensures.2 (omega arith) (omega arith) c.index-cube-above.is c.negate-branch.ensures
    c.put_fork.new.writer.out c.put_fork.new.writer.top c.in_ok-fork.fork.id c.in_ok-fork.fork.clause.items c.in_ok-fork.ensures.text.0 c.in_ok-fork.ensures.top c.in_ok-fork.ensures.id c.in_ok-fork.ensures.clause in
    subst (λ (s : Standing). Writes c.settle.result c.settle.new.growing.writer.out s.text) (sym step) c.settle.ensures.text

pub returns-clause-standing : goal.returns-clause-standing
returns-clause-standing t c =
    let some = c.in-Some.ensures.0 in
    let inside = c.requires.inside in
    let step = fork_step c.args.cube.now c.args.depth (c.args.depth - 1) c.args.growing.now.writer.out c.args.growing.now.writer.top c.args.subtree.id c.args.subtree.clause.items (branch_of c.in-Some.left) (branches c.take_left.new.finished.items) (branches c.args.growing.now.finished.items) c.negate-branch.result c.index-cube-above.result
    c.in-Some.ensures.1 c.in-Some.ensures.2 (omega arith) (omega arith) c.index-cube-above.is c.negate-branch.ensures
    c.put_fork.new.writer.out c.put_fork.new.writer.top c.in_ok-fork.fork.id c.in_ok-fork.fork.clause.items c.in_ok-fork.ensures.text.0 c.in_ok-fork.ensures.top c.in_ok-fork.ensures.id c.in_ok-fork.ensures.clause in
    ok_gives _ c.settle.result _ _ (λ e. e ∙ sym step) c.settle.ensures.standing

pub returns-in_err-fork-clause-text : goal.returns-in_err-fork-clause-text
returns-in_err-fork-clause-text t c =
    let some = c.in-Some.ensures.0 in
    let inside = c.requires.inside in
    let goes = fork_goes c.args.cube.now c.args.depth (c.args.depth - 1) c.args.growing.now.writer.out c.args.growing.now.writer.top c.args.subtree.id c.args.subtree.clause.items (branch_of c.in-Some.left) (branches c.take_left.new.finished.items) (branches c.args.growing.now.finished.items) c.negate-branch.result c.index-cube-above.result
    c.in-Some.ensures.1 c.in-Some.ensures.2 (omega arith) (omega arith) c.index-cube-above.is c.negate-branch.ensures in
    let p = err_from_is_err_and c.from_residual.result c.from_residual.ensures.1 in
    rw (p.1, p.2) (writes_more Subtree (Unit {0}) c.in_err-fork.field-0.0 c.put_fork.new.writer.out _ goes.0 _ goes.1 c.in_err-fork.ensures.text)
