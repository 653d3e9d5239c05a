use Rattle.std.proofs.Common.{◌≡◌, ◌∙◌, ◌^◌, ◌≤◌, sym, ap, subst, arith}
use Rattle.std.proofs.lemmas.Result.{err_from_is_err_and}
use Rattle.log_join.specs.JoinedLogs.{Ended, fork, forks}
use Rattle.log_join.specs.declared.tree.Node.{Node}
use Rattle.log_join.specs.inner.Trees.{ended}
use Rattle.log_join.specs.inner.Forks.{HasPut}
use Rattle.log_join.proofs.ForkLemmas.{left_up, fork_put}
use Rattle.log_join.proofs.ResultLemmas.{if_ok}
use Rattle.log_join.proofs.fork_writer.ForkWriter.+put.Goals as goal

pub put_below-returns-in_err-first-in-Fork-clause-long : goal.put_below-returns-in_err-first-in-Fork-clause-long
put_below-returns-in_err-first-in-Fork-clause-long t c =
    let p = err_from_is_err_and c.from_residual-in_err-first-in-Fork.result c.from_residual-in_err-first-in-Fork.ensures.1 in
    rw (p.1, p.2) (λ e.
    let l = c.in_err-first-in-Fork.ensures.long e in
    let u = left_up c.args.self.now.path.items c.args.self.now.top c.in-Fork.branch (ended c.deref.result.now) (ended c.in-Fork.right.value) in
    let tree : ended c.args.node.now ≡ fork c.in-Fork.branch (ended c.deref.result.now) (ended c.in-Fork.right.value) =
    ap (λ (n : Node). ended n) c.in-Fork.is ∙ ap (λ (n : Node). fork c.in-Fork.branch (ended n) (ended c.in-Fork.right.value)) (sym c.deref.ensures) in
    subst (λ (s : Ended). 2 ^ 48 ≤ (forks c.args.self.now.path.items c.args.self.now.top s).top) (sym tree) (omega arith))

pub put_below-returns-in_ok-second-in-Fork-clause-put : goal.put_below-returns-in_ok-second-in-Fork-clause-put
put_below-returns-in_ok-second-in-Fork-clause-put t c =
    let tree : ended c.args.node.now ≡ fork c.in-Fork.branch (ended c.deref.result.now) (ended c.deref-in-Fork.result.now) =
    ap (λ (n : Node). ended n) c.in-Fork.is ∙ ap (λ (n : Node). fork c.in-Fork.branch (ended n) (ended c.in-Fork.right.value)) (sym c.deref.ensures)
    ∙ ap (λ (n : Node). fork c.in-Fork.branch (ended c.deref.result.now) (ended n)) (sym c.deref-in-Fork.ensures) in
    if_ok c.put_fork.result _ _
    (λ s h. subst (λ (d : Ended). HasPut (forks c.args.self.now.path.items c.args.self.now.top d) c.args.self.now c.put_fork.new.self s) (sym tree)
    (fork_put c.in-Fork.branch c.negate.result (ended c.deref.result.now) (ended c.deref-in-Fork.result.now) c.args.self.now c.put_branch.new.self c.put_branch-in-Fork.new.self c.put_fork.new.self
    c.in_ok-first-in-Fork.first c.in_ok-second-in-Fork.second s c.negate.ensures c.in_ok-first-in-Fork.ensures.put c.in_ok-second-in-Fork.ensures.put h))
    c.put_fork.ensures.put
