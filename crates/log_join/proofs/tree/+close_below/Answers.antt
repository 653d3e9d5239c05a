use Rattle.std.proofs.Common.{◌≡◌, ◌++◌, ◌∙◌, sym, ap, subst}
use Rattle.std.specs.List.{list_all}
use Rattle.icnf.specs.Leaves.{Cube}
use Rattle.log_join.specs.ClosedLeaves.{is_closed}
use Rattle.log_join.specs.declared.tree.Node.{Node}
use Rattle.log_join.specs.Trees.{leaves_in, IsSubtree}
use Rattle.log_join.specs.inner.Trees.{candidate_of}
use Rattle.log_join.proofs.CoverLemmas.{elsewhere_unchanged}
use Rattle.log_join.proofs.TreeLemmas.{closed_unchanged, becomes_fork, clears_fork}
use Rattle.log_join.proofs.tree.+close_below.Goals as goal

pub returns-then-not-has_between-clause-settled : goal.returns-then-not-has_between-clause-settled
returns-then-not-has_between-clause-settled t c = λ path index unclosed tree placed limit covered left found.
    elsewhere_unchanged c.args.lemma path index unclosed c.args.at.from c.args.at.to c.args.node.now c.args.lemma.small (c.has_between.ensures c.if-not-has_between.true) tree placed limit covered left found

pub returns-then-closed-2-clause-settled : goal.returns-then-closed-2-clause-settled
returns-then-closed-2-clause-settled t c = λ path index unclosed tree placed limit covered left found.
    let k = rw c.in-Fork.is at tree in
    rw c.in-Fork.is (closed_unchanged (candidate_of c.args.lemma) path _ k (sym k.1 ∙ c.if-closed-2.true))

pub returns-in_ok-second-in-Fork-clause-settled : goal.returns-in_ok-second-in-Fork-clause-settled
returns-in_ok-second-in-Fork-clause-settled t c = λ path index unclosed tree placed limit covered left found.
    let k = rw c.in-Fork.is at tree in
    let pl = rw c.in-Fork.is at placed in
    let cv = rw c.in-Fork.is at covered in
    let op = rw c.in-Fork.is at left in
    let left' : Node = c.close_below.new.node in
    let right' : Node = c.close_below-in-Fork.new.node in
    let marks : (p q : Cube) → IsSubtree p left' → IsSubtree q right' → c.are_closed_below.result ≡ list_all is_closed (leaves_in left' ++ leaves_in right') =
    λ p q f g.
    c.are_closed_below.ensures p q (subst (IsSubtree p) (sym c.deref-in-Fork.ensures) f) (subst (IsSubtree q) (sym c.deref-in-Fork-2.ensures) g)
    ∙ ap (λ (n : Node). list_all is_closed (leaves_in n ++ leaves_in c.deref-in-Fork-2.result.now)) c.deref-in-Fork.ensures
    ∙ ap (λ (n : Node). list_all is_closed (leaves_in left' ++ leaves_in n)) c.deref-in-Fork-2.ensures in
    let z = becomes_fork c.args.lemma path index unclosed c.in-Fork.branch c.in-Fork.left.value c.in-Fork.right.value c.deref_mut.result.now c.deref_mut-in-Fork.result.now left' right'
    c.args.at c.left.result c.right.result c.in-Fork.middle c.are_closed_below.result c.in_ok-first-in-Fork.first c.in_ok-second-in-Fork.second c.either.result
    k.2 k.3 pl.0 pl.1 limit cv.0 cv.1 op.0 op.1 found c.deref_mut.ensures.value c.deref_mut-in-Fork.ensures.value c.left.ensures c.right.ensures
    c.in_ok-first-in-Fork.ensures.settled c.in_ok-second-in-Fork.ensures.settled marks c.either.ensures in
    rw c.in-Fork.is (record { tree = (k.0, z.marked, z.first, z.second); leaves = z.leaves; told = z.told; covers = λ index from g. (z.first_covers index from g.0, z.second_covers index _ g.1) })

pub returns-in_ok-second-in-Fork-clause-left : goal.returns-in_ok-second-in-Fork-clause-left
returns-in_ok-second-in-Fork-clause-left t c = λ placed.
    let pl = rw c.in-Fork.is at placed in
    let z = clears_fork c.args.at c.left.result c.right.result c.in-Fork.middle c.args.unclosed.now c.close_below.new.unclosed c.close_below-in-Fork.new.unclosed
    c.in-Fork.left.value c.in-Fork.right.value c.deref_mut.result.now c.deref_mut-in-Fork.result.now c.close_below.new.node c.close_below-in-Fork.new.node pl.0 pl.1
    c.deref_mut.ensures.value c.deref_mut-in-Fork.ensures.value c.left.ensures c.right.ensures c.in_ok-first-in-Fork.ensures.left c.in_ok-second-in-Fork.ensures.left in
    rw c.in-Fork.is (record { outside = z.outside; placed = z.placed; left = λ h. (z.first h.0, z.second h.1) })
