use Rattle.std.proofs.Common.{◌≡◌, ◌+◌, ◌<◌, ◌^◌, ◌++◌, ◌∙◌, List, length, arith, sym, ap, subst, length-append, ℕ}
use Rattle.log_join.proofs.ResultLemmas.{ok_gives}
use Rattle.log_join.specs.ClosedLeaves.{Leaf, open_from}
use Rattle.log_join.specs.Trees.{leaves_in}
use Rattle.log_join.proofs.TreeLemmas.{open_two}
use Rattle.log_join.proofs.tree.+open_below.Goals as goal

pub returns-in_ok-open_below-in-Fork-clause-places : goal.returns-in_ok-open_below-in-Fork-clause-places
returns-in_ok-open_below-in-Fork-clause-places t c =
    let xs : List Leaf = leaves_in c.in-Fork.left.value in
    let ys : List Leaf = leaves_in c.in-Fork.right.value in
    let i : ℕ = c.args.next.now in
    rw c.in-Fork.is (ok_gives c.open_below-in-Fork.result _ _
    (λ second low.
    let l = length-append xs ys in
    let few : i + length xs < 2 ^ 64 = omega arith in
    let ex : leaves_in c.deref.result.now ≡ xs = ap leaves_in c.deref.ensures in
    let ey : leaves_in c.deref-in-Fork.result.now ≡ ys = ap leaves_in c.deref-in-Fork.ensures in
    let few' : i + length (leaves_in c.deref.result.now) < 2 ^ 64 = subst (λ (ks : List Leaf). i + length ks < 2 ^ 64) (sym ex) few in
    let n : c.open_below.new.next ≡ i + length xs = c.in_ok-open_below-in-Fork.ensures.next few' ∙ ap (λ (ks : List Leaf). i + length ks) ex in
    let p : c.open_below.new.found.items ≡ c.args.found.now.items ++ open_from i xs = c.in_ok-open_below-in-Fork.ensures.places few' ∙ ap (λ (ks : List Leaf). c.args.found.now.items ++ open_from i ks) ex in
    let low' : c.open_below.new.next + length (leaves_in c.deref-in-Fork.result.now) < 2 ^ 64 = subst (λ (ks : List Leaf). c.open_below.new.next + length ks < 2 ^ 64) (sym ey) (omega arith) in
    let q = second low' ∙ ap (λ (ks : List Leaf). c.open_below.new.found.items ++ open_from c.open_below.new.next ks) ey in
    open_two i xs ys c.args.found.now.items c.open_below.new.found.items c.open_below-in-Fork.new.found.items c.open_below.new.next p n q)
    c.open_below-in-Fork.ensures.places)
