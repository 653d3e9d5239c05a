use Rattle.std.proofs.Common.{◌≡◌, ◌∙◌, List, All, ap, sym, subst, arith}
use Rattle.std.proofs.lemmas.List.Elements.{All-nil}
use Rattle.dimacs.specs.logic.Literal.{Clause, IsWithin}
use Rattle.dimacs.specs.logic.Rat.{Group}
use Rattle.lrat_text.specs.Grammar.{IsGroup}
use Rattle.proof_join.specs.JoinedProof.{resolvent}
use Rattle.proof_join.proofs.SubtreeLemmas.{two_numbers}
use Rattle.proof_join.proofs.TreeLemmas.{resolvent_small}
use Rattle.proof_join.proofs.subtree.put_fork.Goals as goal

pub put_line-requires-clause-limits : goal.put_line-requires-clause-limits
put_line-requires-clause-limits c =
    let is : c.in_ok-clause.clause.items ≡ resolvent c.args.path.now c.args.left.clause.items c.args.right.clause.items =
    c.in_ok-clause.ensures ∙ ap (λ (C : Clause). resolvent c.args.path.now C c.deref-4.result.now) c.deref-3.ensures.value ∙ ap (λ (D : Clause). resolvent c.args.path.now c.args.left.clause.items D) c.deref-4.ensures.value in
    let top = c.requires.top in
    let t0 = top.0 in
    let t1 = top.1 in
    let l = c.requires.left in
    let l0 = l.0 in
    let l1 = l.1 in
    let r = c.requires.right in
    let r0 = r.0 in
    let r1 = r.1 in (
      (omega arith, omega arith),
      subst (All (IsWithin 199999999)) (sym (c.deref-5.ensures.value ∙ is)) (resolvent_small 199999999 c.args.path.now c.args.left.clause.items c.args.right.clause.items l.2 r.2),
      two_numbers c.args.left.id c.args.right.id (omega arith, omega arith) (omega arith, omega arith),
      subst (λ (gs : List Group). All IsGroup gs) (sym c.new-groups.ensures) (All-nil IsGroup),
    )

pub returns-clause-small : goal.returns-clause-small
returns-clause-small c =
    let is : c.in_ok-clause.clause.items ≡ resolvent c.args.path.now c.args.left.clause.items c.args.right.clause.items =
    c.in_ok-clause.ensures ∙ ap (λ (C : Clause). resolvent c.args.path.now C c.deref-4.result.now) c.deref-3.ensures.value ∙ ap (λ (D : Clause). resolvent c.args.path.now c.args.left.clause.items D) c.deref-4.ensures.value in
    let l = c.requires.left in
    let r = c.requires.right in
    (omega arith, omega arith, subst (All (IsWithin 199999999)) (sym is) (resolvent_small 199999999 c.args.path.now c.args.left.clause.items c.args.right.clause.items l.2 r.2))
