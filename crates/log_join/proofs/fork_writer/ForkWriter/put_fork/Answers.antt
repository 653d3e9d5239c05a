use Rattle.std.proofs.Common.{◌≡◌, ◌∙◌, List, All, ap, sym, subst, arith}
use Rattle.std.proofs.lemmas.List.Elements.{All-nil}
use Rattle.dimacs.specs.logic.Literal.{Clause, IsWithin}
use Rattle.dimacs.specs.logic.Rat.{Group}
use Rattle.lrat_text.specs.Grammar.{IsGroup}
use Rattle.icnf.specs.Leaves.{Cube}
use Rattle.proof_join.specs.JoinedProof.{resolvent}
use Rattle.proof_join.proofs.SubtreeLemmas.{two_numbers}
use Rattle.proof_join.proofs.TreeLemmas.{resolvent_small}
use Rattle.log_join.proofs.fork_writer.ForkWriter.put_fork.Goals as goal

pub put_line-requires-clause-limits : goal.put_line-requires-clause-limits
put_line-requires-clause-limits c =
    let is : c.in_ok-clause.clause.items ≡ resolvent c.args.self.now.path.items c.args.left.clause.items c.args.right.clause.items =
    c.in_ok-clause.ensures ∙ ap (λ (p : Cube). resolvent p c.deref-4.result.now c.deref-5.result.now) c.deref-3.ensures.value
    ∙ ap (λ (C : Clause). resolvent c.args.self.now.path.items C c.deref-5.result.now) c.deref-4.ensures.value ∙ ap (λ (D : Clause). resolvent c.args.self.now.path.items c.args.left.clause.items D) c.deref-5.ensures.value in
    let few = c.args.self.now.limit in
    let left = c.args.left.numbered in
    let right = c.args.right.numbered in
    let other = c.if-self-eq-LIMIT.false in (
      (omega arith, omega arith),
      subst (All (IsWithin 199999999)) (sym (c.deref-6.ensures.value ∙ is)) (resolvent_small 199999999 c.args.self.now.path.items c.args.left.clause.items c.args.right.clause.items c.args.left.small c.args.right.small),
      two_numbers _ _ (omega arith, omega arith) (omega arith, omega arith),
      subst (λ (gs : List Group). All IsGroup gs) (sym c.new-groups.ensures) (All-nil IsGroup),
    )

pub invariant_of-result : goal.invariant_of-result
invariant_of-result c =
    let is : c.in_ok-clause.clause.items ≡ resolvent c.args.self.now.path.items c.args.left.clause.items c.args.right.clause.items =
    c.in_ok-clause.ensures ∙ ap (λ (p : Cube). resolvent p c.deref-4.result.now c.deref-5.result.now) c.deref-3.ensures.value
    ∙ ap (λ (C : Clause). resolvent c.args.self.now.path.items C c.deref-5.result.now) c.deref-4.ensures.value ∙ ap (λ (D : Clause). resolvent c.args.self.now.path.items c.args.left.clause.items D) c.deref-5.ensures.value in
    let few = c.args.self.now.limit in
    let other = c.if-self-eq-LIMIT.false in
    record {
      numbered = (omega arith, omega arith);
      small = subst (All (IsWithin 199999999)) (sym is) (resolvent_small 199999999 c.args.self.now.path.items c.args.left.clause.items c.args.right.clause.items c.args.left.small c.args.right.small);
    }
