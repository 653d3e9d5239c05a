use Rattle.std.proofs.Common.{◌≡◌, ◌∙◌, [], All, ap, sym, subst, arith}
use Rattle.dimacs.specs.logic.Literal.{IsWithin}
use Rattle.proof_join.specs.RenumberedSteps.{last_clause}
use Rattle.proof_join.specs.Steps.{steps_in}
use Rattle.proof_join.specs.inner.Steps.{clause_of}
use Rattle.proof_join.proofs.SubtreeLemmas.{ends_clause, ends_small}
use Rattle.proof_join.proofs.subtree.put_leaf.Goals as goal

pub returns-clause-subtree : goal.returns-clause-subtree
returns-clause-subtree c = (
  c.in_ok-writer.ensures.top,
  c.in_ok-clause.ensures ∙ ap clause_of c.in_ok-writer.ensures.last ∙ ends_clause c.args.writer.now.scratch.buffer (steps_in c.args.fragment.now) c.requires.fragment.ends,
)

pub returns-clause-small : goal.returns-clause-small
returns-clause-small c =
    let e : c.in_ok-clause.clause.items ≡ last_clause [] (steps_in c.args.fragment.now) =
    c.in_ok-clause.ensures ∙ ap clause_of c.in_ok-writer.ensures.last ∙ ends_clause c.args.writer.now.scratch.buffer (steps_in c.args.fragment.now) c.requires.fragment.ends in
    let up = c.in_ok-writer.ensures.few in
    let a = up.0 in
    let begun = c.requires.begun in
    let b = begun.0 in
    let d = begun.1 in
    (omega arith, omega arith, subst (All (IsWithin 199999999)) (sym e) (ends_small 199999999 c.args.fragment.now (steps_in c.args.fragment.now) c.requires.fragment.own.spelled c.requires.fragment.ends))
