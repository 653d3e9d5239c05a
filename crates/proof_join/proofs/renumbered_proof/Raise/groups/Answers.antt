use Rattle.std.proofs.Common.{[], map, subst, sym, arith}
use Rattle.std.specs.Prelude.{All, List}
use Rattle.std.proofs.lemmas.List.Elements.{All-push}
use Rattle.std.proofs.lemmas.Option.{get_or_from_slice_get}
use Rattle.std.proofs.lemmas.Result.{err_from_is_err_and}
use Rattle.dimacs.specs.logic.Rat.{Group}
use Rattle.lrat_text.specs.Grammar.{IsGroup}
use Rattle.proof_join.specs.RenumberedSteps.{renumbered_group}
use Rattle.proof_join.specs.RenumberedProof.{raised}
use Rattle.proof_join.proofs.RaisingLemmas.{unless_so, group_over, groups_on}
use Rattle.proof_join.proofs.renumbered_proof.Raise.groups.Goals as goal

pub returns-in_err-group : goal.returns-in_err-group
returns-in_err-group c =
    let f : Group → Group = renumbered_group (raised c.args.self.above c.args.self.by) in
    let own : Group = (c.get-candidate.result.0, c.get-candidate.result.1.now) in
    let p = err_from_is_err_and c.from_residual.result c.from_residual.ensures.1 in
    rw (p.1, p.2) (unless_so c.in_err-group.field-0.0 (¬ (IsGroup (f own))) (¬ (All IsGroup (map f c.args.groups.now)))
    (group_over c.args.self.above c.args.self.by c.args.groups.now c.loop-i.i own (omega arith) (get_or_from_slice_get c.args.groups.now c.loop-i.i own (0, []) c.get-candidate.ensures))
    c.in_err-group.ensures)

pub loop-i-preserved : goal.loop-i-preserved
loop-i-preserved c =
    let f : Group → Group = renumbered_group (raised c.args.self.above c.args.self.by) in
    let own : Group = (c.get-candidate.result.0, c.get-candidate.result.1.now) in
    let i = c.loop-i.invariant in
    record {
      are = groups_on c.args.self.above c.args.self.by c.args.groups.now c.loop-i.i own c.loop-i.out c.group.new.out (omega arith) c.get-candidate.ensures i.are c.in_ok-group.ensures.0;
      fit = subst (λ (gs : List Group). All IsGroup gs) (sym c.in_ok-group.ensures.0) (All-push IsGroup c.loop-i.out (f own) i.fit c.in_ok-group.ensures.1);
    }
