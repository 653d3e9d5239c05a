use Rattle.std.proofs.Common.{◌∙◌, List, ℕ, All, length, sym, subst}
use Rattle.std.proofs.lemmas.Bool.{MatchBool-at_true, eqb-true}
use Rattle.std.proofs.lemmas.List.{nil_from_length}
use Rattle.lrat_text.specs.Grammar.{IsClauseNumber, IsStepWithin}
use Rattle.lrat_text.specs.declared.step.Step.TheVariants.{Add}
use Rattle.renumbered_logs.proofs.RenumberingLemmas.{addition_put}
use Rattle.renumbered_logs.proofs.renumbering.Renumbering.put.Goals as goal

pub returns-in_ok-put_within-in-Add : goal.returns-in_ok-put_within-in-Add
returns-in_ok-put_within-in-Add c =
    let limits : IsStepWithin 199999999 (Add c.in-Add.id c.in-Add.lits.now c.in-Add.hints.now c.in-Add.groups.now) = rw c.in-Add.is at c.requires.limits in
    let none = nil_from_length c.in-Add.groups.now (eqb-true (length c.in-Add.groups.now) 0 (sym c.if-not-is_empty.ensures)) in
    let moved = MatchBool-at_true _ _ c.if-not-branch.false c.in_ok-move_all-in-Add.ensures in
    let within : All IsClauseNumber c.deref.result.now = subst (λ (ns : List ℕ). All IsClauseNumber ns) (sym c.deref.ensures.value) moved.1 in
    rw c.in-Add.is (addition_put c.args.self.numbers.now c.args.self.all c.args.self.eliminated.now c.in-Add.id c.in-Some.id c.args.rewriter.now.top c.in-Add.lits.now c.in-Add.hints.now c.deref.result.now
    c.in-Add.groups.now c.args.text.now c.put_within.new.self limits none c.if-has_eliminated.ensures c.in-Some.ensures.0 c.in-Some.ensures.1 (c.deref.ensures.value ∙ moved.0) within
    c.in_ok-put_within-in-Add.ensures.ok)
