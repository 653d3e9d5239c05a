use Rattle.std.proofs.Common.{ℕ, ◌+◌, List, [], Option, Some, None, subst, sym, arith}
use Rattle.std.specs.Global.{Vec}
use Rattle.std.proofs.lemmas.List.Elements.{All-nil}
use Rattle.dimacs.specs.logic.Literal.{IsWithin}
use Rattle.dimacs.specs.logic.Rat.{Group}
use Rattle.lrat_text.specs.Grammar.{IsGroup}
use Rattle.lrat_text.specs.Log.{Cube}
use Rattle.proof_lift.specs.LiftedText.{lift_addition}
use Rattle.proof_lift.specs.inner.Images.{images_of}
use Rattle.proof_lift.specs.inner.Reached.{GivesHints}
use Rattle.proof_lift.specs.inner.Ready.{state_of}
use Rattle.proof_lift.specs.inner.Walks.{ImagesFit}
use Rattle.proof_lift.specs.inner.Output.{WritesAs}
use Rattle.proof_lift.proofs.ClosingLemmas.{no_number, nothing_found}
use Rattle.proof_lift.proofs.step_lifter.StepLifter.close.Goals as goal

pub refuting_hints-requires-clause-fits : goal.refuting_hints-requires-clause-fits
refuting_hints-requires-clause-fits c = subst (λ (n : ℕ). ImagesFit n (images_of c.args.self.now.images)) (sym c.len-places.ensures) c.requires.ready.able.marks_fit

pub returns-then-id-ge-LIMIT-clause-closed : goal.returns-then-id-ge-LIMIT-clause-closed
returns-then-id-ge-LIMIT-clause-closed c = no_number c.args.self.now (omega arith)

pub returns-in_default-clause-closed : goal.returns-in_default-clause-closed
returns-in_default-clause-closed c =
    let T = images_of c.args.self.now.images in
    nothing_found c.args.self.now
    (subst (λ (q : Cube). GivesHints T q None) c.deref.ensures.value (subst (λ (o : Option (Vec ℕ)). GivesHints T c.deref.result.now o) c.in_default.is c.in_ok-hints.ensures))

pub returns-clause-closed : goal.returns-clause-closed
returns-clause-closed c =
    let old = c.args.self.now in
    let hints = c.in-Some.hints.items in
    let found : GivesHints (images_of old.images) c.deref.result.now (Some c.in-Some.hints)
    = subst (λ (o : Option (Vec ℕ)). GivesHints (images_of old.images) c.deref.result.now o) c.in-Some.is c.in_ok-hints.ensures in
    let low = c.if-id-ge-LIMIT.false in
    record {
      hints = hints;
      limits = ((omega arith, omega arith), All-nil (IsWithin 2000000), found.numbers, All-nil IsGroup);
      writes = subst (λ (gs : List Group). WritesAs (lift_addition old.cube.items (state_of old) (old.top + 1) [] hints gs) old.own (state_of c.add.new.self) c.args.out.now.items c.add.new.out.items) c.new-groups.ensures
          (subst (λ (hs : List ℕ). WritesAs (lift_addition old.cube.items (state_of old) (old.top + 1) [] hs c.new-groups.result) old.own (state_of c.add.new.self) c.args.out.now.items c.add.new.out.items) c.deref-2.ensures.value c.in_ok-add.ensures.writes);
    }
