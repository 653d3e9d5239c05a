use Rattle.std.proofs.Common.{◌≡◌, ◌++◌, drop, length}
use Rattle.proof_lift.specs.LiftedText.{after_deletion, own_numbers, all_live}
use Rattle.proof_lift.specs.inner.Images.{images_of}
use Rattle.proof_lift.specs.inner.Ready.{KeepsTables}
use Rattle.proof_lift.proofs.step_lifter.StepLifter.remove.Given as goal

-- the numbers that are left give what is left
abbrev pub invariant-loop-id : goal.invariant-loop-id
invariant-loop-id l = record {
  stands : after_deletion (images_of l.self.images) (drop l.id-index l.ids) ≡ after_deletion (images_of l.fn.self.images) l.ids;
  numbers : l.self.scratch.numbers.items ++ own_numbers (length l.fn.self.images.formula.clauses) (images_of l.self.images) (drop l.id-index l.ids)
      ≡ own_numbers (length l.fn.self.images.formula.clauses) (images_of l.fn.self.images) l.ids;
  live : all_live (images_of l.self.images) (drop l.id-index l.ids) ≡ all_live (images_of l.fn.self.images) l.ids;
  same : KeepsTables l.fn.self l.self;
  counts : (l.self.top ≡ l.fn.self.top) × (l.self.own ≡ l.fn.self.own) × (l.self.closed ≡ l.fn.self.closed);
}
