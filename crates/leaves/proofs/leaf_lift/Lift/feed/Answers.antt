use Rattle.std.proofs.Common.{◌++◌}
use Rattle.proof_lift.specs.Stream.{HasTaken}
use Rattle.leaves.proofs.LineLemmas.{appended}
use Rattle.leaves.proofs.leaf_lift.Lift.feed.Goals as goal

pub returns : goal.returns
returns c = λ F q bytes handed h.
    let before = c.args.self.now.out.items in
    record {
      formula = h.formula;
      cube = h.cube;
      taken = appended (HasTaken F q c.feed.new.self (bytes ++ c.args.piece.now)) handed before c.feed.new.out.items c.feed.ensures.appended c.feed.ensures.out
          (c.feed.ensures.history F q bytes (handed ++ before) h.taken);
    }
