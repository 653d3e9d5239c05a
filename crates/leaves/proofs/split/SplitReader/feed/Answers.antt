use Rattle.std.proofs.Common.{◌++◌}
use Rattle.std.proofs.Math.Logic.{∥∥₁_elim}
use Rattle.std.proofs.Props.{props}
use Rattle.leaves.proofs.split.SplitReader.feed.Goals as goal

pub invariant_of-self : goal.invariant_of-self
invariant_of-self c =
    record { reading = ∥∥₁_elim c.args.self.now.reading (hlevel props) (λ r. ∣ (r.0, r.1 ++ c.args.piece.now, c.feed.ensures r.0 c.args.self.now.formula r.1 r.2) ∣₁) }

pub returns : goal.returns
returns c = λ L F bytes h. record { formula = h.formula; read = c.feed.ensures L F bytes h.read }
