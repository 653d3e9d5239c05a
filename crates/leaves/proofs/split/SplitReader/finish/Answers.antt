use Rattle.std.proofs.Math.Logic.{∥∥₁_elim}
use Rattle.std.proofs.Props.{props}
use Rattle.std.proofs.lemmas.Result.{err_from_is_err_and}
use Rattle.leaves.proofs.SplitReaderLemmas.{among, tells_fault}
use Rattle.leaves.proofs.split.SplitReader.finish.Goals as goal

pub invariant_of-result : goal.invariant_of-result
invariant_of-result c =
    record {
      within = ∥∥₁_elim c.args.self.reading (hlevel props) (λ r. c.in_ok-tree.ensures.within r.0 c.args.self.formula r.1 r.2);
      among = ∥∥₁_elim c.args.self.reading (hlevel props) (λ r. among r.0 c.args.self.formula r.1 c.in_ok-tree.tree (c.in_ok-tree.ensures.found r.0 c.args.self.formula r.1 r.2));
    }

pub returns : goal.returns
returns c = λ L F bytes h. record { formula = h.formula; tree = c.in_ok-tree.ensures.found L F bytes h.read }

pub returns-in_err-tree : goal.returns-in_err-tree
returns-in_err-tree c =
    let p = err_from_is_err_and c.from_residual.result c.from_residual.ensures.1 in
    rw (p.1, p.2) (λ L F bytes h. tells_fault L F bytes _ (c.in_err-tree.ensures.exact L F bytes h.read))
