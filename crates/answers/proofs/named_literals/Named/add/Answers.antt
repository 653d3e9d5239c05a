use Rattle.std.proofs.Common.{◌≡◌, false, List, Bool, sym, subst}
use Rattle.dimacs.specs.logic.Literal.{negation}
use Rattle.answers.specs.Pieces.{named_by}
use Rattle.answers.proofs.NamedLemmas.{no_pair_after}
use Rattle.answers.proofs.named_literals.Named.add.Goals as goal

pub invariant_of-self : goal.invariant_of-self
invariant_of-self c =
    no_pair_after c.mark.result (named_by c.self.inside.marks.items) (named_by c.mark.new.marks.items) c.args.literal c.mark.ensures.ok c.mark.ensures.err c.self.invariant
    (subst (λ (marks : List Bool). named_by marks (negation c.args.literal) ≡ false) (sym c.self.view_is) c.requires)
