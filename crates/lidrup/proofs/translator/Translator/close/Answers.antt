use Rattle.std.proofs.Common.{◌∙◌, ℕ, List, sym, subst}
use Rattle.std.specs.List.{All}
use Rattle.std.proofs.lemmas.List.Elements.{All-map, All-weaker}
use Rattle.dimacs.specs.logic.Literal.{Literal, IsWithin, negation}
use Rattle.dimacs.proofs.LiteralLemmas.{IsWithin-negation}
use Rattle.lidrup.proofs.translator.Translator.close.Goals as goal

pub add-requires-clause-literals : goal.add-requires-clause-literals
add-requires-clause-literals c =
    let lits = c.args.lits.now in
    let most : ℕ = c.args.self.now.log.checker.most in
    subst (λ (C : List Literal). All (IsWithin most) C) (sym (c.deref.ensures.value ∙ c.in_ok-negate.ensures))
    (All-map (IsWithin most) negation lits (All-weaker (IsWithin most) (λ l. IsWithin most (negation l)) (IsWithin-negation most) lits c.requires))
