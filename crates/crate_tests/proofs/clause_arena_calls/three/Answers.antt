use Rattle.std.proofs.Common.{◌≡◌, ◌≢◌, ℕ, ◌+◌, [], ◌∷◌, ap, ◌∙◌, arith}
use Rattle.std.specs.List.{IsDistinct}
use Rattle.std.proofs.lemmas.Bool.{ne_eqb}
use Rattle.dimacs.specs.logic.Literal.{Literal, Pos, Neg, same}
use Rattle.crate_tests.proofs.clause_arena_calls.three.Goals as goal

apart : (a b : ℕ) (x y z : Literal) → x ≡ Pos a → y ≡ Neg (a + 1) → z ≡ Pos b → a ≢ b → IsDistinct same (x ∷ y ∷ z ∷ [])
unfolding IsDistinct
apart a b x y z p q r ne = (
  (ap (λ k. same k y) p ∙ ap (same (Pos a)) q, (ap (λ k. same k z) p ∙ ap (same (Pos a)) r ∙ ne_eqb a b ne, tt)),
  ((ap (λ k. same k z) q ∙ ap (same (Neg (a + 1))) r, tt), (tt, tt)),
)

pub returns-clause-distinct : goal.returns-clause-distinct
returns-clause-distinct c =
    apart c.args.first (c.args.first + 2) c.positive.result c.negative.result c.positive-2.result
    (c.positive.ensures ∙ ap Pos c.new.ensures) (c.negative.ensures ∙ ap Neg c.new-2.ensures) (c.positive-2.ensures ∙ ap Pos c.new-3.ensures) (λ e. omega arith)
