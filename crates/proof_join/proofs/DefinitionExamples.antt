-- The worked examples.
use Rattle.std.proofs.Common.{◌≡◌, [], ◌∷◌, refl, codes}
use Rattle.std.specs.Fmt.{digits}
use Rattle.proof_join.specs.JoinedProof.{joined_text}
use Rattle.lrat_text.specs.Runs.{text_of}
use Rattle.proof_join.specs.Definitions.{preamble_steps}
use Rattle.proof_join.specs.Examples.{four, same_two, one_and_two, one_and_not_two, split_on_three}
use Rattle.cube_split.specs.Pairs.{together}

pub counted : together four.clauses one_and_two ≡ 1
counted = refl

pub counted_negated : together same_two.clauses one_and_not_two ≡ 1
counted_negated = refl

pub lines : text_of 4 (preamble_steps four (one_and_two ∷ [])) ≡ codes "5 3 -1 -2 0 0\n6 -3 1 0 -5 0\n7 -3 2 0 -5 0\n"
unfolding digits
lines = refl

pub lines_negated : text_of 2 (preamble_steps same_two (one_and_not_two ∷ [])) ≡ codes "3 3 -1 2 0 0\n4 -3 1 0 -3 0\n5 -3 -2 0 -3 0\n"
unfolding digits
lines_negated = refl

pub joined : joined_text four (preamble_steps four (one_and_two ∷ [])) split_on_three
    ≡ codes "5 3 -1 -2 0 0\n6 -3 1 0 -5 0\n7 -3 2 0 -5 0\n8 -3 0 6 7 4 0\n9 2 0 1 2 0\n10 0 9 3 4 0\n"
unfolding digits
joined = refl
