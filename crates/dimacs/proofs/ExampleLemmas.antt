-- The worked examples.
use Rattle.std.proofs.Common.{rules, ◌≡◌, Some, None, true, false, [], ◌∷◌, refl, arith, codes}
use Rattle.std.specs.FinMap.{get, gets}
use Rattle.std.specs.Fmt.{digits}
use Rattle.dimacs.specs.logic.Literal.{Pos, IsTautology}
use Rattle.dimacs.specs.logic.Propagation.{negations, with_literal, IsFalse, IsUnit, Rup}
use Rattle.dimacs.specs.logic.ClauseMap.{map_of, live_in}
use Rattle.dimacs.specs.text.Answer.{witness_lines}
use Rattle.dimacs.specs.logic.Examples.{one_or_two, one_or_not_two, small, all_but_two}

pub first : get (map_of small) 1 ≡ Some one_or_two
first = grind (arith, gets)

pub last : get (map_of small) 2 ≡ Some one_or_not_two
last = grind (arith, gets)

pub none_at_0 : get (map_of small) 0 ≡ None
none_at_0 = grind (arith, gets)

pub none_at_3 : get (map_of small) 3 ≡ None
none_at_3 = grind (arith, gets)

pub signs : witness_lines (true ∷ false ∷ []) ≡ codes "v 1 -2 0\n"
unfolding digits
signs = refl

pub full : witness_lines all_but_two ≡ codes "v -1 -2 3 4 5 6 7 8 9 10 11 12 13 14 15 16 17 18 19 20 21 22 23 24 25 26 27 28\nv 29 30 0\n"
unfolding digits
full = refl

unit : IsUnit (negations (Pos 1 ∷ [])) one_or_two (Pos 2)
unit = search rules

refuted : IsFalse (with_literal (negations (Pos 1 ∷ [])) (Pos 2)) one_or_not_two
refuted = search rules

no_pair : ¬ (IsTautology (Pos 1 ∷ []))
no_pair = search rules

pub lemma : Rup (live_in (map_of small)) (Pos 1 ∷ []) (1 ∷ 2 ∷ [])
lemma = record {
  no_pair = no_pair;
  refutes = record {
    front = 1 ∷ [];
    last = 2;
    reached = with_literal (negations (Pos 1 ∷ [])) (Pos 2);
    clause = one_or_not_two;
    splits = refl;
    leads = (one_or_two, Pos 2, first, unit, refl);
    lives = last;
    conflict = refuted;
  };
}
