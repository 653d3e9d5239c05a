use Rattle.std.proofs.Common.{◌≡◌, ◌∷◌, [], map, take}
use Rattle.leaves.proofs.leaf.units.Given as goal

abbrev pub invariant-loop-literal : goal.invariant-loop-literal
invariant-loop-literal l = record {
  done : l.builder.done ≡ map (λ x. x ∷ []) (take l.literal-index l.cube);
  closed : l.builder.open_clause ≡ [];
  count : l.builder.total ≡ l.literal-index;
}
