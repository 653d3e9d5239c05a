use Rattle.std.proofs.Common.{◌≡◌, ℕ, None}
use Rattle.std.specs.Prelude.{vec_len}
use Rattle.lidrup.specs.NameMaps.{name_in_maps}
use Rattle.lidrup.proofs.names.Names.new.Given as goal

abbrev pub invariant-loop-i : goal.invariant-loop-i
invariant-loop-i l = record {
  many : vec_len l.maps ≡ l._i;
  none : (n : ℕ) → name_in_maps l.maps.items n ≡ None;
}
