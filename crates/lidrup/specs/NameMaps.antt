-- The log's numbers of the foreign clauses, as the code's maps hold them.
use Rattle.std.specs.Prelude.{ℕ, ◌%◌, List, Option, Some, None, option_map, slice_get}
use Rattle.std.specs.Ordering.{nat_cmp}
use Rattle.std.specs.BTreeMap as tree
use Rattle.std.specs.BTreeMap.{BTreeMap}
use Rattle.lidrup.specs.Lidrup.{Names}
use Rattle.lidrup.specs.declared.log_number.LogNumber.{LogNumber}

-- the number as a natural number, if there is one
abbrev pub number_in : Option LogNumber → Option ℕ
number_in o = option_map (λ n. n.number) o

-- the log's number for a foreign number, looked up in a map; none without a map
abbrev pub name_in_map : Option (BTreeMap ℕ LogNumber) → Names
name_in_map None n = None
name_in_map (Some m) n = number_in (tree.get nat_cmp m n)

-- the log's number for a foreign number, looked up in the map of that number's remainder by 8,192
abbrev pub name_in_maps : List (BTreeMap ℕ LogNumber) → Names
name_in_maps maps n = name_in_map (slice_get maps (n % 8192)) n

-- the number, or 0 if there is none
abbrev pub number_or_0 : Option LogNumber → ℕ
number_or_0 None = 0
number_or_0 (Some n) = n.number
