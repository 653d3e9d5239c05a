-- Searches under one leaf after the other, whose log grows in its file.
use Rattle.std.specs.Prelude.{◌≡◌, ℕ, ◌+◌, Bool, List, Option, Some, None, length, All}
use Rattle.dimacs.specs.logic.Cnf.{Cnf}
use Rattle.icnf.specs.Leaves.{Cube}
use Rattle.leaves.specs.BlockSearch.{IsModelAt}
use Rattle.leaves.specs.GrowingLog.{IsStanding, Standing, last_standing}
use Rattle.leaves.specs.Leaf.{leaf_at}
use Rattle.leaves.specs.inner.BlockSearch.{HasSearchedUpTo}
use Rattle.leaves.specs.declared.block_search.BlockSearch.{BlockSearch}
use Rattle.leaves.specs.declared.leaf_search.SearchOptions.{SearchOptions}

module _ {P : Type 0} where
  -- the leaves from the number `first` to before `n`, from 1, are searched without an assignment, and the file has their log
  pub record IsGrowing (stood : List Standing → Type 0) (F : Cnf) (leaves : List Cube) (first n : ℕ) (s : SearchOptions) (t : BlockSearch P) : Type 0 where
    pub done : HasSearchedUpTo F leaves first n s t
    pub standings : List Standing
    pub stands : stood standings
    pub each : All (IsStanding F leaves first s) standings
    pub many : length standings ≡ length done.endings
    pub log : (last_standing standings).log ≡ t.searches.log
    pub told : (last_standing standings).told ≡ t.notes.items

  -- what stands in the file, formula, cubes of the leaves, number of the first leaf and of the present one, options, the searches before
  -- and after, the answer: one more leaf is searched, or the answer is an assignment of the present leaf
  abbrev pub GrowsOn : (List Standing → Type 0) → Cnf → List Cube → ℕ → ℕ → SearchOptions → BlockSearch P → BlockSearch P → Option (List Bool) → Type 0
  GrowsOn stood F leaves first n s old new None = IsGrowing stood F leaves first (n + 1) s new
  GrowsOn stood F leaves first n s old new (Some values) = IsGrowing stood F leaves first n s old × IsModelAt F (leaf_at leaves n) values
