-- The lemmas that a coverage has taken, and those of them that are kept for the receipt.
use Rattle.std.specs.Prelude.{◌≡◌, List, [], map}
use Rattle.log_join.specs.ClosedLeaves.{Numbered}
use Rattle.icnf.specs.Leaves.{Cube}
use Rattle.receipts.specs.ClosedLeaves.{closing_of}
use Rattle.receipts.specs.Contents.{lemmas_in}
use Rattle.receipts.specs.declared.coverage.Coverage.{Coverage}
use Rattle.receipts.specs.declared.lemma.ClosingLemma.{ClosingLemma}
use Rattle.receipts.specs.Coverage.{HasTakenClauses}

-- cubes of the tree, lemmas, the coverage, `closing`: the coverage has taken the clauses of these lemmas, and `closing` has those that each
-- close a leaf which no lemma before it closes
pub record HasTakenLemmas (cubes : List Cube) (lemmas : List Numbered) (c : Coverage) (closing : List ClosingLemma) : Type 0 where
  pub covers : HasTakenClauses cubes (map (λ l. l.clause) lemmas) c
  pub kept : lemmas_in closing ≡ closing_of cubes [] lemmas
