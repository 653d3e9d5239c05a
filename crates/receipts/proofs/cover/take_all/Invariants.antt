use Rattle.std.proofs.Common.{◌≡◌, ◌++◌, List, take}
use Rattle.dimacs.specs.logic.Literal.{Clause}
use Rattle.icnf.specs.Leaves.{Cube}
use Rattle.receipts.specs.ClosedLeaves.{closing_of}
use Rattle.receipts.specs.Contents.{lemmas_in}
use Rattle.receipts.specs.Coverage.{HasTakenClauses}
use Rattle.receipts.specs.inner.NonEmpty.{is_some_lemma}
use Rattle.receipts.proofs.TakenLemmas.{clauses_of}
use Rattle.receipts.proofs.cover.take_all.Given as goal

abbrev pub invariant-loop-lemma : goal.invariant-loop-lemma
invariant-loop-lemma l = record {
  covers : (cubes : List Cube) (clauses : List Clause) → HasTakenClauses cubes clauses l.initial.coverage → HasTakenClauses cubes (clauses ++ clauses_of (take l.lemma-index (lemmas_in l.lemmas))) l.coverage;
  told : (cubes : List Cube) (clauses : List Clause) → HasTakenClauses cubes clauses l.initial.coverage → l.closes ≡ is_some_lemma (closing_of cubes clauses (take l.lemma-index (lemmas_in l.lemmas)));
}
