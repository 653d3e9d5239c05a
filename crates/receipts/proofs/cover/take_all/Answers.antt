use Rattle.std.proofs.Common.{◌∙◌, ◌++◌, ◌∷◌, List, [], take, ap, subst}
use Rattle.dimacs.specs.logic.Literal.{Clause}
use Rattle.log_join.specs.ClosedLeaves.{Numbered}
use Rattle.receipts.specs.ClosedLeaves.{closes_new_leaf}
use Rattle.receipts.specs.Contents.{lemma_of, lemmas_in}
use Rattle.receipts.specs.Coverage.{HasTakenClauses}
use Rattle.receipts.proofs.LeavesLemmas.{covers_one, lemmas_more, told_one}
use Rattle.receipts.proofs.TakenLemmas.{clauses_of}
use Rattle.receipts.proofs.cover.take_all.Goals as goal

pub loop-lemma-preserved : goal.loop-lemma-preserved
loop-lemma-preserved c =
    let ls : List Numbered = take c.loop-lemma.lemma-index (lemmas_in c.args.lemmas.now) in
    let more = lemmas_more c.args.lemmas.now c.loop-lemma.lemma-index c.lemma-item.result c.loop-lemma-test.true c.lemma-item.is in
    record {
      covers = λ cubes clauses h.
          covers_one cubes clauses ls _ (lemma_of c.lemma-item.result) c.add.new.self more
          (subst (λ (C : Clause). HasTakenClauses cubes ((clauses ++ clauses_of ls) ++ C ∷ []) c.add.new.self) c.deref.ensures.value
          (c.in_ok-closed.ensures.covers cubes (clauses ++ clauses_of ls) (c.loop-lemma.invariant.covers cubes clauses h)));
      told = λ cubes clauses h.
          told_one cubes clauses ls _ (lemma_of c.lemma-item.result) c.loop-lemma.closes c.in_ok-closed.closed c.either-closes.result more (c.loop-lemma.invariant.told cubes clauses h)
          (c.in_ok-closed.ensures.told cubes (clauses ++ clauses_of ls) (c.loop-lemma.invariant.covers cubes clauses h) ∙ ap (λ (C : Clause). closes_new_leaf cubes (clauses ++ clauses_of ls) C) c.deref.ensures.value)
          c.either-closes.ensures;
    }
