use Rattle.std.proofs.Common.{ℕ, List, []}
use Rattle.commands.specs.FormulaTree.{Begins}
use Rattle.commands.specs.inner.FormulaTree.{ReadsTree}
use Rattle.commands.specs.inner.Feed.{Extends}
use Rattle.dimacs.specs.logic.Limits.{Limits}
use Rattle.commands.proofs.OfLemmas.{of_map, of_ok}
use Rattle.commands.proofs.formula_tree.begin_tree.Goals as goal

pub returns-clause-begins : goal.returns-clause-begins
returns-clause-begins g c = λ input gives.
    let Feds : List ℕ → Type 0 = λ bytes. (L : Limits) (text : List ℕ) → Extends (λ cubes t. ReadsTree L text cubes t.reader) c.in_ok-text.text c.feed_all.new.taker bytes in
    let Reads : List ℕ → Type 0 = λ bytes. ReadsTree c.args.limits input bytes c.feed_all.new.taker.reader in
    of_ok Reads (Begins c.args.limits input) _ c.ended.result
    (of_map Feds Reads _ (λ bytes fed. fed c.args.limits input [] (c.in_ok-text.ensures.reads input gives)) c.in_ok-feed_all.ensures.fed)
    (λ bytes read. c.ended.ensures.begins c.args.limits input bytes read)
