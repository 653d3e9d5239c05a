use Rattle.std.proofs.Common.{◌∙◌, sym}
use Rattle.std.proofs.lemmas.Bool.{eqb-true, eq-eqb}
use Rattle.coordinator_core.proofs.TableLemmas.{none_unclosed, closed_count}
use Rattle.coordinator_core.proofs.leaf_table.LeafTable.are_closed.Goals as goal

pub returns : goal.returns
returns c = rw (← c.self.view_is) ((λ none. none_unclosed _ (sym c.self.invariant.counted ∙ eqb-true _ _ none)), (λ all. eq-eqb _ _ (c.self.invariant.counted ∙ closed_count _ all)))
