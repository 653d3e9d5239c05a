-- What a call of a joiner changes and what it keeps.
use Rattle.std.specs.Prelude.{◌≡◌, ℕ, Bool, [], ◌∷◌, ◌++◌, All}
use Rattle.dimacs.specs.logic.Literal.{IsWithin}
use Rattle.log_join.specs.ClosedLeaves.{Numbered}
use Rattle.log_join.specs.Trees.{IsSubtree, IsIndexed}
use Rattle.log_join.specs.inner.Trees.{HasSettled}
use Rattle.log_join.specs.declared.log_joiner.LogJoiner.{LogJoiner}

-- only the greatest number, which is now `high`, and buffers may have changed
pub record MovesTop (old new : LogJoiner) (high : ℕ) : Type 0 where
  pub base : new.base ≡ old.base
  pub begun : new.begun ≡ old.begun
  pub top : new.top ≡ high
  pub tree : new.tree ≡ old.tree
  pub index : new.index ≡ old.index
  pub unclosed : new.unclosed.items ≡ old.unclosed.items
  pub spent : new.spent.items ≡ old.spent.items

-- a lemma has closed the open leaves that it can close, and `some` tells whether there was one
pub record Closes (old new : LogJoiner) (l : Numbered) (some : Bool) : Type 0 where
  pub base : new.base ≡ old.base
  pub begun : new.begun ≡ old.begun
  pub top : new.top ≡ old.top
  pub spent : new.spent.items ≡ old.spent.items
  pub tree : All (IsWithin 199999999) l.clause → IsSubtree [] old.tree → IsIndexed old.index old.unclosed.items old.tree
      → HasSettled l [] old.tree new.tree some × IsIndexed new.index new.unclosed.items new.tree

-- one more number, `id`, is noted to be deleted
pub record Spends (old new : LogJoiner) (id : ℕ) : Type 0 where
  pub base : new.base ≡ old.base
  pub begun : new.begun ≡ old.begun
  pub top : new.top ≡ old.top
  pub tree : new.tree ≡ old.tree
  pub index : new.index ≡ old.index
  pub unclosed : new.unclosed.items ≡ old.unclosed.items
  pub spent : new.spent.items ≡ old.spent.items ++ id ∷ []
