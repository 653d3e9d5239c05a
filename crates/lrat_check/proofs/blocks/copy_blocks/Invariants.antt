use Rattle.std.proofs.Common.{◌≡◌, length, take}
use Rattle.std.specs.List.{All}
use Rattle.lrat_check.specs.inner.Store.{AreCopied, Keeps}
use Rattle.lrat_check.specs.inner.Blocks.{joined}
use Rattle.lrat_check.proofs.blocks.copy_blocks.Given as goal

abbrev pub invariant-loop-i : goal.invariant-loop-i
invariant-loop-i l = record {
  many : length l.copies.items ≡ l.i;
  full : All (λ slots. length slots ≡ 1024) l.copies.items;
  copied : AreCopied l.literals (joined (take l.i l.blocks)) l.out.items (joined l.copies.items);
  kept : Keeps l.initial.out.items l.out.items;
}
