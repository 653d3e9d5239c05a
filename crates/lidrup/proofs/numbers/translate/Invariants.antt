use Rattle.std.proofs.Common.{◌≡◌, drop, All, []}
use Rattle.lrat_text.specs.Grammar.{IsClauseNumber}
use Rattle.lidrup.specs.Lidrup.{own_numbers}
use Rattle.lidrup.specs.View.{names_of}
use Rattle.lidrup.proofs.numbers.translate.Given as goal

-- the hints that are left give what is left
abbrev pub invariant-loop-hint : goal.invariant-loop-hint
invariant-loop-hint l = record {
  numbers : own_numbers (names_of l.names) l.numbers.items (drop l.hint-index l.hints) ≡ own_numbers (names_of l.names) [] l.hints;
  all : All IsClauseNumber l.numbers.items;
}
