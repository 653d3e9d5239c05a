use Rattle.std.proofs.Common.{◌≡◌, drop, All, []}
use Rattle.lrat_text.specs.Grammar.{IsClauseNumber}
use Rattle.lidrup.specs.Lidrup.{forgotten}
use Rattle.lidrup.specs.View.{names_of}
use Rattle.lidrup.proofs.numbers.forget.Given as goal

-- the numbers that are left give what is left
abbrev pub invariant-loop-id : goal.invariant-loop-id
invariant-loop-id l = record {
  names : forgotten l.clauses (names_of l.names) l.numbers.items (drop l.id-index l.ids) ≡ forgotten l.clauses (names_of l.fn.names) [] l.ids;
  all : All IsClauseNumber l.numbers.items;
}
