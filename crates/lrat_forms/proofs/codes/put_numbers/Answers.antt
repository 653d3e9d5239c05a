use Rattle.std.proofs.Common.{◌≡◌, ◌+◌, ◌<◌, ℕ, List, All, length, get_or, arith, take, map, subst, ap, ◌∙◌}
use Rattle.std.proofs.lemmas.List.{take_all, take_more}
use Rattle.std.proofs.lemmas.List.Elements.{All-get_or}
use Rattle.lrat_text.specs.Grammar.{IsClauseNumber}
use Rattle.lrat_binary.specs.Grammar.{clause_code}
use Rattle.lrat_forms.specs.inner.Codes.{Adds, AddsNumber}
use Rattle.lrat_forms.proofs.CodeLemmas.{adds_none, maps_more}
use Rattle.lrat_forms.proofs.codes.put_numbers.Goals as goal

pub loop-number-init : goal.loop-number-init
loop-number-init c = adds_none c.args.out.now.items

item : (xs : List ℕ) (i : ℕ) → i < length xs → All IsClauseNumber xs → IsClauseNumber (get_or xs i 0)
item xs i inside all = All-get_or IsClauseNumber xs i 0 inside all

pub overflow_mul-number : goal.overflow_mul-number
overflow_mul-number c = omega (arith, item c.args.numbers.now c.loop-number.number-index c.loop-number-test.true c.requires)

pub loop-number-preserved : goal.loop-number-preserved
loop-number-preserved c =
    let xs = c.args.numbers.now in
    let i = c.loop-number.number-index in
    maps_more clause_code c.args.out.now.items c.loop-number.out.items c.put_code.new.out.items (take i xs) (take (i + 1) xs) (get_or xs i 0) (take_more xs i 0 c.loop-number-test.true) c.loop-number.invariant
    c.in_ok-put_code.ensures

pub returns : goal.returns
returns c = subst (λ (ls : List ℕ). Adds c.args.out.now.items c.loop-number.out.items (map clause_code ls)) (take_all c.loop-number.number-index c.args.numbers.now c.loop-number-test.false) c.loop-number.invariant
