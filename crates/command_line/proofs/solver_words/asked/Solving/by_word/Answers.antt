use Rattle.std.proofs.Common.{List, ℕ, Option, option_map, codes, sym, ◌∙◌, ap}
use Rattle.command_line.specs.SolverTable.{meaning_of, same}
use Rattle.command_line.specs.SolverWords.{asked_of, by_meaning, is_name, name_of, told_by}
use Rattle.command_line.specs.declared.solver_words.table.Meaning.{Meaning}
use Rattle.command_line.proofs.SolverLemmas.{neither}
use Rattle.command_line.proofs.solver_words.asked.Solving.by_word.Goals as goal

pub returns-clause-asks : goal.returns-clause-asks
returns-clause-asks c =
    let s = asked_of c.args.self in
    let word = c.args.word.now in
    c.by_meaning.ensures.asks
    ∙ ap (λ (m : Meaning). by_meaning s m (option_map (λ v. v.now) c.name_and_value.result.1)) (c.meaning_of.ensures ∙ ap meaning_of c.name_and_value.ensures.name)
    ∙ ap (λ (v : Option (List ℕ)). by_meaning s (meaning_of (name_of word)) v) c.name_and_value.ensures.value
    ∙ sym (neither (same word (codes "--")) (is_name word) _ _ _ (sym c.eq.ensures ∙ c.if-eq.false) (sym c.is_name.ensures ∙ c.if-is_name.false))

pub returns-clause-told : goal.returns-clause-told
returns-clause-told c =
    let word = c.args.word.now in
    c.by_meaning.ensures.told
    ∙ ap (λ (m : Meaning). told_by m (option_map (λ v. v.now) c.name_and_value.result.1)) (c.meaning_of.ensures ∙ ap meaning_of c.name_and_value.ensures.name)
    ∙ ap (λ (v : Option (List ℕ)). told_by (meaning_of (name_of word)) v) c.name_and_value.ensures.value
    ∙ sym (neither (same word (codes "--")) (is_name word) _ _ _ (sym c.eq.ensures ∙ c.if-eq.false) (sym c.is_name.ensures ∙ c.if-is_name.false))
