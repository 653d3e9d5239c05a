use Rattle.std.proofs.lemmas.Bool.{both_ways}
use Rattle.shared_lines.proofs.FieldLemmas.{no_name_end, no_name_letters, no_name_number, no_name_number_range}
use Rattle.shared_lines.proofs.fields.read_name.Goals as goal
use Rattle.shared_lines.proofs.fields.read_name.Goals.{else-is_clause_number-via-then-is_clause_number+else-is_name, else-is_clause_number-via-else-is_clause_number}

pub returns-in_default-number_of : goal.returns-in_default-number_of
returns-in_default-number_of c =
    no_name_number c.args.line.now c.in-Some.fields.now c.in-Some-cut_word.word.now c.in-Some-cut_word.rest.now c.in-Some.ensures c.in-Some-cut_word.ensures.0 c.in-Some-cut_word.ensures.1
    c.in_default-number_of.ensures

pub returns-in_default-before_suffix : goal.returns-in_default-before_suffix
returns-in_default-before_suffix c =
    no_name_end c.args.line.now c.in-Some.fields.now c.in-Some-cut_word.word.now c.in-Some-cut_word.rest.now c.in-Some.ensures c.in-Some-cut_word.ensures.0 c.in-Some-cut_word.ensures.1
    c.in_default-before_suffix.ensures

pub returns-else-is_clause_number : goal.returns-else-is_clause_number
returns-else-is_clause_number c = elim c.else-is_clause_number.branch [
  | else-is_clause_number-via-then-is_clause_number+else-is_name w ↦ no_name_letters c.args.line.now c.in-Some.fields.now c.in-Some-cut_word.word.now c.in-Some-cut_word.rest.now c.in-Some-number_of.number
      c.in-Some-before_suffix.name.now c.in-Some.ensures c.in-Some-cut_word.ensures.0 c.in-Some-cut_word.ensures.1 c.in-Some-number_of.ensures.0 c.in-Some-number_of.ensures.1 c.in-Some-before_suffix.ensures
      (λ h. both_ways w.is_name.result w.if-is_name.false (w.is_name.ensures.1 h))
  | else-is_clause_number-via-else-is_clause_number w ↦ no_name_number_range c.args.line.now c.in-Some.fields.now c.in-Some-cut_word.word.now c.in-Some-cut_word.rest.now c.in-Some-number_of.number
      c.in-Some-before_suffix.name.now c.in-Some.ensures c.in-Some-cut_word.ensures.0 c.in-Some-cut_word.ensures.1 c.in-Some-number_of.ensures.0 c.in-Some-number_of.ensures.1 c.in-Some-before_suffix.ensures
      (λ h. both_ways c.is_clause_number.result w.if-is_clause_number.false (c.is_clause_number.ensures.1 h))
]
