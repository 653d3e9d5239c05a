use Rattle.std.proofs.Common.{arith}
use Rattle.lrat_binary.proofs.SpelledLemmas.{spelled_found_within}
use Rattle.lrat_forms.proofs.LawLemmas.{spelled_so}
use Rattle.lrat_forms.proofs.laws.both_forms_spell_the_same.Goals as goal

pub returns-clause-written : goal.returns-clause-written
returns-clause-written c = spelled_so 2000000 (omega arith) (λ bytes steps h. spelled_found_within 2000000 (omega arith) steps bytes h)

pub returns-clause-within : goal.returns-clause-within
returns-clause-within c = λ most bytes steps few e h. spelled_so most few (λ bs ss s. spelled_found_within most few ss bs s) bytes steps e h
