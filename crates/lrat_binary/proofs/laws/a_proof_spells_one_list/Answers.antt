use Rattle.std.proofs.Common.{sym, ap, ◌∙◌}
use Rattle.lrat_binary.specs.Parser.{ReadResult}
use Rattle.lrat_binary.proofs.SpelledLemmas.{spelled_found, spelled_found_within}
use Rattle.lrat_binary.proofs.laws.a_proof_spells_one_list.Goals as goal

pub returns-clause-written : goal.returns-clause-written
returns-clause-written c = λ bytes steps others h k. ap (λ (r : ReadResult). r.0) (sym (spelled_found steps bytes h) ∙ spelled_found others bytes k)

pub returns-clause-within : goal.returns-clause-within
returns-clause-within c = λ most bytes steps others few h k.
    ap (λ (r : ReadResult). r.0) (sym (spelled_found_within most few steps bytes h) ∙ spelled_found_within most few others bytes k)
