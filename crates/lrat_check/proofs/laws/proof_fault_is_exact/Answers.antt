use Rattle.lrat_text.proofs.SpellingLemmas.{found_spells_within, spelled_found_within}
use Rattle.lrat_check.proofs.Lines.{checked_accepted, accepted_checked}
use Rattle.lrat_check.proofs.laws.proof_fault_is_exact.Goals as goal

pub returns-clause-accepted : goal.returns-clause-accepted
returns-clause-accepted c = checked_accepted found_spells_within spelled_found_within

pub returns-clause-none : goal.returns-clause-none
returns-clause-none c = accepted_checked found_spells_within spelled_found_within
