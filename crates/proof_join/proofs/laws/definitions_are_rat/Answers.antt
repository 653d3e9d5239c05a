use Rattle.proof_join.proofs.DefinitionRat.{both_rat, first_rat, second_rat}
use Rattle.proof_join.proofs.laws.definitions_are_rat.Goals as goal

pub returns-clause-first : goal.returns-clause-first
returns-clause-first c = both_rat

pub returns-clause-second : goal.returns-clause-second
returns-clause-second c = λ M n d p unused a b apart. first_rat M n d p unused a b

pub returns-clause-third : goal.returns-clause-third
returns-clause-third c = λ M n k d p other unused a b apart. second_rat M n d p unused a b k other
