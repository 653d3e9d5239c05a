use Rattle.std.proofs.Common.{◌∙◌, map}
use Rattle.command_line.proofs.RefusalLemmas.{asks_nothing, no_memory_is, refusal_is}
use Rattle.command_line.proofs.RequestLemmas.{asks_of}
use Rattle.command_line.proofs.WordLemmas.{none_is, some_is}
use Rattle.std.proofs.Common.{subst, sym}
use Rattle.command_line.specs.CommandLine.{IsRefusal}
use Rattle.command_line.specs.declared.request.UsageFault.{UsageFault}
use Rattle.command_line.proofs.parser.command_of.Goals as goal

pub returns-in-Err-clause-complete : goal.returns-in-Err-clause-complete
returns-in-Err-clause-complete c request taken asks =
    c.fault_of.ensures ∙ no_memory_is c.in-Err.refusal (c.in-Err.ensures.complete (asks.name, asks.rows) taken.by_rules asks.command)

pub returns-in-Err-clause-refused : goal.returns-in-Err-clause-refused
returns-in-Err-clause-refused c =
    let texts = map (λ w. w.now) c.args.words.now in
    subst (λ (f : UsageFault). IsRefusal texts f) (sym c.fault_of.ensures) (refusal_is texts c.in-Err.refusal c.in-Err.ensures.refused)

pub returns-in-Some-clause-asks : goal.returns-in-Some-clause-asks
returns-in-Some-clause-asks c = record {
  name = c.in-Ok.given.name;
  rows = c.in-Ok.given.rows;
  command = c.in-Ok.ensures.met;
  makes = some_is _ _ _ c.in-Some.is c.in_ok-request.ensures.found;
}

-- words that were parsed ask for no help and for no version
pub returns-clause-refused : goal.returns-clause-refused
returns-clause-refused c = asks_nothing (map (λ w. w.now) c.args.words.now) c.in-Ok.ensures.taken

-- where the name's rows make no request, the words ask for none
pub returns-clause-complete : goal.returns-clause-complete
returns-clause-complete c request taken asks =
    absurd (none_is _ _ c.in-None.is c.in_ok-request.ensures.none request (asks_of (map (λ w. w.now) c.args.words.now) c.in-Ok.given.name c.in-Ok.given.rows request c.in-Ok.ensures.met asks))

pub returns-in-Some-clause-large : goal.returns-in-Some-clause-large
returns-in-Some-clause-large c = record {
  name = c.in-Ok.given.name;
  rows = c.in-Ok.given.rows;
  command = c.in-Ok.ensures.met;
  flag = c.is_given.ensures;
}
