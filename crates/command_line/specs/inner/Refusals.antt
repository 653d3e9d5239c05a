-- The fault of the program that a refusal of words becomes.
use Rattle.option_table.specs.declared.parser.Refusal.{Refusal}
use Rattle.option_table.specs.declared.parser.Refusal.TheVariants as refusal
use Rattle.command_line.specs.declared.request.UsageFault.{UsageFault}
use Rattle.command_line.specs.declared.request.UsageFault.TheVariants.{Help, NoMemory, Usage}

-- the fault that a refusal of words becomes
abbrev pub fault_of_refusal : Refusal → UsageFault
fault_of_refusal (refusal.Help text) = Help text
fault_of_refusal refusal.Refused = Usage
fault_of_refusal refusal.NoMemory = NoMemory
