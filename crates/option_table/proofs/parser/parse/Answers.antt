use Rattle.std.proofs.Common.{◌∙◌, sym, ap, subst, map, option_map, Some}
use Rattle.clap.specs.Words.{App, HasKind, Kinds, fault_of, is_simple_and_free, subcommand_of, takes}
use Rattle.option_table.proofs.FoundLemmas.{met_is, names_none}
use Rattle.option_table.proofs.RefusalLemmas.{asks_nothing, finds_no_fault, no_memory_is, refusal_is}
use Rattle.option_table.proofs.RulesLemmas.{first_holds}
use Rattle.option_table.specs.Rules.{app_of_program}
use Rattle.option_table.proofs.parser.parse.Goals as goal

pub returns-in-Err-clause-refused : goal.returns-in-Err-clause-refused
returns-in-Err-clause-refused c =
    let texts = map (λ w. w.now) c.args.words.now in
    let same = ap (λ (a : App). fault_of a texts) c.in_ok-program_of.ensures in
    let has = c.in-Err.ensures.kinds (ap is_simple_and_free c.in_ok-program_of.ensures ∙ c.requires) in
    refusal_is (app_of_program c.args.program.now) texts _ c.refusal_of.result (subst (λ (kinds : Kinds). HasKind kinds c.in-Err.error) same has) c.refusal_of.ensures

pub returns-in-Err-clause-complete : goal.returns-in-Err-clause-complete
returns-in-Err-clause-complete c met taken names =
    let texts = map (λ w. w.now) c.args.words.now in
    no_memory_is _ c.refusal_of.result c.refusal_of.ensures (c.in-Err.ensures.passes (ap (λ (a : App). takes a texts) c.in_ok-program_of.ensures ∙ taken))

pub returns-in-Some-clause-met : goal.returns-in-Some-clause-met
returns-in-Some-clause-met c =
    let texts = map (λ w. w.now) c.args.words.now in
    let simple = first_holds _ _ (ap is_simple_and_free c.in_ok-program_of.ensures ∙ c.requires) in
    let is = (c.in-Ok.ensures.matches simple).1 ∙ ap (λ (a : App). subcommand_of a texts) c.in_ok-program_of.ensures in
    let named = sym c.subcommand.ensures.name ∙ ap (option_map (λ p. p.0.now)) c.in-Some.is in
    sym is ∙ met_is c.in-Ok.matches _ named ∙ ap (λ m. Some (m.name, m.rows)) (sym c.new.ensures)

pub returns-clause-complete : goal.returns-clause-complete
returns-clause-complete c met taken names =
    let texts = map (λ w. w.now) c.args.words.now in
    let simple = first_holds _ _ (ap is_simple_and_free c.in_ok-program_of.ensures ∙ c.requires) in
    let is = (c.in-Ok.ensures.matches simple).1 ∙ ap (λ (a : App). subcommand_of a texts) c.in_ok-program_of.ensures in
    absurd (names_none c.in-Ok.matches _ met (sym c.subcommand.ensures.name ∙ ap (option_map (λ p. p.0.now)) c.in-None.is) is names)

pub returns-in-Some-clause-taken : goal.returns-in-Some-clause-taken
returns-in-Some-clause-taken c = finds_no_fault _ _ _ c.in_ok-program_of.ensures c.requires c.in-Ok.ensures.kinds

pub returns-clause-refused : goal.returns-clause-refused
returns-clause-refused c = asks_nothing _ (finds_no_fault _ _ _ c.in_ok-program_of.ensures c.requires c.in-Ok.ensures.kinds)
