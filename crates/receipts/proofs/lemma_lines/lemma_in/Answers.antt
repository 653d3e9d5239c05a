use Rattle.std.proofs.Common.{◌≡◌, List, ℕ, Ok, refl, sym, subst}
use Rattle.lrat_text.specs.Grammar.{SpellsStep}
use Rattle.lrat_text.specs.Parser.{Fails}
use Rattle.lrat_text.specs.declared.fault.TextFault.{TextFault}
use Rattle.lrat_text.specs.declared.fault.TextFault.TheVariants.{BadToken, LineNotEnded, MissingZero, NoMemory, NumberTooLarge}
use Rattle.lrat_text.specs.declared.step.Step.{Step}
use Rattle.receipts.specs.Receipts.{unhinted}
use Rattle.receipts.proofs.LeavesLemmas.{ok_weaker}
use Rattle.receipts.proofs.StepLemmas.{of_none}
use Rattle.receipts.proofs.TextLemmas.{spelled}
use Rattle.receipts.proofs.lemma_lines.lemma_in.Goals as goal

only_memory : (fault : TextFault) (s : Step) → Fails {A = Step} fault (Ok s) → fault ≡ NoMemory
only_memory NoMemory s h = refl
only_memory BadToken s h = absurd cc
only_memory LineNotEnded s h = absurd cc
only_memory MissingZero s h = absurd cc
only_memory NumberTooLarge s h = absurd cc

pub returns-in-Err : goal.returns-in-Err
returns-in-Err c = ok_weaker c.unread.result _ _
    (λ found h. of_none found _ h.1 (λ l small e. h.0 (only_memory c.in-Err.fault (unhinted l) (c.in-Err.ensures.only (unhinted l) (subst (λ (x : List ℕ). SpellsStep x (unhinted l)) (sym e) (spelled l small))))))
    c.unread.ensures
