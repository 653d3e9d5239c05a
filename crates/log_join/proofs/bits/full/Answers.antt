use Rattle.std.proofs.Common.{ℕ, List, sym, subst}
use Rattle.log_join.specs.Bits.{Has}
use Rattle.log_join.proofs.BitLemmas.{has_all}
use Rattle.log_join.proofs.ResultLemmas.{if_ok}
use Rattle.log_join.proofs.bits.full.Goals as goal

pub returns-clause-all : goal.returns-clause-all
returns-clause-all c = if_ok c.vec.result _ _ (λ v h p low. subst (λ (ws : List ℕ). Has ws p) (sym (h (λ y e. e))) (has_all c.args.count p low)) c.vec.ensures.items_if_clones_equal
