use Rattle.std.proofs.Common.{ℕ, rules}
use Rattle.std.specs.FinMap.{get}
use Rattle.std.specs.Option.{is_some}
use Rattle.std.proofs.lemmas.Fn.{filter_same}
use Rattle.cube_solve.proofs.reduce.keep_live.Goals as goal

pub returns : goal.returns
returns c = filter_same _ (λ (n : ℕ). is_some (get c.args.arena.now n)) _ (λ x b q r. search rules) _ _ c.retain.ensures.filtered
