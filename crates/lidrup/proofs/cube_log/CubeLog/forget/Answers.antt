use Rattle.std.proofs.Common.{refl}
use Rattle.lidrup.proofs.LogLemmas.{stands_out}
use Rattle.lidrup.proofs.cube_log.CubeLog.forget.Goals as goal

pub returns-clause-stands : goal.returns-clause-stands
returns-clause-stands c = λ F bytes handed s. stands_out F bytes handed c.args.self.now _ refl refl refl refl c.clear.ensures.items s
