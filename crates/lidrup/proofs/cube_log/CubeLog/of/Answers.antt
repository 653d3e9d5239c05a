use Rattle.std.proofs.Common.{refl}
use Rattle.lidrup.proofs.LogLemmas.{stands_begun}
use Rattle.lidrup.proofs.cube_log.CubeLog.of.Goals as goal

pub returns : goal.returns
returns c = stands_begun c.args.formula _ refl c.new-4.ensures c.new-3.ensures.items refl c.in_ok-known.ensures.state c.in_ok-known.ensures.log
