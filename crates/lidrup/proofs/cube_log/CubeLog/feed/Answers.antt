use Rattle.std.proofs.Common.{◌∙◌, sym}
use Rattle.lidrup.proofs.LogLemmas.{no_fault, stands_more}
use Rattle.lidrup.proofs.cube_log.CubeLog.feed.Goals as goal

pub returns-in-Ok : goal.returns-in-Ok
returns-in-Ok c = λ F bytes handed s. stands_more F bytes handed c.args.piece.now c.args.self.now _ (no_fault c.args.self.now.fault (sym c.is_some.ensures ∙ c.if-is_some.false)) (no_fault c.args.self.now.fault (sym c.is_some.ensures ∙ c.if-is_some.false)) c.in-Ok.ensures.took s
