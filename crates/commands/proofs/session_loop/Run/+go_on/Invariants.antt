use Rattle.std.proofs.Common.{◌-◌}
use Rattle.commands.proofs.session_loop.Run.+go_on.Given as goal

-- each session has more variables than the one before it
abbrev pub decreases-go_on : goal.decreases-go_on
decreases-go_on g l = 99999999 - l.vars
