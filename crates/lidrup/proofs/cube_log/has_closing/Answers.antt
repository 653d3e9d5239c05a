use Rattle.std.proofs.Common.{◌≡◌, ◌<◌, Some, sym, arith}
use Rattle.std.specs.FinMap.{get}
use Rattle.lidrup.specs.Lidrup.{IsClosing}
use Rattle.lidrup.proofs.ClosingLemmas.{closing_is, closing_not, match_weaker}
use Rattle.lidrup.proofs.cube_log.has_closing.Goals as goal

pub returns-in-Some : goal.returns-in-Some
returns-in-Some c =
    let s = c.args.log.now in
    let q = c.args.cube.now in
    let n = c.args.number in
    let lives : get s.live n ≡ Some c.in-Some.clause.now = sym c.in-Some.ensures in
    let own : s.base < n = omega arith in
    match_weaker c.negates.result _ _ (IsClosing s.base s.live n q) (¬ (IsClosing s.base s.live n q)) (closing_is s.base s.live n q c.in-Some.clause.now own lives) (closing_not s.base s.live n q c.in-Some.clause.now lives) c.negates.ensures
