use Rattle.std.proofs.Common.{◌≡◌, true, arith}
use Rattle.std.proofs.lemmas.Bool.{OnTrue_from, leb-true}
use Rattle.watches.specs.Trails.{up_to}
use Rattle.cube_solve.proofs.JoiningLemmas.{true_after}
use Rattle.cube_solve.proofs.joining.is_true_at.Goals as goal

pub returns-in-True : goal.returns-in-True
returns-in-True c =
    let e = c.entry_of in
    OnTrue_from _ (up_to c.args.trail.now.entries c.args.level c.args.literal ≡ true)
    (λ t. true_after c.args.trail.now.entries e.result c.args.level c.args.literal e.ensures.member e.ensures.literal (let le = leb-true e.result.level c.args.level t in omega arith))
