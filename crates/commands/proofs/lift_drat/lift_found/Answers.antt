use Rattle.std.proofs.Common.{◌≡◌, arith, refl}
use Rattle.commands.specs.Written.{Keeps}
use Rattle.commands.proofs.LiftDratLemmas.{fault_told, made_lifts, rat_told}
use Rattle.commands.proofs.lift_drat.lift_found.Goals as goal
use Rattle.leaves.specs.Leaf.{leaf_at}

pub returns-then-statistics-gt0-clause-lifts : goal.returns-then-statistics-gt0-clause-lifts
returns-then-statistics-gt0-clause-lifts g c = λ q at accepted.
    let old = c.args.disk.now in
    let log = c.args.files.now.log in
    rat_told (Keeps g.D.Drafts.kept old old log.binary log.path.now) (old ≡ old) c.args.split.formula q c.args.leaf c.args.found c.in-Ok.field-0 c.needs_rat.result
    c.in-Ok.is accepted c.if-statistics-gt0.true refl c.needs_rat.ensures.prints

pub returns-else-statistics-gt0-clause-lifts : goal.returns-else-statistics-gt0-clause-lifts
returns-else-statistics-gt0-clause-lifts g c = λ q at accepted.
    let old = c.args.disk.now in
    let new = c.lift_made.new.disk in
    let log = c.args.files.now.log in
    let s = c.args.split in
    let none : c.in-Ok.field-0.statistics.rats ≡ 0 = omega (arith, c.if-statistics-gt0.false) in
    made_lifts (Keeps g.D.Drafts.kept old new log.binary log.path.now) (new ≡ old) s.formula (leaf_at s.tree c.args.leaf) q c.args.leaf c.args.found c.in-Ok.field-0 c.lift_made.result
    at c.in-Ok.is accepted none c.lift_made.ensures.lifts

pub returns-in-Err-clause-lifts : goal.returns-in-Err-clause-lifts
returns-in-Err-clause-lifts g c = λ q at accepted.
    let old = c.args.disk.now in
    let log = c.args.files.now.log in
    fault_told (Keeps g.D.Drafts.kept old old log.binary log.path.now) (old ≡ old) c.args.split.formula q c.args.leaf c.in-Err.fault c.faulty.result refl c.faulty.ensures.prints
