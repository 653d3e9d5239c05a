use Rattle.std.proofs.Common.{ℕ, List, []}
use Rattle.commands.specs.Check.{Checks}
use Rattle.commands.specs.Known.{HoldsOf}
use Rattle.commands.proofs.OfLemmas.{of_map, of_opened}
use Rattle.dimacs.specs.logic.Limits.{Limits}
use Rattle.dimacs.specs.text.Parser.{GivesFormula, parse_within}
use Rattle.proof_check.specs.ProofChecks.{HasTaken}
use Rattle.commands.specs.inner.Feed.{Extends}
use Rattle.commands.proofs.check.check_files.Goals as goal

pub returns-in-Ok-clause-report : goal.returns-in-Ok-clause-report
returns-in-Ok-clause-report g c =
    let holds : List ℕ → _ = g.D.Disk.holds c.args.disk.now in
    let Reads : List ℕ → Type 0 = λ text. GivesFormula c.in_ok-found.found (parse_within c.args.limits text) in
    let Feds : List ℕ → Type 0 = λ bytes. (L : Limits) (input : List ℕ) → Extends (λ proof k. HasTaken L input k proof) c.of-check.result c.feed_all.new.taker bytes in
    let Told : List ℕ → List ℕ → Type 0 = λ text bytes. Checks c.args.limits text bytes c.in-Ok.report in
    let read : HoldsOf (holds c.args.input.now) Reads = of_opened Reads _ _ c.in_ok-text.ensures.bytes c.in_ok-found.ensures.found in
    let fed : HoldsOf (holds c.args.proof.now) Feds = of_opened Feds _ _ c.in_ok-bytes.ensures.bytes c.in_ok-feed_all.ensures.fed in
    of_map Reads (λ text. HoldsOf (holds c.args.proof.now) (Told text)) _ (λ text gives.
    of_map Feds (Told text) _ (λ bytes more. let taken = more c.args.limits text [] (c.of-check.ensures.taken c.args.limits text c.vars.ensures.valid gives) in record {
      report = c.in-Ok.ensures.report c.args.limits text bytes taken;
      truth = c.in-Ok.ensures.truth c.args.limits text bytes taken;
    }) fed) read
