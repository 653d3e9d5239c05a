use Rattle.std.proofs.Common.{◌≤◌, ◌++◌, ℕ, List, length, take, ap, sym, ◌∙◌, arith}
use Rattle.std.proofs.lemmas.List.{length-take, take-append-drop, take_rest}
use Rattle.sealed_links.specs.declared.sealer.Sealer.{Sealer}
use Rattle.keyed_links.proofs.SealLemmas.{begins_sealing, one_more_sealed}
use Rattle.keyed_links.proofs.hearing.seal_all.Goals as goal

pub loop-left-init : goal.loop-left-init
loop-left-init c = begins_sealing c.args.sealer.now c.args.bytes.now c.args.records.now.items

pub loop-left-preserved : goal.loop-left-preserved
loop-left-preserved c =
    let left : List ℕ = c.loop-left.left.now in
    let count : ℕ = c.min-count.result in
    let split = sym (take-append-drop count left) ∙ ap (λ ys. take count left ++ ys) (sym (take_rest left count)) in
    let short : length (take count left) ≤ 4096 = omega (arith, length-take count left, c.min-count.ensures) in
    one_more_sealed c.args.sealer.now c.loop-left.sealer c.seal.new.self c.args.bytes.now left (take count left) _ c.args.records.now.items c.loop-left.records.items c.seal.new.out.items
    c.loop-left.invariant split short c.in-Ok.ensures.few c.in-Ok.ensures.record (ap (λ (s : Sealer). s.key) c.in-Ok.ensures.next) (ap (λ (s : Sealer). s.number) c.in-Ok.ensures.next)
