use Rattle.std.proofs.Common.{◌≡◌, ◌+◌, ◌-◌, ◌++◌, List, ℕ, take, drop, ap, ◌∙◌, arith}
use Rattle.std.specs.List.{flat_map}
use Rattle.lrat_text.specs.inner.LineParts.{literal_text}
use Rattle.lrat_text.proofs.TokenBlockLemmas.{tokens_behind}
use Rattle.lrat_text.proofs.writer.put_literals.Goals as goal

pub loop-done-preserved : goal.loop-done-preserved
loop-done-preserved c =
    let done = c.loop-done.done in
    let xs = c.args.literals.now in
    let old = c.args.out.now.items in
    let end = done + c.min.result in
    let whole : done + (end - done) ≡ end = omega arith in
    record {
      items = c.in_ok-put_few_literals.ensures.ok
          ∙ ap (λ (t : List ℕ). t ++ flat_map literal_text (take (end - done) (drop done xs))) c.loop-done.invariant.items
          ∙ tokens_behind literal_text old xs done (end - done)
          ∙ ap (λ (n : ℕ). old ++ flat_map literal_text (take n xs)) whole;
      few = omega (arith, c.min.ensures, c.loop-done-test.true);
    }
