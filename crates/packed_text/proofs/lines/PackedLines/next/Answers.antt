use Rattle.std.proofs.Common.{◌+◌, ◌++◌, List, ℕ, drop, ap, subst, ◌∙◌, arith}
use Rattle.std.proofs.lemmas.Bool.{MatchBool-at_true, MatchBool-at_false}
use Rattle.lrat_text.specs.Lines.{IsCut}
use Rattle.packed_text.proofs.LineLemmas.{block_inside, next_block, line_ends}
use Rattle.packed_text.proofs.lines.PackedLines.next.Goals as goal

pub overflow_add-self : goal.overflow_add-self
overflow_add-self c =
    let l = c.loop-self.self-inside in
    let more = c.in_ok-self-inside.field-0 in
    omega (arith, block_inside more.items l.text.now l.from c.len-in-loop-self.result 4096 c.in_ok-self-inside.ensures (c.len-in-loop-self.ensures ∙ more.ok.0) (omega (arith, c.if-self-len.false, c.len.ensures)), c.len.ensures, c.len.type_inv)

pub loop-self-preserved : goal.loop-self-preserved
loop-self-preserved c =
    let l = c.loop-self.self-inside in
    let part = MatchBool-at_false _ _ c.if-not-branch.true c.in_ok-take_part.ensures.part in
    let more = c.in_ok-self-inside.field-0 in
    let rest : List ℕ = more.items ++ drop (l.from + c.len-in-loop-self.result) l.text.now in
    record {
      text = ap (λ (t : List ℕ). t ++ rest) part.0
          ∙ ap (λ (b : List ℕ). (c.loop-self.line.items ++ drop l.at b) ++ rest) c.deref.ensures.value
          ∙ next_block c.loop-self.line.items (drop l.at l.block.items) more.items l.text.now c.args.self.now l.from c.len-in-loop-self.result 4096 c.in_ok-self-inside.ensures
          (c.len-in-loop-self.ensures ∙ more.ok.0) c.loop-self.invariant.text;
      bare = part.1;
      inside = omega arith;
    }

pub returns : goal.returns
returns c =
    let l = c.loop-self.self-inside in
    let cut = MatchBool-at_true _ _ c.if-not-branch.false c.in_ok-take_part.ensures.part in
    line_ends c.loop-self.line.items (drop l.at l.block.items) c.take_part.new.line.items (drop c.take_part.new.at l.block.items) (drop l.from l.text.now) c.args.self.now
    (subst (λ (b : List ℕ). IsCut (c.loop-self.line.items ++ drop l.at b) c.take_part.new.line.items (drop c.take_part.new.at b)) c.deref.ensures.value cut) c.loop-self.invariant.text
