use Rattle.std.proofs.Common.{arith, ℕ, ◌+◌, ◌*◌, ◌++◌, ◌∙◌, List, length, take, drop, ap}
use Rattle.std.proofs.lemmas.Result.{err_from_is_err_and}
use Rattle.lrat_text.specs.Runs.{text_of, top_of}
use Rattle.cube_split.specs.declared.pair.Pair.{Pair}
use Rattle.proof_join.specs.Definitions.{all_steps, definition_steps}
use Rattle.proof_join.proofs.AppendLemmas.{pair_more, pairs_front}
use Rattle.proof_join.proofs.SubtreeLemmas.{writes_more}
use Rattle.proof_join.proofs.preamble.put_definitions.Goals as goal

pub returns-in_err-put_definition-clause-text : goal.returns-in_err-put_definition-clause-text
returns-in_err-put_definition-clause-text c =
    let v = c.loop-pair.invariant in
    let n : ℕ = c.loop-pair.pair-index in
    let last = v.last in
    let variable = v.variable in
    let number = c.new.ensures in
    let d : ℕ = c.args.vars + 1 in
    let pairs : List Pair = c.args.pairs.now in
    let front : List Pair = take (n + 1) pairs in
    let line = pair_more c.args.out.now c.args.top d pairs n c.loop-pair.last c.new.result c.pair-item.result c.loop-pair.out c.loop-pair-test.true c.pair-item.is last (omega arith) v.text in
    let more : List ℕ = text_of (top_of c.args.top (all_steps c.args.top d front)) (all_steps (c.args.top + 3 * length front) (d + length front) (drop (n + 1) pairs)) in
    let p = err_from_is_err_and c.from_residual.result c.from_residual.ensures.1 in
    rw (p.1, p.2) (writes_more (Unit {0}) ℕ c.in_err-put_definition.field-0.0 c.put_definition.new.out (c.loop-pair.out ++ text_of c.loop-pair.last (definition_steps c.loop-pair.last c.new.result c.pair-item.result)) more
    (c.args.out.now ++ text_of c.args.top (all_steps c.args.top d pairs))
    (ap (λ (o : List ℕ). o ++ more) line ∙ pairs_front c.args.out.now c.args.top d (n + 1) pairs)
    c.in_err-put_definition.ensures)

pub loop-pair-preserved : goal.loop-pair-preserved
loop-pair-preserved c =
    let v = c.loop-pair.invariant in
    let n : ℕ = c.loop-pair.pair-index in
    let last = v.last in
    let variable = v.variable in
    let number = c.new.ensures in
    let wrote = c.in_ok-put_definition.ensures in
    let same = ap length wrote.0 in
    let below = wrote.1 in
    record {
      text = wrote.0 ∙ pair_more c.args.out.now c.args.top (c.args.vars + 1) c.args.pairs.now n c.loop-pair.last c.new.result c.pair-item.result c.loop-pair.out c.loop-pair-test.true c.pair-item.is last (omega arith) v.text;
      last = omega arith;
      variable = omega arith;
      short = omega arith;
    }
