use Rattle.std.proofs.Common.{◌≡◌, ℕ, ◌+◌, ◌++◌, ◌∙◌, List, [], ◌∷◌, length, take, drop, arith, ap}
use Rattle.std.proofs.lemmas.Result.{err_from_is_err_and}
use Rattle.dimacs.specs.logic.Rat.{Group}
use Rattle.lrat_text.specs.WrittenLine.{line_of}
use Rattle.lrat_text.specs.declared.step.Step.TheVariants.{Add}
use Rattle.proof_join.specs.JoinedProof.{unit_steps}
use Rattle.lrat_text.specs.Runs.{text_of, top_of}
use Rattle.proof_join.proofs.SubtreeLemmas.{writes_more}
use Rattle.proof_join.proofs.WholeLemmas.{unit_more, units_front}
use Rattle.proof_join.proofs.preamble.put_units.Goals as goal

pub returns-in_err-put_line-clause-text : goal.returns-in_err-put_line-clause-text
returns-in_err-put_line-clause-text c =
    let v = c.loop-unit.invariant in
    let n : ℕ = c.loop-unit.unit-index in
    let last = v.last in
    let id : ℕ = c.loop-unit.last + 1 in
    let line : c.loop-unit.out ++ line_of id (Add id (c.unit-item.result ∷ []) [] c.new-groups.result) ≡ c.args.out.now ++ text_of c.args.top (unit_steps c.args.top (take (n + 1) c.args.units.now)) =
    ap (λ (gs : List Group). c.loop-unit.out ++ line_of id (Add id (c.unit-item.result ∷ []) [] gs)) c.new-groups.ensures
    ∙ unit_more c.args.out.now c.args.top c.args.units.now n id c.unit-item.result c.loop-unit.out c.loop-unit-test.true c.unit-item.is (omega arith) v.text in
    let p = err_from_is_err_and c.from_residual.result c.from_residual.ensures.1 in
    rw (p.1, p.2) (writes_more (Unit {0}) ℕ c.in_err-put_line.field-0.0 c.put_line.new.out (c.loop-unit.out ++ line_of id (Add id (c.unit-item.result ∷ []) [] c.new-groups.result))
    (text_of (top_of c.args.top (unit_steps c.args.top (take (n + 1) c.args.units.now))) (unit_steps (c.args.top + length (take (n + 1) c.args.units.now)) (drop (n + 1) c.args.units.now)))
    (c.args.out.now ++ text_of c.args.top (unit_steps c.args.top c.args.units.now))
    (ap (λ (o : List ℕ). o ++ text_of (top_of c.args.top (unit_steps c.args.top (take (n + 1) c.args.units.now))) (unit_steps (c.args.top + length (take (n + 1) c.args.units.now)) (drop (n + 1) c.args.units.now))) line
    ∙ units_front c.args.out.now c.args.top (n + 1) c.args.units.now)
    c.in_err-put_line.ensures)

pub loop-unit-preserved : goal.loop-unit-preserved
loop-unit-preserved c =
    let v = c.loop-unit.invariant in
    let n : ℕ = c.loop-unit.unit-index in
    let last = v.last in
    let id : ℕ = c.loop-unit.last + 1 in
    let wrote = c.in_ok-put_line.ensures in
    let same = ap length wrote.0 in
    let below = wrote.1 in
    record {
      text = wrote.0 ∙ ap (λ (gs : List Group). c.loop-unit.out ++ line_of id (Add id (c.unit-item.result ∷ []) [] gs)) c.new-groups.ensures
          ∙ unit_more c.args.out.now c.args.top c.args.units.now n id c.unit-item.result c.loop-unit.out c.loop-unit-test.true c.unit-item.is (omega arith) v.text;
      last = omega arith;
      short = omega arith;
    }
