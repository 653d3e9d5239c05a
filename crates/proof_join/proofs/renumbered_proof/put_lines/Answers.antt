use Rattle.std.proofs.Common.{◌∙◌, ℕ, List, length, ap, sym, subst, arith}
use Rattle.std.proofs.lemmas.Result.{err_from_is_err_and}
use Rattle.lrat_text.specs.Grammar.{SpellsStep}
use Rattle.lrat_text.specs.Steps.{step_of}
use Rattle.proof_join.specs.inner.RaisedLines.{IsUnderWay}
use Rattle.proof_join.proofs.RaisingLemmas.{begins, goes_on, not_read, not_put, no_end}
use Rattle.proof_join.proofs.renumbered_proof.put_lines.Goals as goal

pub loop-line-init : goal.loop-line-init
loop-line-init c = record {
  way = subst (λ (out : List ℕ). IsUnderWay c.args.raise.above c.args.raise.by c.args.text.now c.args.rewriter.now.top out c.args.text.now) (sym c.requires.begun)
      (begins c.args.raise.above c.args.raise.by c.args.rewriter.now.top c.args.text.now c.requires.highest);
  short = let n = ap (λ (xs : List ℕ). length xs) c.requires.begun in omega arith;
}

pub returns-in_err-read : goal.returns-in_err-read
returns-in_err-read c =
    let p = err_from_is_err_and c.from_residual.result c.from_residual.ensures.1 in
    rw (p.1, p.2) (not_read c.args.raise.above c.args.raise.by c.loop-line.rewriter.top c.args.text.now c.loop-line.rewriter.out.items c.loop-line.rest.now c.in-Some.line.now c.in-Some.later.now
    c.in_err-read.field-0.0 c.loop-line.invariant.way c.in-Some.ensures c.in_err-read.ensures)

pub returns-in_err-put_raised : goal.returns-in_err-put_raised
returns-in_err-put_raised c =
    let spells : SpellsStep c.in-Some.line.now (step_of c.as_ref.result) = subst (SpellsStep c.in-Some.line.now) (sym c.as_ref.ensures) c.in_ok-read.ensures in
    let p = err_from_is_err_and c.from_residual-in_err-put_raised.result c.from_residual-in_err-put_raised.ensures.1 in
    rw (p.1, p.2) (not_put c.args.raise.above c.args.raise.by c.loop-line.rewriter.top c.args.text.now c.loop-line.rewriter.out.items c.loop-line.rest.now c.in-Some.line.now c.in-Some.later.now
    (step_of c.as_ref.result) c.in_err-put_raised.field-0.0 c.loop-line.invariant.way c.in-Some.ensures spells c.in_err-put_raised.ensures)

pub loop-line-preserved : goal.loop-line-preserved
loop-line-preserved c =
    let spells : SpellsStep c.in-Some.line.now (step_of c.as_ref.result) = subst (SpellsStep c.in-Some.line.now) (sym c.as_ref.ensures) c.in_ok-read.ensures in
    let way = c.loop-line.invariant.way in
    let put = c.in_ok-put_raised.ensures in
    record {
      way = goes_on c.args.raise.above c.args.raise.by c.loop-line.rewriter.top c.put_raised.new.rewriter.top c.args.text.now c.loop-line.rewriter.out.items c.put_raised.new.rewriter.out.items
          c.loop-line.rest.now c.in-Some.line.now c.in-Some.later.now (step_of c.as_ref.result) way c.in-Some.ensures spells put;
      short = (put way.high way.highest).short;
    }

pub returns-else-is_empty : goal.returns-else-is_empty
returns-else-is_empty c =
    no_end c.args.raise.above c.args.raise.by c.loop-line.rewriter.top c.args.text.now c.loop-line.rewriter.out.items c.loop-line.rest.now c.loop-line.invariant.way c.in_default.ensures
    (sym c.is_empty.ensures ∙ c.if-is_empty.false)
