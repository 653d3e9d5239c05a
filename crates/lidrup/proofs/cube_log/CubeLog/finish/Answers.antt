use Rattle.std.proofs.Common.{◌∙◌, ℕ, List, eqb, inr, length, sym, ap}
use Rattle.lidrup.proofs.LogLemmas.{ends_cut, ends_fault, ends_ok, none_begun}
use Rattle.lidrup.proofs.cube_log.CubeLog.finish.Goals as goal

pub returns-in-Some-clause-ends : goal.returns-in-Some-clause-ends
returns-in-Some-clause-ends c = λ F bytes handed s. ends_fault F bytes handed c.args.self.now c.in-Some.fault c.in-Some.is s

pub returns-then-is_empty-clause-ends : goal.returns-then-is_empty-clause-ends
returns-then-is_empty-clause-ends c = λ F bytes handed s.
    let x = c.args.self.now in
    ends_ok F bytes handed x c.in_default.is (none_begun x.begun (ap (λ (b : List ℕ). eqb (length b) 0) (sym c.as_slice.ensures.value) ∙ sym c.is_empty.ensures ∙ c.if-is_empty.true)) s

pub returns-clause-ends : goal.returns-clause-ends
returns-clause-ends c = λ F bytes handed s.
    let x = c.args.self.now in
    inr (ends_cut F bytes handed x c.in_default.is c.as_slice.ensures.«open» (ap (λ (b : List ℕ). eqb (length b) 0) (sym c.as_slice.ensures.value) ∙ sym c.is_empty.ensures ∙ c.if-is_empty.false) s)

pub returns-then-is_empty-clause-ended : goal.returns-then-is_empty-clause-ended
returns-then-is_empty-clause-ended c = record {
  fine = c.in_default.is;
  whole = none_begun c.args.self.now.begun (ap (λ (b : List ℕ). eqb (length b) 0) (sym c.as_slice.ensures.value) ∙ sym c.is_empty.ensures ∙ c.if-is_empty.true);
}
