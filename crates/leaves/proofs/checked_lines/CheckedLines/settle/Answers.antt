use Rattle.std.proofs.Common.{◌≡◌, ◌+◌, ◌<◌, ◌++◌, Bool, sym, ◌∙◌, subst, refl, arith}
use Rattle.dimacs.specs.logic.ClauseMap.{map_of}
use Rattle.lrat_text.specs.Runs.{after_steps}
use Rattle.lrat_check.specs.Logs.{LogState, HoldsFormula}
use Rattle.log_join.specs.JoinedLogs.{joined_so_far}
use Rattle.log_join.specs.Written.{AtLogEnd}
use Rattle.leaves.specs.inner.CheckedLines.{AreHandedOver}
use Rattle.leaves.proofs.ClosingLemmas.{tells_more, tells_none}
use Rattle.leaves.proofs.LineLemmas.{none_left, none_over}
use Rattle.leaves.proofs.checked_lines.CheckedLines.settle.Goals as goal

pub loop-number-init : goal.loop-number-init
loop-number-init c = record {
  checker = refl;
  out = refl;
  over = λ F cubes logs log written h.
      none_over F cubes logs (record { steps = log; accepted = c.args.accepted }) (written ++ c.args.self.now.out.items) (c.base-number.result + 1) c.args.self.now.joiner
      (omega (arith, c.base-number.ensures.value, h.after.base))
      (c.joiner_states.ensures.begins F cubes logs log c.args.accepted c.args.self.now.joiner (written ++ c.args.self.now.out.items) h.within);
  told = λ F cubes logs log written h accepted. tells_none F log (joined_so_far F cubes logs).leaves c.args.self.now.joiner h.within.stands.leaves;
}

pub loop-number-preserved : goal.loop-number-preserved
loop-number-preserved c = record {
  checker = c.in_ok-closed.ensures.checker ∙ c.loop-number.invariant.checker;
  out = c.in_ok-closed.ensures.out ∙ c.loop-number.invariant.out;
  over = λ F cubes logs log written h.
      c.in_ok-closed.ensures.over F cubes logs log (written ++ c.args.self.now.out.items)
      (subst (λ (s : LogState). s.live ≡ after_steps (map_of F) log) (sym c.loop-number.invariant.checker) h.after.live)
      (c.loop-number.invariant.over F cubes logs log written h);
  told = λ F cubes logs log written h accepted.
      let written_now = written ++ c.args.self.now.out.items in
      tells_more F log (joined_so_far F cubes logs).leaves c.loop-number.self.joiner c.hand_over.new.self.joiner c.loop-number.closes c.in_ok-closed.closed c.either-closes.result c.either-closes.ensures
      (c.loop-number.invariant.told F cubes logs log written h accepted)
      (c.in_ok-closed.ensures.told accepted F cubes logs log written_now
      (subst (λ (s : LogState). s.live ≡ after_steps (map_of F) log) (sym c.loop-number.invariant.checker) h.after.live)
      (subst (λ (b : Bool). AreHandedOver F cubes logs (record { steps = log; accepted = b }) written_now c.loop-number.number c.loop-number.self.joiner) accepted
      (c.loop-number.invariant.over F cubes logs log written h)));
}

pub returns : goal.returns
returns c = λ F cubes logs log written h.
    let old = c.args.self.now in
    let now = c.loop-number.self in
    let over = c.loop-number.invariant.over F cubes logs log written h in
    let above : old.checker.top < c.loop-number.number = omega (arith, c.top-number-end.ensures.value) in (
      record {
        low = over.low;
        ending = subst (λ o. AtLogEnd F cubes logs (record { steps = log; accepted = c.args.accepted }) over.low now.joiner (written ++ o.items)) (sym c.loop-number.invariant.out) over.ending;
        none_left = none_left F old.checker log over.low c.loop-number.number h.after above over.none;
        stands = subst (λ (s : LogState). HoldsFormula F s) (sym c.loop-number.invariant.checker) h.after.stands;
      },
      c.loop-number.invariant.told F cubes logs log written h,
    )
