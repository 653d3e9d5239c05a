use Rattle.std.proofs.Common.{◌≡◌, ◌++◌, ◌∷◌, [], ◌∙◌, inl, inr, None, sym, ap, subst, arith, length, option_map, slice_index_or, IfSome}
use Rattle.std.proofs.lemmas.List.{get_or_read}
use Rattle.std.proofs.lemmas.Bool.{cases_lt}
use Rattle.lrat_check.specs.inner.Store.{clause_at, IsPlaced, ArePlaced}
use Rattle.lrat_check.proofs.Slots.{if_placed, kept_clauses, get_or-push_below, get_or-push_at, ArePlaced-push, ArePlaced-kept}
use Rattle.lrat_check.proofs.compaction.copy_slots.Goals as goal
use Rattle.lrat_check.proofs.compaction.copy_slots.Goals.{After-index-slots-i}

-- the loop reads the cell of this turn
there : (c : After-index-slots-i) → c.index-slots-i.result ≡ slice_index_or c.args.slots.now c.loop-i.i None
there c = get_or_read c.args.slots.now c.loop-i.i c.index-slots-i.result c.loop-i-test.true c.index-slots-i.is None

pub copy_slot-requires : goal.copy_slot-requires
copy_slot-requires c =
    subst (λ o. IfSome o (IsPlaced c.args.literals.now)) (sym (there ((goal.at.copy_slot-requires c).After-index-slots-i)))
    (if_placed c.args.literals.now c.args.slots.now c.requires.placed c.loop-i.i)

pub returns-in_err-copy-clause-kept : goal.returns-in_err-copy-clause-kept
returns-in_err-copy-clause-kept c s within =
    let h = c.loop-i.invariant.kept s within in
    let g = c.copy_slot.ensures.kept s h.0 in
    (g.0, g.1 ∙ h.1)

pub returns-in_err-push-clause-kept : goal.returns-in_err-push-clause-kept
returns-in_err-push-clause-kept c s within =
    let h = c.loop-i.invariant.kept s within in
    let g = c.copy_slot.ensures.kept s h.0 in
    (g.0, g.1 ∙ h.1)

pub loop-i-preserved : goal.loop-i-preserved
loop-i-preserved c =
    let more = c.in_ok-push.ensures.items in
    let len : length c.loop-i.copies.items ≡ c.loop-i.i = omega (arith, c.loop-i.invariant.len) in
    record {
      len = omega (arith, c.in_ok-push.ensures.len, c.loop-i.invariant.len);
      clauses = λ p lt. elim (cases_lt p c.loop-i.i) [
        | inl below ↦
            ap (λ xs. option_map (clause_at c.copy_slot.new.out.items) (slice_index_or xs p None)) more
            ∙ ap (option_map (clause_at c.copy_slot.new.out.items)) (get_or-push_below c.loop-i.copies.items c.in_ok-copy.copy None p (omega arith))
            ∙ kept_clauses c.loop-i.out.items c.copy_slot.new.out.items (slice_index_or c.loop-i.copies.items p None) c.copy_slot.ensures.kept (c.loop-i.invariant.placed p)
            ∙ c.loop-i.invariant.clauses p below
        | inr past ↦
            ap (λ xs. option_map (clause_at c.copy_slot.new.out.items) (slice_index_or xs p None)) more
            ∙ ap (λ k. option_map (clause_at c.copy_slot.new.out.items) (slice_index_or (c.loop-i.copies.items ++ c.in_ok-copy.copy ∷ []) k None)) (omega arith)
            ∙ ap (option_map (clause_at c.copy_slot.new.out.items)) (get_or-push_at c.loop-i.copies.items c.in_ok-copy.copy None)
            ∙ c.in_ok-copy.ensures.clause
            ∙ ap (option_map (clause_at c.args.literals.now)) (there ((goal.at.loop-i-preserved c).After-index-slots-i))
            ∙ ap (λ k. option_map (clause_at c.args.literals.now) (slice_index_or c.args.slots.now k None)) (omega arith)
      ];
      placed = subst (ArePlaced c.copy_slot.new.out.items) (sym more)
          (ArePlaced-push c.copy_slot.new.out.items c.loop-i.copies.items c.in_ok-copy.copy
          (ArePlaced-kept c.loop-i.out.items c.copy_slot.new.out.items c.loop-i.copies.items c.copy_slot.ensures.kept c.loop-i.invariant.placed) c.in_ok-copy.ensures.placed);
      kept = λ s within. let h = c.loop-i.invariant.kept s within in let g = c.copy_slot.ensures.kept s h.0 in (g.0, g.1 ∙ h.1);
    }
