use Rattle.std.proofs.Common.{◌≤◌, ◌∙◌, ℕ, [], List, refl, sym, subst, arith}
use Rattle.std.proofs.lemmas.Bool.{true≢false}
use Rattle.std.proofs.lemmas.List.{take_at}
use Rattle.log_join.specs.Bits.{Has}
use Rattle.log_join.specs.Trees.{AreCovered, AreOpen, ArePlaced, IsIndexed}
use Rattle.log_join.specs.inner.Trees.{HasSettled}
use Rattle.log_join.specs.declared.places.Places.{Places}
use Rattle.log_join.proofs.CoverLemmas.{nothing_found}
use Rattle.log_join.proofs.ResultLemmas.{if_ok_both}
use Rattle.log_join.proofs.log_joiner.LogJoiner.close.Goals as goal

pub returns-then-not-find : goal.returns-then-not-find
returns-then-not-find c = record {
  base = refl;
  begun = refl;
  top = refl;
  spent = refl;
  tree = λ small tree indexed. (
    nothing_found c.args.self.now.index c.args.self.now.unclosed.items (record { id = c.args.id; clause = c.args.lits.now }) c.args.self.now.tree small
        (λ p low here all. true≢false (sym (c.find.ensures.found p low (subst (λ (ps : List ℕ). Has ps p) (sym c.deref.ensures.value) here) all).0 ∙ c.if-not-find.true)) tree indexed,
    indexed,
  );
}

pub returns : goal.returns
returns c = if_ok_both c.close_below.result _ _ _
    (λ b h g. record {
      base = refl;
      begun = refl;
      top = refl;
      spent = refl;
      tree = λ small tree indexed.
          let placed : ArePlaced c.whole.result.from c.whole.result.to c.args.self.now.tree = subst (λ (z : Places). ArePlaced z.from z.to c.args.self.now.tree) (sym c.whole.ensures) indexed.placed in
          let limit : c.whole.result.to ≤ 65536 = subst (λ (z : Places). z.to ≤ 65536) (sym c.whole.ensures) (omega arith) in
          let covered : AreCovered c.args.self.now.index c.whole.result.from c.args.self.now.tree = subst (λ (z : Places). AreCovered c.args.self.now.index z.from c.args.self.now.tree) (sym c.whole.ensures) indexed.covered in
          let left : AreOpen c.args.self.now.unclosed.items c.whole.result.from c.args.self.now.tree = subst (λ (z : Places). AreOpen c.args.self.now.unclosed.items z.from c.args.self.now.tree) (sym c.whole.ensures) indexed.left in
          let settled : HasSettled (record { id = c.args.id; clause = c.args.lits.now }) [] c.args.self.now.tree c.close_below.new.node b =
          h [] c.args.self.now.index c.args.self.now.unclosed.items tree placed limit covered left
          (λ p low here all. subst (λ (ps : List ℕ). Has ps p) (sym (c.deref-2.ensures.value ∙ take_at c.find.new.found _ c.args.self.now.found.len (c.find.auto.found ∙ c.deref_mut.ensures.len)))
          (c.find.ensures.found p low (subst (λ (ps : List ℕ). Has ps p) (sym c.deref.ensures.value) here) all).1) in
          let cleared = g placed in (
            settled,
            subst (λ (ps : List ℕ). IsIndexed c.args.self.now.index ps c.close_below.new.node)
                (sym (take_at c.close_below.new.unclosed _ c.args.self.now.unclosed.len (c.close_below.auto.unclosed ∙ c.deref_mut-2.ensures.len)))
                (record {
                  placed = subst (λ (z : Places). ArePlaced z.from z.to c.close_below.new.node) c.whole.ensures cleared.placed;
                  covered = settled.covers c.args.self.now.index 0 indexed.covered;
                  left = subst (λ (z : Places). AreOpen c.close_below.new.unclosed z.from c.close_below.new.node) c.whole.ensures
                      (cleared.left (subst (λ (ps : List ℕ). AreOpen ps c.whole.result.from c.args.self.now.tree) (sym c.deref_mut-2.ensures.value) left));
                }),
          );
    })
    c.close_below.ensures.settled c.close_below.ensures.left
