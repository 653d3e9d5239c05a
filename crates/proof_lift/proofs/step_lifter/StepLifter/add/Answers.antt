use Rattle.std.proofs.Common.{ℕ, ◌+◌, ◌≤◌, List, inl, refl, sym, ap, subst, ◌∙◌, vec_len, arith}
use Rattle.proof_lift.specs.inner.Tables.{AllBelow, marked}
use Rattle.proof_lift.proofs.ReadyLemmas.{able_moves, stands_gone, below_later, lent_back}
use Rattle.proof_lift.proofs.step_lifter.StepLifter.add.Goals as goal

pub assume_negations-requires-clause-unused : goal.assume_negations-requires-clause-unused
assume_negations-requires-clause-unused c =
    subst (λ (m : List ℕ). AllBelow c.args.line m) (sym c.deref_mut.ensures.value) (c.in_ok-make_room.ensures.clean c.args.line c.requires.ready.clean).marks

pub returns-then-meets-clause-ready : goal.returns-then-meets-clause-ready
returns-then-meets-clause-ready c =
    let old = c.args.self.now in
    let new = c.drop_lemma.new.self in
    let able = c.requires.ready.able in
    let same = c.in_ok-drop_lemma.ensures.same in
    let room = c.make_room.new.self.marks in
    let back = lent_back room.len c.assume_negations.new.marks room.items (c.assume_negations.ensures.places ∙ c.deref_mut.ensures.len) in
    let marks : vec_len old.scratch.marks ≤ vec_len new.scratch.marks = omega (arith, c.in_ok-make_room.ensures.roomier.marks, ap vec_len same.marks) in
    let used : vec_len old.scratch.used ≤ vec_len new.scratch.used = omega (arith, c.in_ok-make_room.ensures.roomier.used, ap vec_len same.used) in
    let below = able.below in
    let rises = c.if-id-self.false in
    let high = c.requires.number.1 in
    let top = c.in_ok-drop_lemma.ensures.counts.0 in
    let own = c.in_ok-drop_lemma.ensures.counts.1 in
    record {
      positive = omega arith;
      able = able_moves old new able (record {
        stands = stands_gone old new c.args.id c.in_ok-drop_lemma.ensures.stands;
        cube = same.leaf.cube;
        live = same.live;
        marks = marks;
        used = used;
        below = omega arith;
        room = omega arith;
        top = omega arith;
        own = omega arith;
      });
      clean = record {
        marks = subst (λ v. AllBelow (c.args.line + 1) v.items) (sym same.marks) (subst (λ (m : List ℕ). AllBelow (c.args.line + 1) m) (sym back) c.assume_negations.ensures.below);
        used = subst (λ v. AllBelow (c.args.line + 1) v.items) (sym same.used) (below_later c.args.line (c.args.line + 1) c.make_room.new.self.used.items (omega arith) (c.in_ok-make_room.ensures.clean c.args.line c.requires.ready.clean).used);
      };
    }

pub lift-requires-clause-ready : goal.lift-requires-clause-ready
lift-requires-clause-ready c =
    let old = c.args.self.now in
    let room = c.make_room.new.self.marks in
    let back = lent_back room.len c.assume_negations.new.marks room.items (c.assume_negations.ensures.places ∙ c.deref_mut.ensures.len) in
    record {
      positive = c.requires.ready.positive;
      able = able_moves old _ c.requires.ready.able (record {
        stands = λ n i D e. inl e;
        cube = refl;
        live = refl;
        marks = c.in_ok-make_room.ensures.roomier.marks;
        used = c.in_ok-make_room.ensures.roomier.used;
        below = c.requires.ready.able.below;
        room = c.requires.ready.able.room;
        top = omega arith;
        own = omega arith;
      });
      lemma_marks = c.in_ok-make_room.ensures.marks;
      lemma_used = c.in_ok-make_room.ensures.used;
      assumed = ap (λ (m : List ℕ). marked m c.args.line) back ∙ c.if-assume_negations.ensures.assumed;
      marks = subst (λ (m : List ℕ). AllBelow (c.args.line + 1) m) (sym back) c.assume_negations.ensures.below;
      used = (c.in_ok-make_room.ensures.clean c.args.line c.requires.ready.clean).used;
    }
