use Rattle.std.proofs.Common.{[], length, ◌≡◌, ◌+◌, ◌-◌, ◌<◌, ◌⊎◌, inl, inr, arith, sym, subst}
use Rattle.std.proofs.lemmas.List.{take_all}
use Rattle.clause_arena.specs.Clauses.{live_of}
use Rattle.conflict_analysis.specs.inner.Seen.{met}
use Rattle.conflict_analysis.specs.inner.TrailWalk.{IsUnderWay, IsWalk}
use Rattle.conflict_analysis.proofs.BlockLemmas.{skips_down, some_left}
use Rattle.conflict_analysis.proofs.WalkEndLemmas.{nothing_walked}
use Rattle.conflict_analysis.specs.inner.Tallies.{IsTallied}
use Rattle.conflict_analysis.proofs.TallyLemmas.{tally_skips}
use Rattle.conflict_analysis.proofs.MetLemmas.{met_further, met_in_front, met_none}
use Rattle.conflict_analysis.proofs.first_uip.TrailWalk.descend.Goals as goal
use Rattle.conflict_analysis.proofs.first_uip.TrailWalk.descend.Goals.{After-skip_blocks-i, then-self-gt0, else-self-gt0+then-self-gt0-2}

pub loop-self-init : goal.loop-self-init
loop-self-init c =
    let es = c.args.trail.now.entries in
    let n = c.len-i.ensures.value in (
      omega (arith, n),
      record {
        walk = subst (λ xs. IsWalk c.args.trail.now xs c.args.self.now) (sym (take_all c.len-i.result es (omega (arith, n)))) c.requires.walk;
        walked = rw (n, c.requires.lits, c.requires.hints) (nothing_walked (live_of c.args.arena.now) es (met c.args.self.now.seen));
        levels = rw c.requires.lits (c.requires.waits, c.requires.level);
      },
      c.requires.room,
      met_none es c.args.self.now.seen,
      λ number h. subst (IsTallied (live_of c.args.arena.now) c.args.trail.now number c.len-i.result c.args.self.now) (sym c.requires.hints)
          (tally_skips (live_of c.args.arena.now) c.args.trail.now number (length es) c.len-i.result c.args.self.now [] (omega (arith, n)) h),
    )

-- the way down to where the walk goes on
way : (c : After-skip_blocks-i) → IsUnderWay (live_of c.args.arena.now) c.args.trail.now c.skip_blocks-i.result c.loop-self.self c.loop-self.lemma
way c = let i = c.loop-self.invariant in
    skips_down c.args.arena.now c.args.trail.now c.requires.built c.loop-self.self c.loop-self.lemma c.loop-self.i c.skip_blocks-i.result c.skip_blocks-i.ensures.below i.0 c.skip_blocks-i.ensures.unmarked i.1

-- some entry is left
some : (c : After-skip_blocks-i) → (0 < c.loop-self.self.pending) ⊎ (0 < c.loop-self.self.rest)
some c = elim c.if-self-gt0.branch [ then-self-gt0 w ↦ inl w.if-self-gt0.true | else-self-gt0+then-self-gt0-2 w ↦ inr w.if-self-gt0-2.true ]

pub overflow_sub-i : goal.overflow_sub-i
overflow_sub-i c = some_left c.args.arena.now c.args.trail.now c.loop-self.self c.loop-self.lemma c.skip_blocks-i.result (way c) (some c)

pub visit_entry-requires-clause-way : goal.visit_entry-requires-clause-way
visit_entry-requires-clause-way c =
    let w = (goal.at.visit_entry-requires-clause-way c).After-skip_blocks-i in
    let above = some_left c.args.arena.now c.args.trail.now c.loop-self.self c.loop-self.lemma c.skip_blocks-i.result (way w) (some w) in
    let is : c.skip_blocks-i.result ≡ c.skip_blocks-i.result - 1 + 1 = omega (arith, above) in
    subst (λ k. IsUnderWay (live_of c.args.arena.now) c.args.trail.now k c.loop-self.self c.loop-self.lemma) is (way w)

pub loop-self-preserved : goal.loop-self-preserved
loop-self-preserved c =
    let w = (goal.at.loop-self-preserved c).After-skip_blocks-i in
    let i = c.loop-self.invariant in
    let e = c.in_ok-visit_entry.ensures in (
      (let l = i.0 in let k = c.skip_blocks-i.ensures.below in omega (arith, l, k)),
      e.way,
      e.room,
      met_further c.args.trail.now.entries c.args.self.now.seen c.loop-self.self.seen c.visit_entry.new.self.seen i.3 (met_in_front c.args.trail.now.entries (c.skip_blocks-i.result - 1) c.loop-self.self.seen c.visit_entry.new.self.seen e.seen),
      λ number h. e.tally number (tally_skips (live_of c.args.arena.now) c.args.trail.now number c.loop-self.i (c.skip_blocks-i.result - 1 + 1) c.loop-self.self c.loop-self.lemma.hints.items
          (let above = some_left c.args.arena.now c.args.trail.now c.loop-self.self c.loop-self.lemma c.skip_blocks-i.result (way w) (some w) in let b = c.skip_blocks-i.ensures.below in omega (arith, above, b)) (i.4 number h)),
    )

pub returns-clause-tally : goal.returns-clause-tally
returns-clause-tally c = λ number h. (c.loop-self.i, (c.loop-self.invariant).4 number h)
