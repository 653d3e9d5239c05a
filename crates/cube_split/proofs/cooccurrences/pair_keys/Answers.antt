use Rattle.std.proofs.Common.{rules, arith, ◌≡◌, ◌∙◌, ◌<◌, ◌++◌, length, sym}
use Rattle.std.specs.List.{All}
use Rattle.std.proofs.lemmas.List.Elements.{All-weaker}
use Rattle.dimacs.specs.logic.Literal.{IsWithin, index_of}
use Rattle.dimacs.proofs.LiteralLemmas.{index_below}
use Rattle.cube_split.specs.inner.Ranks.{AreDistinctOf, keys_among}
use Rattle.cube_split.proofs.DistinctLemmas.{all_gathered}
use Rattle.cube_split.proofs.TogetherLemmas.{keys_same, keys_more}
use Rattle.cube_split.proofs.cooccurrences.pair_keys.Goals as goal
use Rattle.cube_split.proofs.cooccurrences.pair_keys.Goals.{then-branch+in_ok-push_among, else-branch}

pub push_among-requires-clause-inside : goal.push_among-requires-clause-inside
push_among-requires-clause-inside c =
    let gathered : AreDistinctOf c.clause.result.now c.collect_distinct.new.found.items = c.in_ok-collect_distinct.ensures.gathered c.if-branch.true in
    let inside : All (IsWithin c.args.formula.now.vars) c.collect_distinct.new.found.items = all_gathered (IsWithin c.args.formula.now.vars) c.clause.result.now c.collect_distinct.new.found.items gathered c.clause.ensures.within in
    rw c.deref.ensures.value (All-weaker (IsWithin c.args.formula.now.vars) (λ l. index_of l < length c.args.marks.now) (λ l w. let b = index_below c.args.formula.now.vars l w in omega (arith, c.requires)) c.collect_distinct.new.found.items inside)

pub loop-i-preserved : goal.loop-i-preserved
loop-i-preserved c = λ test marked. elim c.if-branch.branch [
  | then-branch+in_ok-push_among w ↦
      let gathered : AreDistinctOf c.clause.result.now c.collect_distinct.new.found.items = c.in_ok-collect_distinct.ensures.gathered w.if-branch.true in
      let inside : All (IsWithin c.args.formula.now.vars) c.collect_distinct.new.found.items = all_gathered (IsWithin c.args.formula.now.vars) c.clause.result.now c.collect_distinct.new.found.items gathered c.clause.ensures.within in
      let value : w.deref.result.now ≡ c.collect_distinct.new.found.items = w.deref.ensures.value in
      let keys : c.if-branch.keys.items ≡ c.loop-i.keys.items ++ keys_among test c.collect_distinct.new.found.items = rw (w.keys-is, ← value) (w.in_ok-push_among.ensures test marked) in
      rw keys (keys_more c.args.formula.now.vars test c.args.formula.now.clauses c.loop-i.i c.clause.result.now c.collect_distinct.new.found.items c.loop-i.keys.items (omega (arith, c.vars.ensures.limit, c.vars.ensures.value)) (omega arith) c.clause.ensures.clause
      (sym c.in_ok-collect_distinct.ensures.short ∙ w.if-branch.true) inside gathered (c.loop-i.invariant test marked))
  | else-branch w ↦
      let keys : c.if-branch.keys.items ≡ c.loop-i.keys.items = search rules in
      rw keys (keys_same c.args.formula.now.vars test c.args.formula.now.clauses c.loop-i.i c.clause.result.now c.loop-i.keys.items (omega arith) c.clause.ensures.clause (sym c.in_ok-collect_distinct.ensures.short ∙ w.if-branch.false) (c.loop-i.invariant test marked))
]
