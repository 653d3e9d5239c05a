use Rattle.std.proofs.Common.{arith, sym, ◌≡◌, ◌∙◌, ◌<◌, not, ◌&&◌, List, length, get_or, subst}
use Rattle.std.specs.List.{list_any, count_by}
use Rattle.std.proofs.lemmas.List.{take_all}
use Rattle.std.proofs.lemmas.List.Elements.{All-weaker}
use Rattle.dimacs.specs.logic.Literal.{Clause, IsWithin, var_of, index_of}
use Rattle.cube_split.specs.Choice.{has_variable}
use Rattle.cube_split.proofs.CountLemmas.{all_none, all_counted, all_passed, index_below}
use Rattle.cube_split.proofs.tally.Tally.count_clauses.Goals as goal
use Rattle.cube_split.proofs.tally.Tally.count_clauses.Goals.{then-is_apart, else-is_apart}

pub loop-i-init : goal.loop-i-init
loop-i-init c = record {
  tally = c.requires.clear.tally;
  counted = all_none c.args.marks.now c.args.self.now.counts.items c.args.self.now.last.items c.args.formula.now.clauses c.requires.clear.tally.rows c.requires.clear.counts c.requires.clear.last;
}

pub is_apart-requires : goal.is_apart-requires
is_apart-requires c = All-weaker (IsWithin c.args.formula.now.vars) (λ l. index_of l < length c.args.marks.now)
    (λ l w. index_below l c.args.formula.now.vars (length c.args.self.now.counts.items) (length c.args.marks.now) w c.requires.within c.requires.marks) c.clause-clause.result.now c.clause-clause.ensures.within

pub count_clause-requires-clause-within : goal.count_clause-requires-clause-within
count_clause-requires-clause-within c = All-weaker (IsWithin c.args.formula.now.vars) (λ l. var_of l < length c.loop-i.self.counts.items)
    (λ l w. omega (arith, w.1, c.loop-i.invariant.counted.long)) c.clause-clause.result.now c.clause-clause.ensures.within

pub count_clause-requires-clause-counted : goal.count_clause-requires-clause-counted
count_clause-requires-clause-counted c = λ w h. omega (arith, c.loop-i.invariant.counted.bound w (omega (arith, c.loop-i.invariant.counted.long)))

pub count_clause-requires-clause-earlier : goal.count_clause-requires-clause-earlier
count_clause-requires-clause-earlier c = λ w h. omega (arith, c.loop-i.invariant.counted.early w (omega (arith, c.loop-i.invariant.counted.long)))

pub loop-i-preserved : goal.loop-i-preserved
loop-i-preserved c =
    let below : c.loop-i.i < length c.args.formula.now.clauses = omega arith in
    elim c.if-is_apart.branch [
      | then-is_apart w ↦ rw w.self-is (record {
        tally = w.count_clause.ensures.tally;
        counted = all_counted c.args.marks.now c.loop-i.self.counts.items c.loop-i.self.last.items w.count_clause.new.self.counts.items w.count_clause.new.self.last.items (length c.args.self.now.counts.items) c.loop-i.i c.args.formula.now.clauses c.clause-clause.result.now below c.clause-clause.ensures.clause
            (λ test m. sym w.if-is_apart.true ∙ c.is_apart.ensures test m) w.count_clause.ensures.size (omega (arith, w.count_clause.ensures.tally.rows, w.count_clause.ensures.size, c.loop-i.invariant.tally.rows))
            w.count_clause.ensures.counts w.count_clause.ensures.last c.loop-i.invariant.counted;
      })
      | else-is_apart w ↦ rw w.self-is (record {
        tally = c.loop-i.invariant.tally;
        counted = all_passed c.args.marks.now c.loop-i.self.counts.items c.loop-i.self.last.items (length c.args.self.now.counts.items) c.loop-i.i c.args.formula.now.clauses c.clause-clause.result.now below c.clause-clause.ensures.clause
            (λ test m. sym w.if-is_apart.false ∙ c.is_apart.ensures test m) c.loop-i.invariant.counted;
      })
    ]

pub returns-clause-counts : goal.returns-clause-counts
returns-clause-counts c = λ test m w h.
    let all = take_all c.loop-i.i c.args.formula.now.clauses (omega arith) in
    subst (λ (cs : List Clause). get_or c.loop-i.self.counts.items w 0 ≡ count_by (λ C. not (list_any test C) && has_variable C w) cs) all (c.loop-i.invariant.counted.counted test m w h)
