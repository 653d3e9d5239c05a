use Rattle.std.proofs.Common.{arith, ◌≡◌, ℕ, ◌<◌, ◌∙◌, refl, ap, subst, length}
use Rattle.std.proofs.lemmas.List.Elements.{All-weaker, All-nil}
use Rattle.dimacs.specs.logic.Literal.{Clause, IsWithin, var_of, index_of}
use Rattle.dimacs.proofs.BaseLemmas.{count_take}
use Rattle.cube_split.specs.inner.Places.{ArePlaced}
use Rattle.cube_split.specs.declared.places.Place.{Place}
use Rattle.cube_split.proofs.CountLemmas.{index_below}
use Rattle.cube_split.proofs.PlaceLemmas.{chain_none, placed_none, placed_more, appended_count, appended_within, count_more}
use Rattle.cube_split.proofs.places.append_clauses.Goals as goal

pub loop-i-init : goal.loop-i-init
loop-i-init c = record {
  placed = rw c.requires.none (placed_none c.args.formula.now.clauses c.args.starts.now.items c.requires.first);
  chained = rw c.requires.none (chain_none c.args.latest.now c.requires.zeros);
  early = λ w h. omega (arith, c.requires.earlier w h);
  within = rw c.requires.none (All-nil (λ (e : Place). var_of e.literal < length c.args.last.now));
  count = rw c.requires.none refl;
}

pub append_clause-requires-clause-within : goal.append_clause-requires-clause-within
append_clause-requires-clause-within c = All-weaker (IsWithin c.args.formula.now.vars) (λ l. index_of l < length c.loop-i.latest)
    (λ l w. index_below l c.args.formula.now.vars (length c.args.last.now) (length c.loop-i.latest) w c.requires.last (omega (arith, c.requires.latest))) c.clause.result.now c.clause.ensures.within

pub append_clause-requires-clause-variables : goal.append_clause-requires-clause-variables
append_clause-requires-clause-variables c = All-weaker (IsWithin c.args.formula.now.vars) (λ l. var_of l < length c.loop-i.last)
    (λ l w. omega (arith, w.1, c.requires.last)) c.clause.result.now c.clause.ensures.within

pub append_clause-requires-clause-few : goal.append_clause-requires-clause-few
append_clause-requires-clause-few c =
    let fits = count_take c.args.formula.now.clauses c.loop-i.i (omega arith) in
    rw c.clause.ensures.clause (omega (arith, fits, c.loop-i.invariant.count, c.vars.ensures.valid.literals))

pub overflow_cast-len : goal.overflow_cast-len
overflow_cast-len c =
    let fits = count_take c.args.formula.now.clauses c.loop-i.i (omega arith) in
    let size = appended_count c.loop-i.places.items c.append_clause.new.places.items c.loop-i.i c.clause.result.now c.in_ok-append_clause.ensures.appends in
    let clause = ap (λ (xs : Clause). length xs) c.clause.ensures.clause in
    omega (arith, fits, size, clause, c.loop-i.invariant.count, c.vars.ensures.valid.literals, c.append_clause.new.places.ok.0, c.len.ensures)

pub loop-i-preserved : goal.loop-i-preserved
loop-i-preserved c =
    let size = appended_count c.loop-i.places.items c.append_clause.new.places.items c.loop-i.i c.clause.result.now c.in_ok-append_clause.ensures.appends in
    let clause = ap (λ (xs : Clause). length xs) c.clause.ensures.clause in
    let rows : length c.append_clause.new.last ≡ length c.loop-i.last = omega arith in
    let inside = All-weaker (IsWithin c.args.formula.now.vars) (λ l. var_of l < length c.loop-i.last) (λ l w. omega (arith, w.1, c.requires.last)) c.clause.result.now c.clause.ensures.within in
    let count : c.len.result ≡ length c.append_clause.new.places.items = c.len.ensures ∙ c.append_clause.new.places.ok.0 in
    record {
      placed = rw c.in_ok-push.ensures.items (placed_more c.args.formula.now.clauses c.loop-i.i c.len.result c.loop-i.places.items c.append_clause.new.places.items c.loop-i.starts.items c.clause.result.now c.loop-i.invariant.placed c.clause.ensures.clause c.in_ok-append_clause.ensures.appends count);
      chained = c.in_ok-append_clause.ensures.chained;
      early = λ w h. c.in_ok-append_clause.ensures.last w (omega arith);
      within = rw (rows) (appended_within c.loop-i.places.items c.append_clause.new.places.items c.loop-i.i (length c.loop-i.last) c.clause.result.now c.in_ok-append_clause.ensures.appends c.loop-i.invariant.within inside);
      count = omega (arith, size, clause, c.loop-i.invariant.count, count_more c.args.formula.now.clauses c.loop-i.i (omega arith));
    }

pub returns-clause-placed : goal.returns-clause-placed
returns-clause-placed c =
    let all : c.loop-i.i ≡ length c.args.formula.now.clauses = omega arith in
    subst (λ (n : ℕ). ArePlaced c.args.formula.now.clauses n c.loop-i.places.items c.loop-i.starts.items) all c.loop-i.invariant.placed

pub returns-clause-within : goal.returns-clause-within
returns-clause-within c = let rows : length c.args.last.now ≡ length c.loop-i.last = omega arith in rw rows c.loop-i.invariant.within
