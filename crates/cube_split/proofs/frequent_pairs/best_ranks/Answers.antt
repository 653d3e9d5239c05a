use Rattle.std.proofs.Common.{arith, ◌≡◌, ◌≢◌, ℕ, ◌<◌, ◌++◌, List, get_or, refl, subst}
use Rattle.std.proofs.lemmas.List.Elements.{All-get_or}
use Rattle.cube_split.specs.inner.Ranks.{AreLowest, closed_run, ranks_from}
use Rattle.cube_split.proofs.RankLemmas.{run_goes_on, run_ends, fresh_here, run_last, fresh_last}
use Rattle.cube_split.proofs.frequent_pairs.best_ranks.Goals as goal
use Rattle.cube_split.proofs.frequent_pairs.best_ranks.Goals.{then-key-last+in_ok-keep_run, else-key-last}

pub loop-key-preserved : goal.loop-key-preserved
loop-key-preserved c =
    let keys : List ℕ = c.args.keys.now in
    let i : ℕ = c.loop-key.key-index in
    let whole : List ℕ = ranks_from 0 0 keys in
    let seen = c.loop-key.invariant.seen.0 in
    elim c.if-key-last.branch [
      | then-key-last+in_ok-keep_run w ↦
          let ne : get_or keys i 0 ≢ c.loop-key.last = w.if-key-last.true in
          let fresh = fresh_here seen c.loop-key.last c.loop-key.count keys i (get_or keys i 0) whole c.loop-key-test.true refl ne c.loop-key.invariant.seen.2 c.requires.apart in
          rw (w.best-is, w.last-is, w.count-is) (record {
            count = omega arith;
            small = All-get_or (λ k. k < 72057594037927936) keys i 0 c.loop-key-test.true c.requires.below;
            seen = (
              seen ++ closed_run c.loop-key.last c.loop-key.count,
              w.in_ok-keep_run.ensures seen c.loop-key.invariant.seen.1 fresh,
              run_ends seen c.loop-key.last c.loop-key.count keys i (get_or keys i 0) whole c.loop-key-test.true refl ne c.loop-key.invariant.seen.2,
            );
          })
      | else-key-last w ↦
          let e : get_or keys i 0 ≡ c.loop-key.last = w.if-key-last.false in
          rw (w.best-is, w.last-is, w.count-is) (record {
            count = omega (arith, c.loop-key.invariant.count);
            small = c.loop-key.invariant.small;
            seen = (
              seen,
              c.loop-key.invariant.seen.1,
              run_goes_on seen c.loop-key.last c.loop-key.count keys i (get_or keys i 0) whole c.loop-key-test.true refl e c.loop-key.invariant.seen.2,
            );
          })
    ]

pub returns : goal.returns
returns c =
    let keys : List ℕ = c.args.keys.now in
    let whole : List ℕ = ranks_from 0 0 keys in
    let seen = c.loop-key.invariant.seen.0 in
    let all = run_last seen c.loop-key.last c.loop-key.count keys c.loop-key.key-index whole c.loop-key-test.false c.loop-key.invariant.seen.2 in
    subst (λ (rs : List ℕ). AreLowest c.args.limit rs c.keep_run-2.new.best.items) all
    (c.in_ok-keep_run-2.ensures seen c.loop-key.invariant.seen.1 (fresh_last seen c.loop-key.last c.loop-key.count whole all c.requires.apart))
