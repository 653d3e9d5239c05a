use Rattle.std.proofs.Common.{◌≡◌, ◌<◌, ◌∙◌, sym, ap, subst, [], ◌++◌, List, ℕ, length, Option}
use Rattle.std.specs.Option.{MatchOption}
use Rattle.std.specs.declared.vec.Vec.{Vec}
use Rattle.std.proofs.lemmas.List.{append-nil}
use Rattle.std.proofs.lemmas.Result.{err_from_is_err_and}
use Rattle.lrat_check.specs.Stream.{HasTaken}
use Rattle.lrat_check.proofs.Streams.{finished, stopped}
use Rattle.lrat_trim.proofs.BlockLemmas.{block_taken}
use Rattle.lrat_trim.proofs.recheck.check_packed.Goals as goal

pub returns-in_err-feed : goal.returns-in_err-feed
returns-in_err-feed c =
    let before = c.loop-stream.invariant in
    let done : List ℕ = before.0 in
    let left : List ℕ = c.loop-stream.blocks in
    let rest : List ℕ = c.next.new.self in
    let splits : left ≡ c.in-Some.block.items ++ rest = (subst (λ o. MatchOption o (left ≡ []) (λ b. (left ≡ b.items ++ rest) × (length rest < length left))) c.in-Some.is c.in_ok-block.ensures).0 in
    let whole = block_taken done left c.in-Some.block.items rest c.deref.result.now c.args.text.now before.1 splits c.deref.ensures.value in
    let p = err_from_is_err_and c.from_residual-in_err-feed.result c.from_residual-in_err-feed.ensures.1 in
    rw (p.1, p.2) (stopped c.args.formula c.feed.new.self (done ++ c.deref.result.now) rest c.args.text.now c.in_err-feed.field-0.0 (sym whole)
    (c.feed.ensures.taken.history c.args.formula done before.2) c.in_err-feed.ensures.taken.answers)

pub loop-stream-preserved : goal.loop-stream-preserved
loop-stream-preserved c =
    let before = c.loop-stream.invariant in
    let done : List ℕ = before.0 in
    let left : List ℕ = c.loop-stream.blocks in
    let rest : List ℕ = c.next.new.self in
    let splits : left ≡ c.in-Some.block.items ++ rest = (subst (λ o. MatchOption o (left ≡ []) (λ b. (left ≡ b.items ++ rest) × (length rest < length left))) c.in-Some.is c.in_ok-block.ensures).0 in
    let whole = block_taken done left c.in-Some.block.items rest c.deref.result.now c.args.text.now before.1 splits c.deref.ensures.value in
    (done ++ c.deref.result.now, whole, c.feed.ensures.taken.history c.args.formula done before.2)
