use Rattle.std.proofs.Common.{◌≡◌, List, ℕ, [], take, sym, ◌∙◌, subst}
use Rattle.std.specs.Io.KnownBytes.{Consumes}
use Rattle.commands.specs.inner.Texts.{held, left}
use Rattle.commands.proofs.TextLemmas.{none_held, read_end_proof, read_kept_proof, read_more_proof}
use Rattle.commands.proofs.check_session.feed_proof.Goals as goal

pub returns-else-is_empty-clause-read : goal.returns-else-is_empty-clause-read
returns-else-is_empty-clause-read g c = λ L e p l h.
    let rest = g.S.Read.remaining in
    let mid = left rest c.fill.new.self in
    let end = left rest c.take.new.self in
    let n = c.feed_proof-taken.result in
    let more : Consumes mid end (take n c.held-else-is_empty.result.now) =
    subst (λ (bs : List ℕ). Consumes mid end (take n bs)) (sym c.held-else-is_empty.ensures) c.take.ensures.taken in
    read_more_proof L e p l mid end c.args.check.now c.feed_proof-taken.new.self (take n c.held-else-is_empty.result.now) more c.feed_proof-taken.ensures.ends (c.feed_proof-taken.ensures.taken L)
    (read_kept_proof L e p l (left rest c.args.proof.now) mid c.args.check.now c.in_ok-fill.ensures.kept h)

pub returns-then-is_empty-clause-read : goal.returns-then-is_empty-clause-read
returns-then-is_empty-clause-read g c = λ L e p l h.
    let rest = g.S.Read.remaining in
    let mid = left rest c.fill.new.self in
    let none : held c.fill.new.self ≡ [] = sym c.held.ensures ∙ none_held c.held.result.now (sym c.is_empty.ensures ∙ c.if-is_empty.true) in
    read_end_proof L e p l mid c.args.check.now c.end_proof.new.self (c.in_ok-fill.ensures.ended none) c.end_proof.ensures.events (c.end_proof.ensures.taken L)
    (read_kept_proof L e p l (left rest c.args.proof.now) mid c.args.check.now c.in_ok-fill.ensures.kept h)
