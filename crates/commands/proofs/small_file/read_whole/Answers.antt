use Rattle.std.proofs.Common.{◌≤◌, ℕ, List, [], false, arith}
use Rattle.commands.specs.inner.Cover.{IsSmall, IsTextOf}
use Rattle.commands.specs.inner.Feed.{Extends}
use Rattle.commands.proofs.OfLemmas.{of_map, of_opened}
use Rattle.commands.proofs.small_file.read_whole.Goals as goal
use Rattle.commands.specs.declared.small_file.Small.{Small}

pub returns-clause-reads : goal.returns-clause-reads
returns-clause-reads g c =
    let Fed : List ℕ → Type 0 = Extends (λ bytes (s : Small). IsSmall bytes s.items.items s.is_long) (record { items = c.new.result; is_long = false }) c.feed_all.new.taker in
    of_map Fed (λ bytes. IsTextOf bytes c.ended.result) _ (λ bytes fed. c.ended.ensures bytes (fed [] (c.new.ensures.items, omega arith)))
    (of_opened Fed _ _ c.in_ok-pieces.ensures.bytes c.in_ok-feed_all.ensures.fed)
