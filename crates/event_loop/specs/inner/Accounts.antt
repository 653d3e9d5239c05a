-- How a call changes the counts of the links.
use Rattle.std.specs.Prelude.{◌≡◌, ◌≢◌, ◌≤◌, ◌+◌, ℕ}
use Rattle.links.specs.declared.arrivals.Arrivals.{Ghosts}

-- `Spends g n old new`: what a function does with its links, which are `old` before and `new` after, by their counters `g`: it makes at most
-- n calls that are counted (`hang_up` and `show` are not), and takes none back; it receives no event, and no link begins. Nothing is said of
-- refusals.
pub record Spends {A : Type 0} (g : Ghosts A) (n : ℕ) (old new : A) : Type 0 where
  -- at most n calls were made
  pub most : g.call_count new ≤ g.call_count old + n
  -- no call was taken back
  pub rises : g.call_count old ≤ g.call_count new
  -- no event came
  pub arrivals : g.arrival_count new ≡ g.arrival_count old
  -- the last event is still `Over` if it was, and else still is not
  pub over : g.has_ended new ≡ g.has_ended old
  -- no link began at any place
  pub begun : (place : ℕ) → g.link_count new place ≡ g.link_count old place

-- `Refuses g place had left old new`: by the counters `g` of links that are `old` before and `new` after, calls were refused over the link at
-- `place` alone. At most `had` calls over it could be refused before, and at most `left` can be after, so at most `had - left` were.
pub record Refuses {A : Type 0} (g : Ghosts A) (place had left : ℕ) (old new : A) : Type 0 where
  -- the refusals over the link at `place`
  pub here : g.refusal_count new place + left ≤ g.refusal_count old place + had
  -- no call over another link was refused
  pub elsewhere : (other : ℕ) → other ≢ place → g.refusal_count new other ≤ g.refusal_count old other
