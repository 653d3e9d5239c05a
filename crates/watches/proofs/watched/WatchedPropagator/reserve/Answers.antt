use Rattle.std.proofs.Common.{◌≡◌, ℕ, ◌+◌, ◌*◌, ◌/◌, List, [], length, sym, ap, subst, arith}
use Rattle.std.specs.List.{All}
use Rattle.clause_arena.specs.declared.reference.Ref.{Ref}
use Rattle.watches.specs.inner.LiveClauses.{IsLiveWithin}
use Rattle.watches.specs.inner.WatchInvariants.{AreWatching, fresh_watches}
use Rattle.watches.specs.Watches.{attached_of}
use Rattle.watches.specs.inner.WatchLists.{next_of}
use Rattle.watches.proofs.ReadyLemmas.{nothing_watched}
use Rattle.watches.proofs.watched.WatchedPropagator.reserve.Goals as goal

pub returns-clause-ready : goal.returns-clause-ready
returns-clause-ready c = λ m t e v.
    let lists = 2 * c.args.vars + 2 in
    let base = 2 * lists in
    let half : lists ≡ base / 2 = omega arith in
    let ps = c.put_cells.new.places.items in
    let none : [] ≡ attached_of c.clear.new.self.items c.clear-2.new.self.items = ap (λ (cs : List Ref). attached_of cs c.clear-2.new.self.items) (sym c.clear.ensures.items) in
    let empty = nothing_watched ps base m t (omega arith) (omega arith) c.put_cells.ensures.long
    (λ l b. c.put_cells.ensures.heads l (omega (arith, half)))
    (λ l b. subst (λ n. next_of ps (n + l) ≡ l) half (c.put_cells.ensures.lasts l (omega (arith, half)))) in
    record {
      wide = omega arith;
      here = subst (All (IsLiveWithin m t.vars)) none (λ i d l. absurd (omega arith));
      watching = λ _. subst (λ (cs : List Ref). AreWatching (fresh_watches ps cs base 0) m t) none
          (subst (λ (n : ℕ). AreWatching (fresh_watches ps [] base n) m t) (ap length e) ((λ _. []), empty));
    }
