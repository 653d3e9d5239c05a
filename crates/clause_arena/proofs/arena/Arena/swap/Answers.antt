use Rattle.std.proofs.Common.{◌≡◌, ◌+◌, ◌∙◌, ap, subst, sym, length, swap, arith}
use Rattle.std.specs.FinMap.{insert}
use Rattle.std.proofs.lemmas.List.{with_items_is}
use Rattle.clause_arena.specs.Contents.{contents, clause_at}
use Rattle.clause_arena.specs.inner.Contents.{slot_of, IsPlaced, IsArena}
use Rattle.clause_arena.proofs.ContentLemmas.{here, placed_here}
use Rattle.clause_arena.proofs.SwapLemmas.{arena-swap, contents-swap}
use Rattle.clause_arena.proofs.arena.Arena.swap.Goals as goal

pub exchange-requires-clause-placed : goal.exchange-requires-clause-placed
exchange-requires-clause-placed c =
    subst (λ ws. IsPlaced ws (slot_of c.args.at)) (sym c.deref_mut.ensures.value)
    (placed_here c.self.inside.literals.items c.self.inside.index c.args.self.now c.self.view_is c.self.invariant c.args.at c.requires.live)

pub invariant_of-self : goal.invariant_of-self
invariant_of-self c =
    let s : length c.exchange.new.literals ≡ c.self.inside.literals.len = omega arith in
    let e = with_items_is c.self.inside.literals c.exchange.new.literals s ∙ c.exchange.ensures ∙ ap (λ ws. swap ws (c.args.at.place + c.args.i) (c.args.at.place + c.args.j)) c.deref_mut.ensures.value in
    let h = here c.self.inside.literals.items c.self.inside.index c.args.self.now c.self.view_is c.self.invariant c.args.at c.requires.live.0 c.requires.live.1 in
    subst (λ ws. IsArena ws c.self.inside.index) (sym e)
    (arena-swap c.self.inside.literals.items c.self.inside.index c.self.invariant c.args.at.number (slot_of c.args.at) h.slot c.args.i c.args.j c.requires.i_in c.requires.j_in)

pub returns : goal.returns
returns c = λ C st.
    let s : length c.exchange.new.literals ≡ c.self.inside.literals.len = omega arith in
    let e = with_items_is c.self.inside.literals c.exchange.new.literals s ∙ c.exchange.ensures ∙ ap (λ ws. swap ws (c.args.at.place + c.args.i) (c.args.at.place + c.args.j)) c.deref_mut.ensures.value in
    let h = here c.self.inside.literals.items c.self.inside.index c.args.self.now c.self.view_is c.self.invariant c.args.at C st in
    ap (λ ws. contents ws c.self.inside.index) e
    ∙ contents-swap c.self.inside.literals.items c.self.inside.index c.self.invariant c.args.at.number (slot_of c.args.at) h.slot c.args.i c.args.j c.requires.i_in c.requires.j_in
    ∙ ap (λ m. insert m c.args.at.number (c.args.at.place, swap (clause_at c.self.inside.literals.items (slot_of c.args.at)) c.args.i c.args.j)) c.self.view_is
    ∙ ap (λ D. insert c.args.self.now c.args.at.number (c.args.at.place, swap D c.args.i c.args.j)) h.literals
