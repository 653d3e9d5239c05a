use Rattle.std.proofs.Common.{◌≡◌, ◌∙◌, ap, subst, sym, length, arith, ℕ, ◌<◌, ◌++◌, List, get_or, IsSome, take, drop, ◌-◌}
use Rattle.std.specs.FinMap.{get}
use Rattle.clause_arena.specs.declared.reference.Ref.{Ref}
use Rattle.clause_arena.specs.Clauses.{Clauses}
use Rattle.clause_arena.specs.Slots.{Slots}
use Rattle.clause_arena.specs.Contents.{contents}
use Rattle.clause_arena.specs.inner.Contents.{slot_of, IsPlaced, IsArena}
use Rattle.clause_arena.specs.Compaction.{IsCompacted}
use Rattle.clause_arena.specs.inner.Relocation.{refs_of, relocated, moves_from, moved_by}
use Rattle.clause_arena.proofs.CompactionLemmas.{arena-compacted, compacted, refs_placed, moves_live, moves_placed, lent}
use Rattle.clause_arena.proofs.arena.Arena.compact.Goals as goal

pub relocate_all-requires : goal.relocate_all-requires
relocate_all-requires c =
    let refs = c.deref-2.ensures.value ∙ c.in_ok-list.ensures.listed ∙ ap (λ xs. xs ++ refs_of c.self.inside.index) c.new-refs.ensures.items in
    let P : List Ref → Type 0 = λ xs. (i : ℕ) (d : Ref) → i < length xs → IsPlaced c.deref.result.now (slot_of (get_or xs i d)) in
    subst P (sym refs)
    (subst (λ ws. (i : ℕ) (d : Ref) → i < length (refs_of c.self.inside.index) → IsPlaced ws (slot_of (get_or (refs_of c.self.inside.index) i d))) (sym c.deref.ensures.value)
    (refs_placed c.self.inside.literals.items c.self.inside.index c.self.invariant))

pub move_all-requires-clause-live : goal.move_all-requires-clause-live
move_all-requires-clause-live c =
    let refs = c.deref-2.ensures.value ∙ c.in_ok-list.ensures.listed ∙ ap (λ xs. xs ++ refs_of c.self.inside.index) c.new-refs.ensures.items in
    let before : c.len-before.result ≡ length c.args.moved.now.items = omega arith in
    let is = lent c.deref-in-Ok.result.now c.args.moved.now.items (moves_from 0 (refs_of c.self.inside.index)) c.len-before.result before
    (c.deref-in-Ok.ensures.value ∙ c.in-Ok.ensures.moves ∙ ap (λ xs. c.args.moved.now.items ++ moves_from 0 xs) refs) in
    let P : List (Ref × Ref) → Type 0 = λ xs. (i : ℕ) (d : Ref × Ref) → i < length xs → IsSome (get c.self.inside.index (get_or xs i d).1.number) in
    let told = take (length c.deref-in-Ok.result.now - c.len-before.result) (drop c.len-before.result c.deref-in-Ok.result.now) in
    subst (λ (m : Slots). (i : ℕ) (d : Ref × Ref) → i < length told → IsSome (get m (get_or told i d).1.number)) (sym c.list.ensures.same)
    (subst P (sym is) (moves_live c.self.inside.literals.items c.self.inside.index c.self.invariant))

pub move_all-requires-clause-room : goal.move_all-requires-clause-room
move_all-requires-clause-room c =
    let refs = c.deref-2.ensures.value ∙ c.in_ok-list.ensures.listed ∙ ap (λ xs. xs ++ refs_of c.self.inside.index) c.new-refs.ensures.items in
    let before : c.len-before.result ≡ length c.args.moved.now.items = omega arith in
    let is = lent c.deref-in-Ok.result.now c.args.moved.now.items (moves_from 0 (refs_of c.self.inside.index)) c.len-before.result before
    (c.deref-in-Ok.ensures.value ∙ c.in-Ok.ensures.moves ∙ ap (λ xs. c.args.moved.now.items ++ moves_from 0 xs) refs) in
    let literals = c.in-Ok.ensures.literals ∙ ap (λ ws. relocated ws c.deref-2.result.now) c.deref.ensures.value ∙ ap (relocated c.self.inside.literals.items) refs in
    let P : List (Ref × Ref) → Type 0 = λ xs. (i : ℕ) (d : Ref × Ref) → i < length xs → (get_or xs i d).1.place < 4294967295 in
    subst P (sym is) (λ i d lt. omega (arith, moves_placed c.self.inside.literals.items c.self.inside.index c.self.invariant i d lt, ap length literals, c.in-Ok.fresh.ok.0, c.in-Ok.ensures.few))

pub invariant_of-self-in-Ok : goal.invariant_of-self-in-Ok
invariant_of-self-in-Ok c =
    let refs = c.deref-2.ensures.value ∙ c.in_ok-list.ensures.listed ∙ ap (λ xs. xs ++ refs_of c.self.inside.index) c.new-refs.ensures.items in
    let before : c.len-before.result ≡ length c.args.moved.now.items = omega arith in
    let is = lent c.deref-in-Ok.result.now c.args.moved.now.items (moves_from 0 (refs_of c.self.inside.index)) c.len-before.result before
    (c.deref-in-Ok.ensures.value ∙ c.in-Ok.ensures.moves ∙ ap (λ xs. c.args.moved.now.items ++ moves_from 0 xs) refs) in
    let literals = c.in-Ok.ensures.literals ∙ ap (λ ws. relocated ws c.deref-2.result.now) c.deref.ensures.value ∙ ap (relocated c.self.inside.literals.items) refs in
    let index = c.move_all.ensures ∙ ap (λ (m : Slots). moved_by m (take (length c.deref-in-Ok.result.now - c.len-before.result) (drop c.len-before.result c.deref-in-Ok.result.now))) c.list.ensures.same ∙ ap (moved_by c.self.inside.index) is in
    subst (λ ws. IsArena ws c.move_all.new.self) (sym literals)
    (subst (λ m. IsArena (relocated c.self.inside.literals.items (refs_of c.self.inside.index)) m) (sym index)
    (arena-compacted c.self.inside.literals.items c.self.inside.index c.self.invariant))

pub returns-in-Ok-clause-ok : goal.returns-in-Ok-clause-ok
returns-in-Ok-clause-ok c =
    let refs = c.deref-2.ensures.value ∙ c.in_ok-list.ensures.listed ∙ ap (λ xs. xs ++ refs_of c.self.inside.index) c.new-refs.ensures.items in
    let before : c.len-before.result ≡ length c.args.moved.now.items = omega arith in
    let told = c.in-Ok.ensures.moves ∙ ap (λ xs. c.args.moved.now.items ++ moves_from 0 xs) refs in
    let is = lent c.deref-in-Ok.result.now c.args.moved.now.items (moves_from 0 (refs_of c.self.inside.index)) c.len-before.result before (c.deref-in-Ok.ensures.value ∙ told) in
    let literals = c.in-Ok.ensures.literals ∙ ap (λ ws. relocated ws c.deref-2.result.now) c.deref.ensures.value ∙ ap (relocated c.self.inside.literals.items) refs in
    let index = c.move_all.ensures ∙ ap (λ (m : Slots). moved_by m (take (length c.deref-in-Ok.result.now - c.len-before.result) (drop c.len-before.result c.deref-in-Ok.result.now))) c.list.ensures.same ∙ ap (moved_by c.self.inside.index) is in
    let new = ap (λ ws. contents ws c.move_all.new.self) literals ∙ ap (contents (relocated c.self.inside.literals.items (refs_of c.self.inside.index))) index in (
      moves_from 0 (refs_of c.self.inside.index),
      told,
      subst (λ (m : Clauses). IsCompacted m (contents c.in-Ok.fresh.items c.move_all.new.self) (moves_from 0 (refs_of c.self.inside.index))) c.self.view_is
          (subst (λ (m : Clauses). IsCompacted (contents c.self.inside.literals.items c.self.inside.index) m (moves_from 0 (refs_of c.self.inside.index))) (sym new)
          (compacted c.self.inside.literals.items c.self.inside.index c.self.invariant)),
    )
