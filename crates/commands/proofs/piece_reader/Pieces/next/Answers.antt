use Rattle.std.proofs.Common.{rules, List, ℕ, take, sym, subst}
use Rattle.commands.specs.Known.{IsNext}
use Rattle.commands.proofs.NextLemmas.{next_is}
use Rattle.commands.proofs.piece_reader.Pieces.next.Goals as goal

pub returns : goal.returns
returns g c =
    let n = c.in_ok-len.len in
    let P : List ℕ → Type 0 = λ bytes. IsNext (g.S.Read.remaining c.args.self.now.source) (take n bytes) in
    record { next = subst P (sym c.deref.ensures.value) (next_is _ _ n c.read.new.self.room.items c.in_ok-len.ensures.consumed c.in_ok-len.ensures.ended (search rules)); refused = tt }
