use Rattle.std.proofs.Common.{Err, refl, ◌++◌}
use Rattle.commands.proofs.TrimLemmas.{faulty_of, some_behind}
use Rattle.commands.proofs.trim.feed_piece.Goals as goal

pub returns-in-Err : goal.returns-in-Err
returns-in-Err c = λ F bytes h.
    let taken = c.in-Err.ensures.taken F bytes h in
    let all = bytes ++ c.args.piece.now in
    faulty_of F c.feed.new.self (record { fault = c.in-Err.fault; is_binary = c.is_binary.result }) (Err c.in-Err.fault) all
    (some_behind bytes c.args.piece.now c.is_empty.result c.is_empty.ensures c.if-is_empty.false) refl
    c.in-Err.ensures.answers c.in-Err.ensures.wanting (λ uncut. c.is_binary.ensures F all taken uncut) taken
