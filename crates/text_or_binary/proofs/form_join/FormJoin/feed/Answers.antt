use Rattle.std.proofs.lemmas.Result.{on_ok_weaker}
use Rattle.text_or_binary.specs.declared.form_join.FormJoin.{FormJoin}
use Rattle.text_or_binary.proofs.FormLemmas.{join_fed}
use Rattle.text_or_binary.proofs.form_join.FormJoin.feed.Goals as goal

pub returns : goal.returns
returns c =
    let g : FormJoin = record { alloc = c.args.self.now.alloc; form = c.feed.new.self; join = c.feed-2.new.self } in
    on_ok_weaker c.feed-2.result (λ keeps. join_fed c.args.self.now g c.args.piece.now c.given.result.now c.feed.ensures c.given.ensures keeps) c.feed-2.ensures.holds
