use Rattle.std.proofs.Common.{◌<◌, sym, subst, arith}
use Rattle.watches.proofs.TwinLemmas.{xor_one}
use Rattle.watches.proofs.watched.watch_lists.WatchLists.other_literal.Goals as goal

pub index-requires : goal.index-requires
index-requires c = subst (λ n. n < c.args.self.now.places.len) (sym (xor_one c.args.at)) (omega (arith, c.requires, c.args.self.now.places.ok.0))
