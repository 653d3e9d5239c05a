use Rattle.std.proofs.Common.{refl}
use Rattle.receipts.proofs.LeavesLemmas.{on_ok}
use Rattle.receipts.proofs.TakenLemmas.{holds_none, refused_closes_none}
use Rattle.receipts.proofs.cover.Cover.take.Goals as goal

pub returns-in-Err-clause-holds : goal.returns-in-Err-clause-holds
returns-in-Err-clause-holds c = on_ok c.unread_kind.result _
    (λ taken p F cubes texts h. holds_none F cubes texts c.args.text.now c.args.self.now c.args.self.now h refl (refused_closes_none F c.args.text.now (λ r spells. p.0 (c.in-Err.ensures.only r spells))))
    c.unread_kind.ensures
