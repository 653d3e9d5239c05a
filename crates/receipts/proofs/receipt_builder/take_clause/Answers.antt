use Rattle.std.proofs.Common.{◌∙◌, sym}
use Rattle.receipts.proofs.KeptLemmas.{handed_none, handed_one}
use Rattle.receipts.proofs.receipt_builder.take_clause.Goals as goal

pub returns-then-not-closes-clause-handed : goal.returns-then-not-closes-clause-handed
returns-then-not-closes-clause-handed c = λ cubes lemmas h.
    handed_none cubes lemmas (record { id = c.args.number; clause = c.args.clause.now }) c.args.coverage.now c.add.new.self c.args.closing.now.items h
    (c.in-Ok.ensures.covers cubes _ h.covers) (sym (c.in-Ok.ensures.told cubes _ h.covers) ∙ c.if-not-closes.true)

pub returns-clause-handed : goal.returns-clause-handed
returns-clause-handed c = λ cubes lemmas h.
    handed_one cubes lemmas (record { id = c.args.number; clause = c.args.clause.now }) c.args.coverage.now c.add.new.self c.args.closing.now.items c.push.new.self.items c.in_ok-lemma.lemma h
    (c.in-Ok.ensures.covers cubes _ h.covers) (sym (c.in-Ok.ensures.told cubes _ h.covers) ∙ c.if-not-closes.false) c.in_ok-lemma.ensures c.in_ok-push.ensures.items
