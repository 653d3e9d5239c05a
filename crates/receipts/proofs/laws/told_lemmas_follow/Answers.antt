use Rattle.receipts.proofs.LawLemmas.{told_follow}
use Rattle.receipts.proofs.laws.told_lemmas_follow.Goals as goal

pub returns : goal.returns
returns c = told_follow
