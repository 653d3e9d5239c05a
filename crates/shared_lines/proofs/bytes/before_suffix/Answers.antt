use Rattle.shared_lines.proofs.ByteLemmas.{match_weaker, no_end, with_end}
use Rattle.shared_lines.proofs.bytes.before_suffix.Goals as goal

pub returns : goal.returns
returns c = match_weaker c.strip_suffix.result _ _ (no_end c.args.text.now c.args.end.now) (λ x h. with_end c.args.text.now c.args.end.now x.now h.0 h.1) c.strip_suffix.ensures.cases
