use Rattle.shared_lines.proofs.ByteLemmas.{match_weaker, no_front, with_front}
use Rattle.shared_lines.proofs.bytes.after_prefix.Goals as goal

pub returns : goal.returns
returns c = match_weaker c.strip_prefix.result _ _ (no_front c.args.text.now c.args.front.now) (λ x h. with_front c.args.text.now c.args.front.now x.now h.0 h.1) c.strip_prefix.ensures.cases
