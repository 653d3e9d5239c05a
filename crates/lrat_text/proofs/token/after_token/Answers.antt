use Rattle.std.proofs.Common.{◌+◌, ap, ◌∙◌, arith}
use Rattle.lrat_text.specs.Parser.{line_tokens}
use Rattle.lrat_text.proofs.TokenLemmas.{tail_is, tokens_behind}
use Rattle.lrat_text.proofs.token.after_token.Goals as goal

pub returns-then-len-text-clause-tokens : goal.returns-then-len-text-clause-tokens
returns-then-len-text-clause-tokens c =
    ap line_tokens (tail_is c.args.text.now (c.args.len + 1)) ∙ tokens_behind c.args.text.now c.args.len c.requires.len (omega arith)
