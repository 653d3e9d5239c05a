use Rattle.std.proofs.Common.{◌∷◌, ◌∙◌, sym}
use Rattle.shared_lines.proofs.ByteLemmas.{no_word, word_same}
use Rattle.shared_lines.proofs.KindLemmas.{import_parts}
use Rattle.shared_lines.proofs.line_buffer.cut_import.Goals as goal

pub returns-in_default : goal.returns-in_default
returns-in_default c = λ front rest one e. no_word c.args.line.now front (105 ∷ 32 ∷ rest) c.in_default.ensures (e ∙ import_parts front rest)

pub returns-in-None : goal.returns-in-None
returns-in-None c = λ front rest one e.
    c.in-None.ensures rest
    (word_same c.in-Some.front.now front c.in-Some.later.now (105 ∷ 32 ∷ rest) c.in-Some.ensures.1 one (sym c.in-Some.ensures.0 ∙ e ∙ import_parts front rest)).1
