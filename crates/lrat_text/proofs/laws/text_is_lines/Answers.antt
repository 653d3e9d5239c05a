use Rattle.lrat_text.proofs.LineLemmas.{spelled_read, read_spelled}
use Rattle.lrat_text.proofs.laws.text_is_lines.Goals as goal

pub returns-clause-read : goal.returns-clause-read
returns-clause-read c = spelled_read

pub returns-clause-spelled : goal.returns-clause-spelled
returns-clause-spelled c = read_spelled
