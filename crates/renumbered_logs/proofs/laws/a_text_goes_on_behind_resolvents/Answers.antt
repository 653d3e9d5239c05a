use Rattle.renumbered_logs.proofs.WholeLemmas.{same_steps, whole_spelled, number_of_all, whole_closes}
use Rattle.renumbered_logs.proofs.laws.a_text_goes_on_behind_resolvents.Goals as goal

pub returns-clause-same : goal.returns-clause-same
returns-clause-same c = λ F all kept numbers gone before log new a few k g steps s. same_steps F all kept numbers gone before a k log new few g steps s

pub returns-clause-spelled : goal.returns-clause-spelled
returns-clause-spelled c = λ F all kept numbers gone before log new a few k g number steps s. whole_spelled F all kept numbers gone before a k log new few g steps s number

pub returns-clause-numbered : goal.returns-clause-numbered
returns-clause-numbered c = λ F all kept numbers gone before log new a few k g steps s h some. number_of_all F all kept numbers gone before a k log new few g steps s h some

pub returns-clause-closes : goal.returns-clause-closes
returns-clause-closes c = λ F all kept numbers gone before log new a few k g h. whole_closes F all kept numbers gone before a k log new few g h
