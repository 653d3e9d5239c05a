use Rattle.std.proofs.Common.{length}
use Rattle.drat_forms.proofs.form.+form_behind_digits.Given as goal

abbrev pub decreases-form_behind_digits : goal.decreases-form_behind_digits
decreases-form_behind_digits l = length l.bytes.now
