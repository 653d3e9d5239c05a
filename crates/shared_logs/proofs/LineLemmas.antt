-- What is said of each line of a log at the time of its clock, by recursion along the lines.
use Rattle.std.proofs.Common.{◌≡◌, ℕ, ◌≤◌, List, [], ◌∷◌, ◌++◌, fold, refl, ap, subst, arith}
use Rattle.shared_logs.specs.SharedLogs.{SharedStep, Lemma, Import, Deletion, Clock, SharedLogState, HasLine, AreSharedSteps, IsSharedStep, after_line, clock_after}

-- what P says of a line and its time holds of each of these lines, if the first stands at this time
abbrev pub AllLines : (SharedStep → ℕ → Type 0) → ℕ → List SharedStep → Type 0
AllLines P clock [] = Unit {0}
AllLines P clock (line ∷ lines) = P line clock × AllLines P (clock_after clock line) lines

pub all_lines : (P : SharedStep → ℕ → Type 0) (clock : ℕ) (lines : List SharedStep)
    → ((before after : List SharedStep) (line : SharedStep) → lines ≡ before ++ line ∷ after → P line (fold clock_after clock before)) → AllLines P clock lines
all_lines P clock [] h = tt
all_lines P clock (line ∷ lines) h = (
  h [] lines line refl,
  all_lines P (clock_after clock line) lines (λ before after x e. h (line ∷ before) after x (ap (λ (ls : List SharedStep). line ∷ ls) e)),
)

line_at : (P : SharedStep → ℕ → Type 0) (clock : ℕ) (before after : List SharedStep) (line : SharedStep) → AllLines P clock (before ++ line ∷ after) → P line (fold clock_after clock before)
line_at P clock [] after line h = h.0
line_at P clock (x ∷ before) after line h = line_at P (clock_after clock x) before after line h.1

-- what holds of each line holds of a line that the log has
pub line_holds : (P : SharedStep → ℕ → Type 0) (steps : List SharedStep) (line : SharedStep) (time : ℕ) → AllLines P 0 steps → HasLine steps line time → P line time
line_holds P steps line time h has =
    subst (P line) has.clock (line_at P 0 has.before has.after line (subst (AllLines P 0) has.splits h))

-- clocks rise
rises : (m : ℕ) (s : SharedLogState) (line : SharedStep) → IsSharedStep m s line → s.clock ≤ clock_after s.clock line
rises m s (Lemma number C hints) h = omega arith
rises m s (Import number C name there) h = omega arith
rises m s (Deletion numbers) h = omega arith
rises m s (Clock time) h = omega arith

pub clocks_rise : (m : ℕ) (s : SharedLogState) (before after : List SharedStep) → AreSharedSteps m s (before ++ after) → s.clock ≤ fold clock_after s.clock before
clocks_rise m s [] after h = omega arith
clocks_rise m s (line ∷ before) after h =
    let here = rises m s line h.0 in
    let later = clocks_rise m (after_line s line) before after h.1 in
    omega arith
