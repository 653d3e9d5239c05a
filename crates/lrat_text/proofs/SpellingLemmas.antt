-- A line is read as the step that it spells.
use Rattle.std.proofs.Common.{◌≡◌, ℕ, ◌-◌, ◌<◌, ◌^◌, Bool, true, false, not, ◌&&◌, ◌==◌, nat_lt, cond, List, map, length, slice_index, Result, Ok, Err, refl, ap, ◌∙◌, arith, subst, OnOk}
use Rattle.std.proofs.lemmas.Bool.Decides.{nat_tests}
use Rattle.lrat_text.specs.declared.fault.TextFault.{TextFault}
use Rattle.lrat_text.specs.declared.fault.TextFault.TheVariants.{BadToken}
use Rattle.lrat_text.specs.declared.step.Step.{Step}
use Rattle.lrat_text.specs.Grammar.{tokens, IsTrimmed, SpellsStep, SpellsStepWithin}
use Rattle.lrat_text.specs.Parser.{token_of, line_tokens, first_within, is_trimmed, step_in, step_within, GivesStep}
use Rattle.lrat_text.proofs.ReadStepLemmas.{chosen_ok, first_read}
use Rattle.lrat_text.proofs.SpelledStepLemmas.{step_back}

pub both_true : (a b : Bool) → a && b ≡ true → (a ≡ true) × (b ≡ true)
both_true true b h = (refl, h)
both_true false b h = absurd (cc)

some_bytes : (n : ℕ) → nat_lt 0 n ≡ true → 0 < n
some_bytes n h = grind (arith, nat_tests)

no_space : (b : ℕ) → not (b == 32) ≡ true → b ≡ 32 → ⊥
no_space b h e = grind (arith, nat_tests)

trimmed_is : (line : List ℕ) → is_trimmed line ≡ true → IsTrimmed line
trimmed_is line h =
    let p = both_true (nat_lt 0 (length line) && not (slice_index line 0 == 32)) (not (slice_index line (length line - 1) == 32)) h in
    let q = both_true (nat_lt 0 (length line)) (not (slice_index line 0 == 32)) p.0 in
    record { some = some_bytes (length line) q.0; first = no_space (slice_index line 0) q.1; last = no_space (slice_index line (length line - 1)) p.1 }

-- what is read is spelled so
pub found_spells_within : (most : ℕ) (line : List ℕ) (step : Step) → step_within most line ≡ Ok step → SpellsStepWithin most line step
unfolding step_within line_tokens
found_spells_within most line step h =
    let q = chosen_ok (is_trimmed line) (first_within most (line_tokens line)) BadToken step h in
    let r = first_read most (tokens line) step q.1 in
    record { top = r.top; trimmed = trimmed_is line q.0; limits = r.valid; numbered = r.numbered; spelled = r.words }

is_some_bytes : (n : ℕ) → 0 < n → nat_lt 0 n ≡ true
is_some_bytes n h = grind (arith, nat_tests)

is_no_space : (b : ℕ) → (b ≡ 32 → ⊥) → not (b == 32) ≡ true
is_no_space b h = grind (arith, nat_tests)

is_trimmed_back : (line : List ℕ) → IsTrimmed line → is_trimmed line ≡ true
is_trimmed_back line h = rw (is_some_bytes (length line) h.some, is_no_space (slice_index line 0) h.first, is_no_space (slice_index line (length line - 1)) h.last) refl

-- what is spelled so is read
pub spelled_found_within : (most : ℕ) (line : List ℕ) (step : Step) → most < 2 ^ 48 → SpellsStepWithin most line step → step_within most line ≡ Ok step
unfolding step_within line_tokens
spelled_found_within most line step few h =
    let e : is_trimmed line ≡ true = is_trimmed_back line h.trimmed in
    ap (λ (b : Bool). cond b (first_within most (map token_of (tokens line))) (Err BadToken)) e
    ∙ ap (λ (ws : List (List ℕ)). first_within most (map token_of ws)) h.spelled
    ∙ step_back most few h.top step h.numbered h.limits

-- ---- calls that read a line

pub gives_spells_within : (most : ℕ) (line : List ℕ) (step : Step) (r : Result (Unit {0}) TextFault) → GivesStep step r (step_within most line) → OnOk r (SpellsStepWithin most line step)
gives_spells_within most line step (Ok u) h = found_spells_within most line step h
gives_spells_within most line step (Err f) h = tt

pub spells_gives_within : (most : ℕ) (line : List ℕ) (new : Step) (r : Result (Unit {0}) TextFault) → most < 2 ^ 48 → GivesStep new r (step_within most line) → (step : Step) → SpellsStepWithin most line step → GivesStep new r (Ok step)
spells_gives_within most line new r few h step s =
    let P : Result Step TextFault → Type 0 = λ x. GivesStep new r x in
    subst P (spelled_found_within most line step few s) h

-- ---- within the written limits

pub found_spells : (line : List ℕ) (step : Step) → step_in line ≡ Ok step → SpellsStep line step
found_spells line step h = found_spells_within 2000000 line step h

pub spelled_found : (line : List ℕ) (step : Step) → SpellsStep line step → step_in line ≡ Ok step
spelled_found line step h = spelled_found_within 2000000 line step (omega arith) h

pub gives_spells : (line : List ℕ) (step : Step) (r : Result (Unit {0}) TextFault) → GivesStep step r (step_in line) → OnOk r (SpellsStep line step)
gives_spells line step r h = gives_spells_within 2000000 line step r h

pub spells_gives : (line : List ℕ) (new : Step) (r : Result (Unit {0}) TextFault) → GivesStep new r (step_in line) → (step : Step) → SpellsStep line step → GivesStep new r (Ok step)
spells_gives line new r h step s = spells_gives_within 2000000 line new r (omega arith) h step s
