-- The worked text.
use Rattle.std.proofs.Common.{rules, ◌≡◌, [], ◌∷◌, refl, arith, codes, decimal}
use Rattle.std.proofs.lemmas.Fmt.{decimal_digit}
use Rattle.std.proofs.lemmas.List.Elements.{All-nil}
use Rattle.dimacs.proofs.Members.{Contains-head}
use Rattle.lrat_text.specs.Grammar.{SpellsStepWithin}
use Rattle.lrat_text.specs.Lines.{IsOpen}
use Rattle.lrat_text.specs.Parser.{body_in, first_within, hints_in, line_tokens, literals_in, step_within, token_of}
use Rattle.lrat_text.specs.declared.step.Step.TheVariants.{Add}
use Rattle.lrat_text.proofs.SpellingLemmas.{found_spells_within}
use Rattle.shared_logs.specs.Examples.{all_four, third, third_text, two}
use Rattle.shared_logs.specs.SharedLogs.{Clock, Import, Lemma}
use Rattle.shared_logs.specs.SharedText.{SpellsClock, SpellsImport, SpellsName, SpellsShared, begins, names, spells}

decimal_one : decimal 1 ≡ codes "1"
decimal_one = decimal_digit 1 (omega arith)

decimal_two : decimal 2 ≡ codes "2"
decimal_two = decimal_digit 2 (omega arith)

name_line : SpellsName (codes "w 1 b 0") 1 (codes "b")
name_line = record { spelled = rw decimal_one refl; numbered = (omega arith, omega arith); named = record { some = omega arith; short = omega arith; plain = search rules } }

clock_line : SpellsClock (codes "e 2 0") 2
clock_line = record { spelled = rw decimal_two refl; limit = omega arith }

addition : SpellsStepWithin 2000000 (codes "5 2 0 1 6 0") (Add 5 two (1 ∷ 6 ∷ []) [])
unfolding step_within first_within body_in literals_in hints_in line_tokens token_of
addition = found_spells_within 2000000 (codes "5 2 0 1 6 0") (Add 5 two (1 ∷ 6 ∷ []) []) refl

import_line : SpellsImport 2000000 (codes "5 i 2 0 1 6 0") 5 two 1 6
import_line = record { front = codes "5"; rest = codes "2 0 1 6 0"; splits = refl; one_word = search rules; addition = addition }

lemma_line : SpellsStepWithin 2000000 (codes "6 0 5 2 4 0") (Add 6 [] (5 ∷ 2 ∷ 4 ∷ []) [])
unfolding step_within first_within body_in literals_in hints_in line_tokens token_of
lemma_line = found_spells_within 2000000 (codes "6 0 5 2 4 0") (Add 6 [] (5 ∷ 2 ∷ 4 ∷ []) []) refl

name_open : IsOpen (codes "w 1 b 0")
name_open = search rules

clock_open : IsOpen (codes "e 2 0")
clock_open = search rules

import_open : IsOpen (codes "5 i 2 0 1 6 0")
import_open = search rules

lemma_open : IsOpen (codes "6 0 5 2 4 0")
lemma_open = search rules

pub third_spelled : SpellsShared all_four third_text third.steps
third_spelled =
    let a = names [] (codes "w 1 b 0") 1 (codes "b") begins name_open name_line (All-nil (λ x. x.0 ≡ 1 → ⊥)) in
    let b = spells (codes "w 1 b 0\n") (codes "e 2 0") (Clock 2) a clock_open clock_line in
    let c = spells (codes "w 1 b 0\ne 2 0\n") (codes "5 i 2 0 1 6 0") (Import 5 two (codes "b") 6) b import_open (1, Contains-head (1, codes "b") [], import_line) in
    let d = spells (codes "w 1 b 0\ne 2 0\n5 i 2 0 1 6 0\n") (codes "6 0 5 2 4 0") (Lemma 6 [] (5 ∷ 2 ∷ 4 ∷ [])) c lemma_open lemma_line in
    ((1, codes "b") ∷ [], d)
