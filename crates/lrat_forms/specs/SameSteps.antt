-- Texts and binary proofs that spell the same steps.
use Rattle.std.specs.Prelude.{◌≡◌, ℕ, List, ◌++◌}
use Rattle.lrat_text.specs.Grammar.{LineSpellsWithin}
use Rattle.lrat_text.specs.declared.step.Step.{Step}
use Rattle.lrat_binary.specs.Grammar.{SpellsWithin}
use Rattle.lrat_forms.specs.declared.binary_form.BinaryForm.{BinaryForm}

-- the text spells, as lines, the steps that the bytes spell in binary form, with variables up to most
abbrev pub SpellTheSameWithin : ℕ → List ℕ → List ℕ → Type 0
SpellTheSameWithin most text bytes = (steps : List Step) × LineSpellsWithin most text steps × SpellsWithin most bytes steps

-- The converter f has read this text, with variables up to most, and handed out these bytes: these bytes, and those that it has not yet
-- handed out, spell the steps that the text's complete lines spell.
pub record HasWrittenWithin (most : ℕ) (f : BinaryForm) (text bytes : List ℕ) : Type 0 where
  pub lines : List ℕ
  pub whole : text ≡ lines ++ f.begun
  pub same : SpellTheSameWithin most lines (bytes ++ f.writer.out.items)
  pub limit : f.writer.limit.most ≡ most

-- the same with variables up to 2,000,000
abbrev pub HasWritten : BinaryForm → List ℕ → List ℕ → Type 0
HasWritten f text bytes = HasWrittenWithin 2000000 f text bytes
