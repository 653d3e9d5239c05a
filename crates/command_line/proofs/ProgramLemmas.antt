-- The program's rules are simple.
use Rattle.std.proofs.Common.{◌≡◌, true, refl, subst, sym}
use Rattle.clap.specs.Words.{App, is_simple_and_free}
use Rattle.command_line.specs.Program.{program}

program_is_simple : is_simple_and_free program ≡ true
program_is_simple = refl

-- rules of the program are simple
pub is_simple : (a : App) → a ≡ program → is_simple_and_free a ≡ true
is_simple a e = subst (λ (x : App). is_simple_and_free x ≡ true) (sym e) program_is_simple
