-- Names of files, as they are printed.
use Rattle.std.specs.Prelude.{◌==◌, ℕ, Bool, not, ◌&&◌, ◌||◌, List, nat_eq, nat_le, codes, if◌then◌else◌}
use Rattle.std.specs.List.{list_all, starts_with}
use Rattle.core.specs.Char.{is_ascii_alphanumeric}

-- whether a byte is printed: it is no control character; those above 127 begin with the byte 194
abbrev pub is_printed_lem : ℕ → Bool
is_printed_lem byte = nat_le 32 byte && not (byte == 127) && not (byte == 194)

-- whether a shell takes a byte as itself: a letter, a digit, or one of `/`, `.`, `_`, `-`
abbrev pub is_bare_lem : ℕ → Bool
is_bare_lem byte = is_ascii_alphanumeric byte || (byte == 47) || (byte == 46) || (byte == 95) || (byte == 45)

-- a name as it is written in a command: the name itself if a shell takes it as it is and no command takes it as an option, else `FILE`
abbrev pub command_word : List ℕ → List ℕ
command_word name =
    if list_all is_bare_lem name && not (starts_with nat_eq name (codes "-")) then name
    else codes "FILE"
