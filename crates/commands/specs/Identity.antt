-- What is known of a program by the note that was left where it was proved. A note has four lines: the commit, the kit, how the proof
-- ended, and the SHA-256 of the program in hexadecimal digits.
use Rattle.std.specs.Prelude.{◌≡◌, ◌-◌, ◌++◌, ℕ, List, [], ◌∷◌, Option, take, length, nat_eq, codes, if◌then◌else◌}
use Rattle.std.specs.List.{ends_with}
use Rattle.core.specs.Char.{is_ascii_alphanumeric}
use Rattle.hex.specs.Hex.{encode_lower}
use Rattle.sha2.specs.Sha256.{sha256}
use Rattle.commands.specs.Known.{HoldsOf}

-- how a note of a program with this digest ends: with the line of the digest
abbrev pub digest_end : List ℕ → List ℕ
digest_end digest = codes "\n" ++ encode_lower digest ++ codes "\n"

-- the lines of such a note before the last one
abbrev pub front_of : (note digest : List ℕ) → List ℕ
front_of note digest = take (length note - length (digest_end digest)) note

-- the commit: the letters and digits with which a note begins
abbrev pub commit_of : List ℕ → List ℕ
commit_of [] = []
commit_of (byte ∷ note) = if is_ascii_alphanumeric byte then byte ∷ commit_of note else []

-- what is said of a program by the lines of its note before the last one: the gate has passed, or a build has proved it
abbrev pub proved_text : (front note : List ℕ) → List ℕ
proved_text front note =
    if ends_with nat_eq front (codes ", 0 failed") then codes "proved by the gate of " ++ commit_of note ++ codes "\n"
    else if ends_with nat_eq front (codes "logic=proved") then codes "proved by a build of " ++ commit_of note ++ codes "\n"
    else codes "not proved\n"

-- what is said of a program with this digest by a note, which may be of another program
abbrev pub identity_text : (note digest : List ℕ) → List ℕ
identity_text note digest =
    if ends_with nat_eq note (digest_end digest) then proved_text (front_of note digest) note
    else codes "not proved\n"

-- what is said by the bytes of the program and of the note, if they are known; or that one of them cannot be read
pub data TellsIdentity (program note : Option (List ℕ)) : List ℕ → Type 0 where
  unread : TellsIdentity program note (codes "not known whether it is proved\n")
  read : {text : List ℕ} → HoldsOf program (λ bytes. HoldsOf note (λ n. text ≡ identity_text n (sha256 bytes))) → TellsIdentity program note text
