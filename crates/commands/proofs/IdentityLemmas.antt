-- What is said of a program by a note, if their bytes are known or not.
use Rattle.std.proofs.Common.{◌≡◌, ◌≤◌, inl, inr, Vec, Global, ◌-◌, ℕ, true, List, Option, Some, None, Result, Ok, Err, IfOk, nat_eq, codes, length, take, refl, sym, subst}
use Rattle.std.specs.List.{ends_with}
use Rattle.commands.specs.Identity.{TellsIdentity, digest_end, identity_text, proved_text}
use Rattle.commands.specs.Identity.TellsIdentity.{unread, read}
use Rattle.commands.specs.Cover.{most_bytes}
use Rattle.commands.specs.Known.{HoldsOf}
use Rattle.commands.specs.declared.small_file.SmallText.{SmallText}
use Rattle.commands.specs.declared.small_file.SmallText.TheVariants.{Whole}
use Rattle.commands.specs.inner.Cover.{IsText}
use Rattle.sha2.specs.Sha256.{sha256}

-- a note whose last line is the digest is told by the lines before
pub told_by_front : (told digest end : List ℕ) → end ≡ digest_end digest → ends_with nat_eq told end ≡ true
    → proved_text (take (length told - length end) told) told ≡ identity_text told digest
told_by_front told digest end e h =
    let P : List ℕ → Type 0 = λ x. ends_with nat_eq told x ≡ true → proved_text (take (length told - length x) told) told ≡ identity_text told digest in
    subst P (sym e) (λ k. rw k refl) h

-- the line of a program of which nothing is known is said by whatever there is
pub of_unread : (known told : Option (List ℕ)) (text : List ℕ) → text ≡ codes "not known whether it is proved\n" → TellsIdentity known told text
of_unread known told text e =
    let P : List ℕ → Type 0 = λ x. TellsIdentity known told x in
    subst P (sym e) unread

-- what is said by some bytes of the program is said by what is known of them
pub of_some : (told : Option (List ℕ)) (text bytes : List ℕ) → TellsIdentity (Some bytes) told text → TellsIdentity None told text
of_some told text bytes unread = unread
of_some told text bytes (read h) = read (bytes, h)

-- if whatever bytes the program has the line is said by them, it is said by those that are known
pub of_digest : (known told : Option (List ℕ)) (text digest : List ℕ)
    → HoldsOf known (λ bytes. digest ≡ sha256 bytes)
    → ((bytes : List ℕ) → digest ≡ sha256 bytes → TellsIdentity (Some bytes) told text)
    → TellsIdentity known told text
of_digest None told text digest (bytes, e) tells = of_some told text bytes (tells bytes e)
of_digest (Some bytes) told text digest e tells = tells bytes e

-- the same of a line that may be wanting
pub if_ok_of_digest : {T E : Type 0} (r : Result T E) (items : T → List ℕ) (known told : Option (List ℕ)) (digest : List ℕ)
    → HoldsOf known (λ bytes. digest ≡ sha256 bytes)
    → ((bytes : List ℕ) → digest ≡ sha256 bytes → IfOk r (λ line. TellsIdentity (Some bytes) told (items line)))
    → IfOk r (λ line. TellsIdentity known told (items line))
if_ok_of_digest (Ok line) items known told digest h tells = of_digest known told (items line) digest h tells
if_ok_of_digest (Err e) items known told digest h tells = tt

-- a note that was read whole is its bytes
pub whole_is : (known : Option (List ℕ)) (text : SmallText) {v : Vec ℕ Global} → text ≡ Whole v → IsText known text
    → HoldsOf known (λ bytes. (v.items ≡ bytes) × (length bytes ≤ most_bytes))
whole_is known text {v} e h =
    let P : SmallText → Type 0 = λ t. IsText known t in
    elim (subst P e h) [ inl k ↦ k | inr k ↦ absurd (cc k) ]

-- the line by a note whose text was read is said by the note
pub of_note : (known : Option (List ℕ)) (line text digest program : List ℕ) (most : ℕ)
    → HoldsOf known (λ bytes. (text ≡ bytes) × (length bytes ≤ most))
    → digest ≡ sha256 program → line ≡ identity_text text digest
    → TellsIdentity (Some program) known line
of_note None line text digest program most (bytes, (e, _)) d told =
    let P : List ℕ → Type 0 = λ x. line ≡ identity_text text x in
    let Q : List ℕ → Type 0 = λ x. line ≡ identity_text x (sha256 program) in
    read (bytes, subst Q e (subst P d told))
of_note (Some bytes) line text digest program most (e, _) d told =
    let P : List ℕ → Type 0 = λ x. line ≡ identity_text text x in
    let Q : List ℕ → Type 0 = λ x. line ≡ identity_text x (sha256 program) in
    read (subst Q e (subst P d told))
