-- The lines of a proof that were found go together, in memory and in its file.
use Rattle.std.specs.Prelude.{◌≡◌, ◌++◌, ℕ, Bool, List, [], Option, Some, None, refl}
use Rattle.std.proofs.Common.{sym, ap, subst}
use Rattle.commands.specs.declared.drafts.Target.{Target}
use Rattle.commands.specs.declared.part_file.Part.{Part}
use Rattle.commands.specs.inner.FoundProof.{HasText}
use Rattle.commands.specs.inner.Parts.{IsPart}

module _ {F : Type 0} (made : F → List ℕ → List ℕ → Type 0) (t : Target) where
  pub has_none : (part : Option (Part F)) (held : List ℕ) → part ≡ None → held ≡ [] → HasText made t [] part held
  has_none part held e none =
      let P : Option (Part F) → Type 0 = λ p. HasText made t [] p held in
      subst P (sym e) none

  -- what is in memory
  pub has_held : (text : List ℕ) (part : Option (Part F)) (held : List ℕ) → part ≡ None → HasText made t text part held → held ≡ text
  has_held text part held e h =
      let P : Option (Part F) → Type 0 = λ p. HasText made t text p held in
      subst P e h

  -- what is in the file
  pub has_part : (text : List ℕ) (part : Option (Part F)) (held : List ℕ) (p : Part F) → part ≡ Some p → HasText made t text part held → IsPart made t.binary t.path.now text p
  has_part text part held p e h =
      let P : Option (Part F) → Type 0 = λ o. HasText made t text o held in
      subst P e h

  -- the same target by another name
  pub has_at : (u : Target) (text : List ℕ) (part : Option (Part F)) (held : List ℕ) → t.binary ≡ u.binary → t.path.now ≡ u.path.now → HasText made t text part held → HasText made u text part held
  has_at u text None held binary path h = h
  has_at u text (Some p) held binary path h =
      let P : Bool → Type 0 = λ b. IsPart made b t.path.now text p in
      let Q : List ℕ → Type 0 = λ n. IsPart made u.binary n text p in
      subst Q path (subst P binary h)
