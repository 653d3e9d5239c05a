-- What a token does where clauses are compared and not kept.
use Rattle.std.proofs.Common.{◌≡◌, ℕ, Bool, true, false, List, ℤ, Some, None, Result, refl, sym, ap, ◌∙◌, codes, bytes_eq}
use Rattle.std.specs.Option.{option_map}
use Rattle.std.proofs.lemmas.Slice.Eq.{bytes_eq-Decides}
use Rattle.dimacs.specs.declared.number.Number.{Number}
use Rattle.dimacs.specs.inner.Capped.{capped}
use Rattle.dimacs.specs.inner.Rows.{Gives}
use Rattle.dimacs.specs.logic.Literal.{Clause}
use Rattle.dimacs.specs.text.Numbers.{number}
use Rattle.icnf.specs.declared.fault.IcnfFault.{IcnfFault}
use Rattle.icnf.specs.declared.fault.Kind.TheVariants.{BadToken}
use Rattle.icnf.specs.declared.tree_body.TreeBody.{TreeBody}
use Rattle.icnf.specs.Parser.{no_memory, fault}
use Rattle.icnf.specs.inner.TreeBody.{take_mark, take_number, take_token}
use Rattle.icnf.proofs.BodyLemmas.{no_number, some_number}

-- the word a is no number
mark_or_number : (word : List ℕ) (b : Bool) → bytes_eq word (codes "a") ≡ b → (z : ℤ) → number word ≡ Some z → b ≡ false
mark_or_number word false e z n = refl
mark_or_number word true e z n =
    let is : word ≡ codes "a" = (bytes_eq-Decides word (codes "a")).0 e in
    let none : None ≡ Some z = ap number (sym is) ∙ n in
    absurd (cc)

module _ (clauses : List Clause) (line : ℕ) (word : List ℕ) (s new : TreeBody) (r : Result (Unit {0}) IcnfFault) where
  pub taken_mark : bytes_eq word (codes "a") ≡ true → Gives no_memory new r (take_mark line s.walk.stage s) → Gives no_memory new r (take_token clauses line word s)
  unfolding take_token
  taken_mark e h = rw e h

  pub taken_number : (n : Number) → Some n ≡ option_map capped (number word) → ((z : ℤ) → n ≡ capped z → Gives no_memory new r (take_number clauses line z s.walk.stage s)) → Gives no_memory new r (take_token clauses line word s)
  unfolding take_token
  taken_number n found h =
      let z = some_number (number word) n found in
      let is = z.1 in
      let e = mark_or_number word (bytes_eq word (codes "a")) refl z.0 is in
      rw (e, is) (h z.0 z.2)

pub taken_bad : (clauses : List Clause) (line : ℕ) (word : List ℕ) (s : TreeBody) → bytes_eq word (codes "a") ≡ false → None ≡ option_map capped (number word) → take_token clauses line word s ≡ fault BadToken line
unfolding take_token
taken_bad clauses line word s e none = rw (e, no_number (number word) none) refl
