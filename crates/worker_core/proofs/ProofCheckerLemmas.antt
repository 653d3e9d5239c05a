-- The checker of a candidate's bytes, over plain values.
use Rattle.std.proofs.Common.{◌≡◌, ℕ, ◌+◌, ◌≤◌, List, ◌++◌, length, take, drop, Option, Some, None, sym, ap, ◌∙◌, subst, arith}
use Rattle.std.proofs.lemmas.List.{length-append, take-append-le, take_all}
use Rattle.std.proofs.Math.Seq.{take-add}
use Rattle.std.specs.Option.{IfSome}
use Rattle.dimacs.specs.logic.Cnf.{Cnf}
use Rattle.lrat_check.specs.Stream.{HasTaken}
use Rattle.worker_core.specs.inner.Invariant.{ChecksPrefix, HasTakenPrefix}
use Rattle.worker_core.specs.declared.proof_checker.ProofChecker.{ProofChecker}

-- a prefix of the bytes is one of more bytes
pub follows_longer : (F : Cnf) (o : Option ProofChecker) (bytes more : List ℕ) → ChecksPrefix F o bytes → ChecksPrefix F o (bytes ++ more)
follows_longer F None bytes more h = tt
follows_longer F (Some f) bytes more h = record {
  within = omega (arith, h.within, length-append bytes more);
  front = subst (HasTaken F f.stream) (sym (take-append-le f.taken bytes more h.within)) h.front;
}

-- all the bytes are a prefix
pub all_behind : (F : Cnf) (f : ProofChecker) (bytes : List ℕ) → f.taken ≡ length bytes → HasTaken F f.stream bytes → HasTakenPrefix F f bytes
all_behind F f bytes all taken = record {
  within = omega (arith, all);
  front = subst (HasTaken F f.stream) (sym (take_all f.taken bytes (omega (arith, all)))) taken;
}

-- the same of a checker that may be missing
pub all_behind_if : (F : Cnf) (o : Option ProofChecker) (bytes : List ℕ) → IfSome o (λ (f : ProofChecker). (f.taken ≡ length bytes) × HasTaken F f.stream bytes) → ChecksPrefix F o bytes
all_behind_if F None bytes h = tt
all_behind_if F (Some f) bytes h = all_behind F f bytes h.0 h.1

-- a prefix that is not shorter is all the bytes
pub all_taken : (F : Cnf) (f : ProofChecker) (bytes : List ℕ) → length bytes ≤ f.taken → HasTakenPrefix F f bytes → HasTaken F f.stream bytes
all_taken F f bytes all h = subst (HasTaken F f.stream) (take_all f.taken bytes all) h.front

-- a prefix, and the block after it
pub one_block : (F : Cnf) (f g : ProofChecker) (bytes block : List ℕ) (count : ℕ) → block ≡ take count (drop f.taken bytes) → g.taken ≡ f.taken + count → g.taken ≤ length bytes
    → ((front : List ℕ) → HasTaken F f.stream front → HasTaken F g.stream (front ++ block)) → HasTakenPrefix F f bytes → HasTakenPrefix F g bytes
one_block F f g bytes block count is further within feeds h = record {
  within = within;
  front = subst (HasTaken F g.stream)
      (ap (λ (b : List ℕ). take f.taken bytes ++ b) is ∙ sym (take-add f.taken count bytes) ∙ ap (λ (n : ℕ). take n bytes) (sym further))
      (feeds (take f.taken bytes) h.front);
}
