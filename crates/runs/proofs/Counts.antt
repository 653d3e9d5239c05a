-- Counters that rise.
use Rattle.std.proofs.Common.{◌≡◌, ◌≢◌, ◌≤◌, ℕ, suc, ◌+◌, ◌*◌, ◌⊎◌, inl, inr, List, [], ◌∷◌, Result, Ok, Err, OnOk, refl, ap, arith}
use Rattle.std.proofs.Math.Nat.{mul-suc, mul-le-mul_left}
use Rattle.lrat_check.specs.declared.verdict.Verdict.{Verdict}
use Rattle.lrat_check.specs.declared.verdict.Verdict.TheVariants.{Nothing}
use Rattle.runs.specs.declared.broken.Broken.{Broken}
use Rattle.runs.specs.declared.broken.Broken.TheVariants.{Closed, NoMemory}
use Rattle.runs.specs.Accounts.{RoseBy, HasBegun}
use Rattle.runs.specs.inner.Accounts.{RoseWithin, RoseUnless, one_if_none}

pub rose_on : (k a b c : ℕ) → RoseBy k a b → b ≤ c → RoseBy k a c
rose_on k a b c rose rises = elim rose [
  | inl far ↦ inl (omega (arith, far, rises))
  | inr top ↦ inr (omega (arith, top, rises))
]

pub rose_more : (j k a b c : ℕ) → RoseBy j a b → RoseBy k b c → b ≤ c → RoseBy (j + k) a c
rose_more j k a b c first second rises = elim first [
  | inl far ↦ elim second [
    | inl more ↦ inl (omega (arith, far, more))
    | inr top ↦ inr top
  ]
  | inr top ↦ inr (omega (arith, top, rises))
]

pub rose_less : (j k a b : ℕ) → RoseBy k a b → j ≤ k → RoseBy j a b
rose_less j k a b rose fewer = elim rose [
  | inl far ↦ inl (omega (arith, far, fewer))
  | inr top ↦ inr top
]

-- a frame that waited before the first receive took no call
pub heard : {A : Type 0} (items now : List A) (a b : ℕ) → a ≤ b → (now ≡ items) ⊎ RoseBy 1 a b → now ≢ [] → RoseBy (one_if_none items) a b
heard [] now a b rises either some = elim either [
  | inl same ↦ absurd (some same)
  | inr rose ↦ rose
]
heard (x ∷ items) now a b rises either some = inl (omega (arith, rises))

pub called : {A : Type 0} (items : List A) (a b : ℕ) → a ≤ b → RoseBy 1 a b → RoseBy (one_if_none items) a b
called [] a b rises rose = rose
called (x ∷ items) a b rises rose = inl (omega (arith, rises))

-- one turn of at most n calls more
pub one_more : (j k n i a b c : ℕ) → RoseWithin j (n * i) a b → RoseWithin k n b c → RoseWithin (j + k) (n * (i + 1)) a c
one_more j k n i a b c before turn = record {
  least = rose_more j k a b c before.least turn.least turn.rises;
  rises = let first = before.rises in let then = turn.rises in omega (arith, first, then);
  most =
      let so : n * suc i ≡ n * i + n = mul-suc n i in
      let so_far = before.most in
      let now = turn.most in
      omega (arith, so, so_far, now);
}

pub at_least : (k n a b : ℕ) → RoseWithin 0 n a b → RoseBy k a b → RoseWithin k n a b
at_least k n a b rose least = record { least = least; rises = rose.rises; most = rose.most }

-- fewer turns than there might be
pub within : (j k n i end a b : ℕ) → RoseWithin k (n * i) a b → j ≤ k → i ≤ end → RoseWithin j (n * end) a b
within j k n i end a b rose fewer turns = record {
  least = rose_less j k a b rose.least fewer;
  rises = rose.rises;
  most =
      let more : n * i ≤ n * end = mul-le-mul_left n turns in
      let most = rose.most in
      omega (arith, more, most);
}

-- what a worker's run knows if a broken link ended it
pub worked : {E : Type 0} (r : Result (Unit {0}) E) (broken : Broken) (a b c : ℕ) (v : Verdict) → OnOk r (broken ≡ Closed)
    → RoseBy 1 a b → b ≤ c → ((v ≡ Nothing) ⊎ (broken ≡ NoMemory) ⊎ RoseBy 2 b c) → OnOk r (HasBegun a c v)
worked (Err e) broken a b c v closed one rises two = tt
worked (Ok x) broken a b c v closed one rises two = record {
  one = rose_on 1 a b c one rises;
  three = elim two [
    | inl nothing ↦ inl nothing
    | inr rest ↦ elim rest [
      | inl memory ↦ absurd (never broken closed memory)
      | inr rose ↦ inr (rose_more 1 2 a b c one rose rises)
    ]
  ];
}
  where
    never : (broken : Broken) → broken ≡ Closed → broken ≡ NoMemory → ⊥
    never broken closed memory = cc
