use Rattle.std.proofs.Common.{◌≡◌, ℕ, ◌<◌, get_or}
use Rattle.hmac.proofs.same.is_same.Given as goal

-- the bytes so far are equal if no bit differs, and no bit differs if the MACs are equal
abbrev pub invariant-loop-i : goal.invariant-loop-i
invariant-loop-i l = record {
  same : l.differing ≡ 0 → (k : ℕ) → k < l.i → get_or l.a k 0 ≡ get_or l.b k 0;
  none : l.a ≡ l.b → l.differing ≡ 0;
}
