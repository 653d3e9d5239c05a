-- Counts at the beginning.
use Rattle.std.proofs.Common.{◌≡◌, ℕ, zero, suc, replicate, get_or, refl}

-- a list of one repeated number has that number everywhere, which is also the default
pub same_everywhere : (x n p : ℕ) → get_or (replicate n x) p x ≡ x
same_everywhere x zero p = refl
same_everywhere x (suc n) zero = refl
same_everywhere x (suc n) (suc p) = same_everywhere x n p
