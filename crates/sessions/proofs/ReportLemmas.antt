-- Texts that are appended one after the other.
use Rattle.std.proofs.Common.{◌≡◌, ℕ, List, ◌++◌, Result, Ok, Err, OnOk, ◌∙◌, ap, append_assoc}
use Rattle.std.specs.declared.alloc.AllocError.{AllocError}

one_more : (o front piece mid new : List ℕ) → mid ≡ o ++ front → new ≡ mid ++ piece → new ≡ o ++ (front ++ piece)
one_more o front piece mid new is more = more ∙ ap (λ (x : List ℕ). x ++ piece) is ∙ append_assoc o front piece

pub four_more : (r : Result (Unit {0}) AllocError) (o a b c d w x y z : List ℕ) → w ≡ o ++ a → x ≡ w ++ b → y ≡ x ++ c → OnOk r (z ≡ y ++ d) → OnOk r (z ≡ o ++ (a ++ b ++ c ++ d))
four_more (Ok u) o a b c d w x y z one two three four =
    one_more o (a ++ b ++ c) d y z (one_more o (a ++ b) c x y (one_more o a b w x one two) three) four
four_more (Err e) o a b c d w x y z one two three four = tt
