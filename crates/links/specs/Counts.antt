-- Counters of 64 bits that stay at 2^64 - 1.
use Rattle.std.specs.Prelude.{ℕ, ◌+◌, ◌-◌, ◌^◌, if◌then◌else◌, nat_lt, Result, Ok, Err}

-- a counter after it was raised by 1; it stays at 2^64 - 1
abbrev pub one_more : ℕ → ℕ
one_more n = if nat_lt n (2 ^ 64 - 1) then n + 1 else n

-- a counter after a call: raised by 1 if the call's answer is an error
abbrev pub one_more_if_err : {A E : Type 0} → Result A E → ℕ → ℕ
one_more_if_err (Ok x) n = n
one_more_if_err (Err e) n = one_more n
