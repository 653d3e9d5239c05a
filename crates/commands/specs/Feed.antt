-- What a taker is fed of a source, and how a read that fails is told.
use Rattle.std.specs.Prelude.{◌≡◌, ◌++◌, ℕ, List, Option, Some, None}
use Rattle.commands.specs.Known.{HoldsOf}
use Rattle.commands.specs.Refusals.{IsRefusedAs}
use Rattle.reports.specs.declared.refusal.Refusal.{Refusal}
use Rattle.commands.specs.declared.feed_loop.Fed.{Fed}
use Rattle.commands.specs.declared.feed_loop.Fed.TheVariants.{Whole, Unread}

-- all bytes that the source had left were taken, from the state `old` to `new`; if they are not known, some bytes
abbrev pub IsFed : {T : Type 0} → (T → T → List ℕ → Type 0) → Option (List ℕ) → T → T → Type 0
IsFed took known old new = HoldsOf known (took old new)

-- from the state `old` to `new` all bytes that the source had left were taken, or, if a read failed, some bytes
abbrev pub IsFedSo : {T : Type 0} → (T → T → List ℕ → Type 0) → Option (List ℕ) → T → T → Fed → Type 0
IsFedSo took known old new Whole = IsFed took known old new
IsFedSo took known old new (Unread refusal) = (bytes : List ℕ) × took old new bytes

-- a read that failed is told as this refusal, or as want of memory
abbrev pub IsToldAs : Refusal → Fed → Type 0
IsToldAs refusal Whole = Unit {0}
IsToldAs refusal (Unread f) = IsRefusedAs refusal f
