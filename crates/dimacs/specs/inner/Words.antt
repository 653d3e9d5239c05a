-- The rest of a text while it is read line by line; None if the text has ended.
use Rattle.std.specs.Prelude.{ℕ, ◌+◌, length, List, [], Option, Some, None}
use Rattle.std.specs.Borrow.{Bor}
use Rattle.dimacs.specs.text.Words.{lines}

-- the lines that are left
abbrev pub lines_left : Option (Bor (List ℕ)) → List (List ℕ)
lines_left None = []
lines_left (Some text) = lines text.now

-- the measure of a loop over lines: one more than the number of bytes that are left; 0 at the end of the text
abbrev pub left_len : Option (Bor (List ℕ)) → ℕ
left_len None = 0
left_len (Some text) = length text.now + 1
