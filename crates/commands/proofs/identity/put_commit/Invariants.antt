use Rattle.std.proofs.Common.{◌≡◌, ◌++◌, drop}
use Rattle.commands.specs.Identity.{commit_of}
use Rattle.commands.proofs.identity.put_commit.Given as goal

abbrev pub invariant-loop-byte : goal.invariant-loop-byte
invariant-loop-byte l = l.out.items ++ commit_of (drop l.byte-index l.note) ≡ l.initial.out.items ++ commit_of l.note
