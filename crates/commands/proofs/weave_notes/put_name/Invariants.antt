use Rattle.std.proofs.Common.{◌≡◌, ◌++◌, flat_map, take}
use Rattle.commands.specs.Weave.{shown_byte}
use Rattle.commands.proofs.weave_notes.put_name.Given as goal

abbrev pub invariant-loop-byte : goal.invariant-loop-byte
invariant-loop-byte l = record {
  out : l.out.items ≡ l.fn.out.items ++ flat_map shown_byte (take l.byte-index l.name);
}
