use Rattle.std.proofs.Common.{◌≡◌, ◌≤◌, ◌++◌, drop}
use Rattle.commands.specs.SessionLines.{core_filled, core_items, core_lines}
use Rattle.commands.proofs.session_lines.put_core.Given as goal

-- what is written and what is left make the whole
abbrev pub invariant-loop-literal : goal.invariant-loop-literal
invariant-loop-literal l = record {
  used : l.used ≤ 78;
  whole : l.out.items ++ core_filled l.used (core_items (drop l.literal-index l.core)) ≡ l.fn.out.items ++ core_lines l.core;
}
