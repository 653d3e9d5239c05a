use Rattle.std.proofs.Common.{◌≡◌, vec_len}
use Rattle.look_ahead.proofs.counting_propagator.initial_states.Given as goal

abbrev pub invariant-loop-i : goal.invariant-loop-i
invariant-loop-i l = vec_len l.states ≡ l.rows
