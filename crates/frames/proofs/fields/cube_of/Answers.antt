use Rattle.std.proofs.Common.{◌≡◌, refl, false, ◌∙◌, sym}
use Rattle.frames.specs.Cubes.{takes}
use Rattle.frames.proofs.CubeBytes.{no_literal, not_taken}
use Rattle.frames.proofs.fields.cube_of.Goals as goal

pub returns-in_default-clause-spelled : goal.returns-in_default-clause-spelled
returns-in_default-clause-spelled c = λ _. (refl, no_literal c.args.bytes.now c.loop-rest.cube c.loop-rest.rest.now c.u32_at-word.result.0 c.u32_at-word.result.1.now c.loop-rest.invariant.parts c.loop-rest.invariant.cube c.u32_at-word.ensures.parts c.u32_at-word.ensures.fits c.in_default.ensures)

pub returns-then-not-takes-clause-spelled : goal.returns-then-not-takes-clause-spelled
returns-then-not-takes-clause-spelled c =
    let refused : takes c.loop-rest.cube c.in-Some.literal ≡ false = sym c.takes.ensures ∙ c.if-not-takes.true in
    λ _. (refl, not_taken c.args.bytes.now c.loop-rest.cube c.loop-rest.rest.now c.u32_at-word.result.0 c.u32_at-word.result.1.now c.in-Some.literal c.loop-rest.invariant.parts c.loop-rest.invariant.cube c.u32_at-word.ensures.parts c.u32_at-word.ensures.fits c.in-Some.ensures refused)
