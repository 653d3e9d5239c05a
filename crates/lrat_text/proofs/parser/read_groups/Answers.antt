use Rattle.std.proofs.Common.{[], ◌∷◌, ap, ◌∙◌, length, length-append, arith}
use Rattle.lrat_text.specs.Parser.{line_tokens}
use Rattle.lrat_text.proofs.GroupLemmas.{length_with_hint, group_read, hint_read}
use Rattle.lrat_text.proofs.parser.read_groups.Goals as goal

pub loop-token-preserved : goal.loop-token-preserved
loop-token-preserved c =
    let old = c.loop-token.groups in
    let n = c.in-Minus.n in
    let new = c.in_ok-push-in-Minus.ensures.ok in
    record {
      some = omega (arith, ap length new, length-append old ((n, []) ∷ []));
      left = λ id lits hints.
          group_read id n lits hints old c.push.new.self c.in-Some.token (line_tokens c.loop-token.rest.now) (line_tokens c.in-Some.after.now) c.in-Some.ensures.token c.in-Minus.is new
          ∙ c.loop-token.invariant.left id lits hints;
    }

pub loop-token-preserved-in_ok-push_hint-in-Plus : goal.loop-token-preserved-in_ok-push_hint-in-Plus
loop-token-preserved-in_ok-push_hint-in-Plus c =
    let old = c.loop-token.groups in
    let n = c.in-Plus.n in
    let new = c.in_ok-push_hint-in-Plus.ensures.ok in
    record {
      some = omega (arith, ap length new, length_with_hint n old, c.loop-token.invariant.some);
      left = λ id lits hints.
          hint_read id n lits hints old c.push_hint.new.self c.in-Some.token (line_tokens c.loop-token.rest.now) (line_tokens c.in-Some.after.now) c.in-Some.ensures.token c.in-Plus.is new
          ∙ c.loop-token.invariant.left id lits hints;
    }
