use Rattle.std.proofs.Common.{◌≡◌, ◌+◌, ◌++◌, ◌∷◌, [], None, true, false, cond, sym, ap, ◌∙◌, drop, get_or, length, arith}
use Rattle.std.specs.Prelude.{nat_lt}
use Rattle.std.proofs.lemmas.Bool.Decides.{nat_tests}
use Rattle.std.proofs.lemmas.List.{append-nil}
use Rattle.proof_lift.specs.HintWalk.{Gone, Kept}
use Rattle.proof_lift.specs.LiftedText.{with_image, after_deletion, own_numbers, all_live}
use Rattle.proof_lift.specs.inner.Images.{image_in, images_of}
use Rattle.proof_lift.specs.declared.step_lifter.StepLifter.{StepLifter}
use Rattle.proof_lift.proofs.ReadyLemmas.{remove_step}
use Rattle.proof_lift.proofs.step_lifter.StepLifter.remove.Goals as goal
use Rattle.proof_lift.proofs.step_lifter.StepLifter.remove.Goals.{in-Gone, in-Kept+then-number-given+in_ok-push-in-Kept, in-Kept+else-number-given}

pub loop-id-preserved : goal.loop-id-preserved
loop-id-preserved c =
    let L = c.loop-id.self in
    let M = c.match-get.self in
    let ids = c.args.ids.now in
    let i = c.loop-id.id-index in
    let id = get_or ids i 0 in
    let m = length c.args.self.now.images.formula.clauses in
    let T = images_of L.images in
    let T' = images_of c.remove.new.self in
    let N = L.scratch.numbers.items in
    let N' = M.scratch.numbers.items in
    let given : c.len-given.result ≡ m = c.len-given.ensures in
    let step : (after_deletion T (drop i ids) ≡ after_deletion T' (drop (i + 1) ids)) × (N ++ own_numbers m T (drop i ids) ≡ N' ++ own_numbers m T' (drop (i + 1) ids)) × (all_live T (drop i ids) ≡ all_live T' (drop (i + 1) ids))
    = elim c.match-get.branch [
      | in-Gone w ↦
          remove_step m T T' ids N N' i Gone c.loop-id-test.true (sym c.get.ensures ∙ ap image_in w.in-Gone.is)
          (c.remove.ensures.after ∙ ap (λ (x : StepLifter). with_image (images_of x.images) id None) w.self-is)
          (ap (λ (x : StepLifter). x.scratch.numbers.items) w.self-is ∙ sym (append-nil N))
      | in-Kept+then-number-given+in_ok-push-in-Kept w ↦
          let k = w.in-Kept.number in
          let high : nat_lt m k ≡ true = grind (arith, nat_tests, given, w.if-number-given.true) in
          remove_step m T T' ids N N' i (Kept k w.in-Kept.field-1.now) c.loop-id-test.true (sym c.get.ensures ∙ ap image_in w.in-Kept.is)
          (c.remove.ensures.after ∙ ap (λ (x : StepLifter). with_image (images_of x.images) id None) w.self-is)
          (ap (λ (x : StepLifter). x.scratch.numbers.items) w.self-is ∙ w.in_ok-push-in-Kept.ensures.items ∙ ap (λ b. N ++ cond b (k ∷ []) []) (sym high))
      | in-Kept+else-number-given w ↦
          let k = w.in-Kept.number in
          let low : nat_lt m k ≡ false = grind (arith, nat_tests, given, w.if-number-given.false) in
          remove_step m T T' ids N N' i (Kept k w.in-Kept.field-1.now) c.loop-id-test.true (sym c.get.ensures ∙ ap image_in w.in-Kept.is)
          (c.remove.ensures.after ∙ ap (λ (x : StepLifter). with_image (images_of x.images) id None) w.self-is)
          (ap (λ (x : StepLifter). x.scratch.numbers.items) w.self-is ∙ sym (append-nil N) ∙ ap (λ b. N ++ cond b (k ∷ []) []) (sym low))
    ] in
    let parts : (M.images ≡ L.images) × (M.cube ≡ L.cube) × (M.scratch.marks ≡ L.scratch.marks) × (M.scratch.used ≡ L.scratch.used) × (M.top ≡ L.top) × (M.own ≡ L.own) × (M.closed ≡ L.closed)
    = elim c.match-get.branch [
      | in-Gone w ↦ (ap (λ (x : StepLifter). x.images) w.self-is, ap (λ (x : StepLifter). x.cube) w.self-is, ap (λ (x : StepLifter). x.scratch.marks) w.self-is, ap (λ (x : StepLifter). x.scratch.used) w.self-is, ap (λ (x : StepLifter). x.top) w.self-is, ap (λ (x : StepLifter). x.own) w.self-is, ap (λ (x : StepLifter). x.closed) w.self-is)
      | in-Kept+then-number-given+in_ok-push-in-Kept w ↦ (ap (λ (x : StepLifter). x.images) w.self-is, ap (λ (x : StepLifter). x.cube) w.self-is, ap (λ (x : StepLifter). x.scratch.marks) w.self-is, ap (λ (x : StepLifter). x.scratch.used) w.self-is, ap (λ (x : StepLifter). x.top) w.self-is, ap (λ (x : StepLifter). x.own) w.self-is, ap (λ (x : StepLifter). x.closed) w.self-is)
      | in-Kept+else-number-given w ↦ (ap (λ (x : StepLifter). x.images) w.self-is, ap (λ (x : StepLifter). x.cube) w.self-is, ap (λ (x : StepLifter). x.scratch.marks) w.self-is, ap (λ (x : StepLifter). x.scratch.used) w.self-is, ap (λ (x : StepLifter). x.top) w.self-is, ap (λ (x : StepLifter). x.own) w.self-is, ap (λ (x : StepLifter). x.closed) w.self-is)
    ] in
    let same = c.loop-id.invariant.same in
    let counts = c.loop-id.invariant.counts in
    record {
      stands = sym step.0 ∙ c.loop-id.invariant.stands;
      numbers = sym step.1 ∙ c.loop-id.invariant.numbers;
      live = sym step.2 ∙ c.loop-id.invariant.live;
      same = record {
        leaf = record { formula = c.remove.ensures.formula ∙ ap (λ x. x.formula) parts.0 ∙ same.leaf.formula; cube = parts.1 ∙ same.leaf.cube };
        marks = parts.2 ∙ same.marks;
        used = parts.3 ∙ same.used;
        live = c.remove.ensures.live ∙ ap (λ x. length x.live.items) parts.0 ∙ same.live;
      };
      counts = (parts.4 ∙ counts.0, parts.5 ∙ counts.1, parts.6 ∙ counts.2);
    }
