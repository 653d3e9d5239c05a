use Rattle.std.proofs.Common.{rules, ◌≡◌, ◌∙◌, ap, arith, ℕ, suc, ◌*◌, ◌-◌, ◌+◌, List, [], ◌∷◌, ◌++◌, All, length, length-append, refl}
use Rattle.std.proofs.lemmas.List.Elements.{All-append, All-cons, All-nil}
use Rattle.rand_core.specs.Steps.{stream_of, steps_u64_high}
use Rattle.rand_xoshiro.specs.Xoshiro256.{plus_plus}
use Rattle.node_main.proofs.DrawLemmas.{all_drawn, stream_words, stream_words-first, turn_drawn}
use Rattle.node_main.proofs.commands.drill.words.draw.Goals as goal

pub loop-preserved : goal.loop-preserved
loop-preserved c =
    let a = c.next_u64-a.result in
    let b = c.next_u64-b.result in
    let d = c.next_u64-c.result in
    let pushed : c.push.new.self.items ≡ c.loop.words.items ++ (a ∷ b ∷ d ∷ []) ∷ [] = search rules in
    let left : 3 * (c.args.turns - c.loop.counter) ≡ suc (suc (suc (3 * (c.args.turns - (c.loop.counter + 1))))) = omega (arith, c.loop-test.true) in
    let IsThree : List ℕ → Type 0 = λ words. length words ≡ 3 in
    let last : All IsThree ((a ∷ b ∷ d ∷ []) ∷ []) = All-cons IsThree (a ∷ b ∷ d ∷ []) [] refl (All-nil IsThree) in
    rw pushed (
      length-append c.loop.words.items ((a ∷ b ∷ d ∷ []) ∷ []) ∙ ap (λ (n : ℕ). n + 1) c.loop.invariant.0,
      All-append IsThree c.loop.words.items ((a ∷ b ∷ d ∷ []) ∷ []) c.loop.invariant.1 last,
      turn_drawn c.loop.words.items a b d _ _ _ _ _ _ _ left c.loop.invariant.2 c.next_u64-a.ensures c.next_u64-b.ensures c.next_u64-c.ensures,
    )

pub returns : goal.returns
returns c =
    let whole : c.loop.counter ≡ c.args.turns = omega (arith, c.loop-test.false, c.loop.auto.counter-end) in
    let none : 3 * (c.args.turns - c.loop.counter) ≡ 0 = omega (arith, c.loop-test.false) in
    let state = ap (stream_of (steps_u64_high plus_plus)) c.seed_from_u64-generator.ensures in
    record {
      each = c.loop.invariant.0 ∙ whole;
      three = c.loop.invariant.1;
      words = all_drawn c.loop.words.items _ (stream_of (steps_u64_high plus_plus) c.loop.generator) _ none c.loop.invariant.2 ∙ (ap (stream_words (3 * c.args.turns)) state ∙ stream_words-first plus_plus (3 * c.args.turns) _);
    }
