use Rattle.std.proofs.Common.{List, ℕ, ◌/◌, ap, ◌∙◌, length, add-one, arith, ◌+◌, refl, ◌≡◌}
use Rattle.sealed_links.specs.SipHash.{absorbed, compressed, finished, last_word, started, tag_of, word}
use Rattle.sealed_links.specs.declared.siphash.State.{State}
use Rattle.sealed_links.proofs.siphash.tag.Goals as goal

one_more : (s t : State) (i : ℕ) (text : List ℕ) → t ≡ absorbed s i text → compressed t (word text i) ≡ absorbed s (i + 1) text
unfolding absorbed
one_more s t i text e = rw (add-one, e) refl

pub loop-i-init : goal.loop-i-init
unfolding absorbed
loop-i-init c = c.start-state.ensures

pub loop-i-preserved : goal.loop-i-preserved
loop-i-preserved c =
    c.compress.ensures ∙ ap (λ m. compressed c.loop-i.state m) c.word_at.ensures
    ∙ one_more _ _ c.loop-i.i c.args.text.now c.loop-i.invariant

pub returns : goal.returns
unfolding tag_of
returns c =
    let whole : c.loop-i.i ≡ length c.args.text.now / 8 = omega arith in
    c.finish.ensures ∙ ap finished (c.compress-2.ensures ∙ (λ i. compressed (c.loop-i.invariant i) (c.last_word_of.ensures i)))
    ∙ ap (λ n. finished (compressed (absorbed (started c.args.key.now) n c.args.text.now) (last_word c.args.text.now))) whole
