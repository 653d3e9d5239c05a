use Rattle.std.proofs.Common.{◌++◌, drop, replicate, length, ap, ◌∙◌}
use Rattle.std.proofs.lemmas.List.{drop-replicate}
use Rattle.hmac.specs.Hmac.{padded}
use Rattle.hmac.proofs.block.padded_key.Goals as goal

pub returns : goal.returns
unfolding padded
returns c =
    let key = c.args.key.now in
    ap (λ front. front ++ drop (length key) (replicate 64 0)) c.copy_from_slice.ensures.after
    ∙ ap (λ zeros. key ++ zeros) (drop-replicate (length key) 64 0)
