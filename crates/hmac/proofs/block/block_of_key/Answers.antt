use Rattle.std.proofs.Common.{length, refl}
use Rattle.std.proofs.lemmas.Bool.{lt-ltb, le-ltb}
use Rattle.hmac.specs.Hmac.{block_of}
use Rattle.hmac.proofs.block.block_of_key.Goals as goal

pub returns-then-key-gt-BLOCK : goal.returns-then-key-gt-BLOCK
unfolding block_of
returns-then-key-gt-BLOCK c =
    rw (c.padded_key.ensures, c.digest.ensures, lt-ltb 64 (length c.args.key.now) c.if-key-gt-BLOCK.true) refl

pub returns-else-key-gt-BLOCK : goal.returns-else-key-gt-BLOCK
unfolding block_of
returns-else-key-gt-BLOCK c =
    rw (c.padded_key-else-key-gt-BLOCK.ensures, le-ltb 64 (length c.args.key.now) c.if-key-gt-BLOCK.false) refl
