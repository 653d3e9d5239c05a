use Rattle.std.proofs.Common.{List, [], ◌∷◌, ◌++◌, ℕ, ap, codes, subst, ◌∙◌}
use Rattle.hmac.specs.Hmac.{hmac_of}
use Rattle.hmac.specs.Macs.{HoldsKey}
use Rattle.sealed_links.specs.Handshakes.{said}
use Rattle.sealed_links.proofs.key.SharedKey.mac.Goals as goal

pub returns : goal.returns
unfolding said
returns c =
    let key : List ℕ = c.args.self.now.bytes.items in
    let K : List ℕ → Type 0 = λ bytes. HoldsKey c.new.result bytes in
    let begun = c.begin-mac.ensures key (subst K c.deref.ensures.value c.new.ensures) in
    let name = c.update.ensures key _ begun in
    let purpose = c.update-2.ensures key _ name in
    let coordinator = c.update-3.ensures key _ purpose in
    let worker = c.update-4.ensures key _ coordinator in
    let digest = c.update-5.ensures key _ worker in
    c.finish.ensures key _ digest
    ∙ ap (λ n. hmac_of key (codes "satcluster link 1" ++ n ∷ [] ++ c.args.nonces.now.coordinator ++ c.args.nonces.now.worker ++ c.args.digest.now)) c.code.ensures
