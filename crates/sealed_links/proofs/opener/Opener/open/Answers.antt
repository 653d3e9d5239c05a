use Rattle.std.proofs.Common.{◌≡◌, subst}
use Rattle.sealed_links.specs.Links.{StopsWithin}
use Rattle.sealed_links.specs.declared.incoming.OpenFault.{OpenFault}
use Rattle.sealed_links.specs.declared.incoming.OpenFault.TheVariants.{Wrong}
use Rattle.sealed_links.proofs.ReadingLemmas.{the_reading, the_reading_wrong}
use Rattle.sealed_links.proofs.opener.Opener.open.Goals as goal

pub returns-in-Ok-clause-all : goal.returns-in-Ok-clause-all
returns-in-Ok-clause-all c =
    the_reading c.args.self.now.incoming c.take.new.self c.args.bytes.now c.args.out.now.items c.take.new.out.items c.in-Ok.ensures.ok

pub returns-in-Err-clause-up_to_wrong : goal.returns-in-Err-clause-up_to_wrong
returns-in-Err-clause-up_to_wrong c e =
    let same : c.in-Err.fault ≡ Wrong = cc e in
    let P : OpenFault → Type 0 = λ fault. StopsWithin fault c.args.self.now.incoming c.args.bytes.now c.args.out.now.items c.take.new.out.items in
    the_reading_wrong c.args.self.now.incoming c.args.bytes.now c.args.out.now.items c.take.new.out.items (subst P same c.in-Err.ensures.err)
