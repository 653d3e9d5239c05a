use Rattle.std.proofs.Common.{refl}
use Rattle.weaving.proofs.TextLemmas.{woven_handed}
use Rattle.weaving.proofs.weaver.Weaver.forget.Goals as goal

pub returns-clause-woven : goal.returns-clause-woven
returns-clause-woven g c = λ F handed h. woven_handed F handed c.args.self.now.text _ refl c.clear.ensures.items h
