use Rattle.std.proofs.Common.{rules, ◌≡◌, ◌++◌, codes, drop}
use Rattle.commands.specs.inner.Solver.{joined}
use Rattle.commands.proofs.MinisatLemmas.{result_is}
use Rattle.commands.proofs.minisat.result_text.Goals as goal

pub returns : goal.returns
returns c values few e =
    let is : c.extend_from_slice-2.new.self.items ≡ codes "SAT\n" ++ drop 14 (joined c.args.answer.now) ++ codes "\n" = search rules in
    result_is values c.args.answer.now c.extend_from_slice-2.new.self.items few e is
