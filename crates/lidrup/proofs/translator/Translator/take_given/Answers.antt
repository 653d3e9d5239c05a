use Rattle.std.proofs.Common.{◌∙◌, ◌∷◌, ◌++◌, ◌+◌, [], ℕ, List, sym, ap, arith}
use Rattle.std.proofs.lemmas.Result.{on_ok_weaker}
use Rattle.lrat_text.specs.declared.step.Step.TheVariants.{Add}
use Rattle.lidrup.specs.Lidrup.{logged, naming}
use Rattle.lidrup.specs.View.{state_of}
use Rattle.lidrup.proofs.ActingLemmas.{given_logged}
use Rattle.lidrup.proofs.translator.Translator.take_given.Goals as goal

pub returns-clause-took : goal.returns-clause-took
returns-clause-took c =
    let m = c.args.self.now.log.checker.base in
    let s = state_of c.args.self.now in
    let k = c.in-Some.closing in
    let C = c.args.lits.now in
    let numbers = c.in_ok-put-2.ensures.put ∙ ap (λ (ns : List ℕ). ns ++ k.number ∷ []) c.clear.ensures.items in
    on_ok_weaker c.add.result (λ a. record {
      steps = a.steps;
      is =
          given_logged m s c.args.id C c.args.self.now.closing k (omega arith) (omega (arith, c.base-clauses.ensures.value)) c.in-Some.is
          ∙ ap (λ (ns : List ℕ). logged m (naming s c.args.id (s.top + 1)) (Add (s.top + 1) C ns [])) (sym numbers) ∙ a.is;
      base = a.base;
      hands = a.hands;
      out = a.out;
      most = a.most;
    }) c.add.ensures.took
