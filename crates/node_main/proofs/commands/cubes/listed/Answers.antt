use Rattle.std.proofs.Common.{◌≡◌, List, ℕ, ◌++◌, ◌∙◌, ap, subst, sym}
use Rattle.icnf.specs.Grammar.{SpellsWithin, formula_of, spelling}
use Rattle.node_main.proofs.commands.cubes.listed.Goals as goal

pub returns-clause-text : goal.returns-clause-text
returns-clause-text c = λ L fits.
    let clauses = c.args.formula.now.clauses in
    let cubes = c.in_ok-tree.tree in
    let text : c.write.new.out.items ≡ spelling clauses cubes =
    c.in_ok-write.ensures.ok ∙ ap (λ (front : List ℕ). front ++ spelling clauses cubes) c.in_ok-report.ensures.text in
    record {
      cubes = cubes;
      tree = c.in_ok-tree.ensures.split;
      text_is = text;
      spells = subst (λ (t : List ℕ). SpellsWithin L t (formula_of clauses) cubes) (sym text) (c.write.ensures.fits L fits);
    }
