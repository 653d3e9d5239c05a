use Rattle.std.proofs.Common.{◌≡◌, ◌∙◌, ◌++◌, ℕ, Bool, List, [], length, ap₂, arith, subst, sym}
use Rattle.std.proofs.lemmas.List.Elements.{All-nil}
use Rattle.dimacs.specs.logic.Cnf.{AreWithin, FitsIn, greatest_in}
use Rattle.dimacs.specs.logic.Limits.{Limits}
use Rattle.dimacs.specs.logic.Literal.{IsWithin}
use Rattle.icnf.specs.Leaves.{Cube, Leaves}
use Rattle.icnf.specs.Grammar.{SpellsWithin, formula_of, spelling}
use Rattle.std.proofs.lemmas.List.{length-map}
use Rattle.cubes_to_tree.proofs.SpellingLemmas.{lines_ahead}
use Rattle.cubes_to_tree.specs.Completion.{CompletedLeaf, added_lines, cubes_in, flags_of, tree}
use Rattle.cubes_to_tree.specs.inner.Nodes.{IsShort, leaves_below}
use Rattle.cubes_to_tree.proofs.TreeLemmas.{below_ordered, below_short, below_within, leaf_count-is, ordered_leaves, root_completes}
use Rattle.cubes_to_tree.proofs.completion.tree_report.Goals as goal

pub list-requires-clause-short : goal.list-requires-clause-short
list-requires-clause-short c =
    subst (λ (q : Cube). IsShort (length q) c.args.root.now) (sym c.new-path.ensures.items) (below_short (greatest_in c.args.formula.now.clauses) [] c.args.root.now c.requires.below)

pub finish-tree-requires : goal.finish-tree-requires
finish-tree-requires c =
    let root = c.args.root.now in
    let cubes : c.list.new.leaf_list.cubes ≡ cubes_in (leaves_below [] root) =
    c.in_ok-list.ensures.cubes ∙ ap₂ (λ (xs : List Cube) (p : Cube). xs ++ cubes_in (leaves_below p root)) c.new.ensures c.new-path.ensures.items in
    subst (Leaves []) (sym cubes) (ordered_leaves (below_ordered (greatest_in c.args.formula.now.clauses) [] root c.requires.below))

pub write-requires : goal.write-requires
write-requires c =
    let root = c.args.root.now in
    let g = greatest_in c.args.formula.now.clauses in
    let cubes : c.list.new.leaf_list.cubes ≡ cubes_in (leaves_below [] root) =
    c.in_ok-list.ensures.cubes ∙ ap₂ (λ (xs : List Cube) (p : Cube). xs ++ cubes_in (leaves_below p root)) c.new.ensures c.new-path.ensures.items in
    subst (AreWithin g) (sym (c.finish-tree.ensures ∙ cubes)) (below_within g [] root (All-nil (IsWithin g)) c.requires.below)

pub returns : goal.returns
returns c = λ given same.
    let root = c.args.root.now in
    let g = greatest_in c.args.formula.now.clauses in
    let leaves = leaves_below [] root in
    let cubes : c.list.new.leaf_list.cubes ≡ cubes_in leaves =
    c.in_ok-list.ensures.cubes ∙ ap₂ (λ (xs : List Cube) (p : Cube). xs ++ cubes_in (leaves_below p root)) c.new.ensures c.new-path.ensures.items in
    let flags : c.deref.result.now ≡ flags_of leaves =
    c.deref.ensures.value ∙ c.in_ok-list.ensures.added ∙ ap₂ (λ (xs : List Bool) (p : Cube). xs ++ flags_of (leaves_below p root)) c.new-2.ensures.items c.new-path.ensures.items in
    let many = leaf_count-is [] root in
    let few = c.requires.few in
    let flag_count = length-map leaves (λ (l : CompletedLeaf). l.added) in
    let spells : (L : Limits) → FitsIn L c.args.formula.now → SpellsWithin L (spelling c.args.formula.now.clauses (cubes_in leaves)) (formula_of c.args.formula.now.clauses) (cubes_in leaves) =
    λ L fits. subst (λ (qs : List Cube). SpellsWithin L (spelling c.args.formula.now.clauses qs) (formula_of c.args.formula.now.clauses) qs) (c.finish-tree.ensures ∙ cubes) (c.in_ok-write.ensures.fits L fits) in
    tree leaves (root_completes g root c.requires.below c.requires.some given same) (omega arith)
    (λ L fits. lines_ahead L 1 (flags_of leaves) (spelling c.args.formula.now.clauses (cubes_in leaves)) (formula_of c.args.formula.now.clauses) (cubes_in leaves) (omega arith) (spells L fits)) (record {
      status_is = c.in_ok-report.ensures.status;
      text_is = c.in_ok-write.ensures.ok ∙ ap₂ (λ (xs : List ℕ) (qs : List Cube). xs ++ spelling c.args.formula.now.clauses qs)
          (c.in_ok-put_added.ensures ∙ ap₂ (λ (xs : List ℕ) (fs : List Bool). xs ++ added_lines 1 fs) c.in_ok-report.ensures.text flags) (c.finish-tree.ensures ∙ cubes);
      no_proof = c.in_ok-report.ensures.proof;
    })
