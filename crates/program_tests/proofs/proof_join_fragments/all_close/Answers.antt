use Rattle.std.proofs.Common.{arith, ◌≡◌, ◌+◌, ◌<◌, ◌++◌, ◌∷◌, ◌∙◌, ℕ, List, [], map, take, length, ap, sym, subst, get_or}
use Rattle.std.proofs.lemmas.List.{take_all, take_more, get_or-map, length-map}
use Rattle.std.specs.Global.{Vec}
use Rattle.icnf.specs.Leaves.{Cube}
use Rattle.lrat_text.specs.Log.{Closes}
use Rattle.proof_join.specs.JoinedProof.{AllClose}
use Rattle.proof_join.proofs.LeafLemmas.{closed_more}
use Rattle.program_tests.proofs.proof_join_fragments.all_close.Goals as goal

pub loop-leaf-preserved : goal.loop-leaf-preserved
loop-leaf-preserved c =
    let i = c.loop-leaf.leaf in
    let texts : List (List ℕ) = map (λ (t : Vec ℕ). t.items) c.args.fragments.now in
    let below : i < length c.args.tree.now = let n = c.leaves-leaf-end.ensures.value in let l = c.loop-leaf-test.true in omega arith in
    let inside : i < length c.args.fragments.now = let n = c.requires in omega arith in
    let among : i < length texts = let n = length-map c.args.fragments.now (λ (t : Vec ℕ). t.items) in omega arith in
    let text : get_or texts i [] ≡ c.index-fragments-leaf.result.items =
    get_or-map (λ (t : Vec ℕ). t.items) c.args.fragments.now i c.index-fragments-leaf.result [] inside ∙ ap (λ (t : Vec ℕ). t.items) (sym c.index-fragments-leaf.is) in
    let closes : Closes c.args.base.now c.cube.result.now (get_or texts i []) = rw (text, ← c.deref.ensures.value) c.in-Ok.ensures.closes in
    closed_more c.args.base.now c.args.tree.now i c.cube.result.now (get_or texts i []) (take i texts) (take (i + 1) texts) below c.cube.ensures.cube (take_more texts i [] among) c.loop-leaf.invariant closes

pub returns : goal.returns
returns c = λ e.
    let texts : List (List ℕ) = map (λ (t : Vec ℕ). t.items) c.args.fragments.now in
    let n = c.leaves-leaf-end.ensures.value in
    let l = c.loop-leaf-test.false in
    let m = c.requires in
    let o = length-map c.args.fragments.now (λ (t : Vec ℕ). t.items) in
    let leaves = take_all c.loop-leaf.leaf c.args.tree.now (omega arith) in
    let all = take_all c.loop-leaf.leaf texts (omega arith) in
    subst (AllClose c.args.base.now c.args.tree.now) all (subst (λ (qs : List Cube). AllClose c.args.base.now qs (take c.loop-leaf.leaf texts)) leaves c.loop-leaf.invariant)
