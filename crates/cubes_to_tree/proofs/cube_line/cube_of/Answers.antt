use Rattle.std.proofs.Common.{◌≡◌, ◌∙◌, Ok, Err, ap, inr, subst, sym}
use Rattle.std.proofs.lemmas.Result.{MatchResult-weaker}
use Rattle.dimacs.specs.text.Words.{words}
use Rattle.cubes_to_tree.specs.CubeList.{nothing_read, read_tokens}
use Rattle.cubes_to_tree.specs.inner.Cubes.{IsCube}
use Rattle.cubes_to_tree.proofs.TokenLemmas.{cube_is, cube_open, cube_stands}
use Rattle.cubes_to_tree.proofs.cube_line.cube_of.Goals as goal

pub returns : goal.returns
returns c =
    let g = c.args.greatest in
    let n = c.args.line in
    let ws = words c.args.text.now in
    let s = c.read.new.self in
    let read : read_tokens g n ws nothing_read ≡ Ok s = subst (λ old. read_tokens g n ws old ≡ Ok s) c.new-cube.ensures c.in_ok-read.ensures in
    MatchResult-weaker c.finish.result c.finish.ensures
    (λ q h. (cube_is g n ws s read h.0 ∙ ap Ok (sym h.1), subst (IsCube g) (sym h.1) (cube_stands g n ws s read)))
    (λ f h. inr (cube_open g n ws s read h.0 ∙ ap Err (sym h.1)))
