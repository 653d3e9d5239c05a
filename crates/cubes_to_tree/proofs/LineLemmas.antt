-- The lines of a list of cubes.
use Rattle.std.proofs.Common.{◌≡◌, ◌∙◌, ℕ, ◌+◌, ◌<◌, Bool, true, false, cond, List, [], ◌∷◌, ◌++◌, length, Result, Ok, Err, refl, sym, ap, arith}
use Rattle.icnf.specs.Parser.{no_memory}
use Rattle.std.specs.Prelude.{bytes_eq, codes}
use Rattle.std.specs.List.{list_all}
use Rattle.std.proofs.lemmas.List.Sorted.{IsPermutation-cons, IsPermutation-refl, IsPermutation-sym, IsPermutation-to_front, IsPermutation-trans, length_permutation}
use Rattle.dimacs.specs.text.Rows.{Fails, ◌>>=◌}
use Rattle.dimacs.specs.text.Words.{words}
use Rattle.dimacs.proofs.RowLemmas.{fails_by}
use Rattle.icnf.specs.declared.fault.IcnfFault.{IcnfFault}
use Rattle.icnf.specs.declared.fault.Kind.TheVariants.{NotATree}
use Rattle.icnf.specs.Leaves.{Cube}
use Rattle.icnf.specs.Parser as icnf
use Rattle.cubes_to_tree.specs.Divergence.{diverge}
use Rattle.cubes_to_tree.specs.CubeList.{cube_of, end_of, put_cube, read_lines, read_words}
use Rattle.cubes_to_tree.specs.inner.Cubes.{IsCube}
use Rattle.cubes_to_tree.specs.inner.Nodes.{HasPut, IsTreeOf, IsBelow, PutOutcome, given_below, is_empty_tree}
use Rattle.cubes_to_tree.specs.declared.node.Node.{Node, Empty, Given, Fork'}
use Rattle.cubes_to_tree.proofs.ListLemmas.{all-IsPermutation}

-- ---- nothing was read
pub nothing_held : (greatest : ℕ) → IsTreeOf greatest [] Empty
nothing_held greatest = record { below = omega arith; same = IsPermutation-refl [] }

-- ---- a cube is inserted
module _ (greatest line : ℕ) (cubes : List Cube) (cube : Cube) (old new : Node) (h : IsTreeOf greatest cubes old) where
  same_test : list_all (diverge cube) (given_below old) ≡ list_all (diverge cube) cubes
  same_test = all-IsPermutation (diverge cube) (given_below old) cubes h.same

  tested : (b : Bool) → list_all (diverge cube) cubes ≡ b → put_cube line cubes cube ≡ cond b (Ok (cubes ++ cube ∷ [])) (icnf.fault NotATree line)
  tested b e = ap (λ t. cond t (Ok (cubes ++ cube ∷ [])) (icnf.fault NotATree line)) e

  pub put_reads : IsCube greatest cube → HasPut cube old new → (all : List Cube) × (put_cube line cubes cube ≡ Ok all) × IsTreeOf greatest all new
  put_reads q p = (
    cubes ++ cube ∷ [],
    tested true (sym same_test ∙ p.diverge),
    record {
      below = p.below greatest [] h.below q;
      same = IsPermutation-trans (given_below new) (cube ∷ given_below old) (cubes ++ cube ∷ []) p.given
          (IsPermutation-trans (cube ∷ given_below old) (cube ∷ cubes) (cubes ++ cube ∷ [])
          (IsPermutation-cons cube (given_below old) cubes h.same)
          (IsPermutation-sym (cubes ++ cube ∷ []) (cube ∷ cubes) (IsPermutation-to_front cubes cube)));
    },
  )

  pub put_refused : PutOutcome cube old false new → put_cube line cubes cube ≡ icnf.fault NotATree line
  put_refused p = tested false (sym same_test ∙ p greatest [] h.below)

-- ---- the tokens of a line
module _ (greatest line : ℕ) (cubes : List Cube) where
  pub blank_line : (ws : List (List ℕ)) → ws ≡ [] → read_words greatest line ws cubes ≡ Ok cubes
  blank_line ws e = ap (λ (x : List (List ℕ)). read_words greatest line x cubes) e

  pub line_is : (b : Bool) (ws more : List (List ℕ)) (w : List ℕ) → ws ≡ w ∷ more → bytes_eq w (codes "a") ≡ b
      → read_words greatest line ws cubes ≡ cond b (cube_of greatest line more >>= put_cube line cubes) (Ok cubes)
  line_is b ws more w e f =
      ap (λ (x : List (List ℕ)). read_words greatest line x cubes) e ∙ ap (λ t. cond t (cube_of greatest line more >>= put_cube line cubes) (Ok cubes)) f

  pub cube_read : (ws : List (List ℕ)) (q : Cube) → cube_of greatest line ws ≡ Ok q → (cube_of greatest line ws >>= put_cube line cubes) ≡ put_cube line cubes q
  cube_read ws q e = ap (λ (r : Result Cube IcnfFault). r >>= put_cube line cubes) e

  pub cube_refused : (ws : List (List ℕ)) (f : IcnfFault) (all : Result (List Cube) IcnfFault) → all ≡ (cube_of greatest line ws >>= put_cube line cubes)
      → Fails no_memory f (cube_of greatest line ws) → Fails no_memory f all
  cube_refused ws f all e h = fails_by no_memory f (cube_of greatest line ws) all (λ is. e ∙ ap (λ (r : Result Cube IcnfFault). r >>= put_cube line cubes) is) h

-- ---- the lines, one after the other
pub lines_more : (greatest n : ℕ) (ls more : List (List ℕ)) (line : List ℕ) (cubes next : List Cube) → ls ≡ line ∷ more → read_words greatest (n + 1) (words line) cubes ≡ Ok next
    → read_lines greatest n ls cubes ≡ read_lines greatest (n + 1) more next
unfolding read_lines
lines_more greatest n ls more line cubes next e h = rw (e, h) refl

lines_fault : (greatest n : ℕ) (ls more : List (List ℕ)) (line : List ℕ) (cubes : List Cube) (f : IcnfFault) → ls ≡ line ∷ more → read_words greatest (n + 1) (words line) cubes ≡ Err f
    → read_lines greatest n ls cubes ≡ Err f
unfolding read_lines
lines_fault greatest n ls more line cubes f e h = rw (e, h) refl

pub lines_fail : (greatest n : ℕ) (ls more : List (List ℕ)) (line : List ℕ) (cubes : List Cube) (f : IcnfFault) (all : Result (List Cube) IcnfFault) → ls ≡ line ∷ more
    → read_lines greatest n ls cubes ≡ all → Fails no_memory f (read_words greatest (n + 1) (words line) cubes) → Fails no_memory f all
lines_fail greatest n ls more line cubes f all e so_far h =
    fails_by no_memory f (read_words greatest (n + 1) (words line) cubes) all (λ is. sym so_far ∙ lines_fault greatest n ls more line cubes f e is) h

pub lines_end : (greatest n : ℕ) (ls : List (List ℕ)) (cubes : List Cube) → ls ≡ [] → read_lines greatest n ls cubes ≡ end_of n cubes
unfolding read_lines
lines_end greatest n ls cubes e = rw e refl

-- ---- the end

none_below : (node : Node) → is_empty_tree node ≡ true → given_below node ≡ []
none_below Empty h = refl
none_below Given h = absurd (cc)
none_below (Fork' v p left q right) h = absurd (cc)

some_below : (greatest : ℕ) (path : Cube) (node : Node) → IsBelow greatest path node → is_empty_tree node ≡ false → 0 < length (given_below node)
some_below greatest path Empty b h = absurd (cc)
some_below greatest path Given b h = omega arith
some_below greatest path (Fork' v p left q right) b h = b.2

module _ (greatest n : ℕ) (cubes : List Cube) (root : Node) (h : IsTreeOf greatest cubes root) where
  pub ends_empty : is_empty_tree root ≡ true → end_of n cubes ≡ icnf.fault NotATree n
  ends_empty cut = at cubes (length_permutation (given_below root) cubes h.same ∙ ap length (none_below root cut)) where
    at : (cs : List Cube) → length cs ≡ 0 → end_of n cs ≡ icnf.fault NotATree n
    at [] e = refl
    at (q ∷ cs) e = absurd (omega arith)

  pub ends_some : is_empty_tree root ≡ false → end_of n cubes ≡ Ok cubes
  ends_some cut = at cubes (let e = length_permutation (given_below root) cubes h.same in let s = some_below greatest [] root h.below cut in omega arith) where
    at : (cs : List Cube) → 0 < length cs → end_of n cs ≡ Ok cs
    at [] e = absurd (omega arith)
    at (q ∷ cs) e = refl
