-- Leaves that are cut by lookahead.
use Rattle.std.proofs.Common.{◌≡◌, ◌⊎◌, ℕ, zero, suc, ◌-◌, ◌<◌, ◌≤◌, List, [], length, Option, inl, inr, sym, subst, arith}
use Rattle.std.specs.Prelude.{slice_index_or}
use Rattle.std.proofs.lemmas.Option.{slice_get-get_or, slice_get_past}
use Rattle.dimacs.specs.logic.Cnf.{Cnf}
use Rattle.icnf.specs.Leaves.{Cube}
use Rattle.leaves.specs.Leaf.{Prints, no_leaf_text}
use Rattle.leaves.specs.LookaheadSplit.{PrintsCut, PrintsHalves, PrintsHalvesOf}
use Rattle.reports.specs.declared.report.Report.{Report}

-- the number of a leaf is one more than its place
pub cut_at : (F : Cnf) (leaves : List Cube) (leaf : ℕ) (r : Report) → 0 < leaf → leaf ≤ length leaves
    → PrintsHalves F leaves (leaf - 1) (slice_index_or leaves (leaf - 1) []) r → PrintsCut F leaves leaf r
cut_at F leaves zero r some most printed = absurd (omega (arith, some))
cut_at F leaves (suc place) r some most printed =
    let same : suc place - 1 ≡ place = omega arith in
    subst (λ (q : Option Cube). PrintsHalvesOf F leaves place q r) (sym (slice_get-get_or leaves place [] (omega (arith, most))))
    (subst (λ (i : ℕ). PrintsHalves F leaves i (slice_index_or leaves i []) r) same printed)

-- there is no such leaf
pub no_cut : (F : Cnf) (leaves : List Cube) (leaf : ℕ) (r : Report) → (leaf ≡ 0) ⊎ (length leaves < leaf) → Prints 1 no_leaf_text r → PrintsCut F leaves leaf r
no_cut F leaves zero r never printed = printed
no_cut F leaves (suc place) r never printed =
    let past : length leaves ≤ place = elim never [ inl zero_is ↦ absurd (omega (arith, zero_is)) | inr above ↦ omega (arith, above) ] in
    subst (λ (q : Option Cube). PrintsHalvesOf F leaves place q r) (sym (slice_get_past leaves place past)) printed
