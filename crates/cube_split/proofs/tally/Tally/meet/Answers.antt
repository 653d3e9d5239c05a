use Rattle.std.proofs.Common.{arith, ◌≡◌, ◌<◌, ◌∙◌, refl, get_or, length}
use Rattle.std.proofs.lemmas.Bool.{eq-eqb, ne_eqb}
use Rattle.std.proofs.lemmas.List.{get_or_default}
use Rattle.cube_split.proofs.TallyLemmas.{has_row, met_one}
use Rattle.cube_split.proofs.tally.Tally.meet.Goals as goal

pub index_mut-requires : goal.index_mut-requires
index_mut-requires c =
    let row = has_row c.args.self.now.counts.items c.args.self.now.last.items c.args.self.now.met.items c.args.self.now.len c.requires.tally in
    omega (arith, row, c.requires.tally.room)

pub returns-clause-tally : goal.returns-clause-tally
returns-clause-tally c =
    let row : c.number-row.result ≡ c.args.var = c.number-row.ensures.value in
    let inside : c.number-row.result < length c.args.self.now.counts.items = omega (arith, row, c.requires.inside) in
    let before : c.index-2.result.now ≡ get_or c.args.self.now.last.items c.number-row.result 0 = c.index-2.ensures ∙ get_or_default c.args.self.now.last.items c.number-row.result c.index-2.result.now 0 (omega (arith, c.requires.tally.rows)) in
    rw (← row) (met_one c.args.self.now.counts.items c.args.self.now.last.items c.args.self.now.met.items c.args.self.now.len c.number-row.result c.args.number _ _ c.requires.tally
    (omega (arith, c.number-row.ensures.above)) inside c.requires.some
    (λ z. rw (eq-eqb c.index-2.result.now 0 (before ∙ z)) refl)
    (λ s. rw (ne_eqb c.index-2.result.now 0 (λ e. s (omega (arith, before)))) refl))
