use Rattle.crate_tests.proofs.SmallConflict.{is_present_conflict}
use Rattle.crate_tests.proofs.conflict_analysis_lemmas.analysed.Goals as goal

pub analyse-requires : goal.analyse-requires
analyse-requires c =
    is_present_conflict c.in_ok-arena.arena c.in_ok-trail.trail c.in_ok-trail.ensures.vars c.in_ok-trail.ensures.entries c.in_ok-arena.ensures.first c.in_ok-arena.ensures.second c.in_ok-arena.ensures.inside
