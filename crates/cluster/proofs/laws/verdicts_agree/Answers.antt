use Rattle.cluster.proofs.AgreementLemmas.{moments_agree, moments_agree_on_more, along_grown}
use Rattle.cluster.proofs.NothingLemmas.{happens_nothing}
use Rattle.cluster.proofs.ScheduleLemmas.{Keeping, runs_sound, runs_formulas, happens_formulas}
use Rattle.cluster.proofs.laws.verdicts_agree.Goals as goal

-- the laws of the machines
keeping : goal.After-extended_coordinators_are_sound → Keeping
keeping c = record {
  worker = λ old event given new step right. c.workers_keep_what_they_hold.ensures.right old event given new step right;
  worker_formula = λ old event given new step. (c.workers_keep_what_they_hold.ensures.itself old event given new step).formula;
  coordinator = λ old event given new sound step. c.coordinators_keep_what_they_hold.ensures.sound old event given new step sound;
  coordinator_formula = λ old event given new step. (c.coordinators_keep_what_they_hold.ensures.itself old event given new step).formula;
  longer_worker = λ old x number answer new step right. c.extended_workers_hold_what_is_right.ensures.right old x number answer new step right;
  longer_worker_formula = λ old x number answer new step. c.extended_workers_hold_what_is_right.ensures.formula old x number answer new step;
  longer_coordinator = λ old x number answer new sound step. c.extended_coordinators_are_sound.ensures.sound old x number answer new step sound;
  longer_coordinator_formula = λ old x number answer new step. c.extended_coordinators_are_sound.ensures.formula old x number answer new step;
  anew = λ k session sound. c.coordinators_keep_what_they_hold.ensures.anew k session sound;
}

pub returns-clause-sound : goal.returns-clause-sound
returns-clause-sound c = λ start later events sound runs. runs_sound (keeping c) start events later runs sound

pub returns-clause-formula : goal.returns-clause-formula
returns-clause-formula c = λ old new event answer happens. happens_formulas (keeping c) old event answer new happens

pub returns-clause-formulas : goal.returns-clause-formulas
returns-clause-formulas c = λ start later events runs. runs_formulas (keeping c) start events later runs

pub returns-clause-behind : goal.returns-clause-behind
returns-clause-behind c = along_grown

pub returns-clause-grown : goal.returns-clause-grown
returns-clause-grown c = moments_agree_on_more (keeping c) c.right_verdicts_are_true.ensures

pub returns-clause-agree : goal.returns-clause-agree
returns-clause-agree c = moments_agree (keeping c) c.right_verdicts_agree.ensures

pub returns-clause-nothing : goal.returns-clause-nothing
returns-clause-nothing c = happens_nothing (record {
  worker = λ old event given new step. c.workers_keep_what_they_hold.ensures.nothing old event given new step;
  coordinator = λ old event given new step. c.coordinators_keep_what_they_hold.ensures.nothing old event given new step;
})
