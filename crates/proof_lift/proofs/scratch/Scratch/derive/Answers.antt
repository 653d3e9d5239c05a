use Rattle.std.proofs.Common.{ℕ, List, vec_len, sym, ap, subst, ◌∙◌}
use Rattle.lrat_check.specs.inner.LiteralTable.{FitsTable}
use Rattle.proof_lift.specs.HintWalk.{lift_walk}
use Rattle.proof_lift.specs.inner.Images.{images_of}
use Rattle.proof_lift.specs.inner.Tables.{marked}
use Rattle.proof_lift.specs.inner.Walks.{ImagesFit, ChainFits, from_there, passed_by}
use Rattle.proof_lift.specs.declared.walk.Link.{Link}
use Rattle.proof_lift.proofs.OutcomeLemmas.{walk_fits}
use Rattle.proof_lift.proofs.scratch.Scratch.derive.Goals as goal

pub walk-requires-clause-fits : goal.walk-requires-clause-fits
walk-requires-clause-fits c = subst (λ (n : ℕ). ImagesFit n (images_of c.args.images.now)) (sym c.deref_mut.ensures.len) c.requires.marks

pub trim-requires-clause-chain : goal.trim-requires-clause-chain
trim-requires-clause-chain c =
    let T = images_of c.args.images.now in
    let A = marked c.deref_mut.result.now c.args.stamp in
    let is = ap (λ (xs : List Link). from_there (passed_by T xs) (lift_walk T c.args.hints.now A)) (sym c.in_ok-chain.ensures.items) ∙ c.in_ok-conflict.ensures.walk in
    let fits = walk_fits (vec_len c.args.self.now.used) T c.args.hints.now A (passed_by T c.walk.new.chain.items) c.in_ok-conflict.conflict.number c.in_ok-conflict.conflict.clause.now c.requires.used is in
    subst (λ (n : ℕ). ChainFits n (passed_by T c.deref.result.now)) (sym c.deref_mut-2.ensures.len)
    (subst (λ (xs : List Link). ChainFits (vec_len c.args.self.now.used) (passed_by T xs)) (sym c.deref.ensures.value) fits.0)

pub trim-requires-clause-conflict : goal.trim-requires-clause-conflict
trim-requires-clause-conflict c =
    let T = images_of c.args.images.now in
    let A = marked c.deref_mut.result.now c.args.stamp in
    let is = ap (λ (xs : List Link). from_there (passed_by T xs) (lift_walk T c.args.hints.now A)) (sym c.in_ok-chain.ensures.items) ∙ c.in_ok-conflict.ensures.walk in
    let fits = walk_fits (vec_len c.args.self.now.used) T c.args.hints.now A (passed_by T c.walk.new.chain.items) c.in_ok-conflict.conflict.number c.in_ok-conflict.conflict.clause.now c.requires.used is in
    subst (λ (n : ℕ). FitsTable n c.in_ok-conflict.conflict.clause.now) (sym c.deref_mut-2.ensures.len) fits.1
