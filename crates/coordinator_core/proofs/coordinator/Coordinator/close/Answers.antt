use Rattle.std.proofs.Common.{◌^◌, ◌≤◌, ◌∙◌, length, refl, sym, ap, subst, arith}
use Rattle.std.proofs.lemmas.Bool.{false≢true}
use Rattle.coordinator_core.specs.inner.PrivateCalls.{job_with_bytes}
use Rattle.coordinator_core.specs.Invariant.{IsCoordinator}
use Rattle.coordinator_core.proofs.FragmentLemmas.{IsShut, taken_at, desk_is, job_fair, goes_on, all_there, joined_is, too_long_is, ends_closed, ends_joined, ends_too_long, some_joined, given_back, refused, text_back, leaf_back}
use Rattle.coordinator_core.proofs.InvariantLemmas.{leaf_within, leaf_unclosed, pairs_inside}
use Rattle.coordinator_core.specs.declared.job_state.LeafState.TheVariants.{Closed}
use Rattle.coordinator_core.proofs.FrontLemmas.{rows_set, held_joined, none_joined}
use Rattle.coordinator_core.proofs.coordinator.Coordinator.close.Goals as goal

pub close-before-requires-clause-inside : goal.close-before-requires-clause-inside
close-before-requires-clause-inside c =
    let t = taken_at _ c.args.self.now c.args.worker c.number.result _ _ _ c.self.view_is c.number.ensures.value c.self.invariant.2 c.requires.closes c.index_mut.ensures.value c.take.ensures.value c.in-Some.is in
    leaf_within _ _ _ (job_fair _ _ _ _ _ t)

pub close-before-requires-clause-unclosed : goal.close-before-requires-clause-unclosed
close-before-requires-clause-unclosed c =
    let t = taken_at _ c.args.self.now c.args.worker c.number.result _ _ _ c.self.view_is c.number.ensures.value c.self.invariant.2 c.requires.closes c.index_mut.ensures.value c.take.ensures.value c.in-Some.is in
    leaf_unclosed _ _ _ (job_fair _ _ _ _ _ t)

pub invariant_of-self-then-not-are_closed : goal.invariant_of-self-then-not-are_closed
invariant_of-self-then-not-are_closed c =
    let t = taken_at _ c.args.self.now c.args.worker c.number.result _ _ _ c.self.view_is c.number.ensures.value c.self.invariant.2 c.requires.closes c.index_mut.ensures.value c.take.ensures.value c.in-Some.is in
    let h : IsShut _ c.args.self.now c.args.worker c.number.result c.in-Some.job c.take_bytes-bytes.result c.close-before.new.self c.take.new.self =
    record { taken = t; text_is = c.take_bytes-bytes.ensures.bytes; rows_are = c.close-before.ensures.now; none = c.take.ensures.after } in
    (c.self.invariant.0, c.self.invariant.1, goes_on _ _ _ _ _ _ _ _ h (λ all. false≢true (sym c.if-not-are_closed.true ∙ c.are_closed.ensures.1 all)), c.self.invariant.3, rows_set _ _ _ c.self.inside.leaves c.close-before.new.self c.self.inside.front c.in-Some.job.leaf Closed c.take_bytes-bytes.result c.close-before.ensures.now (leaf_unclosed _ _ _ (job_fair _ _ _ _ _ t)) c.self.invariant.4)

pub returns-then-not-are_closed : goal.returns-then-not-are_closed
returns-then-not-are_closed c =
    let t = taken_at _ c.args.self.now c.args.worker c.number.result _ _ _ c.self.view_is c.number.ensures.value c.self.invariant.2 c.requires.closes c.index_mut.ensures.value c.take.ensures.value c.in-Some.is in
    let h : IsShut _ c.args.self.now c.args.worker c.number.result c.in-Some.job c.take_bytes-bytes.result c.close-before.new.self c.take.new.self =
    record { taken = t; text_is = c.take_bytes-bytes.ensures.bytes; rows_are = c.close-before.ensures.now; none = c.take.ensures.after } in
    ends_closed _ _ _ _ _ _ _ _ h (λ all. false≢true (sym c.if-not-are_closed.true ∙ c.are_closed.ensures.1 all))

pub front_or_new-front-requires-clause-pairs : goal.front_or_new-front-requires-clause-pairs
front_or_new-front-requires-clause-pairs c = pairs_inside _ c.self.invariant.2

pub join_rest-requires-clause-front : goal.join_rest-requires-clause-front
join_rest-requires-clause-front c =
    let t = taken_at _ c.args.self.now c.args.worker c.number.result _ _ _ c.self.view_is c.number.ensures.value c.self.invariant.2 c.requires.closes c.index_mut.ensures.value c.take.ensures.value c.in-Some.is in (
      c.close-before.new.self.states,
      c.front_or_new-front.ensures.front c.self.inside.tree c.close-before.new.self.states c.fragments.result.now
          (held_joined _ _ _ c.self.inside.leaves c.close-before.new.self c.self.inside.front c.in-Some.job.leaf Closed c.take_bytes-bytes.result c.take-held.result c.fragments.result.now c.close-before.ensures.now (leaf_unclosed _ _ _ (job_fair _ _ _ _ _ t))
          c.take-held.ensures.value c.fragments.ensures c.self.invariant.4),
    )

pub join_rest-requires-clause-pairs : goal.join_rest-requires-clause-pairs
join_rest-requires-clause-pairs c = pairs_inside _ c.self.invariant.2

pub join_rest-requires-clause-closed : goal.join_rest-requires-clause-closed
join_rest-requires-clause-closed c =
    let t = taken_at _ c.args.self.now c.args.worker c.number.result _ _ _ c.self.view_is c.number.ensures.value c.self.invariant.2 c.requires.closes c.index_mut.ensures.value c.take.ensures.value c.in-Some.is in
    let h : IsShut _ c.args.self.now c.args.worker c.number.result c.in-Some.job c.take_bytes-bytes.result c.close-before.new.self c.take.new.self =
    record { taken = t; text_is = c.take_bytes-bytes.ensures.bytes; rows_are = c.close-before.ensures.now; none = c.take.ensures.after } in
    all_there _ _ _ _ _ _ _ _ _ h (c.are_closed.ensures.0 c.if-not-are_closed.false) c.fragments.ensures

pub invariant_of-self-in-Ok : goal.invariant_of-self-in-Ok
invariant_of-self-in-Ok c =
    let t = taken_at _ c.args.self.now c.args.worker c.number.result _ _ _ c.self.view_is c.number.ensures.value c.self.invariant.2 c.requires.closes c.index_mut.ensures.value c.take.ensures.value c.in-Some.is in
    let h : IsShut _ c.args.self.now c.args.worker c.number.result c.in-Some.job c.take_bytes-bytes.result c.close-before.new.self c.take.new.self =
    record { taken = t; text_is = c.take_bytes-bytes.ensures.bytes; rows_are = c.close-before.ensures.now; none = c.take.ensures.after } in
    (c.self.invariant.0, c.self.invariant.1, joined_is _ _ _ _ _ _ _ _ _ c.in-Ok.text _ h c.fragments.ensures refl c.in-Ok.ensures.joined c.in-Ok.ensures.short c.in-Ok.ensures.accepted, c.self.invariant.3, none_joined _ _ _ _ _ _ c.take-held.ensures.after)

pub invariant_of-self-in-Err-TooLong : goal.invariant_of-self-in-Err-TooLong
invariant_of-self-in-Err-TooLong c =
    let t = taken_at _ c.args.self.now c.args.worker c.number.result _ _ _ c.self.view_is c.number.ensures.value c.self.invariant.2 c.requires.closes c.index_mut.ensures.value c.take.ensures.value c.in-Some.is in
    let h : IsShut _ c.args.self.now c.args.worker c.number.result c.in-Some.job c.take_bytes-bytes.result c.close-before.new.self c.take.new.self =
    record { taken = t; text_is = c.take_bytes-bytes.ensures.bytes; rows_are = c.close-before.ensures.now; none = c.take.ensures.after } in
    let some = some_joined _ _ _ _ _ _ _ _ _ h (c.are_closed.ensures.0 c.if-not-are_closed.false) c.fragments.ensures in
    let long : 2 ^ 32 ≤ length some.0 = c.in-Err-TooLong.ensures.long c.in-Err-TooLong.field-0-is some.0 some.1 in
    (c.self.invariant.0, c.self.invariant.1, too_long_is _ _ _ _ _ _ _ _ _ some.0 h c.fragments.ensures some.1 long, c.self.invariant.3, none_joined _ _ _ _ _ _ c.take-held.ensures.after)

pub give_back-requires-clause-inside : goal.give_back-requires-clause-inside
give_back-requires-clause-inside c =
    let t = taken_at _ c.args.self.now c.args.worker c.number.result _ _ _ c.self.view_is c.number.ensures.value c.self.invariant.2 c.requires.closes c.index_mut.ensures.value c.take.ensures.value c.in-Some.is in
    let h : IsShut _ c.args.self.now c.args.worker c.number.result c.in-Some.job c.take_bytes-bytes.result c.close-before.new.self c.take.new.self =
    record { taken = t; text_is = c.take_bytes-bytes.ensures.bytes; rows_are = c.close-before.ensures.now; none = c.take.ensures.after } in
    (leaf_back _ _ _ _ _ _ _ _ h).0

pub give_back-requires-clause-closed : goal.give_back-requires-clause-closed
give_back-requires-clause-closed c =
    let t = taken_at _ c.args.self.now c.args.worker c.number.result _ _ _ c.self.view_is c.number.ensures.value c.self.invariant.2 c.requires.closes c.index_mut.ensures.value c.take.ensures.value c.in-Some.is in
    let h : IsShut _ c.args.self.now c.args.worker c.number.result c.in-Some.job c.take_bytes-bytes.result c.close-before.new.self c.take.new.self =
    record { taken = t; text_is = c.take_bytes-bytes.ensures.bytes; rows_are = c.close-before.ensures.now; none = c.take.ensures.after } in
    (leaf_back _ _ _ _ _ _ _ _ h).1

pub index_mut-requires-2 : goal.index_mut-requires-2
index_mut-requires-2 c =
    let lt = desk_is _ c.args.self.now c.args.worker c.number.result c.self.view_is c.number.ensures.value c.requires.closes in omega (arith, lt, c.self.inside.jobs.ok.0)

pub invariant_of-self-2 : goal.invariant_of-self-2
invariant_of-self-2 c =
    let t = taken_at _ c.args.self.now c.args.worker c.number.result _ _ _ c.self.view_is c.number.ensures.value c.self.invariant.2 c.requires.closes c.index_mut.ensures.value c.take.ensures.value c.in-Some.is in
    let h : IsShut _ c.args.self.now c.args.worker c.number.result c.in-Some.job c.take_bytes-bytes.result c.close-before.new.self c.take.new.self =
    record { taken = t; text_is = c.take_bytes-bytes.ensures.bytes; rows_are = c.close-before.ensures.now; none = c.take.ensures.after } in
    let back = given_back _ _ _ _ _ c.give_bytes.new.self _ c.close-before.result _ c.give_back.new.self _ h c.close-before.ensures.before c.give_back.ensures.now
    (c.give_bytes.ensures ∙ ap (job_with_bytes c.take_bytes-bytes.new.self) (c.give_back.ensures.fragment ∙ text_back _ _ _ _ _ _ _ _ h) ∙ c.take_bytes-bytes.ensures.back) in
    (c.self.invariant.0, c.self.invariant.1, subst IsCoordinator (sym back) c.self.invariant.2, c.self.invariant.3, none_joined _ _ _ _ _ _ c.take-held.ensures.after)

pub returns-in-Ok : goal.returns-in-Ok
returns-in-Ok c =
    let t = taken_at _ c.args.self.now c.args.worker c.number.result _ _ _ c.self.view_is c.number.ensures.value c.self.invariant.2 c.requires.closes c.index_mut.ensures.value c.take.ensures.value c.in-Some.is in
    let h : IsShut _ c.args.self.now c.args.worker c.number.result c.in-Some.job c.take_bytes-bytes.result c.close-before.new.self c.take.new.self =
    record { taken = t; text_is = c.take_bytes-bytes.ensures.bytes; rows_are = c.close-before.ensures.now; none = c.take.ensures.after } in
    ends_joined _ _ _ _ _ _ _ _ _ c.in-Ok.text _ h (c.are_closed.ensures.0 c.if-not-are_closed.false) c.fragments.ensures refl c.in-Ok.ensures.joined c.in-Ok.ensures.short

pub returns-in-Err-TooLong : goal.returns-in-Err-TooLong
returns-in-Err-TooLong c =
    let t = taken_at _ c.args.self.now c.args.worker c.number.result _ _ _ c.self.view_is c.number.ensures.value c.self.invariant.2 c.requires.closes c.index_mut.ensures.value c.take.ensures.value c.in-Some.is in
    let h : IsShut _ c.args.self.now c.args.worker c.number.result c.in-Some.job c.take_bytes-bytes.result c.close-before.new.self c.take.new.self =
    record { taken = t; text_is = c.take_bytes-bytes.ensures.bytes; rows_are = c.close-before.ensures.now; none = c.take.ensures.after } in
    let some = some_joined _ _ _ _ _ _ _ _ _ h (c.are_closed.ensures.0 c.if-not-are_closed.false) c.fragments.ensures in
    let long : 2 ^ 32 ≤ length some.0 = c.in-Err-TooLong.ensures.long c.in-Err-TooLong.field-0-is some.0 some.1 in
    ends_too_long _ _ _ _ _ _ _ _ _ some.0 h (c.are_closed.ensures.0 c.if-not-are_closed.false) c.fragments.ensures some.1 long

pub returns : goal.returns
returns c =
    let t = taken_at _ c.args.self.now c.args.worker c.number.result _ _ _ c.self.view_is c.number.ensures.value c.self.invariant.2 c.requires.closes c.index_mut.ensures.value c.take.ensures.value c.in-Some.is in
    let h : IsShut _ c.args.self.now c.args.worker c.number.result c.in-Some.job c.take_bytes-bytes.result c.close-before.new.self c.take.new.self =
    record { taken = t; text_is = c.take_bytes-bytes.ensures.bytes; rows_are = c.close-before.ensures.now; none = c.take.ensures.after } in
    let back = given_back _ _ _ _ _ c.give_bytes.new.self _ c.close-before.result _ c.give_back.new.self _ h c.close-before.ensures.before c.give_back.ensures.now
    (c.give_bytes.ensures ∙ ap (job_with_bytes c.take_bytes-bytes.new.self) (c.give_back.ensures.fragment ∙ text_back _ _ _ _ _ _ _ _ h) ∙ c.take_bytes-bytes.ensures.back) in
    refused _ _ _ _ c.self.view_is back
