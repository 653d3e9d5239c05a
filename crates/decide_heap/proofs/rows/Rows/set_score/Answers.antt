use Rattle.std.proofs.Common.{◌≡◌, ◌<◌, ◌∙◌, get_or, set, refl, sym, ap, subst, arith, length-set}
use Rattle.std.proofs.lemmas.List.{get_or_read}
use Rattle.decide_heap.specs.inner.Heap.{tables_of, IsRising}
use Rattle.decide_heap.proofs.DecisionLemmas.{scores_alone}
use Rattle.decide_heap.proofs.MemberLemmas.{members_same}
use Rattle.decide_heap.proofs.MoveLemmas.{same_scores, same_len}
use Rattle.decide_heap.proofs.ScoreLemmas.{raised_inside, raised_outside}
use Rattle.decide_heap.specs.Heap.{members_of}
use Rattle.decide_heap.proofs.rows.Rows.set_score.Goals as goal
use Rattle.decide_heap.proofs.rows.Rows.set_score.Goals.{After-index}

-- the variable's place
place : (c : After-index) → c.index.result.now ≡ get_or c.args.self.now.places.items c.args.row 0
place c =
    let r = c.requires.heap.rows in
    get_or_read c.args.self.now.places.items c.args.row c.index.result.now (omega (arith, c.requires.within, r.size, r.paired.long)) c.index.ensures 0

pub index-requires : goal.index-requires
index-requires c =
    let r = c.requires.heap.rows in
    omega (arith, c.requires.within, r.size, r.paired.long, c.args.self.now.places.ok.0)

pub sift_up-requires : goal.sift_up-requires
sift_up-requires c =
    let r = c.requires.heap.rows in
    let same = length-set c.args.self.now.scores.items c.args.row c.args.score in
    record {
      within = c.if-at-self.true;
      rows = record { limit = omega (arith, r.limit, same); size = r.size ∙ sym same; count = omega (arith, r.count, same); paired = r.paired };
    }

pub returns-then-at-self-clause-heap : goal.returns-then-at-self-clause-heap
returns-then-at-self-clause-heap c =
    let k = (goal.at.returns-then-at-self-clause-heap c).After-index in
    let t = tables_of c.args.self.now in
    let inside : get_or t.places c.args.row 0 < t.len = omega (arith, place k, c.if-at-self.true) in
    record {
      rows = c.sift_up.ensures.rows;
      ordered = c.sift_up.ensures.ordered (subst (λ n. IsRising (set t.scores c.args.row c.args.score) t.heap t.len n) (sym (place k)) (raised_inside t c.args.row c.args.score c.requires.heap c.requires.within c.requires.risen inside));
    }

pub returns-then-at-self-clause-score : goal.returns-then-at-self-clause-score
returns-then-at-self-clause-score c =
    let t = tables_of c.args.self.now in
    let u = record t { scores = set t.scores c.args.row c.args.score } in
    let v = tables_of c.sift_up.new.self in
    let s = c.sift_up.ensures in
    scores_alone t v (set t.scores c.args.row c.args.score) (length-set t.scores c.args.row c.args.score)
    (same_scores u v s.moved)
    (ap (λ n. members_of v.places n) (same_len u v s.moved) ∙ members_same t.heap t.places v.heap v.places t.len c.requires.heap.rows.paired s.rows.paired s.moved.long (λ i lt. s.beyond i (omega (arith, c.if-at-self.true))))

pub returns-else-at-self-clause-heap : goal.returns-else-at-self-clause-heap
returns-else-at-self-clause-heap c =
    let k = (goal.at.returns-else-at-self-clause-heap c).After-index in
    let t = tables_of c.args.self.now in
    let r = c.requires.heap.rows in
    let same = length-set t.scores c.args.row c.args.score in
    record {
      rows = record { limit = omega (arith, r.limit, same); size = r.size ∙ sym same; count = omega (arith, r.count, same); paired = r.paired };
      ordered = raised_outside t c.args.row c.args.score c.requires.heap c.requires.within c.requires.risen (omega (arith, place k, c.if-at-self.false));
    }

pub returns-else-at-self-clause-score : goal.returns-else-at-self-clause-score
returns-else-at-self-clause-score c =
    let t = tables_of c.args.self.now in
    scores_alone t (record t { scores = set t.scores c.args.row c.args.score }) (set t.scores c.args.row c.args.score) (length-set t.scores c.args.row c.args.score)
    refl refl
