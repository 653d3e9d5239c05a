use Rattle.std.proofs.Common.{◌≡◌, ◌+◌, ◌-◌, ◌<◌, ◌≤◌, ◌∙◌, false, length, set, sym, ap, subst, arith}
use Rattle.std.proofs.lemmas.List.{get_or_read}
use Rattle.decide_heap.specs.Heap.{members_of}
use Rattle.decide_heap.specs.inner.Heap.{Tables, tables_of, IsOrdered}
use Rattle.decide_heap.proofs.DecisionLemmas.{members_alone}
use Rattle.decide_heap.proofs.MemberLemmas.{members_out, members_same}
use Rattle.decide_heap.proofs.MoveLemmas.{same_scores, same_len}
use Rattle.decide_heap.proofs.ScoreLemmas.{left_first}
use Rattle.decide_heap.proofs.rows.Rows.pop_first.Goals as goal

pub index-first-requires : goal.index-first-requires
index-first-requires c = let r = c.requires.heap.rows in omega (arith, c.requires.some, r.size, r.count, c.args.self.now.heap.ok.0)

pub exchange-requires : goal.exchange-requires
exchange-requires c =
    let r = c.requires.heap.rows in
    record { first = omega (arith, c.requires.some, r.size, r.count); second = omega (arith, c.requires.some, r.size, r.count); rows = r }

pub sift_down-requires : goal.sift_down-requires
sift_down-requires c =
    let t = tables_of c.args.self.now in
    let u = tables_of c.exchange.new.self in
    let x = c.exchange.ensures in
    let r = x.rows in
    let same = same_len t u x.moved in
    let last = t.len - 1 in
    record {
      within = omega (arith, c.requires.some, same, r.size, r.count);
      rows = record { limit = r.limit; size = r.size; count = omega (arith, same, r.count); paired = r.paired };
      ordered = subst (λ (y : Tables). IsOrdered y.scores u.heap last (0 + 1)) (sym x.moved.rest) (left_first t u.heap last c.requires.heap x.swapped (omega (arith, c.requires.some)));
    }

pub returns-clause-heap : goal.returns-clause-heap
returns-clause-heap c = record { rows = c.sift_down.ensures.rows; ordered = c.sift_down.ensures.ordered }

pub returns-clause-first : goal.returns-clause-first
returns-clause-first c =
    let r = c.requires.heap.rows in
    let t = tables_of c.args.self.now in
    let room : 0 < length t.heap = omega (arith, c.requires.some, r.size, r.count) in
    get_or_read t.heap 0 c.index-first.result.now room c.index-first.ensures 0

pub returns-clause-member : goal.returns-clause-member
returns-clause-member c =
    let t = tables_of c.args.self.now in
    let u = tables_of c.exchange.new.self in
    let last = t.len - 1 in
    let v = record u { len = last } in
    let w = tables_of c.sift_down.new.self in
    let x = c.exchange.ensures in
    let s = c.sift_down.ensures in
    let r = c.requires.heap.rows in
    let e : t.len ≡ last + 1 = omega (arith, c.requires.some) in
    let all : t.len ≤ length t.heap = omega (arith, r.size, r.count) in
    let room : 0 < length t.heap = omega (arith, c.requires.some, r.size, r.count) in
    let first = get_or_read t.heap 0 c.index-first.result.now room c.index-first.ensures 0 in
    members_alone t w (set (members_of t.places t.len) c.index-first.result.now false) (same_scores v w s.moved ∙ same_scores t u x.moved)
    (ap (λ n. members_of w.places n) (same_len v w s.moved)
    ∙ members_same u.heap u.places w.heap w.places last x.rows.paired s.rows.paired s.moved.long s.beyond
    ∙ members_out t.heap t.places u.heap u.places t.len last r.paired x.rows.paired x.moved.long x.swapped e all
    ∙ ap (λ k. set (members_of t.places t.len) k false) (sym first))
