use Rattle.std.proofs.Common.{◌≡◌, ◌+◌, ◌∙◌, ◌<◌, true, Bool, List, length, get_or, set, sym, ap, subst, arith}
use Rattle.std.proofs.lemmas.List.{get_or_read}
use Rattle.decide_heap.specs.Decisions.{Decisions}
use Rattle.decide_heap.specs.Heap.{members_of}
use Rattle.decide_heap.specs.inner.Heap.{Tables, tables_of, decisions_of, IsRising}
use Rattle.decide_heap.proofs.DecisionLemmas.{in_already, stands_in, put_is_in, members_alone}
use Rattle.decide_heap.proofs.MemberLemmas.{members_in, members_same, length_members}
use Rattle.decide_heap.proofs.MoveLemmas.{same_scores, same_len}
use Rattle.decide_heap.proofs.ScoreLemmas.{entered}
use Rattle.decide_heap.proofs.rows.Rows.insert_row.Goals as goal
use Rattle.decide_heap.proofs.rows.Rows.insert_row.Goals.{After-index}

-- each variable has a place
placed : (c : After-index) → c.args.row < length c.args.self.now.places.items
placed c =
    let r = c.requires.heap.rows in
    omega (arith, c.requires.within, r.size, r.paired.long)

-- the variable's place
place : (c : After-index) → c.index.result.now ≡ get_or c.args.self.now.places.items c.args.row 0
place c = get_or_read c.args.self.now.places.items c.args.row c.index.result.now (placed c) c.index.ensures 0

within : (c : After-index) → c.index.result.now < length c.args.self.now.heap.items
within c =
    let r = c.requires.heap.rows in
    omega (arith, place c, r.paired.within c.args.row (omega (arith, c.requires.within, r.size)))

pub index-requires : goal.index-requires
index-requires c =
    let r = c.requires.heap.rows in
    omega (arith, c.requires.within, r.size, r.paired.long, c.args.self.now.places.ok.0)

pub returns-then-at-last-clause-member : goal.returns-then-at-last-clause-member
returns-then-at-last-clause-member c =
    let k = (goal.at.returns-then-at-last-clause-member c).After-index in
    let t = tables_of c.args.self.now in
    let inside = stands_in t.places t.len c.args.row (placed k) (omega (arith, place k, c.if-at-last.true)) in
    ap (λ (ms : List Bool). record (decisions_of t) { members = ms }) (sym (in_already (members_of t.places t.len) c.args.row inside))

pub returns-then-at-last-clause-inside : goal.returns-then-at-last-clause-inside
returns-then-at-last-clause-inside c =
    let k = (goal.at.returns-then-at-last-clause-inside c).After-index in
    stands_in c.args.self.now.places.items c.args.self.now.len c.args.row (placed k) (omega (arith, place k, c.if-at-last.true))

pub exchange-requires : goal.exchange-requires
exchange-requires c =
    let k = (goal.at.exchange-requires c).After-index in
    record { first = within k; second = omega (arith, within k, c.if-at-last.false); rows = c.requires.heap.rows }

pub overflow_add-self : goal.overflow_add-self
overflow_add-self c = let r = c.exchange.ensures.rows in omega (arith, r.limit, r.count)

pub sift_up-requires : goal.sift_up-requires
sift_up-requires c =
    let k = (goal.at.sift_up-requires c).After-index in
    let r = c.exchange.ensures.rows in
    let same = same_len (tables_of c.args.self.now) (tables_of c.exchange.new.self) c.exchange.ensures.moved in
    record {
      within = omega (arith, same);
      rows = record {
        limit = r.limit;
        size = r.size;
        count = omega (arith, same, within k, c.if-at-last.false, c.exchange.ensures.moved.long, r.size);
        paired = r.paired;
      };
    }

pub returns-clause-heap : goal.returns-clause-heap
returns-clause-heap c =
    let t = tables_of c.args.self.now in
    let u = tables_of c.exchange.new.self in
    let rising = entered t u.heap c.index.result.now c.requires.heap c.exchange.ensures.swapped c.if-at-last.false in
    record {
      rows = c.sift_up.ensures.rows;
      ordered = c.sift_up.ensures.ordered (subst (λ (x : Tables). IsRising x.scores u.heap (x.len + 1) t.len) (sym c.exchange.ensures.moved.rest) rising);
    }

pub returns-clause-member : goal.returns-clause-member
returns-clause-member c =
    let k = (goal.at.returns-clause-member c).After-index in
    let t = tables_of c.args.self.now in
    let u = tables_of c.exchange.new.self in
    let v = record u { len = u.len + 1 } in
    let w = tables_of c.sift_up.new.self in
    let x = c.exchange.ensures in
    let s = c.sift_up.ensures in
    let at = c.index.result.now in
    let row : c.args.row < length t.heap = omega (arith, c.requires.within, c.requires.heap.rows.size) in
    let len : w.len ≡ t.len + 1 = omega (arith, same_len v w s.moved, same_len t u x.moved) in
    let there : get_or t.heap at 0 ≡ c.args.row = ap (λ i. get_or t.heap i 0) (place k) ∙ c.requires.heap.rows.paired.there c.args.row row in
    members_alone t w (set (members_of t.places t.len) c.args.row true) (same_scores v w s.moved ∙ same_scores t u x.moved)
    (ap (λ n. members_of w.places n) len
    ∙ members_same u.heap u.places w.heap w.places (t.len + 1) x.rows.paired s.rows.paired s.moved.long (λ i lt. s.beyond i (omega arith))
    ∙ members_in t.heap t.places u.heap u.places t.len at c.requires.heap.rows.paired x.rows.paired x.moved.long x.swapped c.if-at-last.false (within k)
    ∙ ap (λ r. set (members_of t.places t.len) r true) there)

pub returns-clause-inside : goal.returns-clause-inside
returns-clause-inside c =
    let k = (goal.at.returns-clause-inside c).After-index in
    let t = tables_of c.args.self.now in
    let lt : c.args.row < length (members_of t.places t.len) = omega (arith, placed k, length_members t.places t.len) in
    put_is_in (members_of t.places t.len) _ c.args.row lt (ap (λ (d : Decisions). d.members) (returns-clause-member c))
