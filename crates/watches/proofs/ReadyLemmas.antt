-- The invariant of `Watched` is kept by each call.
use Rattle.std.proofs.Common.{◌≡◌, ◌≢◌, ℕ, ◌+◌, ◌*◌, ◌-◌, ◌/◌, ◌%◌, ◌^◌, ◌<◌, ◌≤◌, inl, inr, Bool, true, false, List, [], ◌∷◌, ◌++◌, length, get_or, set, refl, ap, sym, ◌∙◌, subst, arith, length-append}
use Rattle.std.specs.List.{All, Contains, IsDistinct, remove}
use Rattle.std.proofs.lemmas.Bool.{cases_lt, false≢true}
use Rattle.std.proofs.lemmas.List.{get_or-map, length-map, length-set}
use Rattle.std.proofs.lemmas.List.Edits.{length-remove, get_or-remove_below, get_or-remove_above}
use Rattle.std.proofs.lemmas.List.Elements.{All-push}
use Rattle.dimacs.specs.logic.Literal.{Literal, Clause, IsWithin, same}
use Rattle.clause_arena.specs.declared.reference.Ref.{Ref}
use Rattle.clause_arena.specs.Clauses.{Clauses, RefersTo}
use Rattle.clause_arena.specs.Compaction.{IsCompacted}
use Rattle.clause_arena.proofs.ClauseLaws.{stands_once}
use Rattle.watches.specs.declared.trail.Assigned.{Assigned}
use Rattle.watches.specs.Trails.{TrailValue}
use Rattle.watches.specs.Law.{AreWithout}
use Rattle.watches.specs.inner.MovedRefs.{AreFollowed}
use Rattle.watches.specs.ClauseNumbers.{numbers}
use Rattle.watches.specs.inner.LiveClauses.{IsLiveWithin}
use Rattle.watches.specs.inner.ScanLaws.{has_number, here_pushed}
use Rattle.watches.specs.declared.watched.watch.Watch.{Watch}
use Rattle.watches.specs.inner.WatchLists.{next_of, AppendsTwo}
use Rattle.watches.specs.inner.WatchInvariants.{IsWatching, IsLong, no_clause, fresh_watches}
use Rattle.watches.specs.Watches.{Watches, attached_of}
use Rattle.watches.specs.inner.Ready.{AreNamed, AreWatches, IsReady}
use Rattle.watches.proofs.MovedRefsLemmas.{stands_followed, all_here_followed}
use Rattle.watches.proofs.StateLemmas.{cut}
use Rattle.watches.proofs.AttachLemmas.{appends, some_watching, named_push}
use Rattle.watches.proofs.DetachLemmas.{attached_push, all_attached, attached_followed, stood, marks}

-- ---- literals above a level were taken out
pub ready_cut : (w : Watches) (now : ℕ) (m : Clauses) (t u : TrailValue) (gone : List Assigned) (level : ℕ) → IsReady w m t → u.vars ≡ t.vars → t.entries ≡ u.entries ++ gone
    → All (λ e. e.level ≤ level) u.entries → All (λ e. level < e.level) gone → now ≤ w.head → now ≤ length u.entries → IsReady (record w { head = now }) m u
ready_cut w now m t u gone level r v e a c l n = record {
  wide = omega (arith, r.wide);
  here = here_pushed m t u w.clauses r.here v;
  watching = λ s. let x = r.watching s in (x.0, cut w m t x.0 x.1 u gone level now v e a c l n);
}

-- ---- a clause was attached
module _ (w : Watches) (cs : List Ref) (ls : List Bool) (among : w.clauses ≡ attached_of cs ls) (h : AreWatches w.places cs ls w.base w.stale)
    (k : Clauses) (t : TrailValue) (ys : List Watch) (at : Ref) (C : Clause) (one two : Literal)
    (fresh : Contains (numbers w.clauses) at.number → ⊥)
    (appended : AppendsTwo w.places ys w.base one two) where
  new_number : (i : ℕ) → i < length w.clauses → (get_or w.clauses i no_clause).number ≢ at.number
  new_number i l e = fresh (subst (Contains (numbers w.clauses)) e (has_number w.clauses i no_clause l))

  pub attached_more : attached_of (cs ++ at ∷ []) (ls ++ true ∷ []) ≡ w.clauses ++ at ∷ []
  attached_more = attached_push cs ls at true h.marked ∙ ap (λ (xs : List Ref). xs ++ at ∷ []) (sym among)

  pub watches_attached : length w.places + 2 ≤ 2 ^ 32 → AreWatches ys (cs ++ at ∷ []) (ls ++ true ∷ []) w.base w.stale
  watches_attached l = record {
    whole = omega (arith, appended.long, h.whole, length-append cs (at ∷ []));
    few = omega (arith, appended.long);
    even = h.even;
    last = λ z. (inr (omega (arith, appended.last, h.whole)), omega (arith, appended.last, appended.long));
    marked = omega (arith, length-append cs (at ∷ []), length-append ls (true ∷ []), h.marked);
    named = subst AreNamed (sym attached_more) (named_push w.clauses at (subst AreNamed (sym among) h.named) new_number);
    none_gone = λ s. All-push (λ b. b ≡ true) ls true (h.none_gone s) refl;
  }

  pub ready_attached : IsReady w k t → RefersTo k at C → All (IsWithin t.vars) C → IsDistinct same C
      → ((d : Literal) → 2 ≤ length C → (one ≡ get_or C 0 d) × (two ≡ get_or C 1 d)) → IsReady (record w { places = ys; clauses = w.clauses ++ at ∷ [] }) k t
  ready_attached r st within differ firsts = record {
    wide = r.wide;
    here = All-push (IsLiveWithin k t.vars) w.clauses at r.here (C, st, within);
    watching = λ s.
        let x = r.watching s in
        let all : w.clauses ≡ cs = among ∙ all_attached cs ls h.marked (h.none_gone s) in
        some_watching w ys k t x.0 x.1 (omega (arith, h.whole, ap length all)) at C st within differ new_number (appends w.places ys w.base C one two appended firsts);
  }

-- ---- numbers of clauses, by places
pub number_at : (xs : List Ref) (n : ℕ) → Contains (numbers xs) n → (k : ℕ) × (k < length xs) × ((get_or xs k no_clause).number ≡ n)
number_at xs n h =
    let l : h.0 < length xs = omega (arith, h.1, length-map xs (λ (x : Ref). x.number)) in
    (h.0, l, sym (get_or-map (λ (x : Ref). x.number) xs h.0 no_clause n l) ∙ h.2)

is_number : (xs : List Ref) (k n : ℕ) → k < length xs → (get_or xs k no_clause).number ≡ n → Contains (numbers xs) n
is_number xs k n l e = subst (Contains (numbers xs)) e (has_number xs k no_clause l)

-- ---- a clause was taken out
-- where the clause stood that is now at k
module _ (clauses : List Ref) (i : ℕ) (inside : i < length clauses) where
  before : (k : ℕ) → k < length (remove clauses i) → (j : ℕ) × (j < length clauses) × (j ≢ i) × ((d : Ref) → get_or (remove clauses i) k d ≡ get_or clauses j d) × ((k < i → j ≡ k) × (i ≤ k → j ≡ k + 1))
  before k l = let n = length-remove clauses i inside in elim (cases_lt k i) [
    | inl b ↦ (k, omega arith, (λ e. omega arith), (λ d. get_or-remove_below clauses i d k b inside), ((λ _. refl), λ c. absurd (omega arith)))
    | inr b ↦ (k + 1, omega arith, (λ e. omega arith), (λ d. get_or-remove_above clauses i d k b inside), ((λ c. absurd (omega arith)), λ _. refl))
  ]

  pub all_removed : (P : Ref → Type 0) → All P clauses → All P (remove clauses i)
  all_removed P h k d l = let b = before k l in subst P (sym (b.3 d)) (h b.0 d b.1)

  pub named_removed : AreNamed clauses → AreNamed (remove clauses i)
  named_removed h k j hk hj e =
      let a = before k hk in
      let b = before j hj in
      let s : a.0 ≡ b.0 = h a.0 b.0 a.1 b.1 (ap (λ (r : Ref). r.number) (sym (a.3 no_clause)) ∙ e ∙ ap (λ (r : Ref). r.number) (b.3 no_clause)) in
      elim (cases_lt k i) [
        | inl x ↦ elim (cases_lt j i) [ inl y ↦ omega (arith, a.4.0 x, b.4.0 y) | inr y ↦ absurd (omega (arith, a.4.0 x, b.4.1 y)) ]
        | inr x ↦ elim (cases_lt j i) [ inl y ↦ absurd (omega (arith, a.4.1 x, b.4.0 y)) | inr y ↦ omega (arith, a.4.1 x, b.4.1 y) ]
      ]

  pub without_removed : (n : ℕ) → AreNamed clauses → (get_or clauses i no_clause).number ≡ n → AreWithout (numbers clauses) n (numbers (remove clauses i))
  without_removed n h is q = (
    λ c.
        let x = number_at (remove clauses i) q c in
        let b = before x.0 x.1 in
        let e : (get_or clauses b.0 no_clause).number ≡ q = ap (λ (r : Ref). r.number) (sym (b.3 no_clause)) ∙ x.2 in
        (is_number clauses b.0 q b.1 e, λ g. b.2 (h b.0 i b.1 inside (e ∙ g ∙ sym is))),
    λ c.
        let x = number_at clauses q c.0 in
        let n = length-remove clauses i inside in
        let apart : x.0 ≢ i = λ g. c.1 (sym x.2 ∙ ap (λ j. (get_or clauses j no_clause).number) g ∙ is) in
        elim (cases_lt x.0 i) [
          | inl b ↦ is_number (remove clauses i) x.0 q (omega arith) (ap (λ (r : Ref). r.number) (get_or-remove_below clauses i no_clause x.0 b inside) ∙ x.2)
          | inr b ↦
              let e : (x.0 - 1) + 1 ≡ x.0 = omega arith in
              is_number (remove clauses i) (x.0 - 1) q (omega arith)
              (ap (λ (r : Ref). r.number) (get_or-remove_above clauses i no_clause (x.0 - 1) (omega arith) inside ∙ ap (λ j. get_or clauses j no_clause) e) ∙ x.2)
        ],
  )

-- ---- a clause was marked as detached
module _ (places : List Watch) (cs : List Ref) (ls : List Bool) (base : ℕ) (stale : Bool) (h : AreWatches places cs ls base stale) (i : ℕ) (inside : i < length cs) (live : get_or ls i false ≡ true) where
  pub watches_marked : AreWatches places cs (set ls i false) base true
  watches_marked =
      let m = marks cs ls i h.marked inside live in
      record {
        whole = h.whole;
        few = h.few;
        even = h.even;
        last = h.last;
        marked = omega (arith, length-set ls i false, h.marked);
        named = subst AreNamed (sym m.without) (named_removed (attached_of cs ls) m.place m.within h.named);
        none_gone = λ s. absurd (false≢true (sym s));
      }

  pub all_marked : (P : Ref → Type 0) → All P (attached_of cs ls) → All P (attached_of cs (set ls i false))
  all_marked P a = let m = marks cs ls i h.marked inside live in subst (All P) (sym m.without) (all_removed (attached_of cs ls) m.place m.within P a)

  pub without_marked : (n : ℕ) → (get_or cs i no_clause).number ≡ n → AreWithout (numbers (attached_of cs ls)) n (numbers (attached_of cs (set ls i false)))
  without_marked n e =
      let m = marks cs ls i h.marked inside live in
      subst (λ (xs : List Ref). AreWithout (numbers (attached_of cs ls)) n (numbers xs)) (sym m.without)
      (without_removed (attached_of cs ls) m.place m.within n h.named (ap (λ (r : Ref). r.number) (m.same no_clause) ∙ e))

-- where an attached clause stands among all
pub attached_at : (cs : List Ref) (ls : List Bool) (n : ℕ) → Contains (numbers (attached_of cs ls)) n → (i : ℕ) × (i < length cs) × (get_or ls i false ≡ true) × ((get_or cs i no_clause).number ≡ n)
attached_at cs ls n h =
    let x = number_at (attached_of cs ls) n h in
    let s = stood cs ls x.0 x.1 in
    (s.place, s.within, s.live, ap (λ (r : Ref). r.number) (sym (s.same no_clause)) ∙ x.2)

-- ---- clauses moved
module _ (m k : Clauses) (moves : List (Ref × Ref)) (W : Watches) (new : List Ref) (h : IsCompacted m k moves) (f : AreFollowed moves W.clauses new) where
  abbrev then_watches : Watches
  then_watches = record W { clauses = new }

  pub watching_followed : (t : TrailValue) (paths : ℕ → List ℕ) → IsWatching W m t paths → IsWatching then_watches k t paths
  watching_followed t paths w = record {
    lists = w.lists;
    wide = w.wide;
    even = w.even;
    low = w.low;
    paired = w.paired;
    partly = omega (arith, w.partly, f.long);
    named = λ i j a b e. w.named i j (omega (arith, f.long)) (omega (arith, f.long)) (sym (same_number i (omega (arith, f.long))) ∙ e ∙ same_number j (omega (arith, f.long)));
    here = all_here_followed m k moves t.vars W.clauses new h f w.here;
    front = λ p C d l s. let b = owned p l.0 l.1 in w.front p C d (long_back p l) (stands_back ((p - W.base) / 2) C b s);
    apart = λ p l. w.apart p (long_back p l);
    home = λ v p b i. let x = w.home v p b i in (x.0, long_on p x.1);
    kept = λ p l. w.kept p (long_back p l);
    short = λ i b s. let l : i < length W.clauses = let c = w.partly in omega arith in elim (w.short i b (omega (arith, same_len i l))) [
      | inl x ↦ inl x
      | inr x ↦ inr (λ C st. x C (stands_back i C l st))
    ];
    handled = w.handled;
  } where
    same_number : (i : ℕ) → i < length W.clauses → (get_or new i no_clause).number ≡ (get_or W.clauses i no_clause).number
    same_number i l = (f.each i no_clause l).number

    stands_both : (i : ℕ) → i < length W.clauses → (C : Clause) × RefersTo m (get_or W.clauses i no_clause) C × RefersTo k (get_or new i no_clause) C
    stands_both i l = let s = w.here i no_clause l in (s.0, s.1, stands_followed m k moves (get_or W.clauses i no_clause) (get_or new i no_clause) s.0 h (f.each i no_clause l) s.1)

    same_len : (i : ℕ) → i < length W.clauses → (get_or new i no_clause).len ≡ (get_or W.clauses i no_clause).len
    same_len i l = let b = stands_both i l in b.2.1 ∙ sym b.1.1

    stands_back : (i : ℕ) (C : Clause) → i < length W.clauses → RefersTo k (get_or new i no_clause) C → RefersTo m (get_or W.clauses i no_clause) C
    stands_back i C l st = let b = stands_both i l in subst (RefersTo m (get_or W.clauses i no_clause)) (stands_once k (get_or new i no_clause) b.0 C b.2 st) b.1

    owned : (p : ℕ) → W.base ≤ p → p < length W.places → (p - W.base) / 2 < length W.clauses
    owned p a b = let c = w.partly in let e = w.even in let g = w.paired in omega arith

    long_back : (p : ℕ) → IsLong then_watches p → IsLong W p
    long_back p l = (l.0, l.1, omega (arith, l.2, same_len ((p - W.base) / 2) (owned p l.0 l.1)))

    long_on : (p : ℕ) → IsLong W p → IsLong then_watches p
    long_on p l = (l.0, l.1, omega (arith, l.2, same_len ((p - W.base) / 2) (owned p l.0 l.1)))

pub ready_followed : (w : Watches) (news : List Ref) (moves : List (Ref × Ref)) → AreFollowed moves w.clauses news → (m k : Clauses) (t : TrailValue) → IsCompacted m k moves → IsReady w m t → IsReady (record w { clauses = news }) k t
ready_followed w news moves f m k t h r = record {
  wide = r.wide;
  here = all_here_followed m k moves t.vars w.clauses news h f r.here;
  watching = λ s. let x = r.watching s in (x.0, watching_followed m k moves w news h f t x.0 x.1);
}

pub watches_followed : (places : List Watch) (base : ℕ) (old new : List Ref) (ls : List Bool) (stale : Bool) (moves : List (Ref × Ref)) → AreFollowed moves old new → AreWatches places old ls base stale → AreWatches places new ls base stale
watches_followed places base old new ls stale moves f h = record {
  whole = omega (arith, h.whole, f.long);
  few = h.few;
  even = h.even;
  last = h.last;
  marked = omega (arith, h.marked, f.long);
  named = named_followed (attached_of old ls) (attached_of new ls) (attached_followed moves old new ls f) h.named;
  none_gone = h.none_gone;
} where
  named_followed : (xs ys : List Ref) → AreFollowed moves xs ys → AreNamed xs → AreNamed ys
  named_followed xs ys g n i j a b e =
      let l : i < length xs = omega (arith, g.long) in
      let r : j < length xs = omega (arith, g.long) in
      n i j l r (sym (g.each i no_clause l).number ∙ e ∙ (g.each j no_clause r).number)

-- ---- the chains were made anew
-- cells of empty lists, with no places after them
pub nothing_watched : (places : List Watch) (base : ℕ) (m : Clauses) (t : TrailValue) → 4 * t.vars + 4 ≤ base → base % 2 ≡ 0 → length places ≡ base
    → ((l : ℕ) → l < base / 2 → next_of places l ≡ 0) → ((l : ℕ) → l < base / 2 → next_of places (base / 2 + l) ≡ l)
    → IsWatching (fresh_watches places [] base (length t.entries)) m t (λ _. [])
nothing_watched places base m t wide even long heads lasts = record {
  lists = record {
    watch_list = heads;
    ends = lasts;
    real = λ l p h. absurd h;
    once = λ l. tt;
    apart = λ l k p h i. absurd h;
  };
  wide = wide;
  even = even;
  low = omega arith;
  paired = ap (λ n. n % 2) long ∙ even;
  partly = omega arith;
  named = λ i j a b e. absurd (omega arith);
  here = λ i d l. absurd (omega arith);
  front = λ p C d h s. absurd (omega (arith, h.0, h.1));
  apart = λ p h. absurd (omega (arith, h.0, h.1));
  home = λ l p b h. absurd h;
  kept = λ p h. absurd (omega (arith, h.0, h.1));
  short = λ i b s. absurd (omega arith);
  handled = omega arith;
}
