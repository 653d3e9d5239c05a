-- Watch lists: a watch is unlinked from one list and linked into another.
use Rattle.std.proofs.Common.{◌≡◌, ◌≢◌, ℕ, zero, suc, ◌+◌, ◌/◌, ◌<◌, ◌≤◌, ◌⊎◌, inl, inr, cond, eqb, List, [], ◌∷◌, ◌++◌, length, refl, ap, sym, ◌∙◌, subst, arith}
use Rattle.std.proofs.lemmas.Bool.{cases_eq, ne_eqb, eq-eqb}
use Rattle.dimacs.specs.logic.Literal.{Literal}
use Rattle.watches.specs.declared.watched.watch.Watch.{Watch}
use Rattle.watches.specs.inner.WatchLists.{next_of, IsIn, IsOnce, IsWatchList, last_of, AreWatchLists, IsLink, MayRelink, Relinks}
use Rattle.watches.specs.inner.ListWalk.{left_from}

-- ---- members of a path
pub in_left : (p : ℕ) (xs ys : List ℕ) → IsIn p xs → IsIn p (xs ++ ys)
in_left p [] ys h = absurd h
in_left p (x ∷ xs) ys h = elim h [ inl e ↦ inl e | inr r ↦ inr (in_left p xs ys r) ]

pub in_right : (p : ℕ) (xs ys : List ℕ) → IsIn p ys → IsIn p (xs ++ ys)
in_right p [] ys h = h
in_right p (x ∷ xs) ys h = inr (in_right p xs ys h)

pub in_either : (p : ℕ) (xs ys : List ℕ) → IsIn p (xs ++ ys) → IsIn p xs ⊎ IsIn p ys
in_either p [] ys h = inr h
in_either p (x ∷ xs) ys h = elim h [
  | inl e ↦ inl (inl e)
  | inr r ↦ elim (in_either p xs ys r) [ inl a ↦ inl (inr a) | inr b ↦ inr b ]
]

-- the place in the middle of a path without repeats stands nowhere else in it
pub apart_before : (p : ℕ) (xs ys : List ℕ) → IsOnce (xs ++ p ∷ ys) → IsIn p xs → ⊥
apart_before p [] ys o h = h
apart_before p (x ∷ xs) ys o h = elim h [
  | inl e ↦ o.0 (subst (λ q. IsIn q (xs ++ p ∷ ys)) e (in_right p xs (p ∷ ys) (inl refl)))
  | inr r ↦ apart_before p xs ys o.1 r
]

pub apart_behind : (p : ℕ) (xs ys : List ℕ) → IsOnce (xs ++ p ∷ ys) → IsIn p ys → ⊥
apart_behind p [] ys o h = o.0 h
apart_behind p (x ∷ xs) ys o h = apart_behind p xs ys o.1 h

pub once_without : (p : ℕ) (xs ys : List ℕ) → IsOnce (xs ++ p ∷ ys) → IsOnce (xs ++ ys)
once_without p [] ys o = o.1
once_without p (x ∷ xs) ys o = (λ h. o.0 (elim (in_either x xs ys h) [ inl a ↦ in_left x xs (p ∷ ys) a | inr b ↦ in_right x xs (p ∷ ys) (inr b) ]), once_without p xs ys o.1)

pub once_front : (xs ys : List ℕ) → IsOnce (xs ++ ys) → IsOnce xs
once_front [] ys o = tt
once_front (x ∷ xs) ys o = (λ h. o.0 (in_left x xs ys h), once_front xs ys o.1)

pub once_back : (xs ys : List ℕ) → IsOnce (xs ++ ys) → IsOnce ys
once_back [] ys o = o
once_back (x ∷ xs) ys o = once_back xs ys o.1

-- a member of the front is no member of the rest
pub front_apart : (q : ℕ) (xs ys : List ℕ) → IsOnce (xs ++ ys) → IsIn q xs → IsIn q ys → ⊥
front_apart q [] ys o h k = h
front_apart q (x ∷ xs) ys o h k = elim h [
  | inl e ↦ o.0 (subst (λ z. IsIn z (xs ++ ys)) e (in_right q xs ys k))
  | inr r ↦ front_apart q xs ys o.1 r k
]

-- the last of a path that begins at p
pub last_in : (p : ℕ) (xs : List ℕ) → (last_of p xs ≡ p) ⊎ IsIn (last_of p xs) xs
last_in p [] = inl refl
last_in p (x ∷ xs) = elim (last_in x xs) [ inl e ↦ inr (inl e) | inr r ↦ inr (inr r) ]

pub last_nil : (p : ℕ) (xs : List ℕ) → last_of p (xs ++ []) ≡ last_of p xs
last_nil p [] = refl
last_nil p (x ∷ xs) = last_nil x xs

pub last_behind : (p q : ℕ) (xs ys : List ℕ) → last_of p (xs ++ q ∷ ys) ≡ last_of q ys
last_behind p q [] ys = refl
last_behind p q (x ∷ xs) ys = last_behind x q xs ys

-- a path with one place more at its end
pub once_push : (p : ℕ) (xs : List ℕ) → IsOnce xs → (IsIn p xs → ⊥) → IsOnce (xs ++ p ∷ [])
once_push p [] o n = ((λ h. h), tt)
once_push p (x ∷ xs) o n = (
  λ h. elim (in_either x xs (p ∷ []) h) [ inl a ↦ o.0 a | inr b ↦ elim b [ inl e ↦ n (inl (sym e)) | inr z ↦ z ] ],
  once_push p xs o.1 (λ i. n (inr i)),
)

pub last_push : (p q : ℕ) (xs : List ℕ) → last_of p (xs ++ q ∷ []) ≡ q
last_push p q [] = refl
last_push p q (x ∷ xs) = last_push x q xs

-- ---- chains
-- a chain stays where its places keep their next ones
pub chain_kept : (xs ys : List Watch) (p : ℕ) (path : List ℕ) → next_of ys p ≡ next_of xs p → ((q : ℕ) → IsIn q path → next_of ys q ≡ next_of xs q) → IsWatchList xs p path → IsWatchList ys p path
chain_kept xs ys p [] e h c = e ∙ c
chain_kept xs ys p (q ∷ path) e h c = (e ∙ c.0, chain_kept xs ys q path (h q (inl refl)) (λ r i. h r (inr i)) c.1)

-- a chain that begins elsewhere, with the same next one
pub chain_from : (xs ys : List Watch) (p s : ℕ) (path : List ℕ) → next_of ys s ≡ next_of xs p → ((q : ℕ) → IsIn q path → next_of ys q ≡ next_of xs q) → IsWatchList xs p path → IsWatchList ys s path
chain_from xs ys p s [] e h c = e ∙ c
chain_from xs ys p s (q ∷ path) e h c = (e ∙ c.0, chain_kept xs ys q path (h q (inl refl)) (λ r i. h r (inr i)) c.1)

-- the chain from the last of its front
pub chain_rest : (xs : List Watch) (s : ℕ) (done rest : List ℕ) → IsWatchList xs s (done ++ rest) → IsWatchList xs (last_of s done) rest
chain_rest xs s [] rest c = c
chain_rest xs s (q ∷ done) rest c = chain_rest xs q done rest c.1

-- the place p after the front is taken out
pub chain_out : (xs ys : List Watch) (s p : ℕ) (done rest : List ℕ) → IsWatchList xs s (done ++ p ∷ rest)
    → next_of ys (last_of s done) ≡ next_of xs p
    → ((q : ℕ) → (q ≡ s) ⊎ IsIn q done → q ≢ last_of s done → next_of ys q ≡ next_of xs q)
    → ((q : ℕ) → IsIn q rest → next_of ys q ≡ next_of xs q)
    → IsOnce (s ∷ done)
    → IsWatchList ys s (done ++ rest)
chain_out xs ys s p [] rest c e h k o = chain_from xs ys p s rest e k c.1
chain_out xs ys s p (q ∷ done) rest c e h k o =
    let s_apart : s ≢ last_of q done = λ g. o.0 (elim (last_in q done) [ inl x ↦ inl (g ∙ x) | inr x ↦ inr (subst (λ z. IsIn z done) (sym g) x) ]) in (
      h s (inl refl) s_apart ∙ c.0,
      chain_out xs ys q p done rest c.1 e (λ r i n. h r (inr i) n) k o.1,
    )

-- one place more at the end of a chain
pub chain_push : (xs ys : List Watch) (s p : ℕ) (path : List ℕ) → IsWatchList xs s path
    → next_of ys (last_of s path) ≡ p → next_of ys p ≡ 0
    → ((q : ℕ) → (q ≡ s) ⊎ IsIn q path → q ≢ last_of s path → next_of ys q ≡ next_of xs q)
    → IsOnce (s ∷ path)
    → IsWatchList ys s (path ++ p ∷ [])
chain_push xs ys s p [] c b e h o = (b, e)
chain_push xs ys s p (q ∷ path) c b e h o =
    let s_apart : s ≢ last_of q path = λ g. o.0 (elim (last_in q path) [ inl x ↦ inl (g ∙ x) | inr x ↦ inr (subst (λ z. IsIn z path) (sym g) x) ]) in (
      h s (inl refl) s_apart ∙ c.0,
      chain_push xs ys q p path c.1 b e (λ r i n. h r (inr i) n) o.1,
    )

-- two places more at the end of a chain
pub chain_two : (xs ys : List Watch) (s a b : ℕ) (path : List ℕ) → IsWatchList xs s path
    → next_of ys (last_of s path) ≡ a → next_of ys a ≡ b → next_of ys b ≡ 0
    → ((q : ℕ) → (q ≡ s) ⊎ IsIn q path → q ≢ last_of s path → next_of ys q ≡ next_of xs q)
    → IsOnce (s ∷ path)
    → IsWatchList ys s ((path ++ a ∷ []) ++ b ∷ [])
chain_two xs ys s a b [] c d e f h o = (d, (e, f))
chain_two xs ys s a b (q ∷ path) c d e f h o =
    let s_apart : s ≢ last_of q path = λ g. o.0 (elim (last_in q path) [ inl x ↦ inl (g ∙ x) | inr x ↦ inr (subst (λ z. IsIn z path) (sym g) x) ]) in (
      h s (inl refl) s_apart ∙ c.0,
      chain_two xs ys q a b path c.1 d e f (λ r i n. h r (inr i) n) o.1,
    )

-- the last place of a chain from which the place p was taken out
pub last_out : (xs : List Watch) (s p end_ : ℕ) (done rest : List ℕ) → IsWatchList xs p rest → ((q : ℕ) → IsIn q rest → 0 < q)
    → end_ ≡ last_of s (done ++ p ∷ rest)
    → cond (eqb (next_of xs p) 0) (last_of s done) end_ ≡ last_of s (done ++ rest)
last_out xs s p end_ done [] c h e = ap (λ b. cond b (last_of s done) end_) (eq-eqb (next_of xs p) 0 c) ∙ sym (last_nil s done)
last_out xs s p end_ done (q ∷ rest) c h e =
    ap (λ b. cond b (last_of s done) end_) (ne_eqb (next_of xs p) 0 (λ z. let a = h q (inl refl) in omega (arith, c.0)))
    ∙ e ∙ last_behind s p done (q ∷ rest) ∙ sym (last_behind s q done rest)

-- ---- a place that goes from one chain to the end of another
-- the paths afterwards
abbrev pub moved_paths : (ℕ → List ℕ) → ℕ → List ℕ → ℕ → ℕ → ℕ → List ℕ
moved_paths paths l short head p k = cond (eqb k l) short (cond (eqb k head) (paths head ++ p ∷ []) (paths k))

module _ (paths : ℕ → List ℕ) (l head p : ℕ) (done rest : List ℕ) (is : paths l ≡ done ++ p ∷ rest) (ne : head ≢ l) where
  abbrev after : ℕ → List ℕ
  after = moved_paths paths l (done ++ rest) head p

  pub after_l : after l ≡ done ++ rest
  after_l = ap (λ b. cond b (done ++ rest) (cond (eqb l head) (paths head ++ p ∷ []) (paths l))) (eq-eqb l l refl)

  pub after_head : after head ≡ paths head ++ p ∷ []
  after_head = ap (λ b. cond b (done ++ rest) (cond (eqb head head) (paths head ++ p ∷ []) (paths head))) (ne_eqb head l ne) ∙ ap (λ b. cond b (paths head ++ p ∷ []) (paths head)) (eq-eqb head head refl)

  pub after_other : (k : ℕ) → k ≢ l → k ≢ head → after k ≡ paths k
  after_other k a b = ap (λ x. cond x (done ++ rest) (cond (eqb k head) (paths head ++ p ∷ []) (paths k))) (ne_eqb k l a) ∙ ap (λ x. cond x (paths head ++ p ∷ []) (paths k)) (ne_eqb k head b)

  -- a place other than p stays where it is
  pub still_in : (q k : ℕ) → q ≢ p → IsIn q (paths k) → IsIn q (after k)
  still_in q k n h = elim (cases_eq k l) [
    | inl e ↦ subst (IsIn q) (sym (ap after e ∙ after_l)) (elim (in_either q done (p ∷ rest) (subst (IsIn q) (ap paths e ∙ is) h)) [
      | inl a ↦ in_left q done rest a
      | inr b ↦ elim b [ inl x ↦ absurd (n x) | inr y ↦ in_right q done rest y ]
    ])
    | inr a ↦ elim (cases_eq k head) [
      | inl e ↦ subst (IsIn q) (sym (ap after e ∙ after_head)) (in_left q (paths head) (p ∷ []) (subst (λ j. IsIn q (paths j)) e h))
      | inr b ↦ subst (IsIn q) (sym (after_other k a b)) h
    ]
  ]

  -- p is in the chain of its head
  pub now_in : IsIn p (after head)
  now_in = subst (IsIn p) (sym after_head) (in_right p (paths head) (p ∷ []) (inl refl))

  -- what is somewhere is p, at its head, or was there
  pub was_in : (q k : ℕ) → IsOnce (paths l) → ((j : ℕ) → IsIn p (paths j) → j ≡ l) → IsIn q (after k) → ((q ≡ p) × (k ≡ head)) ⊎ ((q ≢ p) × IsIn q (paths k))
  was_in q k o u h = elim (cases_eq k l) [
    | inl e ↦
        let o' : IsOnce (done ++ p ∷ rest) = subst IsOnce is o in
        let h' : IsIn q (done ++ rest) = subst (IsIn q) (ap after e ∙ after_l) h in
        let n : q ≢ p = λ x. elim (in_either q done rest h') [
          | inl a ↦ apart_before p done rest o' (subst (λ z. IsIn z done) x a)
          | inr b ↦ apart_behind p done rest o' (subst (λ z. IsIn z rest) x b)
        ] in
        inr (n, subst (IsIn q) (sym (ap paths e ∙ is)) (elim (in_either q done rest h') [ inl a ↦ in_left q done (p ∷ rest) a | inr b ↦ in_right q done (p ∷ rest) (inr b) ]))
    | inr a ↦ elim (cases_eq k head) [
      | inl e ↦ elim (in_either q (paths head) (p ∷ []) (subst (IsIn q) (ap after e ∙ after_head) h)) [
        | inl y ↦ inr (λ x. ne (u head (subst (λ z. IsIn z (paths head)) x y)), subst (λ j. IsIn q (paths j)) (sym e) y)
        | inr b ↦ elim b [ inl x ↦ inl (x, e) | inr z ↦ absurd z ]
      ]
      | inr b ↦
          let y : IsIn q (paths k) = subst (IsIn q) (after_other k a b) h in
          inr (λ x. a (u k (subst (λ z. IsIn z (paths k)) x y)), y)
    ]
  ]

-- a last place is the head, or a place of the chain
pub last_link : (base s : ℕ) (path : List ℕ) → s < base / 2 → ((q : ℕ) → IsIn q path → base ≤ q) → IsLink base (last_of s path)
last_link base s path b h = elim (last_in s path) [ inl e ↦ inl (omega (arith, e)) | inr i ↦ inr (h (last_of s path) i) ]

-- a cell that names a last place is no link
pub cell_apart : (base l p : ℕ) → l < base / 2 → IsLink base p → base / 2 + l ≢ p
cell_apart base l p b h e = elim h [ inl x ↦ omega arith | inr x ↦ omega arith ]

-- the place p after the front of chain l may go to the end of another chain
pub may_relink : (xs : List Watch) (base : ℕ) (paths : ℕ → List ℕ) (l previous p head : ℕ) (done rest : List ℕ)
    → AreWatchLists xs base paths → base ≤ length xs → l < base / 2 → head < base / 2 → head ≢ l → paths l ≡ done ++ p ∷ rest → previous ≡ last_of l done
    → MayRelink xs base l previous p head
may_relink xs base paths l previous p head done rest a low lb hb ne is pr = record {
  from_in = lb;
  to_in = hb;
  lists_apart = ne;
  low = low;
  previous_is = subst (IsLink base) (sym pr) previous_link;
  previous_in = subst (λ q. q < length xs) (sym pr) (elim (last_in l done) [ inl e ↦ omega (arith, e) | inr i ↦ let b = a.real l (last_of l done) (in_done _ i) in b.1 ]);
  at_real = (a.real l p there).0;
  at_in = (a.real l p there).1;
  apart = λ e. elim (last_in l done) [
    | inl x ↦ let b = a.real l p there in omega (arith, b.0, sym pr ∙ e, x)
    | inr i ↦ apart_before p done rest (subst IsOnce is (a.once l)) (subst (λ z. IsIn z done) (sym pr ∙ e) i)
  ];
  last_is = subst (IsLink base) (sym (a.ends head hb)) last_link_head;
  last_in = subst (λ q. q < length xs) (sym (a.ends head hb)) (elim (last_in head (paths head)) [ inl e ↦ omega (arith, e) | inr i ↦ (a.real head (last_of head (paths head)) i).1 ]);
  last_apart = λ e. elim (last_in head (paths head)) [
    | inl x ↦ let b = a.real l p there in omega (arith, b.0, sym (a.ends head hb) ∙ e, x)
    | inr i ↦ ne (a.apart head l p (subst (λ z. IsIn z (paths head)) (sym (a.ends head hb) ∙ e) i) there)
  ];
  last_before = λ e. ends_apart (sym (a.ends head hb) ∙ e ∙ pr);
} where
  there : IsIn p (paths l)
  there = subst (IsIn p) (sym is) (in_right p done (p ∷ rest) (inl refl))

  in_done : (q : ℕ) → IsIn q done → IsIn q (paths l)
  in_done q h = subst (IsIn q) (sym is) (in_left q done (p ∷ rest) h)

  previous_link : IsLink base (last_of l done)
  previous_link = last_link base l done lb (λ q i. (a.real l q (in_done q i)).0)

  last_link_head : IsLink base (last_of head (paths head))
  last_link_head = last_link base head (paths head) hb (λ q i. (a.real head q i).0)

  ends_apart : last_of head (paths head) ≢ last_of l done
  ends_apart e = elim (last_in head (paths head)) [
    | inl x ↦ elim (last_in l done) [
      | inl y ↦ ne (sym x ∙ e ∙ y)
      | inr i ↦ let b = a.real l (last_of l done) (in_done _ i) in omega (arith, b.0, e, x)
    ]
    | inr j ↦ elim (last_in l done) [
      | inl y ↦ let b = a.real head (last_of head (paths head)) j in omega (arith, b.0, e, y)
      | inr i ↦ ne (a.apart head l (last_of l done) (subst (λ z. IsIn z (paths head)) e j) (in_done _ i))
    ]
  ]

-- the chains stay chains
pub chains_moved : (xs ys : List Watch) (base : ℕ) (paths : ℕ → List ℕ) (l head p : ℕ) (w : Literal) (done rest : List ℕ)
    → AreWatchLists xs base paths → base ≤ length xs → l < base / 2 → head < base / 2 → head ≢ l → paths l ≡ done ++ p ∷ rest → Relinks xs ys base l (last_of l done) p head w
    → AreWatchLists ys base (moved_paths paths l (done ++ rest) head p)
chains_moved xs ys base paths l head p w done rest a lo lb hb ne is r = record { watch_list = watch_list; ends = ends; real = real; once = once; apart = apart } where
  there : IsIn p (paths l)
  there = subst (IsIn p) (sym is) (in_right p done (p ∷ rest) (inl refl))

  o : IsOnce (done ++ p ∷ rest)
  o = subst IsOnce is (a.once l)

  alone : (j : ℕ) → IsIn p (paths j) → j ≡ l
  alone j h = a.apart j l p h there

  was : (q k : ℕ) → IsIn q (moved_paths paths l (done ++ rest) head p k) → ((q ≡ p) × (k ≡ head)) ⊎ ((q ≢ p) × IsIn q (paths k))
  was q k h = was_in paths l head p done rest is ne q k (a.once l) alone h

  real : (k q : ℕ) → IsIn q (moved_paths paths l (done ++ rest) head p k) → (base ≤ q) × (q < length ys)
  real k q h = elim (was q k h) [
    | inl x ↦ let e = x.0 in let y = a.real l p there in (omega (arith, y.0), omega (arith, y.1, r.long))
    | inr x ↦ let y = a.real k q x.1 in (y.0, omega (arith, y.1, r.long))
  ]

  once : (k : ℕ) → IsOnce (moved_paths paths l (done ++ rest) head p k)
  once k = elim (cases_eq k l) [
    | inl e ↦ subst IsOnce (sym (ap (moved_paths paths l (done ++ rest) head p) e ∙ after_l paths l head p done rest is ne)) (once_without p done rest o)
    | inr n ↦ elim (cases_eq k head) [
      | inl e ↦ subst IsOnce (sym (ap (moved_paths paths l (done ++ rest) head p) e ∙ after_head paths l head p done rest is ne)) (once_push p (paths head) (a.once head) (λ h. ne (alone head h)))
      | inr m ↦ subst IsOnce (sym (after_other paths l head p done rest is ne k n m)) (a.once k)
    ]
  ]

  apart : (k j q : ℕ) → IsIn q (moved_paths paths l (done ++ rest) head p k) → IsIn q (moved_paths paths l (done ++ rest) head p j) → k ≡ j
  apart k j q h i = elim (was q k h) [
    | inl x ↦ elim (was q j i) [ inl y ↦ x.1 ∙ sym y.1 | inr y ↦ absurd (y.0 x.0) ]
    | inr x ↦ elim (was q j i) [ inl y ↦ absurd (x.0 y.0) | inr y ↦ a.apart k j q x.1 y.1 ]
  ]

  in_done : (q : ℕ) → IsIn q done → IsIn q (paths l)
  in_done q h = subst (IsIn q) (sym is) (in_left q done (p ∷ rest) h)

  in_rest : (q : ℕ) → IsIn q rest → IsIn q (paths l)
  in_rest q h = subst (IsIn q) (sym is) (in_right q done (p ∷ rest) (inr h))

  -- ---- which places differ
  may : MayRelink xs base l (last_of l done) p head
  may = may_relink xs base paths l (last_of l done) p head done rest a lo lb hb ne is refl

  ends_xs : next_of xs (base / 2 + head) ≡ (last_of head (paths head))
  ends_xs = a.ends head hb

  end_apart : (last_of head (paths head)) ≢ last_of l done
  end_apart e = may.last_before (ends_xs ∙ e)

  end_not_p : (last_of head (paths head)) ≢ p
  end_not_p e = may.last_apart (ends_xs ∙ e)

  end_link : IsLink base (last_of head (paths head))
  end_link = subst (IsLink base) ends_xs may.last_is

  end_is : next_of r.between (base / 2 + head) ≡ (last_of head (paths head))
  end_is = r.out.others (base / 2 + head) (cell_apart base head (last_of l done) hb may.previous_is) (λ e. ne (omega arith)) ∙ ends_xs

  same : (q : ℕ) → q ≢ last_of l done → q ≢ p → q ≢ (last_of head (paths head)) → q ≢ base / 2 + l → q ≢ base / 2 + head → next_of ys q ≡ next_of xs q
  same q n m k c d = r.linked.others q m (λ e. k (e ∙ end_is)) d ∙ r.out.others q n c

  -- a link that is neither
  same_link : (q : ℕ) → IsLink base q → q ≢ last_of l done → q ≢ p → q ≢ (last_of head (paths head)) → next_of ys q ≡ next_of xs q
  same_link q i n m k = same q n m k (λ e. cell_apart base l q lb i (sym e)) (λ e. cell_apart base head q hb i (sym e))

  out : next_of ys (last_of l done) ≡ next_of xs p
  out = r.linked.others (last_of l done) may.apart (λ e. end_apart (sym (e ∙ end_is))) (λ e. cell_apart base head (last_of l done) hb may.previous_is (sym e)) ∙ r.out.out

  before : next_of ys (last_of head (paths head)) ≡ p
  before = ap (next_of ys) (sym end_is) ∙ r.linked.before

  link_of : (k q : ℕ) → IsIn q (paths k) → IsLink base q
  link_of k q h = inr (a.real k q h).0

  -- a place of another chain is not the end of the front
  not_before : (k q : ℕ) → k ≢ l → IsIn q (paths k) → q ≢ last_of l done
  not_before k q n h e = elim (last_in l done) [
    | inl x ↦ let y = a.real k q h in omega (arith, y.0, e, x)
    | inr x ↦ n (a.apart k l q h (subst (λ z. IsIn z (paths l)) (sym e) (in_done _ x)))
  ]

  -- a place of chain l is not the end of the other chain
  not_end : (q : ℕ) → IsIn q (paths l) → q ≢ (last_of head (paths head))
  not_end q h e = elim (last_in head (paths head)) [
    | inl x ↦ let y = a.real l q h in omega (arith, y.0, e, x)
    | inr x ↦ ne (a.apart head l q (subst (λ z. IsIn z (paths head)) (sym e) x) h)
  ]

  not_p : (k q : ℕ) → k ≢ l → IsIn q (paths k) → q ≢ p
  not_p k q n h e = n (alone k (subst (λ z. IsIn z (paths k)) e h))

  -- a place of a third chain
  not_third : (k q : ℕ) → k ≢ head → IsIn q (paths k) → q ≢ (last_of head (paths head))
  not_third k q n h e = elim (last_in head (paths head)) [
    | inl x ↦ let y = a.real k q h in omega (arith, y.0, e, x)
    | inr x ↦ n (a.apart k head q h (subst (λ z. IsIn z (paths head)) (sym e) x))
  ]

  far : (k q : ℕ) → k ≢ l → k ≢ head → IsIn q (paths k) → next_of ys q ≡ next_of xs q
  far k q n m h = same_link q (link_of k q h) (not_before k q n h) (not_p k q n h) (not_third k q m h)

  -- a head
  head_not_before : (k : ℕ) → k < base / 2 → k ≢ l → k ≢ last_of l done
  head_not_before k b n e = elim (last_in l done) [
    | inl x ↦ n (e ∙ x)
    | inr x ↦ let y = a.real l (last_of l done) (in_done _ x) in omega (arith, y.0)
  ]

  head_not_end : (k : ℕ) → k < base / 2 → k ≢ head → k ≢ (last_of head (paths head))
  head_not_end k b n e = elim (last_in head (paths head)) [
    | inl x ↦ n (e ∙ x)
    | inr x ↦ let y = a.real head (last_of head (paths head)) x in omega (arith, y.0)
  ]

  head_not_p : (k : ℕ) → k < base / 2 → k ≢ p
  head_not_p k b e = let y = a.real l p there in omega (arith, y.0)

  in_front : (q : ℕ) → (q ≡ l) ⊎ IsIn q done → q ≢ last_of l done → next_of ys q ≡ next_of xs q
  in_front q h n = elim h [
    | inl x ↦ subst (λ z. next_of ys z ≡ next_of xs z) (sym x) (same_link l (inl lb) (λ e. n (x ∙ e)) (head_not_p l lb) (head_not_end l lb (λ e. ne (sym e))))
    | inr x ↦ same_link q (link_of l q (in_done q x)) n (λ e. apart_before p done rest o (subst (λ z. IsIn z done) e x)) (not_end q (in_done q x))
  ]

  behind : (q : ℕ) → IsIn q rest → next_of ys q ≡ next_of xs q
  behind q h = same_link q (link_of l q (in_rest q h))
      (λ e. elim (last_in l done) [
        | inl x ↦ let y = a.real l q (in_rest q h) in omega (arith, y.0, e, x)
        | inr x ↦ front_apart q done rest (once_without p done rest o) (subst (λ z. IsIn z done) (sym e) x) h
      ])
      (λ e. apart_behind p done rest o (subst (λ z. IsIn z rest) e h))
      (not_end q (in_rest q h))

  begins_once : IsOnce (l ∷ done)
  begins_once = (λ h. let y = a.real l l (in_done l h) in omega (arith, y.0), once_front done (p ∷ rest) o)

  head_once : IsOnce (head ∷ paths head)
  head_once = (λ h. let y = a.real head head h in omega (arith, y.0), a.once head)

  in_other : (q : ℕ) → (q ≡ head) ⊎ IsIn q (paths head) → q ≢ (last_of head (paths head)) → next_of ys q ≡ next_of xs q
  in_other q h n = elim h [
    | inl x ↦ subst (λ z. next_of ys z ≡ next_of xs z) (sym x) (same_link head (inl hb) (head_not_before head hb ne) (head_not_p head hb) (λ e. n (x ∙ e)))
    | inr x ↦ same_link q (link_of head q x) (not_before head q ne x) (not_p head q ne x) n
  ]

  watch_list : (k : ℕ) → k < base / 2 → IsWatchList ys k (moved_paths paths l (done ++ rest) head p k)
  watch_list k b = elim (cases_eq k l) [
    | inl e ↦ subst (λ j. IsWatchList ys j (moved_paths paths l (done ++ rest) head p j)) (sym e) (subst (IsWatchList ys l) (sym (after_l paths l head p done rest is ne))
        (chain_out xs ys l p done rest (subst (IsWatchList xs l) is (a.watch_list l lb)) out in_front behind begins_once))
    | inr n ↦ elim (cases_eq k head) [
      | inl e ↦ subst (λ j. IsWatchList ys j (moved_paths paths l (done ++ rest) head p j)) (sym e) (subst (IsWatchList ys head) (sym (after_head paths l head p done rest is ne))
          (chain_push xs ys head p (paths head) (a.watch_list head hb) before r.linked.ended in_other head_once))
      | inr m ↦ subst (IsWatchList ys k) (sym (after_other paths l head p done rest is ne k n m))
          (chain_kept xs ys k (paths k) (same_link k (inl b) (head_not_before k b n) (head_not_p k b) (head_not_end k b m)) (λ q h. far k q n m h) (a.watch_list k b))
    ]
  ]

  -- ---- the cells that name the last places
  chain_p : IsWatchList xs p rest
  chain_p = (chain_rest xs l done (p ∷ rest) (subst (IsWatchList xs l) is (a.watch_list l lb))).1

  ends_l : next_of ys (base / 2 + l) ≡ last_of l (done ++ rest)
  ends_l =
      r.linked.others (base / 2 + l) (λ e. let y = a.real l p there in omega (arith, y.0)) (λ e. cell_apart base l (last_of head (paths head)) lb end_link (e ∙ end_is)) (λ e. ne (omega arith))
      ∙ r.out.last
      ∙ last_out xs l p (next_of xs (base / 2 + l)) done rest chain_p (λ q i. let y = a.real l q (in_rest q i) in omega (arith, y.0)) (a.ends l lb ∙ ap (last_of l) is)

  cell_not_p : (k : ℕ) → k < base / 2 → base / 2 + k ≢ p
  cell_not_p k b e = let y = a.real l p there in omega (arith, y.0)

  ends : (k : ℕ) → k < base / 2 → next_of ys (base / 2 + k) ≡ last_of k (moved_paths paths l (done ++ rest) head p k)
  ends k b = elim (cases_eq k l) [
    | inl e ↦ subst (λ j. next_of ys (base / 2 + j) ≡ last_of j (moved_paths paths l (done ++ rest) head p j)) (sym e) (ends_l ∙ ap (last_of l) (sym (after_l paths l head p done rest is ne)))
    | inr n ↦ elim (cases_eq k head) [
      | inl e ↦ subst (λ j. next_of ys (base / 2 + j) ≡ last_of j (moved_paths paths l (done ++ rest) head p j)) (sym e)
          (r.linked.last ∙ sym (last_push head p (paths head)) ∙ ap (last_of head) (sym (after_head paths l head p done rest is ne)))
      | inr m ↦
          same (base / 2 + k) (cell_apart base k (last_of l done) b may.previous_is) (cell_not_p k b) (cell_apart base k (last_of head (paths head)) b end_link) (λ e. n (omega arith)) (λ e. m (omega arith))
          ∙ a.ends k b ∙ ap (last_of k) (sym (after_other paths l head p done rest is ne k n m))
    ]
  ]

-- a link is not the cell that names the last place of the pending list
pub link_apart : (base p : ℕ) → 0 < base / 2 → IsLink base p → p ≢ base / 2
link_apart base p z h e = elim h [ inl x ↦ omega (arith, e) | inr x ↦ omega (arith, e) ]

-- the last place of the pending list
pub pending_last : (xs : List Watch) (base : ℕ) (paths : ℕ → List ℕ) → AreWatchLists xs base paths → base ≤ length xs → 0 < base / 2
    → IsLink base (next_of xs (base / 2)) × (next_of xs (base / 2) < length xs)
pending_last xs base paths a low z =
    let at : next_of xs (base / 2) ≡ last_of 0 (paths 0) = ap (next_of xs) (let y : base / 2 ≡ base / 2 + 0 = omega arith in y) ∙ a.ends 0 z in (
      subst (IsLink base) (sym at) (last_link base 0 (paths 0) z (λ q i. (a.real 0 q i).0)),
      subst (λ n. n < length xs) (sym at) (elim (last_in 0 (paths 0)) [ inl e ↦ omega (arith, e) | inr i ↦ (a.real 0 (last_of 0 (paths 0)) i).1 ]),
    )

-- ---- how many places are left
pub left_is : (places : List Watch) (n p : ℕ) (path : List ℕ) → IsWatchList places p path → length path < n → (0 < p) → ((q : ℕ) → IsIn q path → 0 < q) → left_from places n p ≡ suc (length path)
left_is places zero p path c l z h = absurd (omega arith)
left_is places (suc n) p [] c l z h = ap (λ b. cond b 0 (suc (left_from places n (next_of places p)))) (ne_eqb p 0 (λ e. omega arith)) ∙ ap suc (ap (left_from places n) c ∙ at_zero n)
  where
    at_zero : (n : ℕ) → left_from places n 0 ≡ 0
    at_zero zero = refl
    at_zero (suc n) = refl
left_is places (suc n) p (q ∷ path) c l z h =
    ap (λ b. cond b 0 (suc (left_from places n (next_of places p)))) (ne_eqb p 0 (λ e. omega arith))
    ∙ ap suc (ap (left_from places n) c.0 ∙ left_is places n q path c.1 (omega arith) (h q (inl refl)) (λ r i. h r (inr i)))
