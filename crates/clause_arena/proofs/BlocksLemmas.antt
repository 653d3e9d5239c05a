-- Slots in blocks of 64 places: set, replaced, freed, listed.
use Rattle.std.proofs.Common.{◌≡◌, ◌≢◌, ℕ, zero, suc, ◌+◌, ◌-◌, ◌*◌, ◌/◌, ◌%◌, ◌^◌, ◌<◌, ◌≤◌, Bool, true, false, List, [], ◌∷◌, ◌++◌, Option, Some, None, refl, sym, ◌∙◌, ap, subst, length, map, take, arith, get_or, set, replicate, get_or-set_same, get_or-set_other, length-set, length-append, append_assoc, IsSome}
use Rattle.std.proofs.Math.Dec.{eqb, ltb}
use Rattle.std.proofs.Math.Seq.{map-set_same}
use Rattle.std.proofs.lemmas.Bool.{eqb-true, eqb-false, ltb-true, ltb-false}
use Rattle.std.proofs.lemmas.List.{get_or-map, map-set, get_or_past, length-map, map-append, append-nil, take_all}
use Rattle.std.proofs.lemmas.List.Elements.{All-set, All-get_or, All-append, All-from_get_or}
use Rattle.std.proofs.lemmas.List.FromFn.{length-map-range_with_len, get_or-map-range_with_len, map-range_with_len_more, fill_by_all}
use Rattle.std.specs.List.{All, range_with_len}
use Rattle.clause_arena.specs.declared.reference.Ref.{Ref}
use Rattle.clause_arena.specs.declared.slot.Slot.{Slot}
use Rattle.clause_arena.specs.inner.Relocation.{ref_of}
use Rattle.clause_arena.specs.inner.Slots.{near_entries}
use Rattle.clause_arena.specs.inner.Blocks.{slot_at, slots_from, IsBlocks}

-- ---- a block in the place of another
module _ (blocks : List (List (Option Slot))) (b : ℕ) (cells : List (Option Slot)) (within : b < length blocks) where
  slot_set : (q : ℕ) → q / 64 ≡ b → slot_at (set blocks b cells) q ≡ get_or cells (q % 64) None
  slot_set q is =
      ap (λ (j : ℕ). get_or (get_or (set blocks b cells) j []) (q % 64) None) is
      ∙ ap (λ (xs : List (Option Slot)). get_or xs (q % 64) None) (get_or-set_same blocks b cells [] within)

  -- a place has what it had, where the block has
  slot_kept : (q : ℕ) → (q / 64 ≡ b → get_or cells (q % 64) None ≡ get_or (get_or blocks b []) (q % 64) None) → slot_at (set blocks b cells) q ≡ slot_at blocks q
  slot_kept q same = at (eqb (q / 64) b) refl
    where
      at : (t : Bool) → eqb (q / 64) b ≡ t → slot_at (set blocks b cells) q ≡ slot_at blocks q
      at true e =
          let is : q / 64 ≡ b = eqb-true (q / 64) b e in
          slot_set q is ∙ same is ∙ ap (λ (j : ℕ). get_or (get_or blocks j []) (q % 64) None) (sym is)
      at false e = ap (λ (xs : List (Option Slot)). get_or xs (q % 64) None) (get_or-set_other blocks b (q / 64) cells [] (eqb-false (q / 64) b e))

-- ---- blocks as they are held
module _ {V : Type 0} (items : V → List (Option Slot)) (vs : List V) (b : ℕ) (within : b < length vs) (d : V) where
  block_is : get_or (map items vs) b [] ≡ items (get_or vs b d)
  block_is = get_or-map items vs b d [] within

  inside : b < length (map items vs)
  inside = omega (arith, within, length-map vs items)

  pub cell_at : (q : ℕ) → q / 64 ≡ b → slot_at (map items vs) q ≡ get_or (items (get_or vs b d)) (q % 64) None
  cell_at q is =
      ap (λ (j : ℕ). get_or (get_or (map items vs) j []) (q % 64) None) is
      ∙ ap (λ (cells : List (Option Slot)). get_or cells (q % 64) None) block_is

  pub block_short : (len : ℕ) → IsBlocks len (map items vs) → length (items (get_or vs b d)) ≤ 64
  block_short len is =
      subst (λ (cells : List (Option Slot)). length cells ≤ 64) block_is (All-get_or (λ cells. length cells ≤ 64) (map items vs) b [] inside is.short)

  module _ (v : V) where
    pub held_set : (q : ℕ) → q / 64 ≡ b → slot_at (map items (set vs b v)) q ≡ get_or (items v) (q % 64) None
    held_set q is = ap (λ (bs : List (List (Option Slot))). slot_at bs q) (map-set items vs b v) ∙ slot_set (map items vs) b (items v) inside q is

    pub held_kept : (q : ℕ) → (q / 64 ≡ b → get_or (items v) (q % 64) None ≡ get_or (items (get_or vs b d)) (q % 64) None)
        → slot_at (map items (set vs b v)) q ≡ slot_at (map items vs) q
    held_kept q same =
        ap (λ (bs : List (List (Option Slot))). slot_at bs q) (map-set items vs b v)
        ∙ slot_kept (map items vs) b (items v) inside q (λ is. same is ∙ ap (λ (cells : List (Option Slot)). get_or cells (q % 64) None) (sym block_is))

    pub held_blocks : (len : ℕ) → length (items v) ≤ 64 → ((q : ℕ) → len ≤ q → q / 64 ≡ b → get_or (items v) (q % 64) None ≡ get_or (items (get_or vs b d)) (q % 64) None)
        → IsBlocks len (map items vs) → IsBlocks len (map items (set vs b v))
    held_blocks len short same is = record {
      covers = omega (arith, is.covers, length-map vs items, length-map (set vs b v) items, length-set vs b v);
      few = omega (arith, is.few, length-map vs items, length-map (set vs b v) items, length-set vs b v);
      short = subst (All (λ (cells : List (Option Slot)). length cells ≤ 64)) (sym (map-set items vs b v)) (All-set (λ cells. length cells ≤ 64) (map items vs) b (items v) short is.short);
      ends = λ q past. held_kept q (same q past) ∙ is.ends q past;
    }

-- ---- a place of the blocks
-- a slot stands only within a list
pub somewhere : (slots : List (Option Slot)) (q : ℕ) → IsSome (get_or slots q None) → q < length slots
somewhere slots q some = at (ltb q (length slots)) refl
  where
    at : (b : Bool) → ltb q (length slots) ≡ b → q < length slots
    at true e = ltb-true q (length slots) e
    at false e =
        let past : length slots ≤ q = ltb-false q (length slots) e in
        let none = get_or_past slots q None past in
        absurd (let h : false ≡ true = subst (λ (o : Option Slot). IsSome o) none some in cc)

module _ {V : Type 0} (items : V → List (Option Slot)) (vs : List V) (len q : ℕ) (slots : List (Option Slot)) (is : IsBlocks len (map items vs))
    (view : slots_from (map items vs) 0 len ≡ slots) (within : q < length slots) where
  below : q < len
  below = omega (arith, within, ap length view, length-map-range_with_len (slot_at (map items vs)) 0 len)

  -- the place has a block
  pub has_block : q / 64 < length vs
  has_block = omega (arith, below, is.covers, length-map vs items)

  -- what stands there
  pub stands : (d : V) → get_or (items (get_or vs (q / 64) d)) (q % 64) None ≡ get_or slots q None
  stands d =
      sym (cell_at items vs (q / 64) has_block d q refl)
      ∙ sym (get_or-map-range_with_len (slot_at (map items vs)) 0 len q q None below (omega arith))
      ∙ ap (λ (xs : List (Option Slot)). get_or xs q None) view

  -- where a slot stands, the block has a cell for it
  pub has_cell : (d : V) → IsSome (get_or slots q None) → q % 64 < length (items (get_or vs (q / 64) d))
  has_cell d some = somewhere (items (get_or vs (q / 64) d)) (q % 64) (subst (λ (o : Option Slot). IsSome o) (sym (stands d)) some)

  pub has_short : (d : V) → length (items (get_or vs (q / 64) d)) ≤ 64
  has_short d = block_short items vs (q / 64) has_block d len is

  -- the block was changed at this place
  module _ (v d : V) (others : (k : ℕ) → k ≢ q % 64 → get_or (items v) k None ≡ get_or (items (get_or vs (q / 64) d)) k None) where
    elsewhere : (p : ℕ) → p ≢ q → p / 64 ≡ q / 64 → get_or (items v) (p % 64) None ≡ get_or (items (get_or vs (q / 64) d)) (p % 64) None
    elsewhere p ne is = others (p % 64) (λ r. ne (omega arith))

    pub changed_blocks : length (items v) ≤ 64 → IsBlocks len (map items (set vs (q / 64) v))
    changed_blocks short = held_blocks items vs (q / 64) has_block d v len short (λ p past. elsewhere p (λ e. absurd (omega (arith, below, past)))) is

    pub changed : (o : Option Slot) → get_or (items v) (q % 64) None ≡ o → slots_from (map items (set vs (q / 64) v)) 0 len ≡ set slots q o
    changed o e =
        sym (fill_by_all (slot_at (map items (set vs (q / 64) v))) (set slots q o) len None
        (length-set slots q o ∙ sym (ap length view) ∙ length-map-range_with_len (slot_at (map items vs)) 0 len) each)
      where
        each : (k : ℕ) → k < len → get_or (set slots q o) k None ≡ slot_at (map items (set vs (q / 64) v)) k
        each k lt = at (eqb k q) refl
          where
            at : (t : Bool) → eqb k q ≡ t → get_or (set slots q o) k None ≡ slot_at (map items (set vs (q / 64) v)) k
            at true t =
                let same : k ≡ q = eqb-true k q t in
                ap (λ (j : ℕ). get_or (set slots q o) j None) same ∙ get_or-set_same slots q o None within ∙ sym e
                ∙ sym (held_set items vs (q / 64) has_block d v q refl) ∙ ap (slot_at (map items (set vs (q / 64) v))) (sym same)
            at false t =
                let ne : k ≢ q = eqb-false k q t in
                get_or-set_other slots q k o None ne
                ∙ ap (λ (xs : List (Option Slot)). get_or xs k None) (sym view)
                ∙ get_or-map-range_with_len (slot_at (map items vs)) 0 len k k None lt (omega arith)
                ∙ sym (held_kept items vs (q / 64) has_block d v k (elsewhere k ne))

  pub unchanged : (v d : V) → items v ≡ items (get_or vs (q / 64) d) → slots_from (map items (set vs (q / 64) v)) 0 len ≡ slots
  unchanged v d e = ap (λ (bs : List (List (Option Slot))). slots_from bs 0 len) (map-set_same items vs (q / 64) v d e) ∙ view

-- a block made whole has what it had
pub made_whole : (cells : List (Option Slot)) (k : ℕ) → length cells ≤ 64 → get_or (take 64 cells ++ replicate (64 - length cells) None) k None ≡ get_or cells k None
made_whole cells k short =
    ap (λ (xs : List (Option Slot)). get_or (xs ++ replicate (64 - length cells) None) k None) (take_all 64 cells short) ∙ more cells k (64 - length cells)
  where
    free_place : (k n : ℕ) → get_or {A = Option Slot} (replicate n None) k None ≡ None
    free_place k zero = get_or_past [] k None (omega arith)
    free_place zero (suc n) = refl
    free_place (suc k) (suc n) = free_place k n

    more : (cells : List (Option Slot)) (k n : ℕ) → get_or (cells ++ replicate n None) k None ≡ get_or cells k None
    more [] k n = free_place k n ∙ sym (get_or_past [] k None (omega arith))
    more (c ∷ cells) zero n = refl
    more (c ∷ cells) (suc k) n = more cells k n

-- ---- one free place more
pub grown : (blocks : List (List (Option Slot))) (len : ℕ) → IsBlocks len blocks → slots_from blocks 0 (len + 1) ≡ slots_from blocks 0 len ++ None ∷ []
grown blocks len is =
    map-range_with_len_more (slot_at blocks) 0 len len (omega arith)
    ∙ ap (λ (o : Option Slot). slots_from blocks 0 len ++ o ∷ []) (is.ends len (omega arith))

-- an empty block more changes nothing
pub block_more : (blocks : List (List (Option Slot))) (q : ℕ) → slot_at (blocks ++ [] ∷ []) q ≡ slot_at blocks q
block_more blocks q = ap (λ (xs : List (Option Slot)). get_or xs (q % 64) None) (more blocks (q / 64))
  where
    more : (blocks : List (List (Option Slot))) (b : ℕ) → get_or (blocks ++ [] ∷ []) b [] ≡ get_or blocks b []
    more [] zero = sym (get_or_past [] 0 [] (omega arith))
    more [] (suc b) = get_or_past ([] ∷ []) (suc b) [] (omega arith) ∙ sym (get_or_past [] (suc b) [] (omega arith))
    more (c ∷ blocks) zero = refl
    more (c ∷ blocks) (suc b) = more blocks b

pub same_slots_from : (old new : List (List (Option Slot))) (len : ℕ) → ((q : ℕ) → slot_at new q ≡ slot_at old q) → slots_from new 0 len ≡ slots_from old 0 len
same_slots_from old new len same =
    sym (fill_by_all (slot_at new) (slots_from old 0 len) len None (length-map-range_with_len (slot_at old) 0 len)
    (λ k lt. get_or-map-range_with_len (slot_at old) 0 len k k None lt (omega arith) ∙ sym (same k)))

module _ {V : Type 0} (items : V → List (Option Slot)) (vs : List V) (len : ℕ) where
  pub blocks_longer : len < 64 * length vs → IsBlocks len (map items vs) → IsBlocks (len + 1) (map items vs)
  blocks_longer room is = record {
    covers = omega (arith, room, length-map vs items);
    few = is.few;
    short = is.short;
    ends = λ q past. is.ends q (omega arith);
  }

  module _ (v : V) (empty : items v ≡ []) where
    more_is : map items (vs ++ v ∷ []) ≡ map items vs ++ [] ∷ []
    more_is = map-append items vs (v ∷ []) ∙ ap (λ (cells : List (Option Slot)). map items vs ++ cells ∷ []) empty

    pub same_more : (q : ℕ) → slot_at (map items (vs ++ v ∷ [])) q ≡ slot_at (map items vs) q
    same_more q = ap (λ (bs : List (List (Option Slot))). slot_at bs q) more_is ∙ block_more (map items vs) q

    one_short : (k : ℕ) → k < 1 → length {A = Option Slot} (get_or ([] ∷ []) k []) ≤ 64
    one_short zero lt = omega arith
    one_short (suc k) lt = absurd (omega arith)

    pub blocks_more : length vs < 2 ^ 48 → IsBlocks len (map items vs) → IsBlocks len (map items (vs ++ v ∷ []))
    blocks_more few is = subst (λ bs. IsBlocks len bs) (sym more_is) record {
      covers = omega (arith, is.covers, length-append (map items vs) ([] ∷ []));
      few = omega (arith, few, length-map vs items, length-append (map items vs) ([] ∷ []));
      short = All-append (λ cells. length cells ≤ 64) (map items vs) ([] ∷ []) is.short (All-from_get_or (λ cells. length cells ≤ 64) ([] ∷ []) [] one_short);
      ends = λ q past. block_more (map items vs) q ∙ is.ends q past;
    }

-- ---- what is listed
-- a block, numbered from a on, and what comes after it
pub listed_block : (f : ℕ → Option Slot) (cells : List (Option Slot)) (k a i n m b e : ℕ) → m ≡ k + n → b ≡ a + k → e ≡ i + k → length cells ≤ k
    → ((j p : ℕ) → j < k → p ≡ i + j → f p ≡ get_or cells j None)
    → near_entries a (map f (range_with_len i m)) ≡ near_entries a cells ++ near_entries b (map f (range_with_len e n))
listed_block f [] zero a i n m b e p r s short at =
    let same : m ≡ n = omega arith in
    let number : a ≡ b = omega arith in
    let here : i ≡ e = omega arith in
    ap (λ (c : ℕ). near_entries a (map f (range_with_len i c))) same
    ∙ ap (λ (c : ℕ). near_entries c (map f (range_with_len i n))) number
    ∙ ap (λ (c : ℕ). near_entries b (map f (range_with_len c n))) here
listed_block f (c ∷ cells) zero a i n m b e p r s short at = absurd (omega arith)
listed_block f cells (suc k) a i n zero b e p r s short at = absurd (omega arith)
listed_block f [] (suc k) a i n (suc m) b e p r s short at =
    ap (λ (o : Option Slot). near_entries a (o ∷ map f (range_with_len (i + 1) m))) (at 0 i (omega arith) (omega arith) ∙ get_or_past [] 0 None (omega arith))
    ∙ listed_block f [] k (a + 1) (i + 1) n m b e (omega arith) (omega arith) (omega arith) (omega arith)
    (λ j q lt is. at (suc j) q (omega arith) (omega arith) ∙ get_or_past [] (suc j) None (omega arith) ∙ sym (get_or_past [] j None (omega arith)))
listed_block f (None ∷ cells) (suc k) a i n (suc m) b e p r s short at =
    ap (λ (o : Option Slot). near_entries a (o ∷ map f (range_with_len (i + 1) m))) (at 0 i (omega arith) (omega arith))
    ∙ listed_block f cells k (a + 1) (i + 1) n m b e (omega arith) (omega arith) (omega arith) (omega arith) (λ j q lt is. at (suc j) q (omega arith) (omega arith))
listed_block f (Some slot ∷ cells) (suc k) a i n (suc m) b e p r s short at =
    ap (λ (o : Option Slot). near_entries a (o ∷ map f (range_with_len (i + 1) m))) (at 0 i (omega arith) (omega arith))
    ∙ ap (λ (es : List (ℕ × Slot)). (a, slot) ∷ es)
    (listed_block f cells k (a + 1) (i + 1) n m b e (omega arith) (omega arith) (omega arith) (omega arith) (λ j q lt is. at (suc j) q (omega arith) (omega arith)))

-- if nothing is listed, no slot stands
pub none_stands : (n : ℕ) (cells : List (Option Slot)) → near_entries n cells ≡ [] → (k : ℕ) → get_or cells k None ≡ None
none_stands n [] e k = get_or_past [] k None (omega arith)
none_stands n (None ∷ cells) e zero = refl
none_stands n (None ∷ cells) e (suc k) = none_stands (n + 1) cells e k
none_stands n (Some s ∷ cells) e k = absurd (let h : (n, s) ∷ near_entries (n + 1) cells ≡ [] = e in cc)

pub none_listed : (old new : List Ref) (es : List (ℕ × Slot)) → new ≡ old ++ map ref_of es → length new ≡ length old → es ≡ []
none_listed old new [] e same = refl
none_listed old new (x ∷ es) e same = absurd (omega (arith, ap length e, length-append old (map ref_of (x ∷ es))))

-- the first block that is still to be listed
pub next_listed : (first : ℕ) (old : List (List (Option Slot))) (b : ℕ) (cells : List (Option Slot)) (refs new all : List Ref) → b < length old → length cells ≤ 64
    → ((q : ℕ) → q / 64 ≡ b → slot_at old q ≡ get_or cells (q % 64) None)
    → new ≡ refs ++ map ref_of (near_entries (first + 64 * b) cells)
    → refs ++ map ref_of (near_entries (first + 64 * b) (slots_from old (64 * b) (64 * (length old - b)))) ≡ all
    → new ++ map ref_of (near_entries (first + 64 * (b + 1)) (slots_from old (64 * (b + 1)) (64 * (length old - (b + 1))))) ≡ all
next_listed first old b cells refs new all within short at listed e =
    let rest = near_entries (first + 64 * (b + 1)) (slots_from old (64 * (b + 1)) (64 * (length old - (b + 1)))) in
    let here = near_entries (first + 64 * b) cells in
    let split : near_entries (first + 64 * b) (slots_from old (64 * b) (64 * (length old - b))) ≡ here ++ rest =
    listed_block (slot_at old) cells 64 (first + 64 * b) (64 * b) (64 * (length old - (b + 1))) (64 * (length old - b)) (first + 64 * (b + 1)) (64 * (b + 1))
    (omega arith) (omega arith) (omega arith) short
    (λ j p lt is. let cell : p % 64 ≡ j = omega arith in at p (omega arith) ∙ ap (λ (k : ℕ). get_or cells k None) cell) in
    ap (λ (xs : List Ref). xs ++ map ref_of rest) listed
    ∙ append_assoc refs (map ref_of here) (map ref_of rest)
    ∙ ap (λ (xs : List Ref). refs ++ xs) (sym (map-append ref_of here rest))
    ∙ ap (λ (es : List (ℕ × Slot)). refs ++ map ref_of es) (sym split)
    ∙ e

-- beyond the places of the blocks nothing is listed
pub entries_end : (first : ℕ) (old : List (List (Option Slot))) (len : ℕ) → IsBlocks len old
    → near_entries first (slots_from old 0 (64 * length old)) ≡ near_entries first (slots_from old 0 len)
entries_end first old len is =
    listed_block (slot_at old) (slots_from old 0 len) (64 * length old) first 0 0 (64 * length old) (first + 64 * length old) (64 * length old)
    (omega arith) (omega arith) (omega arith)
    (omega (arith, is.covers, length-map-range_with_len (slot_at old) 0 len)) each
    ∙ append-nil (near_entries first (slots_from old 0 len))
  where
    each : (j p : ℕ) → j < 64 * length old → p ≡ 0 + j → slot_at old p ≡ get_or (slots_from old 0 len) j None
    each j p lt e = at (ltb p len) refl
      where
        at : (t : Bool) → ltb p len ≡ t → slot_at old p ≡ get_or (slots_from old 0 len) j None
        at true t =
            let inside : p < len = ltb-true p len t in
            sym (get_or-map-range_with_len (slot_at old) 0 len j p None (omega arith) (omega arith))
        at false t =
            let past : len ≤ p = ltb-false p len t in
            is.ends p past ∙ sym (get_or_past (slots_from old 0 len) j None (omega (arith, past, e, length-map-range_with_len (slot_at old) 0 len)))

pub all_listed : (first : ℕ) (old : List (List (Option Slot))) (len b : ℕ) (slots : List (Option Slot)) (refs start : List Ref) → IsBlocks len old → slots_from old 0 len ≡ slots
    → length old ≤ b
    → refs ++ map ref_of (near_entries (first + 64 * b) (slots_from old (64 * b) (64 * (length old - b))))
    ≡ start ++ map ref_of (near_entries first (slots_from old 0 (64 * length old)))
    → refs ≡ start ++ map ref_of (near_entries first slots)
all_listed first old len b slots refs start is view past e =
    let none : 64 * (length old - b) ≡ 0 = omega arith in
    sym (append-nil refs)
    ∙ ap (λ (n : ℕ). refs ++ map ref_of (near_entries (first + 64 * b) (slots_from old (64 * b) n))) (sym none)
    ∙ e
    ∙ ap (λ (es : List (ℕ × Slot)). start ++ map ref_of es) (entries_end first old len is ∙ ap (near_entries first) view)
