-- Records one after another, what they hand on, and what may follow.
use Rattle.std.proofs.Common.{◌≡◌, ℕ, ◌+◌, ◌-◌, ◌<◌, ◌≤◌, ◌^◌, List, [], ◌∷◌, ◌++◌, length, take, drop, ap, refl, subst, sym, ◌∙◌, append_assoc, arith, rules}
use Rattle.std.proofs.lemmas.List.{append-nil, drop-drop, length-drop, length-take, length_push, take-append-drop, take_rest}
use Rattle.std.proofs.lemmas.List.Folds.{concat-append}
use Rattle.std.proofs.lemmas.List.Elements.{All-push}
use Rattle.std.specs.List.{concat}
use Rattle.sealed_links.specs.Links.{StopsAt, StopsWithin, TakesAll}
use Rattle.sealed_links.specs.Records.{AreOpened, IsUnfinished, IsWrong, sealed, sealed_all}
use Rattle.sealed_links.specs.declared.incoming.OpenFault.{OpenFault}
use Rattle.sealed_links.specs.declared.incoming.OpenFault.TheVariants.{NoMemory, Wrong}
use Rattle.sealed_links.specs.declared.siphash.TagKey.{TagKey}
use Rattle.sealed_links.specs.declared.incoming.Incoming.{Incoming}
use Rattle.sealed_links.specs.inner.HandsOn.{HandsOn, HandsOnTo}
use Rattle.sealed_links.specs.inner.Looks.{HasRecord}

-- subst at two places
subst2 : {A B : Type 0} (P : A → B → Type 0) {x x' : A} {y y' : B} → x ≡ x' → y ≡ y' → P x y → P x' y'
subst2 {A} {B} P {x} {x'} {y} {y'} e f p =
    let L : A → Type 0 = λ a. P a y in
    let R : B → Type 0 = λ b. P x' b in subst R f (subst L e p)

-- one more record after others
pub sealed_all-push : (key : TagKey) (n : ℕ) (ps : List (List ℕ)) (p : List ℕ) → sealed_all key n (ps ++ p ∷ []) ≡ sealed_all key n ps ++ sealed key (n + length ps) p
unfolding sealed_all
sealed_all-push key n [] p = append-nil (sealed key n p) ∙ ap (λ m. sealed key m p) (omega arith)
sealed_all-push key n (q ∷ ps) p =
    ap (λ ys. sealed key n q ++ ys) (sealed_all-push key (n + 1) ps p)
    ∙ sym (append_assoc (sealed key n q) (sealed_all key (n + 1) ps) (sealed key (n + 1 + length ps) p))
    ∙ ap (λ m. sealed key n q ++ sealed_all key (n + 1) ps ++ sealed key m p) (omega arith)

-- nothing is opened of the bytes so far
pub nothing_opened : (key : TagKey) (n : ℕ) (bytes : List ℕ) → AreOpened key n bytes [] n bytes
unfolding sealed_all
nothing_opened key n bytes = record {
  payloads = [];
  are_short = record { short = search rules; few = λ some. absurd (omega arith) };
  bytes_are = refl;
  handed_are = refl;
  number_is = omega arith;
}

-- one more record is opened of the rest
pub one_more_opened : (key : TagKey) (n : ℕ) (bytes handed : List ℕ) (m : ℕ) (rest p rest' : List ℕ) → AreOpened key n bytes handed m rest
    → rest ≡ sealed key m p ++ rest' → length p ≤ 4096 → m + 1 < 2 ^ 64 → AreOpened key n bytes (handed ++ p) (m + 1) rest'
one_more_opened key n bytes handed m rest p rest' o e short few = record {
  payloads = o.payloads ++ p ∷ [];
  are_short = record {
    short = All-push (λ q. length q ≤ 4096) o.payloads p o.are_short.short short;
    few = λ some. omega (arith, length_push o.payloads p, o.number_is);
  };
  bytes_are =
      o.bytes_are ∙ ap (λ ys. sealed_all key n o.payloads ++ ys) (e ∙ ap (λ k. sealed key k p ++ rest') o.number_is)
      ∙ sym (append_assoc (sealed_all key n o.payloads) (sealed key (n + length o.payloads) p) rest')
      ∙ ap (λ ys. ys ++ rest') (sym (sealed_all-push key n o.payloads p));
  handed_are = ap (λ ys. ys ++ p) o.handed_are ∙ ap (λ ys. concat o.payloads ++ ys) (sym (append-nil p)) ∙ sym (concat-append o.payloads (p ∷ []));
  number_is = omega (arith, length_push o.payloads p, o.number_is);
}

-- the same, where a look has found the record at a place
pub found_opened : (key : TagKey) (n : ℕ) (bytes handed : List ℕ) (m at long : ℕ) (held : List ℕ) → AreOpened key n bytes handed m (drop at held)
    → HasRecord key m (drop at held) long → AreOpened key n bytes (handed ++ take long (drop 12 (drop at held))) (m + 1) (drop (at + 12 + long + 16) held)
found_opened key n bytes handed m at long held o r =
    let rest : List ℕ = drop at held in
    let there : at + (12 + long + 16) ≡ at + 12 + long + 16 = omega arith in
    let e : rest ≡ sealed key m (take long (drop 12 rest)) ++ drop (at + 12 + long + 16) held =
    sym (take-append-drop (12 + long + 16) rest) ∙ (λ i. r.bytes_are i ++ (drop-drop (12 + long + 16) at held ∙ ap (λ k. drop k held) there) i) in
    one_more_opened key n bytes handed m rest _ _ o e (omega (arith, length-take long (drop 12 rest), r.short)) r.few

-- more bytes may follow
pub opened-append : (key : TagKey) (n : ℕ) (bytes handed : List ℕ) (m : ℕ) (rest more : List ℕ) → AreOpened key n bytes handed m rest → AreOpened key n (bytes ++ more) handed m (rest ++ more)
opened-append key n bytes handed m rest more o = record {
  payloads = o.payloads;
  are_short = o.are_short;
  bytes_are = ap (λ ys. ys ++ more) o.bytes_are ∙ append_assoc (sealed_all key n o.payloads) rest more;
  handed_are = o.handed_are;
  number_is = o.number_is;
}

-- what is held from a place on, as a slice of it
pub front_of : (at : ℕ) (lent held : List ℕ) → lent ≡ held → take (length lent - at) (drop at lent) ≡ drop at held
front_of at lent held e = take_rest lent at ∙ ap (drop at) e

-- the payload of the record there, as a slice
pub part_of : (at long : ℕ) (lent held : List ℕ) → lent ≡ held → take (at + 12 + long - (at + 12)) (drop (at + 12) lent) ≡ take long (drop 12 (drop at held))
part_of at long lent held e =
    let n : at + 12 + long - (at + 12) ≡ long = omega arith in
    (λ i. take (n i) (drop (at + 12) (e i))) ∙ ap (take long) (sym (drop-drop 12 at held))

-- the loop over the records that have come, before the first one
pub begins_handing : (old : Incoming) (before : List ℕ) → HandsOnTo old old before before 0
begins_handing old before = record {
  handed = [];
  after_is = sym (append-nil before);
  within = omega arith;
  opened = nothing_opened old.key old.number old.held.items;
  same_key = refl;
  same_held = refl;
}

-- and after one more
pub one_more_handed : (old now next : Incoming) (before out out' : List ℕ) (at long : ℕ) → HandsOnTo old now before out at → HasRecord now.key now.number (drop at now.held.items) long
    → out' ≡ out ++ take long (drop 12 (drop at now.held.items)) → next.key ≡ now.key → next.number ≡ now.number + 1 → next.held.items ≡ now.held.items
    → HandsOnTo old next before out' (at + 12 + long + 16)
one_more_handed old now next before out out' at long so r e key number held =
    let P : TagKey → List ℕ → Type 0 = λ k h. HasRecord k now.number (drop at h) long in
    let r' : HasRecord old.key now.number (drop at old.held.items) long = subst2 P so.same_key so.same_held r in
    let Q : ℕ → Type 0 = λ m. AreOpened old.key old.number old.held.items (so.handed ++ take long (drop 12 (drop at old.held.items))) m (drop (at + 12 + long + 16) old.held.items) in record {
      handed = so.handed ++ take long (drop 12 (drop at old.held.items));
      after_is =
          e ∙ (λ i. so.after_is i ++ take long (drop 12 (drop at (so.same_held i))))
          ∙ append_assoc before so.handed (take long (drop 12 (drop at old.held.items)));
      within = omega (arith, r'.whole, length-drop at old.held.items, so.within);
      opened = subst Q (sym number) (found_opened old.key old.number old.held.items so.handed now.number at long old.held.items so.opened r');
      same_key = key ∙ so.same_key;
      same_held = held ∙ so.same_held;
    }

-- no record follows any more
pub ends_handing : (old now : Incoming) (before out : List ℕ) (at : ℕ) → HandsOnTo old now before out at → IsUnfinished now.number (drop at now.held.items) → HandsOn old now before out at
ends_handing old now before out at so u =
    let P : List ℕ → Type 0 = λ h. IsUnfinished now.number (drop at h) in record { so_far = so; unfinished = subst P so.same_held u }

-- a fault at a place; `bytes` are those that came last, and are held
pub stops_at : (fault : OpenFault) (old now : Incoming) (before out : List ℕ) (at : ℕ) → HandsOnTo old now before out at → StopsAt fault old.key now.number (drop at old.held.items)
    → StopsWithin fault old [] before out
stops_at fault old now before out at so stops =
    let P : List ℕ → Type 0 = λ h. AreOpened old.key old.number h so.handed now.number (drop at old.held.items) in record {
      handed = so.handed;
      number = now.number;
      rest = drop at old.held.items;
      after_is = so.after_is;
      opened = subst P (sym (append-nil old.held.items)) so.opened;
      stops = stops;
    }

pub wrong_at : (old now : Incoming) (before out : List ℕ) (at : ℕ) → HandsOnTo old now before out at → IsWrong now.key now.number (drop at now.held.items) → StopsWithin Wrong old [] before out
wrong_at old now before out at so wrong =
    let P : TagKey → List ℕ → Type 0 = λ k h. IsWrong k now.number (drop at h) in
    stops_at Wrong old now before out at so (subst2 P so.same_key so.same_held wrong)

pub memory_at : (fault : OpenFault) (old now : Incoming) (before out : List ℕ) (at : ℕ) → HandsOnTo old now before out at → fault ≡ NoMemory → StopsWithin fault old [] before out
memory_at fault old now before out at so e =
    let P : OpenFault → Type 0 = λ f. StopsWithin f old [] before out in subst P (sym e) (stops_at NoMemory old now before out at so tt)

-- bytes came, and are held with those that were there
pub all_taken : (old mid last new : Incoming) (bytes before out : List ℕ) (at : ℕ) → mid.key ≡ old.key → mid.number ≡ old.number → mid.held.items ≡ old.held.items ++ bytes
    → HandsOn mid last before out at → new.key ≡ last.key → new.number ≡ last.number → new.held.items ≡ drop at last.held.items → TakesAll old new bytes before out
all_taken old mid last new bytes before out at key number held h key' number' held' =
    let rest : new.held.items ≡ drop at mid.held.items = held' ∙ ap (drop at) h.so_far.same_held in
    let U : ℕ → List ℕ → Type 0 = λ m r. IsUnfinished m r in record {
      handed = h.so_far.handed;
      after_is = h.so_far.after_is;
      opened =
          let P : ℕ → List ℕ → Type 0 = λ m r. AreOpened old.key old.number (old.held.items ++ bytes) h.so_far.handed m r in
          let Q : TagKey → ℕ → Type 0 = λ k n. AreOpened k n (old.held.items ++ bytes) h.so_far.handed last.number (drop at mid.held.items) in
          let R : List ℕ → Type 0 = λ b. AreOpened mid.key mid.number b h.so_far.handed last.number (drop at mid.held.items) in
          subst2 P (sym number') (sym rest) (subst2 Q key number (subst R held h.so_far.opened));
      unfinished = subst2 U (sym number') (sym rest) h.unfinished;
      same_key = key' ∙ h.so_far.same_key ∙ key;
    }

-- a fault, after bytes came and are held
pub stops_later : (fault : OpenFault) (old mid : Incoming) (bytes before out : List ℕ) → mid.key ≡ old.key → mid.number ≡ old.number → mid.held.items ≡ old.held.items ++ bytes
    → StopsWithin fault mid [] before out → StopsWithin fault old bytes before out
stops_later fault old mid bytes before out key number held s =
    let Q : TagKey → ℕ → Type 0 = λ k n. AreOpened k n (old.held.items ++ bytes) s.handed s.number s.rest in
    let R : List ℕ → Type 0 = λ b. AreOpened mid.key mid.number b s.handed s.number s.rest in
    let S : TagKey → Type 0 = λ k. StopsAt fault k s.number s.rest in record {
      handed = s.handed;
      number = s.number;
      rest = s.rest;
      after_is = s.after_is;
      opened = subst2 Q key number (subst R (append-nil mid.held.items ∙ held) s.opened);
      stops = subst S key s.stops;
    }

-- want of memory before anything was opened
pub stops_first : (fault : OpenFault) (old : Incoming) (bytes before : List ℕ) → fault ≡ NoMemory → StopsWithin fault old bytes before before
stops_first fault old bytes before e =
    let P : OpenFault → Type 0 = λ f. StopsWithin f old bytes before before in
    subst P (sym e) (record {
      handed = [];
      number = old.number;
      rest = old.held.items ++ bytes;
      after_is = sym (append-nil before);
      opened = nothing_opened old.key old.number (old.held.items ++ bytes);
      stops = tt;
    })
