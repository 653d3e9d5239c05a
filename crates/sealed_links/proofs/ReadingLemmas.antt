-- That bytes are read as records in one way.
use Rattle.std.proofs.Common.{◌≡◌, ℕ, suc, ◌+◌, ◌≤◌, List, [], ◌∷◌, ◌++◌, length, take, drop, ap, refl, subst, sym, ◌∙◌, append_assoc, arith}
use Rattle.std.proofs.lemmas.List.{append-nil, append_cancel_left, drop_at, length-append, take_at}
use Rattle.std.specs.List.{concat}
use Rattle.sealed_links.specs.Links.{IsTheReading, StopsWithin, TakesAll}
use Rattle.sealed_links.specs.Records.{AreOpened, AreShort, BeginsWithRecord, IsUnfinished, header, in_body, in_header, sealed, sealed_all, told_length}
use Rattle.sealed_links.specs.SipHash.{tag_of}
use Rattle.sealed_links.specs.declared.incoming.Incoming.{Incoming}
use Rattle.sealed_links.specs.declared.incoming.OpenFault.TheVariants.{Wrong}
use Rattle.sealed_links.specs.declared.siphash.TagKey.{TagKey}
use Rattle.sealed_links.proofs.RecordLemmas.{length-header, length-sealed, told_is}

payload_is : (key : TagKey) (n : ℕ) (p rest : List ℕ) → take (length p) (drop 12 (sealed key n p ++ rest)) ≡ p
unfolding sealed
payload_is key n p rest =
    let head : List ℕ = header n (length p) in
    let tag : List ℕ = tag_of key (head ++ p) in
    let whole : head ++ p ++ tag ++ rest ≡ head ++ (p ++ (tag ++ rest)) = append_assoc (head ++ p) tag rest ∙ append_assoc head p (tag ++ rest) in
    ap (λ ys. take (length p) (drop 12 ys)) whole ∙ ap (take (length p)) (drop_at head _ 12 (length-header n (length p))) ∙ take_at p (tag ++ rest) (length p) refl

same_first : (key : TagKey) (n : ℕ) (p q x y : List ℕ) → length p ≤ 4096 → length q ≤ 4096 → sealed key n p ++ x ≡ sealed key n q ++ y → p ≡ q
same_first key n p q x y short_p short_q e =
    let long : length p ≡ length q = sym (told_is key n p x short_p) ∙ ap told_length e ∙ told_is key n q y short_q in
    sym (payload_is key n p x) ∙ (λ i. take (long i) (drop 12 (e i))) ∙ payload_is key n q y

same_rest : (key : TagKey) (n : ℕ) (p q x y : List ℕ) → p ≡ q → sealed key n p ++ x ≡ sealed key n q ++ y → x ≡ y
same_rest key n p q x y same e = append_cancel_left (sealed key n p) x y (e ∙ ap (λ r. sealed key n r ++ y) (sym same))

tail_short : (n : ℕ) (p : List ℕ) (ps : List (List ℕ)) → AreShort n (p ∷ ps) → AreShort (n + 1) ps
tail_short n p ps a = record { short = λ k d lt. a.short (suc k) d (omega arith); few = λ some. omega (arith, a.few (omega arith)) }

-- a list of records that is not empty begins with one
begins : (key : TagKey) (n : ℕ) (p : List ℕ) (ps : List (List ℕ)) (rest bytes : List ℕ) → AreShort n (p ∷ ps) → bytes ≡ sealed_all key n (p ∷ ps) ++ rest → BeginsWithRecord key n bytes
unfolding sealed_all
begins key n p ps rest bytes a e = record {
  payload = p;
  rest = sealed_all key (n + 1) ps ++ rest;
  short = a.short 0 [] (omega arith);
  few = omega (arith, a.few (omega arith));
  bytes_are = e ∙ append_assoc (sealed key n p) (sealed_all key (n + 1) ps) rest;
}

same_payloads : (key : TagKey) (n : ℕ) (ps qs : List (List ℕ)) (x y : List ℕ) → AreShort n ps → AreShort n qs → sealed_all key n ps ++ x ≡ sealed_all key n qs ++ y
    → (BeginsWithRecord key (n + length ps) x → ⊥) → (BeginsWithRecord key (n + length qs) y → ⊥) → ps ≡ qs
unfolding sealed_all
same_payloads key n [] [] x y a b e none_x none_y = refl
same_payloads key n [] (q ∷ qs) x y a b e none_x none_y =
    let P : ℕ → Type 0 = λ m. BeginsWithRecord key m x in
    let here : n ≡ n + 0 = omega arith in absurd (none_x (subst P here (begins key n q qs y x b e)))
same_payloads key n (p ∷ ps) [] x y a b e none_x none_y =
    let P : ℕ → Type 0 = λ m. BeginsWithRecord key m y in
    let here : n ≡ n + 0 = omega arith in absurd (none_y (subst P here (begins key n p ps x y a (sym e))))
same_payloads key n (p ∷ ps) (q ∷ qs) x y a b e none_x none_y =
    let split : sealed key n p ++ (sealed_all key (n + 1) ps ++ x) ≡ sealed key n q ++ (sealed_all key (n + 1) qs ++ y) =
    sym (append_assoc (sealed key n p) (sealed_all key (n + 1) ps) x) ∙ e ∙ append_assoc (sealed key n q) (sealed_all key (n + 1) qs) y in
    let first : p ≡ q = same_first key n p q _ _ (a.short 0 [] (omega arith)) (b.short 0 [] (omega arith)) split in
    let X : ℕ → Type 0 = λ m. BeginsWithRecord key m x in
    let Y : ℕ → Type 0 = λ m. BeginsWithRecord key m y in
    let more_p : n + 1 + length ps ≡ n + length (p ∷ ps) = omega arith in
    let more_q : n + 1 + length qs ≡ n + length (q ∷ qs) = omega arith in
    let rest : ps ≡ qs = same_payloads key (n + 1) ps qs x y (tail_short n p ps a) (tail_short n q qs b) (same_rest key n p q _ _ first split)
    (λ r. none_x (subst X more_p r)) (λ r. none_y (subst Y more_q r)) in
    λ i. first i ∷ rest i

-- whole records and a rest that begins with none: what they hand on is determined
same_handed : (key : TagKey) (n : ℕ) (bytes handed : List ℕ) (m : ℕ) (rest handed' : List ℕ) (m' : ℕ) (rest' : List ℕ) → AreOpened key n bytes handed m rest → AreOpened key n bytes handed' m' rest'
    → (BeginsWithRecord key m rest → ⊥) → (BeginsWithRecord key m' rest' → ⊥) → handed ≡ handed'
same_handed key n bytes handed m rest handed' m' rest' o o' none none' =
    let X : ℕ → Type 0 = λ k. BeginsWithRecord key k rest in
    let Y : ℕ → Type 0 = λ k. BeginsWithRecord key k rest' in
    o.handed_are
    ∙ ap concat (same_payloads key n o.payloads o'.payloads rest rest' o.are_short o'.are_short (sym o.bytes_are ∙ o'.bytes_are) (λ r. none (subst X (sym o.number_is) r)) (λ r. none' (subst Y (sym o'.number_is) r)))
    ∙ sym o'.handed_are

-- bytes of a record that has not come whole begin with none
none_unfinished : (key : TagKey) (m : ℕ) (rest : List ℕ) → IsUnfinished m rest → BeginsWithRecord key m rest → ⊥
none_unfinished key m rest u b =
    let long : length rest ≡ 28 + length b.payload + length b.rest = ap length b.bytes_are ∙ length-append (sealed key m b.payload) b.rest ∙ ap (λ n. n + length b.rest) (length-sealed key m b.payload) in
    let told : told_length rest ≡ length b.payload = ap told_length b.bytes_are ∙ told_is key m b.payload b.rest b.short in
    elim u [ in_header few ↦ omega (arith, few, long) | in_body some front short few ↦ omega (arith, few, long, told) ]

pub the_reading : (old new : Incoming) (bytes before after : List ℕ) → TakesAll old new bytes before after → IsTheReading old bytes before after
the_reading old new bytes before after t handed m rest o none =
    t.after_is
    ∙ ap (λ ys. before ++ ys) (same_handed old.key old.number (old.held.items ++ bytes) t.handed new.number new.held.items handed m rest t.opened o (none_unfinished old.key new.number new.held.items t.unfinished) none)

pub the_reading_wrong : (old : Incoming) (bytes before after : List ℕ) → StopsWithin Wrong old bytes before after → IsTheReading old bytes before after
the_reading_wrong old bytes before after s handed m rest o none =
    let X : List ℕ → Type 0 = λ ys. BeginsWithRecord old.key s.number ys in
    s.after_is
    ∙ ap (λ ys. before ++ ys) (same_handed old.key old.number (old.held.items ++ bytes) s.handed s.number s.rest handed m rest s.opened o (λ b. s.stops [] (subst X (sym (append-nil s.rest)) b)) none)
