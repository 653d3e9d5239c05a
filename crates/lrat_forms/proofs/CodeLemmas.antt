-- Numbers that are appended, one after the other.
use Rattle.std.proofs.Common.{◌≡◌, ℕ, ◌+◌, ◌*◌, ◌/◌, ◌%◌, ◌<◌, ◌≤◌, List, [], ◌∷◌, ◌++◌, map, take, length, get_or, refl, sym, ap, subst, ◌∙◌, append_assoc, arith}
use Rattle.std.specs.List.{flat_map}
use Rattle.std.proofs.lemmas.List.{append-nil, map-append, take_more}
use Rattle.std.proofs.lemmas.Grind.{flat_map-append}
use Rattle.lrat_binary.specs.Grammar.{SpellsNumber, SpellsNumbers}
use Rattle.lrat_forms.specs.inner.Codes.{Adds, AddsNumber}

spell_append : (xs ys bytes more : List ℕ) → SpellsNumbers bytes xs → SpellsNumbers more ys → SpellsNumbers (bytes ++ more) (xs ++ ys)
spell_append [] ys bytes more none h = subst (λ (bs : List ℕ). SpellsNumbers (bs ++ more) ys) (sym none) h
spell_append (x ∷ xs) ys bytes more (front, rest, splits, number, later) h =
    (front, rest ++ more, ap (λ (bs : List ℕ). bs ++ more) splits ∙ append_assoc front rest more, number, spell_append xs ys rest more later h)

pub adds_append : (old mid new xs ys : List ℕ) → Adds old mid xs → Adds mid new ys → Adds old new (xs ++ ys)
adds_append old mid new xs ys (bytes, first, spelled) (more, second, others) =
    (bytes ++ more, second ∙ ap (λ (bs : List ℕ). bs ++ more) first ∙ append_assoc old bytes more, spell_append xs ys bytes more spelled others)

pub adds_one : (old new : List ℕ) (n : ℕ) → AddsNumber old new n → Adds old new (n ∷ [])
adds_one old new n (bytes, is, spelled) = (bytes, is, (bytes, [], sym (append-nil bytes), spelled, refl))

pub adds_none : (old : List ℕ) → Adds old old []
adds_none old = ([], sym (append-nil old), refl)

-- ---- a number

last_byte : (n : ℕ) → n < 128 → SpellsNumber (n ∷ []) n
last_byte n few = (few, refl)

pub adds_last : (old new : List ℕ) (n : ℕ) → n < 128 → new ≡ old ++ n ∷ [] → AddsNumber old new n
adds_last old new n few is = (n ∷ [], is, last_byte n few)

low_byte : (n : ℕ) (bytes : List ℕ) → 128 ≤ n → SpellsNumber bytes (n / 128) → SpellsNumber ((n % 128 + 128) ∷ bytes) n
low_byte n [] many h = absurd h
low_byte n (c ∷ bytes) many h = (omega arith, omega arith, n / 128, omega arith, omega arith, h)

pub adds_low : (old mid new : List ℕ) (n : ℕ) → 128 ≤ n → mid ≡ old ++ (n % 128 + 128) ∷ [] → AddsNumber mid new (n / 128) → AddsNumber old new n
adds_low old mid new n many is (bytes, later, spelled) =
    ((n % 128 + 128) ∷ bytes, later ∙ ap (λ (bs : List ℕ). bs ++ bytes) is ∙ append_assoc old ((n % 128 + 128) ∷ []) bytes, low_byte n bytes many spelled)

-- ---- one more of a list

pub maps_more : {A : Type 0} (code : A → ℕ) (old mid new : List ℕ) (front longer : List A) (x : A) → longer ≡ front ++ x ∷ []
    → Adds old mid (map code front) → AddsNumber mid new (code x) → Adds old new (map code longer)
maps_more code old mid new front longer x is before one =
    let codes : map code longer ≡ map code front ++ code x ∷ [] = ap (map code) is ∙ map-append code front (x ∷ []) in
    subst (Adds old new) (sym codes) (adds_append old mid new (map code front) (code x ∷ []) before (adds_one mid new (code x) one))

pub flat_more : {A : Type 0} (codes : A → List ℕ) (old mid new : List ℕ) (front longer : List A) (x : A) → longer ≡ front ++ x ∷ []
    → Adds old mid (flat_map codes front) → Adds mid new (codes x) → Adds old new (flat_map codes longer)
flat_more codes old mid new front longer x is before one =
    let all : flat_map codes longer ≡ flat_map codes front ++ codes x
    = ap (flat_map codes) is ∙ flat_map-append codes front (x ∷ []) ∙ ap (λ (ys : List ℕ). flat_map codes front ++ ys) (append-nil (codes x)) in
    subst (Adds old new) (sym all) (adds_append old mid new (flat_map codes front) (codes x) before one)

-- the first more, of a list of which it is known which one comes next
pub longer_by : {A : Type 0} (xs : List A) (i : ℕ) (x : A) → i < length xs → x ≡ get_or xs i x → take (i + 1) xs ≡ take i xs ++ x ∷ []
longer_by xs i x inside at = take_more xs i x inside ∙ ap (λ y. take i xs ++ y ∷ []) (sym at)
