-- Names that are gone through in turn, and those of a list that comes byte by byte.
use Rattle.std.specs.Prelude.{◌≡◌, ◌⊎◌, ◌++◌, ◌∷◌, ℕ, suc, ◌+◌, ◌<◌, ◌==◌, Bool, true, false, List, [], Option, Some, None, is_some, length, map, refl, if◌then◌else◌}
use Rattle.std.proofs.Common.{sym, ap, subst, ◌∙◌, inl, inr, append_assoc, append-nil, drop, get_or, take}
use Rattle.std.proofs.Math.Seq.{drop-cons}
use Rattle.std.proofs.lemmas.Bool.{eqb-true}
use Rattle.std.proofs.lemmas.List.{map-append, nil_from_length, take_more, take-append-drop}
use Rattle.commands.specs.Names.{AreTaken, Gone, names_behind, names_of, none_gone}
use Rattle.commands.specs.Join.{OneStops}
use Rattle.commands.specs.inner.Join.{Goes, IsListed}
use Rattle.reports.specs.declared.report.Report.{Report}

-- ---- names in turn
pub taken_behind : (Takes : List ℕ → Gone → Gone → Type 0) (xs ys : List (List ℕ)) (a b c : Gone) → AreTaken Takes xs a b → AreTaken Takes ys b c → AreTaken Takes (xs ++ ys) a c
taken_behind Takes [] ys a b c h k = let P : Gone → Type 0 = λ x. AreTaken Takes ys x c in subst P h k
taken_behind Takes (x ∷ xs) ys a b c h k = (h.0, h.1, taken_behind Takes xs ys h.0 b c h.2 k)

pub stops_behind : (Takes : List ℕ → Gone → Gone → Type 0) (Stops : List ℕ → Gone → Report → Type 0) (xs ys : List (List ℕ)) (a b : Gone) (r : Report)
    → AreTaken Takes xs a b → OneStops Takes Stops ys b r → OneStops Takes Stops (xs ++ ys) a r
stops_behind Takes Stops [] ys a b r h k = let P : Gone → Type 0 = λ x. OneStops Takes Stops ys x r in subst P h k
stops_behind Takes Stops (x ∷ xs) ys a b r h k = inr (h.0, h.1, stops_behind Takes Stops xs ys h.0 b r h.2 k)

pub taken_at : {A : Type 0} (Takes : List ℕ → Gone → Gone → Type 0) (f : A → List ℕ) (xs : List A) (i : ℕ) (d : A) (s t u : Gone)
    → i < length xs → AreTaken Takes (map f (take i xs)) s t → Takes (f (get_or xs i d)) t u → AreTaken Takes (map f (take (i + 1) xs)) s u
taken_at Takes f xs i d s t u inside h k =
    let P : List (List ℕ) → Type 0 = λ ys. AreTaken Takes ys s u in
    subst P (sym (ap (map f) (take_more xs i d inside) ∙ map-append f (take i xs) (get_or xs i d ∷ []))) (taken_behind Takes (map f (take i xs)) (f (get_or xs i d) ∷ []) s t u h (u, k, refl))

pub stops_at : {A : Type 0} (Takes : List ℕ → Gone → Gone → Type 0) (Stops : List ℕ → Gone → Report → Type 0) (f : A → List ℕ) (xs : List A) (i : ℕ) (d : A) (s t : Gone) (r : Report)
    → i < length xs → AreTaken Takes (map f (take i xs)) s t → Stops (f (get_or xs i d)) t r → OneStops Takes Stops (map f xs) s r
stops_at Takes Stops f xs i d s t r inside h k =
    let P : List (List ℕ) → Type 0 = λ ys. OneStops Takes Stops ys s r in
    let cut = ap (map f) (take-append-drop i xs) in
    subst P (sym (sym cut ∙ map-append f (take i xs) (drop i xs) ∙ ap (λ ys. map f (take i xs) ++ map f ys) (drop-cons xs i d inside)))
    (stops_behind Takes Stops (map f (take i xs)) (f (get_or xs i d) ∷ map f (drop (suc i) xs)) s t r h (inl k))

-- ---- a list, byte by byte
names_step : (b : ℕ) (begun rest : List ℕ) (is : Bool) → (b == 10) ≡ is
    → names_behind begun (b ∷ rest) ≡ (if is then begun ∷ names_behind [] rest else names_behind (begun ++ b ∷ []) rest)
names_step b begun rest is e = ap (λ x. if x then begun ∷ names_behind [] rest else names_behind (begun ++ b ∷ []) rest) e

taken_on : (Takes : List ℕ → Gone → Gone → Type 0) (list : List ℕ) (b : ℕ) (rest : List ℕ) (u : Gone) → AreTaken Takes (names_of (list ++ b ∷ rest)) none_gone u → AreTaken Takes (names_of ((list ++ b ∷ []) ++ rest)) none_gone u
taken_on Takes list b rest u = let P : List ℕ → Type 0 = λ l. AreTaken Takes (names_of l) none_gone u in subst P (sym (append_assoc list (b ∷ []) rest))

stops_on : (Takes : List ℕ → Gone → Gone → Type 0) (Stops : List ℕ → Gone → Report → Type 0) (list : List ℕ) (b : ℕ) (rest : List ℕ) (r : Report)
    → OneStops Takes Stops (names_of (list ++ b ∷ rest)) none_gone r → OneStops Takes Stops (names_of ((list ++ b ∷ []) ++ rest)) none_gone r
stops_on Takes Stops list b rest r = let P : List ℕ → Type 0 = λ l. OneStops Takes Stops (names_of l) none_gone r in subst P (sym (append_assoc list (b ∷ []) rest))

pub listed_begun : (At : Gone → Type 0) (Takes : List ℕ → Gone → Gone → Type 0) (Stops : List ℕ → Gone → Report → Type 0) → At none_gone → IsListed At Takes Stops [] [] None
listed_begun At Takes Stops at = (none_gone, at, λ rest u h. h, λ rest r h. h)

-- a byte of a name
pub listed_byte : (At : Gone → Type 0) (Takes : List ℕ → Gone → Gone → Type 0) (Stops : List ℕ → Gone → Report → Type 0) (list begun : List ℕ) (b : ℕ)
    → (b == 10) ≡ false → IsListed At Takes Stops list begun None → IsListed At Takes Stops (list ++ b ∷ []) (begun ++ b ∷ []) None
listed_byte At Takes Stops list begun b e h = (
  h.0,
  h.1,
  λ rest u k. taken_on Takes list b rest u (h.2 (b ∷ rest) u (let P : List (List ℕ) → Type 0 = λ ns. AreTaken Takes ns h.0 u in subst P (sym (names_step b begun rest false e)) k)),
  λ rest r k. stops_on Takes Stops list b rest r (h.3 (b ∷ rest) r (let P : List (List ℕ) → Type 0 = λ ns. OneStops Takes Stops ns h.0 r in subst P (sym (names_step b begun rest false e)) k)),
)

-- the end of a name
pub listed_name : (At Then : Gone → Type 0) (Takes : List ℕ → Gone → Gone → Type 0) (Stops : List ℕ → Gone → Report → Type 0) (list begun : List ℕ) (b : ℕ) (found : Option Report)
    → (b == 10) ≡ true → (h : IsListed At Takes Stops list begun None) → Goes Then (Takes begun h.0) (Stops begun h.0) found → IsListed Then Takes Stops (list ++ b ∷ []) [] found
listed_name At Then Takes Stops list begun b None e h g = (
  g.0,
  g.2,
  λ rest u k. taken_on Takes list b rest u (h.2 (b ∷ rest) u (let P : List (List ℕ) → Type 0 = λ ns. AreTaken Takes ns h.0 u in subst P (sym (names_step b begun rest true e)) (g.0, g.1, k))),
  λ rest r k. stops_on Takes Stops list b rest r (h.3 (b ∷ rest) r (let P : List (List ℕ) → Type 0 = λ ns. OneStops Takes Stops ns h.0 r in subst P (sym (names_step b begun rest true e)) (inr (g.0, g.1, k)))),
)
listed_name At Then Takes Stops list begun b (Some r) e h g = λ rest.
    stops_on Takes Stops list b rest r (h.3 (b ∷ rest) r (let P : List (List ℕ) → Type 0 = λ ns. OneStops Takes Stops ns h.0 r in subst P (sym (names_step b begun rest true e)) (inl g)))

-- a byte after the end of the run
pub listed_on : (At Then : Gone → Type 0) (Takes : List ℕ → Gone → Gone → Type 0) (Stops : List ℕ → Gone → Report → Type 0) (list begun more : List ℕ) (b : ℕ) (r : Report)
    → IsListed At Takes Stops list begun (Some r) → IsListed Then Takes Stops (list ++ b ∷ []) more (Some r)
listed_on At Then Takes Stops list begun more b r h = λ rest. stops_on Takes Stops list b rest r (h (b ∷ rest))

-- the end of the list
taken_end : (Takes : List ℕ → Gone → Gone → Type 0) (list : List ℕ) (u : Gone) → AreTaken Takes (names_of (list ++ [])) none_gone u → AreTaken Takes (names_of list) none_gone u
taken_end Takes list u = let P : List ℕ → Type 0 = λ l. AreTaken Takes (names_of l) none_gone u in subst P (append-nil list)

stops_end : (Takes : List ℕ → Gone → Gone → Type 0) (Stops : List ℕ → Gone → Report → Type 0) (list : List ℕ) (r : Report) → OneStops Takes Stops (names_of (list ++ [])) none_gone r → OneStops Takes Stops (names_of list) none_gone r
stops_end Takes Stops list r = let P : List ℕ → Type 0 = λ l. OneStops Takes Stops (names_of l) none_gone r in subst P (append-nil list)

pub listed_found : (At : Gone → Type 0) (Takes : List ℕ → Gone → Gone → Type 0) (Stops : List ℕ → Gone → Report → Type 0) (list begun : List ℕ) (r : Report)
    → IsListed At Takes Stops list begun (Some r) → OneStops Takes Stops (names_of list) none_gone r
listed_found At Takes Stops list begun r h = stops_end Takes Stops list r (h [])

-- after a whole name
pub listed_all : (At : Gone → Type 0) (Takes : List ℕ → Gone → Gone → Type 0) (Stops : List ℕ → Gone → Report → Type 0) (list : List ℕ)
    → IsListed At Takes Stops list [] None → Goes At (AreTaken Takes (names_of list) none_gone) (OneStops Takes Stops (names_of list) none_gone) None
listed_all At Takes Stops list h = (h.0, taken_end Takes list h.0 (h.2 [] h.0 refl), h.1)

-- with a name that is begun
pub listed_last : (At Then : Gone → Type 0) (Takes : List ℕ → Gone → Gone → Type 0) (Stops : List ℕ → Gone → Report → Type 0) (list : List ℕ) (b : ℕ) (begun : List ℕ) (found : Option Report)
    → (h : IsListed At Takes Stops list (b ∷ begun) None) → Goes Then (Takes (b ∷ begun) h.0) (Stops (b ∷ begun) h.0) found
    → Goes Then (AreTaken Takes (names_of list) none_gone) (OneStops Takes Stops (names_of list) none_gone) found
listed_last At Then Takes Stops list b begun None h g = (g.0, taken_end Takes list g.0 (h.2 [] g.0 (g.0, g.1, refl)), g.2)
listed_last At Then Takes Stops list b begun (Some r) h g = stops_end Takes Stops list r (h.3 [] r (inl g))

pub listed_rest : (At Then : Gone → Type 0) (Takes : List ℕ → Gone → Gone → Type 0) (Stops : List ℕ → Gone → Report → Type 0) (list begun : List ℕ) (found : Option Report)
    → (length begun == 0) ≡ false → (h : IsListed At Takes Stops list begun None) → Goes Then (Takes begun h.0) (Stops begun h.0) found
    → Goes Then (AreTaken Takes (names_of list) none_gone) (OneStops Takes Stops (names_of list) none_gone) found
listed_rest At Then Takes Stops list [] found e h g = absurd (let no : true ≡ false = e in cc)
listed_rest At Then Takes Stops list (b ∷ begun) found e h g = listed_last At Then Takes Stops list b begun found h g

pub none_begun : (begun : List ℕ) → (length begun == 0) ≡ true → begun ≡ []
none_begun begun e = nil_from_length begun (eqb-true (length begun) 0 e)

pub none_found : (found : Option Report) → is_some found ≡ false → found ≡ None
none_found None e = refl
none_found (Some r) e = absurd cc
