-- The tokens of a line that is cut in two.
use Rattle.std.proofs.Common.{◌≡◌, ℕ, zero, suc, ◌-◌, ◌<◌, ◌≤◌, Bool, true, false, List, [], ◌∷◌, ◌++◌, length, get_or, take, drop, refl, sym, subst, ap, ◌∙◌, arith, append_assoc, drop-cons, add-one}
use Rattle.std.specs.List.{slice_split, onto_first, filter}
use Rattle.std.proofs.lemmas.List.Elements.{filter-append}
use Rattle.std.proofs.lemmas.List.Splits.{slice_split-cons_yes, slice_split-cons_no, length-slice_split}
use Rattle.std.proofs.lemmas.List.{append-nil, take_more, take-append-drop}
use Rattle.dimacs.specs.text.Words.{is_white, is_some_byte, words}
use Rattle.dimacs.proofs.WordLemmas.{words_blank, words_nil}

onto_append : (x : ℕ) (s t : List (List ℕ)) → 0 < length s → onto_first x (s ++ t) ≡ onto_first x s ++ t
onto_append x [] t h = absurd (omega arith)
onto_append x (part ∷ s) t h = refl

split_append : (p : ℕ → Bool) (a : List ℕ) (w : ℕ) (b : List ℕ) → p w ≡ true → slice_split p (a ++ w ∷ b) ≡ slice_split p a ++ slice_split p b
split_append p [] w b h = slice_split-cons_yes p w b h
split_append p (x ∷ a) w b h = by_pass (p x) refl (split_append p a w b h) where
  by_pass : (t : Bool) → p x ≡ t → slice_split p (a ++ w ∷ b) ≡ slice_split p a ++ slice_split p b → slice_split p (x ∷ (a ++ w ∷ b)) ≡ slice_split p (x ∷ a) ++ slice_split p b
  by_pass true e so_far =
      slice_split-cons_yes p x (a ++ w ∷ b) e ∙ ap (λ s. [] ∷ s) so_far ∙ ap (λ s. s ++ slice_split p b) (sym (slice_split-cons_yes p x a e))
  by_pass false e so_far =
      slice_split-cons_no p x (a ++ w ∷ b) e ∙ ap (onto_first x) so_far ∙ onto_append x (slice_split p a) (slice_split p b) (omega (arith, length-slice_split p a))
      ∙ ap (λ s. s ++ slice_split p b) (sym (slice_split-cons_no p x a e))

-- white space ends a token
words_split : (a : List ℕ) (w : ℕ) (b : List ℕ) → is_white w ≡ true → words (a ++ w ∷ b) ≡ words a ++ words b
unfolding words
words_split a w b h = ap (filter is_some_byte) (split_append is_white a w b h) ∙ filter-append is_some_byte (slice_split is_white a) (slice_split is_white b)

append_none : (a b : List (List ℕ)) → b ≡ [] → a ++ b ≡ a
append_none a b e = ap (λ x. a ++ x) e ∙ append-nil a

words_end : (a : List ℕ) (w : ℕ) → is_white w ≡ true → words (a ++ w ∷ []) ≡ words a
words_end a w h = words_split a w [] h ∙ append_none (words a) (words []) words_nil

-- a front that ends with white space, or is empty
pub words_front : (text b : List ℕ) (n : ℕ) → n ≤ length text → (0 < n → is_white (get_or text (n - 1) 0) ≡ true) → words (text ++ b) ≡ words (take n text) ++ words (drop n text ++ b)
words_front text b zero h white = ap (λ ws. ws ++ words (text ++ b)) (sym words_nil)
words_front text b (suc k) h white =
    let lt : k < length text = omega arith in
    let is : suc k - 1 ≡ k = omega arith in
    let w : is_white (get_or text k 0) ≡ true = subst (λ i. is_white (get_or text i 0) ≡ true) is (white (omega arith)) in
    let cut : text ≡ take k text ++ (get_or text k 0 ∷ drop (suc k) text) = sym (take-append-drop k text) ∙ ap (λ d. take k text ++ d) (drop-cons text k 0 lt) in
    let front : take (suc k) text ≡ take k text ++ get_or text k 0 ∷ [] = ap (λ n. take n text) (sym (add-one k)) ∙ take_more text k 0 lt in
    ap (λ t. words (t ++ b)) cut ∙ ap words (append_assoc (take k text) (get_or text k 0 ∷ drop (suc k) text) b)
    ∙ words_split (take k text) (get_or text k 0) (drop (suc k) text ++ b) w
    ∙ ap (λ ws. ws ++ words (drop (suc k) text ++ b)) (sym (ap words front ∙ words_end (take k text) (get_or text k 0) w))

-- after a begun token
pub words_behind : (token text rest : List ℕ) (n : ℕ) → n < length text → is_white (get_or text n 0) ≡ true → words ((token ++ text) ++ rest) ≡ words (token ++ take n text) ++ words (drop n text ++ rest)
words_behind token text rest n lt white =
    let cut : drop n text ≡ get_or text n 0 ∷ drop (suc n) text = drop-cons text n 0 lt in
    let whole : text ≡ take n text ++ (get_or text n 0 ∷ drop (suc n) text) = sym (take-append-drop n text) ∙ ap (λ d. take n text ++ d) cut in
    ap (λ t. words ((token ++ t) ++ rest)) whole
    ∙ ap (λ t. words (t ++ rest)) (sym (append_assoc token (take n text) (get_or text n 0 ∷ drop (suc n) text)))
    ∙ ap words (append_assoc (token ++ take n text) (get_or text n 0 ∷ drop (suc n) text) rest)
    ∙ words_split (token ++ take n text) (get_or text n 0) (drop (suc n) text ++ rest) white
    ∙ ap (λ ws. words (token ++ take n text) ++ ws) (sym (ap (λ d. words (d ++ rest)) cut ∙ words_blank (get_or text n 0) (drop (suc n) text ++ rest) white))

some_front : (x : ℕ) (s : List (List ℕ)) → 0 < length (filter is_some_byte (onto_first x s))
some_front x [] = omega arith
some_front x (part ∷ s) = omega arith

-- another byte begins a token
pub words_ink : (x : ℕ) (bs : List ℕ) → is_white x ≡ false → 0 < length (words (x ∷ bs))
unfolding words
words_ink x bs h = subst (λ s. 0 < length (filter is_some_byte s)) (sym (slice_split-cons_no is_white x bs h)) (some_front x (slice_split is_white bs))

-- white space makes no token
pub words_passed : (a b : List ℕ) → words a ≡ [] → words (a ++ b) ≡ words b
words_passed [] b h = refl
words_passed (x ∷ a) b h = by_white (is_white x) refl (words_passed a b) where
  by_white : (t : Bool) → is_white x ≡ t → (words a ≡ [] → words (a ++ b) ≡ words b) → words (x ∷ (a ++ b)) ≡ words b
  by_white true e so_far = words_blank x (a ++ b) e ∙ so_far (sym (words_blank x a e) ∙ h)
  by_white false e so_far = absurd (omega (arith, words_ink x a e, ap length h))

-- a token stays one
pub words_stay : (a b : List ℕ) → 0 < length (words a) → 0 < length (words (a ++ b))
words_stay [] b h = absurd (omega (arith, ap length words_nil))
words_stay (x ∷ a) b h = by_white (is_white x) refl (words_stay a b) where
  by_white : (t : Bool) → is_white x ≡ t → (0 < length (words a) → 0 < length (words (a ++ b))) → 0 < length (words (x ∷ (a ++ b)))
  by_white true e so_far = subst (λ ws. 0 < length ws) (sym (words_blank x (a ++ b) e)) (so_far (subst (λ ws. 0 < length ws) (words_blank x a e) h))
  by_white false e so_far = words_ink x (a ++ b) e
