-- The lines of names and of the clock.
use Rattle.std.proofs.Common.{◌≡◌, ◌≢◌, ℕ, ◌^◌, ◌<◌, ◌≤◌, List, ◌∷◌, ◌++◌, codes, decimal, refl, sym, ◌∙◌, subst, append_assoc, arith}
use Rattle.std.proofs.lemmas.List.{append_cancel_left, append_cancel_right}
use Rattle.lrat_text.specs.Grammar.{IsClauseNumber}
use Rattle.shared_logs.specs.SharedText.{IsName, SpellsClock, SpellsName}
use Rattle.shared_lines.specs.inner.Words.{IsWord}
use Rattle.shared_lines.proofs.ByteLemmas.{decimal_is_word, decimal_none, same_number, word_same}

-- ---- names
pub name_parts : (n : ℕ) (name : List ℕ) → codes "w " ++ decimal n ++ codes " " ++ name ++ codes " 0" ≡ codes "w " ++ (decimal n ++ 32 ∷ (name ++ codes " 0"))
name_parts n name =
    append_assoc (codes "w " ++ decimal n ++ codes " ") name (codes " 0")
    ∙ append_assoc (codes "w " ++ decimal n) (codes " ") (name ++ codes " 0")
    ∙ append_assoc (codes "w ") (decimal n) (32 ∷ (name ++ codes " 0"))

low : (n : ℕ) → IsClauseNumber n → n < 2 ^ 64
low n h = omega (arith, h.1)

name_fields : (line fields : List ℕ) (n : ℕ) (name : List ℕ) → line ≡ codes "w " ++ fields → SpellsName line n name → fields ≡ decimal n ++ 32 ∷ (name ++ codes " 0")
name_fields line fields n name is s = append_cancel_left (codes "w ") fields (decimal n ++ 32 ∷ (name ++ codes " 0")) (sym is ∙ s.spelled ∙ name_parts n name)

name_word : (line fields word rest : List ℕ) (n : ℕ) (name : List ℕ) → line ≡ codes "w " ++ fields → fields ≡ word ++ 32 ∷ rest → IsWord word → SpellsName line n name
    → (word ≡ decimal n) × (rest ≡ name ++ codes " 0")
name_word line fields word rest n name is cut one s =
    word_same word (decimal n) rest (name ++ codes " 0") one (decimal_none n (low n s.numbered)) (sym cut ∙ name_fields line fields n name is s)

pub no_name_number : (line fields word rest : List ℕ) → line ≡ codes "w " ++ fields → fields ≡ word ++ 32 ∷ rest → IsWord word → ((n : ℕ) → n < 2 ^ 64 → word ≢ decimal n)
    → (number : ℕ) (name : List ℕ) → ¬ (SpellsName line number name)
no_name_number line fields word rest is cut one none number name s = none number (low number s.numbered) (name_word line fields word rest number name is cut one s).0

pub no_name_end : (line fields word rest : List ℕ) → line ≡ codes "w " ++ fields → fields ≡ word ++ 32 ∷ rest → IsWord word → ((name : List ℕ) → rest ≢ name ++ codes " 0")
    → (number : ℕ) (name : List ℕ) → ¬ (SpellsName line number name)
no_name_end line fields word rest is cut one none number name s = none name (name_word line fields word rest number name is cut one s).1

same_name : (line fields word rest : List ℕ) (m : ℕ) (a : List ℕ) (number : ℕ) (name : List ℕ) → line ≡ codes "w " ++ fields → fields ≡ word ++ 32 ∷ rest → IsWord word → word ≡ decimal m → m < 2 ^ 64
    → rest ≡ a ++ codes " 0" → SpellsName line number name → (m ≡ number) × (a ≡ name)
same_name line fields word rest m a number name is cut one value small end s =
    let w = name_word line fields word rest number name is cut one s in
    (same_number m number small (low number s.numbered) (sym value ∙ w.0), append_cancel_right a name (codes " 0") (sym end ∙ w.1))

pub no_name_number_range : (line fields word rest : List ℕ) (m : ℕ) (a : List ℕ) → line ≡ codes "w " ++ fields → fields ≡ word ++ 32 ∷ rest → IsWord word → word ≡ decimal m → m < 2 ^ 64
    → rest ≡ a ++ codes " 0" → ¬ (IsClauseNumber m) → (number : ℕ) (name : List ℕ) → ¬ (SpellsName line number name)
no_name_number_range line fields word rest m a is cut one value small end bad number name s =
    let e = same_name line fields word rest m a number name is cut one value small end s in
    bad (subst IsClauseNumber (sym e.0) s.numbered)

pub no_name_letters : (line fields word rest : List ℕ) (m : ℕ) (a : List ℕ) → line ≡ codes "w " ++ fields → fields ≡ word ++ 32 ∷ rest → IsWord word → word ≡ decimal m → m < 2 ^ 64
    → rest ≡ a ++ codes " 0" → ¬ (IsName a) → (number : ℕ) (name : List ℕ) → ¬ (SpellsName line number name)
no_name_letters line fields word rest m a is cut one value small end bad number name s =
    let e = same_name line fields word rest m a number name is cut one value small end s in
    bad (subst IsName (sym e.1) s.named)

-- a line spells one name
pub names_once : (line : List ℕ) (m : ℕ) (a : List ℕ) (n : ℕ) (name : List ℕ) → SpellsName line m a → SpellsName line n name → (m ≡ n) × (a ≡ name)
names_once line m a n name s t =
    same_name line (decimal m ++ 32 ∷ (a ++ codes " 0")) (decimal m) (a ++ codes " 0") m a n name (s.spelled ∙ name_parts m a) refl (decimal_is_word m (low m s.numbered)) refl (low m s.numbered) refl t

-- ---- the clock
clock_word : (line fields word : List ℕ) (time : ℕ) → line ≡ codes "e " ++ fields → fields ≡ word ++ codes " 0" → SpellsClock line time → word ≡ decimal time
clock_word line fields word time is cut s =
    append_cancel_right word (decimal time) (codes " 0")
    (sym cut ∙ append_cancel_left (codes "e ") fields (decimal time ++ codes " 0") (sym is ∙ s.spelled ∙ append_assoc (codes "e ") (decimal time) (codes " 0")))

pub early : (n : ℕ) → n ≤ 2 ^ 40 → n < 2 ^ 64
early n h = omega (arith, h)

pub no_clock_number : (line fields word : List ℕ) → line ≡ codes "e " ++ fields → fields ≡ word ++ codes " 0" → ((n : ℕ) → n < 2 ^ 64 → word ≢ decimal n) → (time : ℕ) → ¬ (SpellsClock line time)
no_clock_number line fields word is cut none time s = none time (early time s.limit) (clock_word line fields word time is cut s)

same_time : (line fields word : List ℕ) (m time : ℕ) → line ≡ codes "e " ++ fields → fields ≡ word ++ codes " 0" → word ≡ decimal m → m < 2 ^ 64 → SpellsClock line time → m ≡ time
same_time line fields word m time is cut value small s = same_number m time small (early time s.limit) (sym value ∙ clock_word line fields word time is cut s)

pub no_clock_late : (line fields word : List ℕ) (m : ℕ) → line ≡ codes "e " ++ fields → fields ≡ word ++ codes " 0" → word ≡ decimal m → m < 2 ^ 64 → ¬ (m ≤ 2 ^ 40)
    → (time : ℕ) → ¬ (SpellsClock line time)
no_clock_late line fields word m is cut value small late time s = late (subst (λ (k : ℕ). k ≤ 2 ^ 40) (sym (same_time line fields word m time is cut value small s)) s.limit)

-- a line spells one time
pub clocks_once : (line : List ℕ) (m time : ℕ) → SpellsClock line m → SpellsClock line time → m ≡ time
clocks_once line m time s t =
    same_time line (decimal m ++ codes " 0") (decimal m) m time (s.spelled ∙ append_assoc (codes "e ") (decimal m) (codes " 0")) refl refl (early m s.limit) t
