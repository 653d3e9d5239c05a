-- Workers that are linked, and one that is missing.
use Rattle.std.proofs.Common.{◌≡◌, ℕ, zero, suc, ◌+◌, ◌-◌, ◌<◌, ◌≤◌, ◌⊎◌, inl, inr, Bool, true, false, not, List, [], ◌∷◌, ◌++◌, length, map, get_or, set, replicate, Option, Some, None, is_some, refl, sym, ap, ◌∙◌, add-one, arith}
use Rattle.std.proofs.lemmas.List.{get_or-map, get_or_past, length-map, map-append, map-set, replicate-append-replicate}
use Rattle.links.specs.Linked.{is_missing}

twice : (b : Bool) → not (not b) ≡ b
twice true = refl
twice false = refl

pub missing_at : {T : Type 0} (es : List (Option T)) (o : Option T) (worker place count : ℕ) (r : Bool) → count ≡ length es → place < count → worker ≡ place + 1 → o ≡ get_or es place o → is_some o ≡ not r
    → r ≡ is_missing (map (λ e. is_some e) es) worker
missing_at es o worker place count r whole within e there some =
    let stands : get_or (map (λ e. is_some e) es) place true ≡ not r = get_or-map (λ e. is_some e) es place o true (omega (arith, whole, within)) ∙ ap (λ e. is_some e) (sym there) ∙ some in
    sym (ap (is_missing (map (λ e. is_some e) es)) (e ∙ add-one place) ∙ ap not stands ∙ twice r)

far : (linked : List Bool) (place : ℕ) → length linked ≤ place → false ≡ is_missing linked (suc place)
far linked place h = ap not (sym (get_or_past linked place true h))

pub none_missing : {T : Type 0} (es : List (Option T)) (worker count : ℕ) → count ≡ length es → (worker ≡ 0) ⊎ (count < worker) → false ≡ is_missing (map (λ e. is_some e) es) worker
none_missing es zero count whole none = refl
none_missing es (suc place) count whole (inl none) = cc
none_missing es (suc place) count whole (inr beyond) =
    far (map (λ e. is_some e) es) place (omega (arith, whole, beyond, add-one place, length-map es (λ e. is_some e)))

pub linked_at : {T : Type 0} (es : List (Option T)) (x : T) (worker place : ℕ) → worker ≡ place + 1 → map (λ e. is_some e) (set es place (Some x)) ≡ set (map (λ e. is_some e) es) (worker - 1) true
linked_at es x worker place e = map-set (λ e. is_some e) es place (Some x) ∙ ap (λ n. set (map (λ e. is_some e) es) n true) (omega (arith, e))

-- one more worker, which is not linked either
pub none_linked : {T : Type 0} (es fs : List (Option T)) (n : ℕ) → map (λ e. is_some e) es ≡ replicate n false → fs ≡ es ++ None ∷ [] → map (λ e. is_some e) fs ≡ replicate (n + 1) false
none_linked es fs n before more =
    ap (map (λ e. is_some e)) more ∙ map-append (λ e. is_some e) es (None ∷ []) ∙ ap (λ l. l ++ false ∷ []) before ∙ replicate-append-replicate n 1 false
