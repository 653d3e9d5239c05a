-- Which slots have a connection after one slot has changed.
use Rattle.std.proofs.Common.{◌≡◌, ◌∙◌, ◌<◌, ℕ, List, length, map, get_or, set, Option, Some, None, is_some, true, ap, sym}
use Rattle.std.proofs.lemmas.List.{get_or-map, map-set}
use Rattle.std.proofs.Math.Seq.{map-set_same}

pub placed : {T : Type 0} (es : List (Option T)) (i : ℕ) (e : Option T) → map (λ e. is_some e) (set es i e) ≡ set (map (λ e. is_some e) es) i (is_some e)
placed es i e = map-set (λ e. is_some e) es i e

pub kept_at : {T : Type 0} (es : List (Option T)) (i : ℕ) (e d : Option T) → is_some e ≡ is_some (get_or es i d) → map (λ e. is_some e) (set es i e) ≡ map (λ e. is_some e) es
kept_at es i e d same = map-set_same (λ e. is_some e) es i e d same

-- a slot that holds a connection counts as linked
pub taken_at : {T : Type 0} (es : List (Option T)) (i : ℕ) (e : Option T) → i < length es → e ≡ get_or es i e → is_some e ≡ true
    → get_or (map (λ x. is_some x) es) i true ≡ true
taken_at es i None at there some = absurd (cc)
taken_at es i (Some x) at there some = get_or-map (λ x. is_some x) es i (Some x) true at ∙ ap (λ x. is_some x) (sym there)
