-- What holds of a trail is kept if reasons of entries change.
use Rattle.std.specs.Prelude.{◌≡◌, ℕ, ◌<◌, max, ◌||◌, ◌&&◌, nat_le, List, [], ◌∷◌, length, map, slice_index_or, Some, refl}
use Rattle.std.proofs.Common.{ap, sym, ◌∙◌, arith}
use Rattle.std.proofs.lemmas.List.{get_or-map, length-map, map-append}
use Rattle.dimacs.specs.logic.Literal.{Literal, same, var_of}
use Rattle.watches.specs.declared.trail.Assigned.{Assigned}
use Rattle.watches.specs.Law.{bare, SameUpToReasons, IsExplained}
use Rattle.watches.specs.Trails.{holds, present, up_to, variables}

-- if an entry gets another reason, the trails before and after are the same up to reasons
pub explained_alike : (old new : List Assigned) (l : Literal) (n : ℕ) → IsExplained old new l n → SameUpToReasons old new
explained_alike old new l n x =
    ap (map bare) x.after ∙ map-append bare x.front ((record x.entry { reason = Some n }) ∷ x.rest) ∙ sym (map-append bare x.front (x.entry ∷ x.rest)) ∙ sym (ap (map bare) x.before)

-- reasons do not matter to `holds`
holds_bare : (es : List Assigned) (l : Literal) → holds (map bare es) l ≡ holds es l
holds_bare [] l = refl
holds_bare (e ∷ es) l = ap (λ b. same e.literal l || b) (holds_bare es l)

-- reasons do not matter to `up_to`
up_to_bare : (es : List Assigned) (k : ℕ) (l : Literal) → up_to (map bare es) k l ≡ up_to es k l
up_to_bare [] k l = refl
up_to_bare (e ∷ es) k l = ap (λ b. (same e.literal l && nat_le e.level k) || b) (up_to_bare es k l)

-- reasons do not matter to the present level
present_bare : (es : List Assigned) → present (map bare es) ≡ present es
present_bare [] = refl
present_bare (e ∷ es) = ap (λ n. max e.level n) (present_bare es)

-- reasons do not matter to the variables of entries
variables_bare : (es : List Assigned) → variables (map bare es) ≡ variables es
variables_bare [] = refl
variables_bare (e ∷ es) = ap (λ vs. var_of e.literal ∷ vs) (variables_bare es)

module _ (es fs : List Assigned) (a : SameUpToReasons es fs) where
  -- trails that are the same up to reasons have the same true literals
  pub holds_alike : (l : Literal) → holds fs l ≡ holds es l
  holds_alike l = sym (holds_bare fs l) ∙ ap (λ xs. holds xs l) a ∙ holds_bare es l

  -- trails that are the same up to reasons have the same true literals up to each level
  pub up_to_alike : (k : ℕ) (l : Literal) → up_to fs k l ≡ up_to es k l
  up_to_alike k l = sym (up_to_bare fs k l) ∙ ap (λ xs. up_to xs k l) a ∙ up_to_bare es k l

  -- trails that are the same up to reasons have the same present level
  pub present_alike : present fs ≡ present es
  present_alike = sym (present_bare fs) ∙ ap present a ∙ present_bare es

  -- trails that are the same up to reasons have the same variables
  pub variables_alike : variables fs ≡ variables es
  variables_alike = sym (variables_bare fs) ∙ ap variables a ∙ variables_bare es

  -- trails that are the same up to reasons have the same length
  pub length_alike : length fs ≡ length es
  length_alike = sym (length-map fs bare) ∙ ap length a ∙ length-map es bare

  -- entries at one index of such trails are the same except for their reasons
  pub entry_alike : (i : ℕ) (d : Assigned) → i < length es → bare (slice_index_or fs i d) ≡ bare (slice_index_or es i d)
  entry_alike i d l =
      let m : i < length fs = let n = length_alike in omega arith in
      sym (get_or-map bare fs i d (bare d) m) ∙ ap (λ xs. slice_index_or xs i (bare d)) a ∙ get_or-map bare es i d (bare d) l

  -- entries at one index of such trails have the same literal
  pub literal_alike : (i : ℕ) (d : Assigned) → i < length es → (slice_index_or fs i d).literal ≡ (slice_index_or es i d).literal
  literal_alike i d l = ap (λ (e : Assigned). e.literal) (entry_alike i d l)

  -- entries at one index of such trails have the same level
  pub level_alike : (i : ℕ) (d : Assigned) → i < length es → (slice_index_or fs i d).level ≡ (slice_index_or es i d).level
  level_alike i d l = ap (λ (e : Assigned). e.level) (entry_alike i d l)
