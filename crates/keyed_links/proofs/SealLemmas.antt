-- Records of bytes, one after another.
use Rattle.std.proofs.Common.{◌≡◌, ℕ, ◌+◌, ◌<◌, ◌≤◌, ◌^◌, List, [], ◌∷◌, ◌++◌, length, ap, refl, rules, sym, ◌∙◌, append_assoc, arith}
use Rattle.std.proofs.lemmas.List.{append-nil, length_push}
use Rattle.std.proofs.lemmas.List.Folds.{concat-append}
use Rattle.std.proofs.lemmas.List.Elements.{All-push}
use Rattle.std.specs.List.{concat}
use Rattle.sealed_links.specs.Records.{sealed, sealed_all}
use Rattle.sealed_links.specs.declared.sealer.Sealer.{Sealer}
use Rattle.sealed_links.proofs.OpenedLemmas.{sealed_all-push}
use Rattle.keyed_links.specs.inner.Seals.{SealsAll}

-- the records of the bytes so far, and the bytes that are left
pub record SealsSoFar (old now : Sealer) (bytes left before after : List ℕ) : Type 0 where
  pub taken : List ℕ
  pub bytes_are : bytes ≡ taken ++ left
  pub seals : SealsAll old now taken before after

pub begins_sealing : (old : Sealer) (bytes before : List ℕ) → SealsSoFar old old bytes bytes before before
unfolding sealed_all
begins_sealing old bytes before = record {
  taken = [];
  bytes_are = refl;
  seals = record {
    payloads = [];
    are_short = record { short = search rules; few = λ some. absurd (omega arith) };
    bytes_are = refl;
    after_is = sym (append-nil before);
    number_is = omega arith;
    key_is = refl;
  };
}

pub one_more_sealed : (old now next : Sealer) (bytes left p rest before out out' : List ℕ) → SealsSoFar old now bytes left before out → left ≡ p ++ rest → length p ≤ 4096 → now.number + 1 < 2 ^ 64
    → out' ≡ out ++ sealed now.key now.number p → next.key ≡ now.key → next.number ≡ now.number + 1 → SealsSoFar old next bytes rest before out'
one_more_sealed old now next bytes left p rest before out out' s e short few is key number =
    let a = s.seals in record {
      taken = s.taken ++ p;
      bytes_are = s.bytes_are ∙ ap (λ ys. s.taken ++ ys) e ∙ sym (append_assoc s.taken p rest);
      seals = record {
        payloads = a.payloads ++ p ∷ [];
        are_short = record {
          short = All-push (λ q. length q ≤ 4096) a.payloads p a.are_short.short short;
          few = λ some. omega (arith, length_push a.payloads p, a.number_is);
        };
        bytes_are = ap (λ ys. ys ++ p) a.bytes_are ∙ ap (λ ys. concat a.payloads ++ ys) (sym (append-nil p)) ∙ sym (concat-append a.payloads (p ∷ []));
        after_is =
            is ∙ (λ i. a.after_is i ++ sealed (a.key_is i) (a.number_is i) p)
            ∙ append_assoc before (sealed_all old.key old.number a.payloads) (sealed old.key (old.number + length a.payloads) p)
            ∙ ap (λ ys. before ++ ys) (sym (sealed_all-push old.key old.number a.payloads p));
        number_is = omega (arith, number, a.number_is, length_push a.payloads p);
        key_is = key ∙ a.key_is;
      };
    }

pub ends_sealing : (old now : Sealer) (bytes left before after : List ℕ) → SealsSoFar old now bytes left before after → left ≡ [] → SealsAll old now bytes before after
ends_sealing old now bytes left before after s none =
    let e : bytes ≡ s.taken = s.bytes_are ∙ ap (λ ys. s.taken ++ ys) none ∙ append-nil s.taken in
    let a = s.seals in record {
      payloads = a.payloads;
      are_short = a.are_short;
      bytes_are = e ∙ a.bytes_are;
      after_is = a.after_is;
      number_is = a.number_is;
      key_is = a.key_is;
    }
