use Rattle.std.proofs.Common.{◌≤◌, ◌-◌, ◌/◌, inl, inr, arith}
use Rattle.std.proofs.lemmas.Bool.{cases_lt}
use Rattle.log_join.proofs.BitLemmas.{first_none, not_below, past_none, word_none}
use Rattle.log_join.proofs.bits.has_between.Goals as goal

pub returns-then-rest-ne0 : goal.returns-then-rest-ne0
returns-then-rest-ne0 c = λ none p low high h. elim (cases_lt p c.loop-place.place) [
  | inl before ↦ c.loop-place.invariant.none p low before h
  | inr behind ↦ (let far : c.args.to - c.loop-place.place ≤ _ = not_below _ (c.args.to - c.loop-place.place) none in
      first_none c.args.words.now c.loop-place.place p (let fits = c.type_inv.words (c.loop-place.place / 64) in omega arith) (let some = c.if-rest-ne0.true in omega arith) behind (omega arith) h)
]

pub loop-place-preserved : goal.loop-place-preserved
loop-place-preserved c = record {
  low = (let l = c.loop-place.invariant.low in omega arith);
  none = λ p low high h. elim (cases_lt p c.loop-place.place) [
    | inl before ↦ c.loop-place.invariant.none p low before h
    | inr behind ↦ word_none c.args.words.now c.loop-place.place p c.if-rest-ne0.false behind high h
  ];
}

pub returns-else-place-words : goal.returns-else-place-words
returns-else-place-words c = λ e p low high h. elim (cases_lt p c.loop-place.place) [
  | inl before ↦ c.loop-place.invariant.none p low before h
  | inr behind ↦ past_none c.args.words.now p (omega arith) h
]
