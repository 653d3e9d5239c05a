mod ByteLemmas
mod FieldLemmas
mod KindLemmas
mod OfferLemmas
