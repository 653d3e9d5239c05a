pub mod SlotLemmas
mod KnownLemmas
mod UnreadLemmas
