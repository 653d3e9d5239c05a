mod LeafLemmas
mod WritingLemmas
