pub mod XorLemmas
