pub mod LinkedLemmas
mod CountLemmas
