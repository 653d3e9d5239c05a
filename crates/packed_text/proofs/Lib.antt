mod GlyphLemmas
mod LineLemmas
pub mod PackedLemmas
mod RopeLemmas
