-- The reading of a proof, from the fields of its parts.
use Rattle.drat_forms.specs.Reading.{Reading}
use Rattle.drat_forms.specs.declared.parts.Parts.{Parts}

abbrev pub reading_of : Parts → Reading
reading_of p = record { most = p.limit.most; prefix = p.prefix.items; form = p.form; begun = p.begun; place = p.place; words = p.words.items }
