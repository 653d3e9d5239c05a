-- The fields of a translator as the state of which the definitions speak.
use Rattle.lidrup.specs.Lidrup.{Names, LidrupState}
use Rattle.lidrup.specs.NameMaps.{name_in_maps, number_or_0}
use Rattle.lidrup.specs.declared.translator.Translator.{Translator}
use Rattle.lidrup.specs.declared.names.Names.{Names as Table}

-- the names that the code's table holds
abbrev pub names_of : Table → Names
names_of x = name_in_maps x.maps.items

-- the state between two lines, from the fields of a translator
abbrev pub state_of : Translator → LidrupState
state_of x = record {
  names = names_of x.names;
  last = x.last;
  given = x.given;
  closing = number_or_0 x.closing;
  closings = x.closings.items;
  empty = x.log.empty;
  live = x.log.checker.live;
  top = x.log.checker.top;
}
