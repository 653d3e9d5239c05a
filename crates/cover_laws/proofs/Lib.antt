mod TextLogLemmas
