-- The parts of a struct one of whose fields is lent.

abbrev pub front : {A B : Type 0} → A × B → A
front p = p.0

abbrev pub others : {A B : Type 0} → A × B → B
others p = p.1
