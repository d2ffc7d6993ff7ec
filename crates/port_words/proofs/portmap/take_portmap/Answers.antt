use Rattle.std.proofs.Common.{◌∙◌, map, string_bytes, sym, arith}
use Rattle.port_words.specs.Portmaps.{is_portmap}
use Rattle.port_words.proofs.WordsSoFar.{is_none, is_some}
use Rattle.port_words.proofs.Portmapping.{names_one, no_port, port_given, refused_by}
use Rattle.port_words.proofs.portmap.take_portmap.Goals as goal

pub returns-in_default-clause-found : goal.returns-in_default-clause-found
returns-in_default-clause-found c = is_none string_bytes is_portmap c.args.words.now (omega (arith, c.in_default.ensures.cases, c.split_at.ensures.back_len, c.place.ensures.place))

pub returns-in_default-number-clause-refused : goal.returns-in_default-number-clause-refused
returns-in_default-number-clause-refused c = λ same.
    refused_by (map string_bytes c.args.words.now) (is_some string_bytes is_portmap c.args.words.now (omega (arith, c.place.ensures.place, c.split_at.ensures.back_len, c.in-Some.ensures.cases.1)))
    (no_port string_bytes c.args.words.now c.place.result c.in-Some.field-0-0.now c.in-Some-split_first.digits.now c.in-Some.rest.now c.in-Some-split_first.after.now c.place.ensures.place (sym c.split_at.ensures.back ∙ c.in-Some.ensures.cases.0) c.in-Some-split_first.ensures.cases.0 (sym (rw (c.as_bytes.ensures.value) at c.in_default-number.ensures.value)))

pub returns-then-give_port-clause-refused : goal.returns-then-give_port-clause-refused
returns-then-give_port-clause-refused c = λ same.
    refused_by (map string_bytes c.args.words.now) (is_some string_bytes is_portmap c.args.words.now (omega (arith, c.place.ensures.place, c.split_at.ensures.back_len, c.in-Some.ensures.cases.1)))
    (port_given string_bytes c.args.words.now c.place.result c.in-Some.field-0-0.now c.in-Some-split_first.digits.now c.in-Some.rest.now c.in-Some-split_first.after.now (map string_bytes c.in-Ok.others.items) c.place.ensures.place (sym c.split_at.ensures.back ∙ c.in-Some.ensures.cases.0) c.in-Some-split_first.ensures.cases.0 (rw (c.split_at.ensures.front) at c.in-Ok.ensures)
    (sym (rw (c.as_slice.ensures.value) at c.if-give_port.ensures)))

pub returns-clause-found : goal.returns-clause-found
returns-clause-found c =
    names_one string_bytes c.args.words.now c.place.result c.in-Some.field-0-0.now c.in-Some-split_first.digits.now c.in-Some.rest.now c.in-Some-split_first.after.now c.in-Some-number.port (map string_bytes c.in-Ok.others.items) c.place.ensures.place (sym c.split_at.ensures.back ∙ c.in-Some.ensures.cases.0) c.in-Some-split_first.ensures.cases.0
    (sym (rw (c.as_bytes.ensures.value) at c.in-Some-number.ensures.value)) (rw (c.split_at.ensures.front) at c.in-Ok.ensures) (sym (rw (c.as_slice.ensures.value) at c.if-give_port.ensures))
