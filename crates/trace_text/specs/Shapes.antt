-- What an operation's answer shows, by names that theorems of other crates can use.
use Rattle.trace_text.specs.declared.answers.Shape.{Shape}
use Rattle.trace_text.specs.declared.answers.Shape.TheVariants.{Nothing, Bytes, Text, Attrs, Bits, Names}

abbrev pub AnswerShape : Type 0
AnswerShape = Shape

abbrev pub no_value : AnswerShape
no_value = Nothing

abbrev pub read_bytes : AnswerShape
read_bytes = Bytes

abbrev pub link_text : AnswerShape
link_text = Text

abbrev pub stat_attrs : AnswerShape
stat_attrs = Attrs

abbrev pub access_bits : AnswerShape
access_bits = Bits

abbrev pub listed_names : AnswerShape
listed_names = Names
