-- Which lines of an object are written, by names that theorems of other crates can use.
use Rattle.trace_text.specs.declared.object_texts.Part.{Part}
use Rattle.trace_text.specs.declared.object_texts.Part.TheVariants.{Attributes, Removals, Names}

abbrev pub LinesPart : Type 0
LinesPart = Part

abbrev pub attribute_lines : LinesPart
attribute_lines = Attributes

abbrev pub gone_lines : LinesPart
gone_lines = Removals

abbrev pub name_lines : LinesPart
name_lines = Names
