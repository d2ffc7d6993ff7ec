use Rattle.name_ops.proofs.read_link.ReadLink.take.Goals as goal

pub returns : goal.returns
returns c = record {
  told = c.text_told-told.result;
  tells = c.text_told-told.ensures;
  shows = rw (← c.text_attr-attr.ensures, ← c.ask_text.ensures) c.show.ensures;
}
