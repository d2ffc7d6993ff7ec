use Rattle.std.proofs.Common.{sym, ◌∙◌}
use Rattle.script_text.proofs.Parting.{only_piece, first_piece_at}
use Rattle.script_text.proofs.paths.first_piece.Goals as goal

pub returns-in-None-clause-first : goal.returns-in-None-clause-first
returns-in-None-clause-first c = only_piece _ _ (sym c.slash.ensures ∙ c.in-None.is)

pub returns-in-Some-clause-first : goal.returns-in-Some-clause-first
returns-in-Some-clause-first c = first_piece_at _ _ _ (sym c.slash.ensures ∙ c.in-Some.is)
