use Rattle.std.proofs.Common.{refl, ◌∷◌, []}
use Rattle.outside.specs.Link.{entry_of}
use Rattle.anew_link.proofs.Splits.{count-note, notes-anew, mark-own}
use Rattle.anew_link.proofs.anew.AnewLink.note.Goals as goal

pub returns-clause-told : goal.returns-clause-told
returns-clause-told g c =
    notes-anew c.args.self.now.own 1 (g.L.Link.told c.args.self.now.link.now) (g.L.Link.told c.note.new.self) (entry_of c.args.mark ∷ []) refl (mark-own c.args.mark) c.in_ok-note.ensures.told

pub returns-clause-stays : goal.returns-clause-stays
returns-clause-stays g c = λ first s. (
  s.0,
  λ h. c.in_ok-note.ensures.honest (s.1 h),
  λ f q. c.in_ok-note.ensures.stays f (s.2 f q),
  count-note first.own c.args.self.now.own 1 (g.L.Link.told first.link.now) (g.L.Link.told c.args.self.now.link.now) (g.L.Link.told c.note.new.self) (entry_of c.args.mark ∷ []) refl (mark-own c.args.mark) s.3
      c.in_ok-note.ensures.told,
)
