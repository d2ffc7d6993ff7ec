-- What the core uses of the steps of any operation, in one place.
use Rattle.op_machines.specs.Laws.{WaitsStill, StartsFit, ResumesFit, TakesFit, StartsReady, ResumesReady, TakesReady, StartsUnsent}
use Rattle.op_machines.specs.Laws.{ResumesUnsent, TakesUnsent, StartsNumber, ResumesNumber, TakesNumber, StartsRoomless, ResumesRoomless, TakesRoomless}
use Rattle.op_machines.specs.Laws.{StartsSpellable, ResumesSpellable, TakesSpellable, StartsUnmade, ResumesUnmade, TakesUnmade, RefusalsNumber}
use Rattle.op_machines.specs.Endings.{FewLeft, RefusalsEnd}

pub record StepLaws : Type 0 where
  pub still : WaitsStill
  pub starts_fit : StartsFit
  pub resumes_fit : ResumesFit
  pub takes_fit : TakesFit
  pub starts_ready : StartsReady
  pub resumes_ready : ResumesReady
  pub takes_ready : TakesReady
  pub starts_unsent : StartsUnsent
  pub resumes_unsent : ResumesUnsent
  pub takes_unsent : TakesUnsent
  pub starts_number : StartsNumber
  pub resumes_number : ResumesNumber
  pub takes_number : TakesNumber
  pub starts_roomless : StartsRoomless
  pub resumes_roomless : ResumesRoomless
  pub takes_roomless : TakesRoomless
  pub starts_spellable : StartsSpellable
  pub resumes_spellable : ResumesSpellable
  pub takes_spellable : TakesSpellable
  pub starts_unmade : StartsUnmade
  pub resumes_unmade : ResumesUnmade
  pub takes_unmade : TakesUnmade
  pub refusals_number : RefusalsNumber
  pub refusals_end : RefusalsEnd
  pub few_left : FewLeft
