use Rattle.client_core.proofs.laws.steps_hold.Goals as goal

pub returns : goal.returns
returns c = record {
  still = c.waits_still.ensures;
  starts_fit = c.steps_stay_fit.ensures.start;
  resumes_fit = c.steps_stay_fit.ensures.resume;
  takes_fit = c.steps_stay_fit.ensures.took;
  starts_ready = c.steps_stay_ready.ensures.start;
  resumes_ready = c.steps_stay_ready.ensures.resume;
  takes_ready = c.steps_stay_ready.ensures.took;
  starts_unsent = c.unsent_steps_stay_ready.ensures.start;
  resumes_unsent = c.unsent_steps_stay_ready.ensures.resume;
  takes_unsent = c.unsent_steps_stay_ready.ensures.took;
  starts_number = c.steps_number_writes.ensures.start;
  resumes_number = c.steps_number_writes.ensures.resume;
  takes_number = c.steps_number_writes.ensures.took;
  starts_roomless = c.no_room_no_call.ensures.start;
  resumes_roomless = c.no_room_no_call.ensures.resume;
  takes_roomless = c.no_room_no_call.ensures.took;
  starts_spellable = c.calls_are_spellable.ensures.start;
  resumes_spellable = c.calls_are_spellable.ensures.resume;
  takes_spellable = c.calls_are_spellable.ensures.took;
  starts_unmade = c.unmade_calls_leave_nothing.ensures.start;
  resumes_unmade = c.unmade_calls_leave_nothing.ensures.resume;
  takes_unmade = c.unmade_calls_leave_nothing.ensures.took;
  refusals_number = c.refusals_number_nothing.ensures;
  refusals_end = c.refusals_end.ensures.less;
  few_left = c.refusals_end.ensures.few;
}
