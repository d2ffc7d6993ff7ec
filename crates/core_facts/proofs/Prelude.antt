-- What proofs of this crate import from below: one name for each, whatever module has it.
pub use Rattle.std.proofs.Common.{Bool, Err, List, MatchOption, None, Ok, Option, Result, Some, [], ap, append_assoc, arith, cond, false, inl, inr, length, map, nat_eq, not, option_map, position, refl, remove, slice_get, slice_set, subst, suc, sym, take, true, zero, ℕ, ◌&&◌, ◌++◌, ◌+◌, ◌-◌, ◌<◌, ◌==◌, ◌||◌, ◌∙◌, ◌∷◌, ◌≡◌, ◌≢◌, ◌≤◌, ◌⊎◌}
pub use Rattle.std.proofs.lemmas.Bool.{cases_lt, eq-eqb, eqb-false, eqb-true, ne_eqb}
pub use Rattle.std.specs.Prelude.{if◌then◌else◌, nat_lt}
pub use Rattle.call_replies.specs.Says.{Says, said_of}
pub use Rattle.claims.specs.Modes.{Modes}
pub use Rattle.claims.specs.Rights.{can_write}
pub use Rattle.claims.specs.Slots.{slot_of}
pub use Rattle.claims.specs.Terms.{Terms}
pub use Rattle.client_core.specs.Fresh.{IsFresh}
pub use Rattle.client_core.specs.Lanes.{is_busy, lost_lane}
pub use Rattle.client_core.specs.Numbers.{IsOther, numbers_of}
pub use Rattle.client_core.specs.Steps.{AnswersAt, BeginsIf, HearsFor, IsBusyAt, IsRefused, Leads, Makes, Moves, StartsLane, Stirs, TakesAt, counted, failed_view, lost, moves_more, moves_none, record_of, with_state}
pub use Rattle.client_core.specs.View.{View, turn_at, unmade_turn}
pub use Rattle.client_core.specs.declared.lane.Lane.{Lane}
pub use Rattle.client_core.specs.declared.lane.Purpose.{Purpose}
pub use Rattle.client_core.specs.declared.lane.State.{State}
pub use Rattle.client_core.specs.declared.lane.State.TheVariants.{Busy, Over}
pub use Rattle.client_core.specs.declared.setup.Setup.{Setup}
pub use Rattle.client_shelf.specs.Busy.{goes_again}
pub use Rattle.client_shelf.specs.LaneFiles.{is_first, left}
pub use Rattle.client_shelf.specs.declared.lane_files.LaneFile.{LaneFile}
pub use Rattle.client_shelf.specs.declared.step.Step.{Step}
pub use Rattle.client_shelf.specs.declared.step.Step.TheVariants.{Done, Send, Wait}
pub use Rattle.client_shelf.specs.declared.repeats.Repeat.{Repeat}
pub use Rattle.client_shelf.specs.declared.shelf.Shelf.{Shelf}
pub use Rattle.client_shelf.specs.declared.turn.Turn.{Turn}
pub use Rattle.commit_verf.specs.declared.commit.Verdict.{Verdict}
pub use Rattle.commit_verf.specs.declared.commit.Verdict.TheVariants.{AllStable, SendAgain}
pub use Rattle.core_facts.specs.Counted.{calls_for, where_}
pub use Rattle.core_facts.specs.InFlight.{Counts, IsCounted, IsUnbegun, in_flight, of_closing, of_names, of_opening, of_pair, of_putting, of_saving, of_stat, of_syncing, of_truncating, of_visit, of_walk, of_writing, one_if, pair_by, visit_by}
pub use Rattle.core_facts.specs.Reaches.{HearsRecord, IsSetUp, MaySetUp, Reaches, StepsTo, begins, goes, last_reading, loses}
pub use Rattle.core_facts.specs.Resting.{NoneBusy}
pub use Rattle.core_facts.specs.Tries.{IsOutstanding, Tried, runs, unsent}
pub use Rattle.dir_list.specs.declared.progress.ListFault.{ListFault}
pub use Rattle.dir_list.specs.declared.progress.ListStep.{ListStep}
pub use Rattle.dir_list.specs.declared.progress.ListStep.TheVariants.{End, More}
pub use Rattle.file_ops.proofs.SaveCounts.{by-step, ends_as}
pub use Rattle.file_ops.specs.Closings.{closed_answer, refusal_of, remove_of}
pub use Rattle.file_ops.specs.Judging.{commit_told}
pub use Rattle.file_ops.specs.Opens.{file_to_write}
pub use Rattle.file_ops.specs.SlotFiles.{IsUnused, file_at, joined}
pub use Rattle.file_ops.specs.Told.{got_by}
pub use Rattle.file_ops.specs.TruncateFile.{found_file}
pub use Rattle.file_ops.specs.declared.close_file.CloseFile.{CloseFile}
pub use Rattle.file_ops.specs.declared.close_file.Closing.{Closing}
pub use Rattle.file_ops.specs.declared.closing.Removal.{Removal}
pub use Rattle.file_ops.specs.declared.open_file.OpenFile.{OpenFile}
pub use Rattle.file_ops.specs.declared.opening.Led.{Led}
pub use Rattle.file_ops.specs.declared.opening.Opening.{Opening}
pub use Rattle.file_ops.specs.declared.opening.OpeningStep.{OpeningStep}
pub use Rattle.file_ops.specs.declared.opening.OpeningPhase.{OpeningPhase}
pub use Rattle.file_ops.specs.declared.put_file.PutFile.{PutFile}
pub use Rattle.file_ops.specs.declared.put_file.Putting.{Putting}
pub use Rattle.file_ops.specs.declared.read_file.ReadFile.{ReadFile}
pub use Rattle.file_ops.specs.declared.reading.Reading.{Reading}
pub use Rattle.file_ops.specs.declared.saving.Phase.{Phase}
pub use Rattle.file_ops.specs.declared.saving.Phase.TheVariants.{Committing, CommittingAgain, Resending, Sending}
pub use Rattle.file_ops.specs.declared.saving.Saving.{Saving}
pub use Rattle.file_ops.specs.declared.sync_file.SyncFile.{SyncFile}
pub use Rattle.file_ops.specs.declared.sync_file.Syncing.{Syncing}
pub use Rattle.file_ops.specs.declared.truncate_file.TruncateFile.{TruncateFile}
pub use Rattle.file_ops.specs.declared.truncate_file.Truncating.{Truncating}
pub use Rattle.file_ops.specs.declared.write_file.WriteFile.{WriteFile}
pub use Rattle.file_ops.specs.declared.write_file.Writing.{Writing}
pub use Rattle.name_ops.specs.Access.{access_attr, access_call, access_told}
pub use Rattle.name_ops.specs.DirChange.{deed_call, deed_told}
pub use Rattle.name_ops.specs.Link.{TakesLink, link_call, linked_told}
pub use Rattle.name_ops.specs.Looking.{found_by, look_again, look_up}
pub use Rattle.name_ops.specs.Moving.{moved_told}
pub use Rattle.name_ops.specs.ReadLink.{TakesText, text_call}
pub use Rattle.name_ops.specs.Rename.{TakesRename, rename_call}
pub use Rattle.name_ops.specs.Showing.{TakesShow, shown_answer}
pub use Rattle.name_ops.specs.SymLink.{ChangesByCopy, CopiesBy, TakesSymLink, lacking, sym_link_call, sym_linked_told}
pub use Rattle.name_ops.specs.declared.link.Link.{Link}
pub use Rattle.name_ops.specs.declared.list_dir.ListDir.{ListDir}
pub use Rattle.name_ops.specs.declared.pair.Pair.{Pair}
pub use Rattle.name_ops.specs.declared.pair.PairStep.{PairStep}
pub use Rattle.name_ops.specs.declared.remove_file.Deed.{Deed}
pub use Rattle.name_ops.specs.declared.remove_file.Deed.TheVariants.{Look, Move, Seek}
pub use Rattle.name_ops.specs.declared.remove_file.RemoveFile.{RemoveFile}
pub use Rattle.name_ops.specs.declared.rename.Rename.{Rename}
pub use Rattle.name_ops.specs.declared.stat.Stat.{Stat}
pub use Rattle.name_ops.specs.declared.sym_link.SymLink.{SymLink}
pub use Rattle.name_ops.specs.declared.told.Told.{Told}
pub use Rattle.name_ops.specs.declared.visit.Visit.{Visit}
pub use Rattle.name_ops.specs.declared.visit.VisitStep.{VisitStep}
pub use Rattle.name_ops.specs.declared.walk.Walk.{Walk}
pub use Rattle.name_ops.specs.declared.walk.WalkStep.{WalkStep}
pub use Rattle.nfs_dir_calls.specs.declared.keeping.DirKept.{DirKept}
pub use Rattle.nfs_file_calls.specs.declared.owned.FileKept.{FileKept}
pub use Rattle.nfs_types.specs.declared.attr.Attr.{Attr}
pub use Rattle.nfs_types.specs.declared.mode.Mode.{Mode}
pub use Rattle.nfs_types.specs.declared.verf.Verf.{Verf}
pub use Rattle.nfs_types.specs.declared.wcc.Wcc.{Wcc}
pub use Rattle.op_machines.specs.Begun.{IsNamed, front_of, last_of, machine_of}
pub use Rattle.op_machines.specs.Openers.{begun_at, file_of, placed, slot_taken}
pub use Rattle.op_machines.specs.Steps.{Resumes, Starts, Takes}
pub use Rattle.op_machines.specs.declared.begun.Mounted.{Mounted}
pub use Rattle.op_machines.specs.declared.file_machine.FileMachine.{FileMachine}
pub use Rattle.op_machines.specs.declared.machine.Machine.{Machine}
pub use Rattle.op_machines.specs.declared.name_machine.NameMachine.{NameMachine}
pub use Rattle.op_machines.specs.declared.opener.Opener.{Opener}
pub use Rattle.op_machines.specs.declared.path_machine.PathMachine.{PathMachine}
pub use Rattle.open_files.specs.Slots.{Opens, Place}
pub use Rattle.open_files.specs.declared.opened.Opened.{Opened}
pub use Rattle.page_cache.specs.Pages.{Pages}
pub use Rattle.rpc_message.specs.Call.{xid_at}
pub use Rattle.rpc_retry.proofs.Lookups.{at_made, others_made, others_taken}
pub use Rattle.rpc_retry.proofs.Records.{gone}
pub use Rattle.rpc_retry.specs.Fail.{failed_after}
pub use Rattle.rpc_retry.specs.Held.{Held, next_xid}
pub use Rattle.rpc_retry.specs.Take.{awaited}
pub use Rattle.rpc_retry.specs.Waiting.{made_call, waiting_at, without}
pub use Rattle.rpc_retry.specs.declared.waiting.Waiting.{Waiting}
pub use Rattle.silly_rename.specs.Plans.{plan_of}
pub use Rattle.world_model.proofs.Growth.{Asked-wide, FirstSent-grow}
pub use Rattle.world_model.proofs.Places.{At-back, At-below, At-cases, At-grow, At-last, At-one, length_last}
pub use Rattle.world_model.specs.Entries.{At}
pub use Rattle.world_model.specs.Heard.{Asked}
pub use Rattle.world_model.specs.Lost.{IsLost}
pub use Rattle.world_model.specs.Messages.{HasXid, SpellsReply, proc_of}
pub use Rattle.world_model.specs.Mounts.{Rooted}
pub use Rattle.world_model.specs.Operations.{Ended, EndsWith, UnderWay}
pub use Rattle.world_model.specs.declared.answer.Answer.{Answer}
pub use Rattle.world_model.specs.declared.answer.Answer.TheVariants.{Refused}
pub use Rattle.world_model.specs.declared.answer.Fault.{Fault}
pub use Rattle.world_model.specs.declared.answer.Value.{Value}
pub use Rattle.world_model.specs.declared.entry.Entry.{Entry}
pub use Rattle.world_model.specs.declared.entry.Entry.TheVariants.{Answered, Began, Clock, Delivered, Dialed, Executed, Failed, Flushed, Foreign, Reboot, Sent}
pub use Rattle.world_model.specs.declared.message.Call.{Call}
pub use Rattle.world_model.specs.declared.message.Reply.{Reply}
pub use Rattle.world_model.specs.declared.op.Op.{Op}
pub use Rattle.write_back.specs.Choice.{chosen}
pub use Rattle.write_back.specs.Files.{Pending, of_file}
pub use Rattle.write_back.specs.Segments.{Segments, last_end}
