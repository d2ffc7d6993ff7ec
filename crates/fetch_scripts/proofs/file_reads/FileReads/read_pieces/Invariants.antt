use Rattle.std.proofs.Common.{◌≡◌}
use Rattle.copy_plan.specs.Files.{FilesView}
use Rattle.fetch_scripts.specs.Fetches.{read_all}
use Rattle.fetch_scripts.proofs.file_reads.FileReads.read_pieces.Given as goal

abbrev pub invariant-loop : goal.invariant-loop
invariant-loop l = record {
  lines : (u : FilesView) → l.fn.self.files ≡ read_all l.fn.span.reads u → l.self.files ≡ read_all l.span.reads u;
  span : l.span ≡ record l.fn.span { reads = l.span.reads };
  spans : l.self.spans ≡ l.fn.self.spans;
}
