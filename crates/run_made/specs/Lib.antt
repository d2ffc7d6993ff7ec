pub mod MadeRuns
