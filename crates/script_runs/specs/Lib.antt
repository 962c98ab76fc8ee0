pub mod SerialRuns
