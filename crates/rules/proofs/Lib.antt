-- Lines and spots, by computing
pub mod Opened
pub mod LinesHold
pub mod Witnesses
-- Codes
pub mod CodeLaws
-- Lists
pub mod ContainsLaws
pub mod ConcatLaws
-- What the proofs hand on
pub mod Steps
-- States and takes
pub mod Places
pub mod StepLaws
-- Evaluation
pub mod KindLaws
pub mod Went
pub mod Nodes
pub mod Repeats
pub mod Choices
pub mod EvalSound
pub mod ThenLaws
pub mod ValueWords
pub mod Fields
pub mod WordsFix
-- Splitting and formats
pub mod SplitLaws
pub mod LetterLaws
pub mod Formats
-- Forms
pub mod Acceptance
pub mod Uses
pub mod WellMadeLaws
pub mod Meanings
-- Sheets
pub mod SheetLaws
-- Refusals of the input
pub mod InputFaults
pub mod FaultsTell
-- The program `bench`
pub mod BenchLaws
-- Single calls
pub mod CallsAnswer
-- The tests before a call
pub mod GivenLaws
-- The portable mark
pub mod PortableLaws
-- Clusters
pub mod ClusterLaws
-- Refusal 20
pub mod MissingLaws
-- Marks
pub mod Turning
pub mod NodeFields
pub mod MarkLaws
pub mod Passing
pub mod CallsPass
-- The demands
pub mod Demand3Holds
pub mod Demand1Holds
pub mod MissingReported
-- Commands
pub mod CommandLaws
pub mod CommandForms
pub mod CommandLinesHold
-- Batches
pub mod BatchSteps
pub mod BatchLaws
-- Reasons
pub mod OnceLaws
pub mod ArgumentNames
pub mod WithdrawLaws
pub mod Withdraws
pub mod WhyLaws
pub mod WhyHolds
pub mod ReportedLaws
