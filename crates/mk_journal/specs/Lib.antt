pub mod StepLines
pub mod StepRuns
pub mod AllSteps
pub mod AllStepsLaws
