pub mod StepLemmas
pub mod AllStepsRun
