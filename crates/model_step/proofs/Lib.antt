-- Laws of the step.
pub mod StepLaws
pub mod RunLaws
pub mod RunnableLaws
pub mod EvaluateLaws
pub mod ComputedLaws
pub mod AgreeLaws
pub mod OutcomeLaws
pub mod Table
pub mod Examples
pub mod AcceptedLaws
