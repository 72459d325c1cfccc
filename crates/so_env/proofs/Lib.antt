pub mod StepLaws
pub mod RunLaws
pub mod PrintLaws
pub mod OutcomeLaws
