pub mod AnswerLaws
pub mod ActLaws
pub mod HandLaws
pub mod HeldLaws
