pub mod AnswerKinds
pub mod AnswerCrowds
pub mod PlanDraws
