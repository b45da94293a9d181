pub mod CardBytes
pub mod Written
pub mod CardReads
pub mod StepReads
pub mod RecordLaws
