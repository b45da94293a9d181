pub mod InputStages
pub mod CommandStages
pub mod CardStages
pub mod Finding
pub mod Below
pub mod SeatFacts
pub mod RatchetSteps
