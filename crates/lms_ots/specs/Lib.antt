pub mod OneTime
