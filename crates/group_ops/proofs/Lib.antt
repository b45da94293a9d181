mod Crowds
mod Founded
mod KeptAnswers
mod Moves
mod TestFacts
