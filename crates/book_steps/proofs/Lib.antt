mod Makes
mod OwnAcks
mod Takes
mod TestFacts
mod TextEntries
